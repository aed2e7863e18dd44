use Rattle.std.proofs.Common.{◌≡◌, ℕ, zero, suc, ◌+◌, ◌-◌, ◌/◌, ◌^◌, ◌<◌, Bool, true, false, cond, List, [], ◌∷◌, length, get_or, refl, ap, ◌∙◌, arith, ◌==◌, ◌||◌}
use Rattle.std.specs.List.{list_any, enumerate_from}
use Rattle.std.proofs.lemmas.Bool.{eq-eqb, eqb-true}
use Rattle.std.proofs.lemmas.List.FromFn.{length-map-range_with_len, get_or-map-range_with_len}
use Rattle.elias_fano.specs.EfBits.{high_place, high_bits}

-- whether some number, counted from n on, has its one at this place
abbrev pub has_one : ℕ → ℕ → ℕ → List ℕ → Bool
has_one l n q ys = list_any (λ e. high_place l e.0 e.1 == q) (enumerate_from n ys)

or_true : (b : Bool) → (b || true) ≡ true
or_true true = refl
or_true false = refl

pub has_one-at : (l n q : ℕ) (ys : List ℕ) (k : ℕ) → k < length ys → high_place l (n + k) (get_or ys k 0) ≡ q → has_one l n q ys ≡ true
has_one-at l n q [] k lt e = absurd (omega arith)
has_one-at l n q (y ∷ ys) zero lt e =
    ap (λ b. b || has_one l (n + 1) q ys) (eq-eqb (high_place l n y) q (omega arith))
has_one-at l n q (y ∷ ys) (suc k) lt e =
    ap (λ b. (high_place l n y == q) || b) (has_one-at l (n + 1) q ys k (omega arith) (omega arith)) ∙ or_true (high_place l n y == q)

abbrev Found : ℕ → ℕ → ℕ → List ℕ → Type 0
Found l n q ys = (k : ℕ) × (k < length ys) × (high_place l (n + k) (get_or ys k 0) ≡ q)

first_or_rest : (l n q y : ℕ) (ys : List ℕ) → (has_one l (n + 1) q ys ≡ true → Found l (n + 1) q ys)
    → (b : Bool) → (high_place l n y == q) ≡ b → (b || has_one l (n + 1) q ys) ≡ true → Found l n q (y ∷ ys)
first_or_rest l n q y ys later true e h = (0, omega arith, let same : high_place l n y ≡ q = eqb-true (high_place l n y) q e in omega arith)
first_or_rest l n q y ys later false e h =
    let found = later h in
    (suc found.0, omega (arith, found.1), omega (arith, found.2))

-- the number whose one it is
pub one_of-has_one : (l n q : ℕ) (ys : List ℕ) → has_one l n q ys ≡ true → (k : ℕ) × (k < length ys) × (high_place l (n + k) (get_or ys k 0) ≡ q)
one_of-has_one l n q [] h = absurd (cc)
one_of-has_one l n q (y ∷ ys) h = first_or_rest l n q y ys (one_of-has_one l (n + 1) q ys) (high_place l n y == q) refl h

pub length-high_bits : (l u : ℕ) (ys : List ℕ) → length (high_bits l u ys) ≡ length ys + (u - 1) / 2 ^ l
length-high_bits l u ys = length-map-range_with_len (λ q. cond (has_one l 0 q ys) 1 0) 0 (length ys + (u - 1) / 2 ^ l)

pub high_bit : (l u : ℕ) (ys : List ℕ) (q : ℕ) → q < length ys + (u - 1) / 2 ^ l → get_or (high_bits l u ys) q 0 ≡ cond (has_one l 0 q ys) 1 0
high_bit l u ys q h = get_or-map-range_with_len (λ q. cond (has_one l 0 q ys) 1 0) 0 (length ys + (u - 1) / 2 ^ l) q q 0 h (omega arith)
