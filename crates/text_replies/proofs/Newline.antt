use Rattle.std.proofs.Common.{◌≡◌, ◌≢◌, refl, sym, ◌∙◌, ap, ℕ, ◌<◌, ◌≤◌, ◌+◌, true, false, List, ◌∷◌, ◌++◌, length, take, drop, get_or, Some, None, arith, suc, ltb}
use Rattle.std.specs.Prelude.{cond, ◌==◌}
use Rattle.std.specs.List.{All, position, position_or_len}
use Rattle.std.proofs.lemmas.Bool.{eqb-true, eqb-false, ltb-false}
use Rattle.std.proofs.lemmas.List.{take-append-drop, get_or-take, length-take-le}
use Rattle.std.proofs.lemmas.List.Elements.{All-from_get_or}
use Rattle.std.proofs.lemmas.List.Quantifiers.{position-Some}
use Rattle.std.proofs.lemmas.List.Sums.{fails_before_first}
use Rattle.std.proofs.Math.Seq.{drop-cons}

-- no byte before the first c is c
pub none-before : (c : ℕ) (xs : List ℕ) (i : ℕ) → position (λ b. b == c) xs ≡ Some i → All (λ b. b ≢ c) (take i xs)
none-before c xs i e =
    let p = position-Some (λ b. b == c) xs i 0 e in
    let n : length (take i xs) ≡ i = length-take-le i xs (omega (arith, p.0)) in
    All-from_get_or (λ b. b ≢ c) (take i xs) 0
    (λ k lt. let below : k < i = omega arith in
    let at : get_or (take i xs) k 0 ≡ get_or xs k 0 = get_or-take i xs k 0 below in
    rw at (eqb-false (get_or xs k 0) c (p.2 k below)))

-- the first c splits the bytes
pub split-at : (c : ℕ) (xs : List ℕ) (i : ℕ) → position (λ b. b == c) xs ≡ Some i → xs ≡ take i xs ++ c ∷ drop (i + 1) xs
split-at c xs i e =
    let p = position-Some (λ b. b == c) xs i 0 e in
    let first : drop i xs ≡ get_or xs i 0 ∷ drop (suc i) xs = drop-cons xs i 0 p.0 in
    let is : get_or xs i 0 ≡ c = eqb-true (get_or xs i 0) c p.1 in
    let next : i + 1 ≡ suc i = omega arith in
    sym (take-append-drop i xs) ∙ ap (λ ys. take i xs ++ ys) (rw (first, is, next) refl)

not-found : (p n : ℕ) → cond (ltb p n) (Some p) None ≡ None → n ≤ p
not-found p n e = elim (ltb p n) as (λ t. ltb p n ≡ t → cond t (Some p) None ≡ None → n ≤ p) [ true ↦ λ t e. cc | false ↦ λ t e. ltb-false p n t ] refl e

-- where there is no first c, no byte is c
pub none-at-all : (c : ℕ) (xs : List ℕ) → position (λ b. b == c) xs ≡ None → All (λ b. b ≢ c) xs
none-at-all c xs e =
    let n = not-found (position_or_len (λ b. b == c) xs) (length xs) e in
    All-from_get_or (λ b. b ≢ c) xs 0
    (λ k lt. eqb-false (get_or xs k 0) c (fails_before_first (λ b. b == c) xs k 0 (omega arith)))
