use Rattle.std.proofs.Common.{◌≡◌, sym, subst, ap, ℕ, zero, suc, ◌+◌, ◌*◌, ◌<◌, ◌≤◌, ⊎_elim, true, ◌==◌, ◌&&◌, cond, Some, List, [], ◌∷◌, arith}
use Rattle.std.specs.Prelude.{find, nat_le, nat_lt, IsSomeAnd, slice_index}
use Rattle.std.specs.List.{All}
use Rattle.std.specs.List.Sorted.{IsStrictlyIncreasing}
use Rattle.std.proofs.lemmas.Bool.{and_parts, cases_lt, ltb-true, eqb-true, le-leb, lt-leb}
use Rattle.part_cost.specs.Bounds.{bound_after, follow}
use Rattle.part_cost.specs.Laws.{BoundsRise, BoundsWithin, BoundsCover}

-- what the rule says of two bounds that follow one another
record Next (limit b c : ℕ) : Type 0 where
  within : b < limit
  above : b < c
  near : 100 * c ≤ 103 * (b + 1)

next : (limit b c : ℕ) (cs : List ℕ) → follow limit b (c ∷ cs) ≡ true → Next limit b c
next limit b c cs h =
    let parts = and_parts (nat_lt b limit && (c == bound_after limit b)) (follow limit c cs) h in
    let prefix = and_parts (nat_lt b limit) (c == bound_after limit b) parts.0 in
    let below = ltb-true b limit prefix.0 in
    let is = eqb-true c (bound_after limit b) prefix.1 in
    record { within = below; above = omega (arith, below, is); near = omega (arith, is) }

rest : (limit b c : ℕ) (cs : List ℕ) → follow limit b (c ∷ cs) ≡ true → follow limit c cs ≡ true
rest limit b c cs h = (and_parts (nat_lt b limit && (c == bound_after limit b)) (follow limit c cs) h).1

-- whether there is a bound at or above a cost, and the first is near above it
abbrev IsCovered : ℕ → List ℕ → Type 0
IsCovered c bounds = IsSomeAnd (find (λ b. nat_le c b) bounds) (λ b. 100 * b ≤ 103 * c)

covered-here : (c b : ℕ) (bs : List ℕ) → c ≤ b → 100 * b ≤ 103 * c → IsCovered c (b ∷ bs)
covered-here c b bs h near = subst (λ t. IsSomeAnd (cond t (Some b) (find (λ x. nat_le c x) bs)) (λ x. 100 * x ≤ 103 * c)) (sym (le-leb c b h)) near

covered-later : (c b : ℕ) (bs : List ℕ) → b < c → IsCovered c bs → IsCovered c (b ∷ bs)
covered-later c b bs h later = subst (λ t. IsSomeAnd (cond t (Some b) (find (λ x. nat_le c x) bs)) (λ x. 100 * x ≤ 103 * c)) (sym (lt-leb c b h)) later

-- a cost above a bound is covered by those that follow it
covered-after : (limit b c : ℕ) (bs : List ℕ) → follow limit b bs ≡ true → b < c → c ≤ limit → IsCovered c bs
covered-after limit b c [] h above within = absurd (omega (arith, eqb-true b limit h))
covered-after limit b c (d ∷ ds) h above within =
    let n = next limit b d ds h in
    ⊎_elim
    (λ lt. covered-later c d ds lt (covered-after limit d c ds (rest limit b d ds h) lt within))
    (λ le. covered-here c d ds le (omega (arith, n.near)))
    (cases_lt d c)

pub bounds-cover : BoundsCover
bounds-cover charge limit [] h c low high = cc
bounds-cover charge limit (b ∷ bs) h c low high =
    let parts = and_parts (b == charge) (follow limit b bs) h in
    let first = eqb-true b charge parts.0 in
    ⊎_elim
    (λ lt. covered-later c b bs lt (covered-after limit b c bs parts.1 lt high))
    (λ le. covered-here c b bs le (omega (arith, first)))
    (cases_lt b c)

-- bounds that follow one another rise
follow-rise : (limit b : ℕ) (bs : List ℕ) → follow limit b bs ≡ true → IsStrictlyIncreasing (b ∷ bs)
follow-rise limit b [] h k lt = absurd (omega arith)
follow-rise limit b (d ∷ ds) h zero lt = (next limit b d ds h).above
follow-rise limit b (d ∷ ds) h (suc k) lt =
    let later = follow-rise limit d ds (rest limit b d ds h) k (omega arith) in
    let same : suc k + 1 ≡ suc (k + 1) = omega arith in
    omega (arith, later, ap (slice_index (b ∷ d ∷ ds)) same)

pub bounds-rise : BoundsRise
bounds-rise charge limit [] h = cc
bounds-rise charge limit (b ∷ bs) h = follow-rise limit b bs (and_parts (b == charge) (follow limit b bs) h).1

-- and none of them is above the limit
follow-within : (limit b : ℕ) (bs : List ℕ) → follow limit b bs ≡ true → All (λ x. x ≤ limit) (b ∷ bs)
follow-within limit b [] h zero d lt = omega (arith, eqb-true b limit h)
follow-within limit b [] h (suc k) d lt = absurd (omega arith)
follow-within limit b (c ∷ cs) h zero d lt = omega (arith, (next limit b c cs h).within)
follow-within limit b (c ∷ cs) h (suc k) d lt = follow-within limit c cs (rest limit b c cs h) k d (omega arith)

pub bounds-within : BoundsWithin
bounds-within charge limit [] h = cc
bounds-within charge limit (b ∷ bs) h = follow-within limit b bs (and_parts (b == charge) (follow limit b bs) h).1
