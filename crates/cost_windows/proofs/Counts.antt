use Rattle.std.proofs.Common.{◌≡◌, refl, sym, subst, ℕ, zero, suc, ◌+◌, ◌-◌, ◌≤◌, ◌<◌, inl, inr, true, List, [], ◌∷◌, ◌++◌, length, get_or, arith}
use Rattle.std.specs.Prelude.{◌==◌, nat_lt}
use Rattle.std.specs.List.{dedup_from}
use Rattle.std.proofs.lemmas.Bool.{cases_Bool, eq-eqb, eqb-true, lt-ltb}
use Rattle.cost_windows.specs.WindowEnds.{rise, open_count, end_count}

rise-none : (old : List ℕ) → rise old [] ≡ 0
rise-none [] = refl
rise-none (p ∷ old) = refl

-- one more window moved
pub rise-more : (old new : List ℕ) (q : ℕ) → length new < length old → rise old (new ++ q ∷ []) ≡ rise old new + (q - get_or old (length new) 0)
rise-more [] new q l = absurd (omega arith)
rise-more (p ∷ old) [] q l = omega (arith, rise-none old)
rise-more (p ∷ old) (r ∷ new) q l = omega (arith, rise-more old new q (omega arith))

pub rise-prefix : (old new more : List ℕ) → rise old new ≤ rise old (new ++ more)
rise-prefix [] new more = omega arith
rise-prefix (p ∷ old) [] more = omega arith
rise-prefix (p ∷ old) (q ∷ new) more = omega (arith, rise-prefix old new more)

abbrev from : ℕ → List ℕ → ℕ
from k ps = length (dedup_from (λ (p q : ℕ). p == q) k ps)

from-some : (k : ℕ) (ps : List ℕ) → 1 ≤ from k ps
from-some k [] = omega arith
from-some k (p ∷ ps) = elim (cases_Bool (p == k)) [
  | inl e ↦ rw e (from-some k ps)
  | inr e ↦ rw e (omega arith)
]

from-new : (k : ℕ) (ps : List ℕ) (q : ℕ) → (get_or (k ∷ ps) (length ps) 0 ≡ q → ⊥) → from k (ps ++ q ∷ []) ≡ from k ps + 1
from-new k [] q other = elim (cases_Bool (q == k)) [
  | inl e ↦ absurd (other (sym (eqb-true q k e)))
  | inr e ↦ rw e refl
]
from-new k (p ∷ ps) q other = elim (cases_Bool (p == k)) [
  | inl e ↦
      let same : p ≡ k = eqb-true p k e in
      rw e (from-new k ps q (λ l. other (subst (λ (x : ℕ). get_or (x ∷ ps) (length ps) 0 ≡ q) (sym same) l)))
  | inr e ↦ rw e (omega (arith, from-new p ps q other))
]

from-same : (k : ℕ) (ps : List ℕ) (q : ℕ) → get_or (k ∷ ps) (length ps) 0 ≡ q → from k (ps ++ q ∷ []) ≡ from k ps
from-same k [] q l = let e : (q == k) ≡ true = eq-eqb q k (sym l) in rw e refl
from-same k (p ∷ ps) q l = elim (cases_Bool (p == k)) [
  | inl e ↦
      let same : p ≡ k = eqb-true p k e in
      rw e (from-same k ps q (subst (λ (x : ℕ). get_or (x ∷ ps) (length ps) 0 ≡ q) same l))
  | inr e ↦ rw e (omega (arith, from-same p ps q l))
]

from-prefix : (k : ℕ) (ps more : List ℕ) → from k ps ≤ from k (ps ++ more)
from-prefix k [] more = from-some k more
from-prefix k (p ∷ ps) more = elim (cases_Bool (p == k)) [
  | inl e ↦ rw e (from-prefix k ps more)
  | inr e ↦ rw e (omega (arith, from-prefix p ps more))
]

-- one more window stands at one more end, where it stands behind the window before it
pub ends-new : (ps : List ℕ) (q : ℕ) → (0 < length ps → get_or ps (length ps - 1) 0 ≡ q → ⊥) → end_count (ps ++ q ∷ []) ≡ end_count ps + 1
ends-new [] q other = refl
ends-new (p ∷ ps) q other =
    let last : length (p ∷ ps) - 1 ≡ length ps = omega arith in
    from-new p ps q (subst (λ (x : ℕ). get_or (p ∷ ps) x 0 ≡ q → ⊥) last (other (omega arith)))

-- and at no other, where that one stands there too
pub ends-same : (ps : List ℕ) (q : ℕ) → 0 < length ps → get_or ps (length ps - 1) 0 ≡ q → end_count (ps ++ q ∷ []) ≡ end_count ps
ends-same [] q some l = absurd (omega arith)
ends-same (p ∷ ps) q some l =
    let last : length (p ∷ ps) - 1 ≡ length ps = omega arith in
    from-same p ps q (subst (λ (x : ℕ). get_or (p ∷ ps) x 0 ≡ q) last l)

pub ends-prefix : (ps more : List ℕ) → end_count ps ≤ end_count (ps ++ more)
ends-prefix [] more = omega arith
ends-prefix (p ∷ ps) more = from-prefix p ps more

from-few : (k : ℕ) (ps : List ℕ) → from k ps ≤ length ps + 1
from-few k [] = omega arith
from-few k (p ∷ ps) = elim (cases_Bool (p == k)) [
  | inl e ↦ rw e (omega (arith, from-few k ps))
  | inr e ↦ rw e (omega (arith, from-few p ps))
]

-- there are no more ends than windows
pub ends-few : (ps : List ℕ) → end_count ps ≤ length ps
ends-few [] = omega arith
ends-few (p ∷ ps) = omega (arith, from-few p ps)

-- windows below n are open
pub open-prefix : (n k : ℕ) (ps : List ℕ) → k ≤ length ps → ((j : ℕ) → j < k → get_or ps j 0 < n) → k ≤ open_count n ps
open-prefix n zero ps l below = omega arith
open-prefix n (suc k) [] l below = absurd (omega arith)
open-prefix n (suc k) (p ∷ ps) l below =
    let here : nat_lt p n ≡ true = lt-ltb p n (below 0 (omega arith)) in
    rw here (omega (arith, open-prefix n k ps (omega arith) (λ j m. below (suc j) (omega arith))))
