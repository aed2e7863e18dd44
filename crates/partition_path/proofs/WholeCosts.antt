-- Lemmas on what all numbers cost as one part, where it may be taken.
use Rattle.std.proofs.Common.{◌≡◌, refl, ap, ℕ, zero, suc, ◌<◌, ◌≤◌, Bool, true, false, IsTrue, Option, None, Some, arith}
use Rattle.std.proofs.lemmas.Bool.{lt-ltb, le-ltb, ne_eqb}
use Rattle.partition_path.specs.Rests.{cost_within, whole_cost}

-- a part within the limit, where that is to hold
pub taken-within : (limited : Bool) (limit part last : ℕ) → last ≡ part → (IsTrue limited → part ≤ limit) → Some last ≡ cost_within limited limit part
taken-within false limit part last is within = ap Some is
taken-within true limit part last is within = rw (le-ltb limit part (within refl)) (ap Some is)

-- one above it
pub none-above : (limited : Bool) (limit part : ℕ) → IsTrue limited → limit < part → None ≡ cost_within limited limit part
none-above false limit part t above = absurd cc
none-above true limit part t above = rw (lt-ltb limit part above) refl

-- all numbers, where there are some or none
pub whole-is : (limited : Bool) (limit : ℕ) (cost : ℕ → ℕ → ℕ) (n : ℕ) (whole : Option ℕ) → (n ≡ 0 → whole ≡ None) → (0 < n → whole ≡ cost_within limited limit (cost 0 n))
    → whole ≡ whole_cost limited limit cost n
whole-is limited limit cost zero whole none some = none refl
whole-is limited limit cost (suc n) whole none some = rw (ne_eqb (suc n) 0 (λ e. omega (arith, e))) (some (omega arith))
