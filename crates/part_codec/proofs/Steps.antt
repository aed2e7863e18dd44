-- The greatest step of a part whose places are all taken, and what follows from what an answer says.
use Rattle.std.proofs.Common.{◌≡◌, ℕ, zero, suc, ◌+◌, ◌≤◌, Option, Some, None, sym, arith}
use Rattle.std.specs.Option.{IfSome}
use Rattle.std.specs.List.{range_with_len}
use Rattle.collection_model.specs.Collection.{greatest}
use Rattle.collection_model.specs.Sequences.{steps_from}
use Rattle.part_codec.specs.Forms.{all_ones}

-- each number lies one past the one before it
step-range : (from n : ℕ) → greatest (steps_from from (range_with_len from (suc n))) ≡ 1
step-range from zero = omega arith
step-range from (suc n) = omega (arith, step-range (from + 1) n)

pub step-all_ones : (u : ℕ) → 1 ≤ u → 1 ≡ greatest (steps_from 0 (all_ones u))
step-all_ones zero some = absurd (omega arith)
step-all_ones (suc n) some = sym (step-range 0 n)

-- what follows from what is said of a value, where there is one
pub some-then : (o : Option ℕ) (P Q : ℕ → Type 0) → IfSome o P → ((x : ℕ) → P x → Q x) → IfSome o Q
some-then None P Q h then = tt
some-then (Some x) P Q h then = then x h
