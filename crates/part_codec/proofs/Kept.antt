-- Marks that are kept where all places of a part are taken.
use Rattle.std.proofs.Common.{◌≡◌, ap, ◌∙◌, ℕ, ◌+◌, ◌-◌, ◌/◌, ◌<◌, min, true, List, length, arith}
use Rattle.std.proofs.lemmas.List.FromFn.{length-range_with_len}
use Rattle.collection_model.specs.Marks.{has_number, AreKept}
use Rattle.collection_model.proofs.Marks.{has-at, kept-all}
use Rattle.part_codec.specs.Forms.{all_ones}
use Rattle.part_codec.proofs.Relative.{at-all_ones}

-- each place is taken
pub has-ones : (u x : ℕ) → x < u → has_number x (all_ones u) ≡ true
has-ones u x lt = has-at x (all_ones u) x (omega (arith, length-range_with_len 0 u)) (at-all_ones u x lt)

-- so the marks of whole words stay
pub ones-kept : (u from words : ℕ) (ys marks : List ℕ) → ys ≡ all_ones u → words ≡ min (length marks) ((u - from) / 64) → AreKept ys from marks marks words
ones-kept u from words ys marks is told =
    kept-all ys from marks words (omega arith) (λ k lt. ap (has_number (from + k)) is ∙ has-ones u (from + k) (omega arith))
