-- Lemmas on where the parts of a sequence stand.
use Rattle.std.proofs.Common.{◌≡◌, ℕ, ◌-◌, ◌<◌, ◌≤◌, List, length, arith}
use Rattle.collection_model.specs.FormatNumbers.{FormatNumbers}
use Rattle.part_cost.specs.Span.{universe}
use Rattle.sequence_words.specs.SequenceFault.{stated_end, end_before, stated_universe}
use Rattle.sequence_words.specs.SequenceView.{SequenceView}
use Rattle.sequence_words.specs.SequenceParts.{StatesParts}

-- the part from one place up to another, of so large a universe
pub record StandsIn (xs : List ℕ) (from to u : ℕ) : Type 0 where
  pub within : to ≤ length xs
  pub wide : universe xs from to ≡ u
  pub room : to - from ≤ u

pub part-stands : (format : FormatNumbers) (words : List ℕ) (parts index from to u : ℕ) (v : SequenceView) → StatesParts format words parts v → index < parts → from ≡ end_before format words index → to ≡ stated_end format words index
    → u ≡ stated_universe format words index → StandsIn v.values from to u
part-stands format words parts index from to u v d lt starts ends is =
    let p = d.part index lt in
    rw (starts, ends, is) (record { within = p.within; wide = omega (arith, p.last, p.before); room = p.room })
