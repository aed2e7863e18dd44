use Rattle.std.specs.Prelude.{◌≡◌, ℕ, ◌+◌, slice_index}
use Rattle.part_cost.specs.Span.{past, universe}
use Rattle.part_directory.specs.declared.part.Part.{Part}
use Rattle.sequence_words.specs.SequenceView.{SequenceView, start_of_part}

-- what is said of part i of a sequence
pub record IsPartOf (v : SequenceView) (i : ℕ) (part : Part) : Type 0 where
  pub start : part.from ≡ start_of_part v.ends i
  pub end : part.to ≡ slice_index v.ends i
  pub last : part.last + 1 ≡ past v.values part.to
  pub universe_of_part : part.u ≡ universe v.values part.from part.to
