-- What private functions and proofs cite.
use Rattle.std.specs.Prelude.{List}
use Rattle.collection_model.specs.FormatNumbers.{format_three}
use Rattle.collection_model.specs.Collection.{Collection}
use Rattle.segments.specs.Joined.{joined_wide}
use Rattle.pefidx_c.specs.declared.merging.Unmerged.{Unmerged}
use Rattle.pefidx_c.specs.declared.merging.Unmerged.TheVariants.{NoJoin, TooLarge, NoMemory}
use Rattle.pefidx_c.specs.BuiltWords.{WouldBeTooMany}
use Rattle.pefidx_c.specs.Segments.{CanMerge, IsUnmerged}

-- Segments of these collections are not merged, and so.
abbrev pub EndsUnmerged : List Collection → Unmerged → Type 0
EndsUnmerged cs (NoJoin fault) = IsUnmerged cs fault
EndsUnmerged cs (TooLarge n) = CanMerge cs × WouldBeTooMany format_three (joined_wide cs) n
EndsUnmerged cs NoMemory = Unit {0}
