-- What private functions and proofs cite.
use Rattle.std.specs.Prelude.{◌≡◌, ℕ, List, length, Some}
use Rattle.index_file.specs.declared.fault.OpenFault.{OpenFault}
use Rattle.index_file.specs.FileWords.{IsIndex}
use Rattle.index_file.specs.FirstBroken.{IsFirstBroken}
use Rattle.segments.specs.declared.pushed.SegRule.{SegRule}
use Rattle.segments.specs.Segments.{Pushed, rule_broken}
use Rattle.pefidx_c.specs.declared.segment.Segment.{Segment}
use Rattle.pefidx_c.specs.declared.segment_checking.Unfit.{Unfit}
use Rattle.pefidx_c.specs.declared.segment_checking.Unfit.TheVariants.{NoIndex, NoJoin}
use Rattle.pefidx_c.specs.Asked.{collection_in}
use Rattle.pefidx_c.specs.Segments.{IsNoIndex, IsUnjoined, no_index_at, unjoined_at}

-- The first segment does not fit, and so.
abbrev pub IsUnfit : List ℕ → List Segment → Unfit → Type 0
IsUnfit words segments (NoIndex fault) = IsNoIndex words segments fault
IsUnfit words segments (NoJoin fault) = IsUnjoined words segments fault

-- These words are no index, or break a rule behind what was pushed, and are told as segment s.
abbrev pub IsUnfitBehind : Pushed → List ℕ → ℕ → Unfit → Type 0
IsUnfitBehind joined words s (NoIndex fault) =
    (broken : OpenFault) × (¬ IsIndex words) × IsFirstBroken words broken
    × (fault ≡ no_index_at s broken)
IsUnfitBehind joined words s (NoJoin fault) =
    (rule : SegRule) × IsIndex words × (rule_broken joined (collection_in words).documents
    (length (collection_in words).lists) ≡ Some rule) × (fault ≡ unjoined_at s rule)
