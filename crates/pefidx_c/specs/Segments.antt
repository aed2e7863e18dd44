use Rattle.std.specs.Prelude.{◌≡◌, ◌⊎◌, ℕ, ◌+◌, ◌^◌, ◌<◌, ◌≤◌, ◌==◌, nat_le, nat_lt, not, Bool, if◌then◌else◌}
use Rattle.std.specs.Prelude.{List, [], ◌∷◌, ◌++◌, map, flat_map, length, take, drop, get_or, Option, Some, None}
use Rattle.std.specs.List.{All, list_all}
use Rattle.collection_model.specs.Collection.{Collection}
use Rattle.index_file.specs.declared.fault.OpenFault.{OpenFault}
use Rattle.index_file.specs.FileWords.{IsIndex}
use Rattle.index_file.specs.FirstBroken.{IsFirstBroken}
use Rattle.index_file.specs.ListStarts.{AreNoneOr}
use Rattle.segments.specs.declared.pushed.SegRule.{SegRule}
use Rattle.segments.specs.declared.pushed.SegRule.TheVariants.{G1, G2, G3}
use Rattle.segments.specs.Joined.{documents_in, joined, most_joined, terms_in, FitTogether}
use Rattle.segments.specs.Totals.{AreTooFrequent, SumsFit}
use Rattle.pefidx_c.specs.declared.segment.Segment.{Segment}
use Rattle.pefidx_c.specs.declared.segment.SegmentFault.{SegmentFault}
use Rattle.pefidx_c.specs.declared.status.Status.{Status}
use Rattle.pefidx_c.specs.declared.status.Status.TheVariants.{TooLarge, TooMany, NotWhole}
use Rattle.pefidx_c.specs.Asked.{collection_in}
use Rattle.pefidx_c.specs.Faults.{check_number}
use Rattle.pefidx_c.specs.Kept.{numbers_beside}

-- the words of a segment among others
abbrev pub words_in : List ℕ → Segment → List ℕ
words_in words s = take s.count (drop s.first words)

-- the collections of segments
abbrev pub collections_in : List ℕ → List Segment → List Collection
collections_in words segments = map (λ s. collection_in (words_in words s)) segments

-- the most segments
abbrev pub most_segments : ℕ
most_segments = 64

-- whether a segment is within so many words
abbrev pub is_within : ℕ → Segment → Bool
is_within count s = nat_le (s.first + s.count) count

-- how segments among so many words are refused before a word is looked at: too many of them, or
-- one that is not within the words
abbrev pub places_refusal : ℕ → List Segment → Option Status
places_refusal count segments =
    if nat_lt most_segments (length segments) then Some TooMany
    else if not (list_all (is_within count) segments) then Some NotWhole
    else None

-- the same where there may be too many words
abbrev pub segments_refusal : ℕ → List Segment → Option Status
segments_refusal count segments =
    if nat_le (2 ^ 57) count then Some TooLarge else places_refusal count segments

-- Segments are within few words, and are indexes.
pub record AreIndexes (words : List ℕ) (segments : List Segment) : Type 0 where
  pub few : length words < 2 ^ 57
  pub within : All (λ s. s.first + s.count ≤ length words) segments
  pub indexes : All (λ s. IsIndex (words_in words s)) segments

-- They are indexes that can be joined, each with as many terms as the first.
pub record AreSegments (words : List ℕ) (segments : List Segment) : Type 0 where
  pub indexes : AreIndexes words segments
  pub together : FitTogether (collections_in words segments)

-- Nothing is kept, or the numbers beside the words of each, one after the other.
abbrev pub AreKeptOfEach : List ℕ → List Segment → List ℕ → Type 0
AreKeptOfEach words segments kept =
    AreNoneOr (flat_map (λ s. numbers_beside (words_in words s)) segments) kept

-- no segment
abbrev pub no_segment : Segment
no_segment = record { first = 0; count = 0 }

-- the rule that a collection breaks behind others: it has not as many terms as the first, or else
-- there are too many documents
abbrev pub rule_behind : List Collection → Collection → Option SegRule
rule_behind cs c =
    if not (terms_in (cs ++ c ∷ []) == length c.lists) then Some G1
    else if nat_lt most_joined (documents_in (cs ++ c ∷ [])) then Some G2
    else None

-- the number of a rule
abbrev pub rule_number : SegRule → ℕ
rule_number G1 = 1
rule_number G2 = 2
rule_number G3 = 3

-- a segment that is no index, and one that breaks a rule, as they are told
abbrev pub no_index_at : ℕ → OpenFault → SegmentFault
no_index_at s broken = record {
  segment = s;
  rule = 0;
  check = check_number broken.check;
  term = broken.term;
  part = broken.part;
}

abbrev pub unjoined_at : ℕ → SegRule → SegmentFault
unjoined_at s rule = record {
  segment = s;
  rule = rule_number rule;
  check = 0;
  term = 0;
  part = 0;
}

-- The first segment that is no index: those before it are indexes that can be joined.
pub record IsNoIndex (words : List ℕ) (segments : List Segment) (fault : SegmentFault)
    : Type 0 where
  pub s : ℕ
  pub within : s < length segments
  pub before : AreSegments words (take s segments)
  pub none : ¬ IsIndex (words_in words (get_or segments s no_segment))
  pub broken : OpenFault
  pub first : IsFirstBroken (words_in words (get_or segments s no_segment)) broken
  pub told : fault ≡ no_index_at s broken

-- The first segment that breaks a rule behind those before it, which are indexes that can be
-- joined; it is one too.
pub record IsUnjoined (words : List ℕ) (segments : List Segment) (fault : SegmentFault)
    : Type 0 where
  pub s : ℕ
  pub within : s < length segments
  pub before : AreSegments words (take s segments)
  pub index : IsIndex (words_in words (get_or segments s no_segment))
  pub rule : SegRule
  pub breaks : rule_behind (collections_in words (take s segments))
      (collection_in (words_in words (get_or segments s no_segment))) ≡ Some rule
  pub told : fault ≡ unjoined_at s rule

-- the collection that segments are joined to, each with as many terms as the first
abbrev pub joined_in : List ℕ → List Segment → Collection
joined_in words segments = joined (collections_in words segments)

-- With this segment there are too many documents.
pub record HasTooMany (cs : List Collection) (s : ℕ) : Type 0 where
  pub before : documents_in (take s cs) ≤ most_joined
  pub passed : most_joined < documents_in (take (s + 1) cs)

-- Collections can be merged: they have not too many documents, and no joined list is too frequent.
pub record CanMerge (cs : List Collection) : Type 0 where
  pub documents : documents_in cs ≤ most_joined
  pub sums : SumsFit cs

-- They cannot: there are too many documents with one of them, or else a joined list is too frequent
-- with it.
abbrev pub IsUnmerged : List Collection → SegmentFault → Type 0
IsUnmerged cs fault =
    ((s : ℕ) × HasTooMany cs s × (fault ≡ unjoined_at s G2))
    ⊎ ((s : ℕ) × (documents_in cs ≤ most_joined) × AreTooFrequent cs s × (fault ≡ unjoined_at s G3))
