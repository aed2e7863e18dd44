use Rattle.std.specs.Prelude.{ℕ, ◌+◌, ◌-◌, ◌^◌, ◌<◌, if◌then◌else◌, List, length}
use Rattle.std.specs.List.{All}
use Rattle.std.specs.List.Sorted.{IsStrictlyIncreasing}
use Rattle.collection_model.specs.Sequences.{doc_sequence, freq_sequence}
use Rattle.part_cost.specs.Payload.{payload, kind_of, widest_low}
use Rattle.part_cost.specs.Span.{universe}
use Rattle.part_cost.specs.Partition.{IsPartition, partition_cost}
use Rattle.two_level.specs.SequenceView.{SequenceView}
use Rattle.part_cost.specs.declared.kinds.Kind.{Kind}
use Rattle.part_cost.specs.declared.kinds.Kind.TheVariants.{Ones, Bitmap, Ef}
use Rattle.index_file.specs.declared.measures.PartCounts.{PartCounts}
use Rattle.index_file.specs.FileWords.{CutList}
use Rattle.index_file.specs.IndexView.{same_kind}

-- what is summed over the parts of an index: the parts of a form, or the payload bits
pub data Measure : Type 0 where
  PartsOf : Kind → Measure
  Payload : Measure

-- what was counted of a measure
abbrev pub counted : PartCounts → Measure → ℕ
counted c (PartsOf Ones) = c.ones_parts
counted c (PartsOf Bitmap) = c.bitmap_parts
counted c (PartsOf Ef) = c.ef_parts
counted c Payload = c.payload_bits

-- what a part of m numbers in universe u adds to a measure
abbrev pub measure_at : Measure → ℕ → ℕ → ℕ
measure_at (PartsOf kind) u m = if same_kind kind (kind_of u m) then 1 else 0
measure_at Payload u m = payload u m

-- what the part from i to j adds
abbrev pub measure_of_part : Measure → List ℕ → ℕ → ℕ → ℕ
measure_of_part measure xs i j = measure_at measure (universe xs i j) (j - i)

-- what the two sequences of a list add
abbrev pub measure_of_list : Measure → CutList → ℕ
measure_of_list measure c =
    partition_cost (measure_of_part measure (doc_sequence c.list)) c.parts.doc_ends + partition_cost
    (measure_of_part measure (freq_sequence c.list)) c.parts.freq_ends

-- A sequence in parts can be measured: its parts are in the range of payloads, and what they add is
-- no large number.
pub record IsMeasured (measure : Measure) (v : SequenceView) : Type 0 where
  pub rising : IsStrictlyIncreasing v.values
  pub below : All (λ x. x < 2 ^ widest_low) v.values
  pub partition : IsPartition (length v.values) v.ends
  pub small : partition_cost (measure_of_part measure v.values) v.ends < 2 ^ 63
