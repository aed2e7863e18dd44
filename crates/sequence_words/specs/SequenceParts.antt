use Rattle.std.specs.Prelude.{◌≡◌, ℕ, suc, ◌+◌, ◌-◌, ◌*◌, ◌≤◌, ◌<◌, List, length, slice_index, slice_range, map}
use Rattle.std.specs.List.{All}
use Rattle.std.specs.List.Sorted.{IsStrictlyIncreasing}
use Rattle.collection_model.specs.FormatNumbers.{FormatNumbers, entry_words, part_charge}
use Rattle.bit_words.specs.Bits.{bits_of}
use Rattle.part_cost.specs.Span.{past, relative_values, cost_of_part}
use Rattle.part_cost.specs.Partition.{partition_cost}
use Rattle.part_cost.specs.Stored.{HoldsPart}
use Rattle.part_codec.specs.PartBits.{part_bits}
use Rattle.sequence_words.specs.SequenceFault.{stated_last, stated_end, stated_offset, end_before, past_before, stated_count, stated_universe, payload_before, word_behind, first_bit}
use Rattle.sequence_words.specs.SequenceView.{SequenceView, words_used}

-- the values from one place up to another, counted from a number
abbrev pub counted_from : ℕ → List ℕ → ℕ → ℕ → List ℕ
counted_from first xs from to = map (λ x. x - first) (slice_range xs from to)

-- Each of the values from one place up to another, so counted, and that number add up to the value
-- there.
abbrev pub Restores : List ℕ → ℕ → ℕ → ℕ → Type 0
Restores xs from to first = (j : ℕ) → from + j < to
    → slice_index (counted_from first xs from to) j + first ≡ slice_index xs (from + j)

-- Entry q of the directory states a part of these values.
pub record StatesPart (format : FormatNumbers) (words xs : List ℕ) (parts q : ℕ) : Type 0 where
  pub some : end_before format words q < stated_end format words q
  pub within : stated_end format words q ≤ length xs
  pub before : past_before format words q ≡ past xs (end_before format words q)
  pub last : stated_last format words q + 1 ≡ past xs (stated_end format words q)
  pub small : stated_last format words q < format.most_sum
  pub offset : stated_offset format words q ≡ payload_before format words q
  pub room : stated_count format words q ≤ stated_universe format words q
  pub above : past_before format words q ≤ stated_last format words q
  pub place : first_bit format parts + payload_before format words (suc q) ≤ 64 * length words
  pub held : HoldsPart part_bits (bits_of words)
      (first_bit format parts + payload_before format words q) (stated_universe format words q)
      (stated_count format words q)
      (relative_values xs (end_before format words q) (stated_end format words q))
  pub restored : Restores xs (end_before format words q) (stated_end format words q)
      (past_before format words q)

-- The directory states so many parts, which are all of the sequence.
pub record StatesParts (format : FormatNumbers) (words : List ℕ) (parts : ℕ) (v : SequenceView)
    : Type 0 where
  pub rising : IsStrictlyIncreasing v.values
  pub below : All (λ x. x < format.most_sum) v.values
  pub room : entry_words format * parts ≤ length words
  pub end : end_before format words parts ≡ length v.values
  pub used : words_used v ≡ word_behind format words parts
  pub cost : partition_cost (cost_of_part (part_charge format) v.values) v.ends
      ≡ first_bit format parts + payload_before format words parts
  pub part : (q : ℕ) → q < parts → StatesPart format words v.values parts q
