use Rattle.std.specs.Prelude.{◌≡◌, ℕ, ◌+◌, ◌/◌, ◌^◌, ◌<◌, ◌≤◌, List, length}
use Rattle.std.specs.List.{All}
use Rattle.std.specs.List.Sorted.{IsStrictlyIncreasing}
use Rattle.collection_model.specs.FormatNumbers.{FormatNumbers, part_charge}
use Rattle.part_cost.specs.Span.{cost_of_part}
use Rattle.part_cost.specs.Partition.{IsPartition, partition_cost}
use Rattle.sequence_words.specs.declared.check.Check.{Check}
use Rattle.sequence_words.specs.SequenceWords.{sequence_words, BeginsSequence}
use Rattle.sequence_words.specs.SequenceView.{BeginWith, sequence_stated}
use Rattle.sequence_words.specs.SequenceParts.{StatesParts}
use Rattle.sequence_words.specs.SequenceFault.{word_behind, PassChecks, IsSequenceFault}

-- Words begin with one sequence of m values in so many parts only, in one partition.
abbrev pub OneSequence : FormatNumbers → Type 0
OneSequence format =
    (m bound other parts used taken : ℕ) (xs ys ends cuts words : List ℕ) → bound ≤ format.most_sum
    → other ≤ format.most_sum
    → BeginsSequence format m bound parts xs ends words used
    → BeginsSequence format m other parts ys cuts words taken
    → (xs ≡ ys) × (ends ≡ cuts) × (used ≡ taken)

-- A sequence takes exactly the cost of its partition, in words that are begun.
abbrev pub TakesItsCost : FormatNumbers → Type 0
TakesItsCost format =
    (xs ends : List ℕ) → IsStrictlyIncreasing xs → All (λ x. x < format.most_sum) xs
    → IsPartition (length xs) ends
    → length (sequence_words format xs ends)
    ≡ (partition_cost (cost_of_part (part_charge format) xs) ends + 63) / 64

-- Words that begin with a sequence below a bound of the format break no check.
abbrev pub ChecksRefuseNoSequence : FormatNumbers → Type 0
ChecksRefuseNoSequence format =
    (m bound parts used part : ℕ) (check : Check) (xs ends words : List ℕ) → bound ≤ format.most_sum
    → BeginsSequence format m bound parts xs ends words used
    → ¬ IsSequenceFault format words parts m bound check part

-- Words that begin with a sequence pass every check, and the word behind their payload is that
-- behind the sequence.
abbrev pub SequencesPassChecks : FormatNumbers → Type 0
SequencesPassChecks format =
    (m bound parts used : ℕ) (xs ends words : List ℕ) → bound ≤ format.most_sum
    → BeginsSequence format m bound parts xs ends words used
    → PassChecks format words parts m bound × (word_behind format words parts ≡ used)

-- Words of 64 bits that pass every check begin with a sequence.
abbrev pub ChecksAcceptASequence : FormatNumbers → Type 0
ChecksAcceptASequence format =
    (m bound parts : ℕ) (words : List ℕ) → m < 2 ^ 32 → bound ≤ format.most_sum
    → All (λ w. w < 2 ^ 64) words → PassChecks format words parts m bound
    → (xs ends : List ℕ)
    × BeginsSequence format m bound parts xs ends words (word_behind format words parts)

-- The values and the ends that words state are those of the sequence with which they begin.
abbrev pub WordsState : FormatNumbers → Type 0
WordsState format =
    (m bound parts used : ℕ) (xs ends words : List ℕ) → bound ≤ format.most_sum
    → BeginsSequence format m bound parts xs ends words used
    → sequence_stated format words parts ≡ record {
      format = format;
      values = xs;
      ends = ends;
    }

-- The directory of words that begin with a sequence states its parts.
abbrev pub DirectoryStates : FormatNumbers → Type 0
DirectoryStates format =
    (words : List ℕ) (parts m : ℕ) → BeginWith words parts m (sequence_stated format words parts)
    → StatesParts format words parts (sequence_stated format words parts)
