use Rattle.std.specs.Prelude.{◌≡◌, ℕ, ◌+◌, ◌-◌, ◌^◌, ◌<◌, ◌≤◌, List, [], ◌∷◌, ◌++◌, length, take}
use Rattle.std.specs.List.{All}
use Rattle.std.specs.List.Sorted.{IsStrictlyIncreasing}
use Rattle.collection_model.specs.FormatNumbers.{FormatNumbers}
use Rattle.bit_words.specs.Bits.{words_of}
use Rattle.part_cost.specs.Span.{past, universe, payload_of_part, relative_values}
use Rattle.part_cost.specs.Partition.{IsPartition}
use Rattle.part_codec.specs.PartBits.{part_bits}
use Rattle.sequence_words.specs.EntryWords.{entry}

-- the entries of the parts from place i on, where so many payload bits stand before them
abbrev pub directory_from : FormatNumbers → List ℕ → ℕ → ℕ → List ℕ → List ℕ
directory_from format xs i offset [] = []
directory_from format xs i offset (end ∷ ends) =
    entry format (past xs end - 1) end offset
    ++ directory_from format xs end (offset + payload_of_part xs i end) ends

-- the payload bits of the parts from place i on, without gaps
abbrev pub payload_from : List ℕ → ℕ → List ℕ → List ℕ
payload_from xs i [] = []
payload_from xs i (end ∷ ends) =
    part_bits (relative_values xs i end) (universe xs i end) ++ payload_from xs end ends

-- the words of a sequence in these parts: the directory, and then the payload from a fresh word on
abbrev pub sequence_words : FormatNumbers → List ℕ → List ℕ → List ℕ
sequence_words format xs ends =
    directory_from format xs 0 0 ends ++ words_of (payload_from xs 0 ends)

-- The words after are those before, and maybe more behind them.
abbrev pub Extends : List ℕ → List ℕ → Type 0
Extends old new = (more : List ℕ) × (new ≡ old ++ more)

-- a rising sequence of m values below a bound, in so many parts, whose words these are
pub record IsSequence (format : FormatNumbers) (m bound parts : ℕ) (xs ends words : List ℕ) : Type 0
  where
    pub rising : IsStrictlyIncreasing xs
    pub below : All (λ x. x < bound) xs
    pub count : length xs ≡ m
    pub few : m < 2 ^ 32
    pub partition : IsPartition m ends
    pub parts_count : length ends ≡ parts
    pub spelled : words ≡ sequence_words format xs ends

-- the same for the prefix of some words
pub record BeginsSequence (format : FormatNumbers) (m bound parts : ℕ) (xs ends words : List ℕ)
    (used : ℕ) : Type 0 where
  pub within : used ≤ length words
  pub sequence : IsSequence format m bound parts xs ends (take used words)
