use Rattle.std.specs.Prelude.{◌≡◌, ℕ, ◌+◌, ◌^◌, ◌<◌, ◌≤◌, List, ◌++◌, length, drop}
use Rattle.std.specs.List.{All}
use Rattle.collection_model.specs.FormatNumbers.{FormatNumbers, entry_words}
use Rattle.part_cost.specs.declared.formats.Format.{Format}
use Rattle.part_cost.specs.Formats.{HasRoom, numbers_of}
use Rattle.sequence_words.specs.EntryWords.{entry, last_at, end_at, offset_at}

-- the greatest offset of an entry: no parts of fewer than 2 ^ 32 numbers take more
abbrev pub most_offset : ℕ
most_offset = 2 ^ 40

-- An entry has as many words as it takes.
abbrev pub EntryIsWhole : Type 0
EntryIsWhole = (format : FormatNumbers) (last end offset : ℕ)
    → length (entry format last end offset) ≡ entry_words format

-- An entry states these numbers at word p.
pub record EntryStates (format : FormatNumbers) (words : List ℕ) (p last end offset : ℕ) : Type 0
  where
    pub last_is : last_at format words p ≡ last
    pub end_is : end_at format words p ≡ end
    pub offset_is : offset_at format words p ≡ offset

-- Where the entry of some numbers stands they are read back.
abbrev pub EntryReadsBack : Type 0
EntryReadsBack =
    (format : FormatNumbers) → HasRoom format → (words behind : List ℕ) (p last end offset : ℕ)
    → last < format.most_sum → offset < most_offset
    → drop p words ≡ entry format last end offset ++ behind
    → EntryStates format words p last end offset

-- Any words of 64 bits are the entry of what they state.
abbrev pub EntryIsOfWords : Type 0
EntryIsOfWords =
    (format : FormatNumbers) (words : List ℕ) (p : ℕ) → All (λ w. w < 2 ^ 64) words
    → p + entry_words format ≤ length words
    → drop p words ≡ entry format (last_at format words p) (end_at format words p)
    (offset_at format words p) ++ drop (p + entry_words format) words

-- The words of an entry are below 2 ^ 64, by the numbers of each format.
abbrev pub EntryFits : Type 0
EntryFits =
    (format : Format) (last end offset : ℕ) → last < (numbers_of format).most_sum
    → end ≤ (numbers_of format).most_documents → offset < most_offset
    → All (λ w. w < 2 ^ 64) (entry (numbers_of format) last end offset)
