use Rattle.std.specs.Prelude.{◌≡◌, ℕ, ◌+◌, ◌*◌, ◌^◌, ◌<◌, ◌≤◌, List, ◌++◌, length}
use Rattle.std.specs.List.{All}
use Rattle.bit_words.specs.Bits.{AreBits, field_bits, bits_of, field_at, padded, words_of}

-- The bits of words behind others stand behind the bits of those.
abbrev pub BitsOfAppended : Type 0
BitsOfAppended = (words more : List ℕ) → bits_of (words ++ more) ≡ bits_of words ++ bits_of more

-- A field within some bits stays as it is where more are appended.
abbrev pub FieldStays : Type 0
FieldStays = (bits more : List ℕ) (at width : ℕ) → at + width ≤ length bits
    → field_at (bits ++ more) at width ≡ field_at bits at width

-- A field that was appended is read back at its place.
abbrev pub FieldReadBack : Type 0
FieldReadBack = (bits more : List ℕ) (width value : ℕ) → value < 2 ^ width
    → field_at (bits ++ field_bits width value ++ more) (length bits) width ≡ value

-- A field behind some bits is a field of what was appended.
abbrev pub FieldOfAppended : Type 0
FieldOfAppended = (bits more : List ℕ) (at width : ℕ)
    → field_at (bits ++ more) (length bits + at) width ≡ field_at more at width

-- A field of two parts, as one that is read across a word's border: the low part first, the high
-- part above it.
abbrev pub FieldOfTwo : Type 0
FieldOfTwo = (bits : List ℕ) (at low high : ℕ) → AreBits bits
    → field_at bits at (low + high) ≡ field_at bits at low + 2 ^ low * field_at bits (at + low) high

-- The bits of the words of some bits are these, with zeros up to the end of the last word.
abbrev pub BitsOfWords : Type 0
BitsOfWords = (bits : List ℕ) → AreBits bits → bits_of (words_of bits) ≡ padded bits

-- The words of the bits of words are these words.
abbrev pub WordsOfBits : Type 0
WordsOfBits = (words : List ℕ) → All (λ w. w < 2 ^ 64) words → words_of (bits_of words) ≡ words

-- Zeros up to the end of the last word leave the words as they are.
abbrev pub WordsOfPadded : Type 0
WordsOfPadded = (bits : List ℕ) → AreBits bits → words_of (padded bits) ≡ words_of bits
