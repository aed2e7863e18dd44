use Rattle.std.specs.Prelude.{◌≡◌, ℕ, ◌+◌, ◌-◌, ◌*◌, ◌/◌, ◌%◌, ◌^◌, ◌<◌, ◌≤◌, List, length, slice_index}
use Rattle.collection_model.specs.Collection.{Collection, Posting, list_of}
use Rattle.collection_model.specs.FormatNumbers.{format_three, most_terms}
use Rattle.bit_words.specs.Bits.{bits_of, HasNoOne}
use Rattle.part_cost.specs.Payload.{payload}
use Rattle.part_cost.specs.Stored.{HoldsPart}
use Rattle.part_codec.specs.PartBits.{part_bits}
use Rattle.part_codec.specs.PartValues.{values_at}
use Rattle.packed_list.specs.ListPlaces.{HoldsList, IsListBetween}
use Rattle.index_file.specs.PackedWords.{packed_magic, packed_end, most_list_bits, first_list_bit}

-- the number of documents that the words of a packed file state
abbrev pub packed_documents : List ℕ → ℕ
packed_documents words = slice_index words (length words - 4)

-- the number of terms that they state
abbrev pub packed_terms : List ℕ → ℕ
packed_terms words = slice_index words (length words - 3)

-- the number of bits of all lists that they state
abbrev pub packed_bits : List ℕ → ℕ
packed_bits words = slice_index words (length words - 2)

-- the universe of the directory of so many lists of so many bits
abbrev pub starts_universe : ℕ → ℕ → ℕ
starts_universe bits terms = bits + terms + 1

-- how many words a packed file has
abbrev pub packed_count : ℕ → ℕ → ℕ → ℕ
packed_count documents terms bits =
    2 + (bits + 63) / 64 + (documents + 1) / 2
    + (payload (starts_universe bits terms) (terms + 1) + 63) / 64 + 4

-- the first word of sizes
abbrev pub packed_sizes : List ℕ → ℕ
packed_sizes words = 2 + (packed_bits words + 63) / 64

-- the first word of the directory
abbrev pub packed_directory : List ℕ → ℕ
packed_directory words = packed_sizes words + (packed_documents words + 1) / 2

-- The words have the frame of a packed file: both ends, the version, and numbers at the end that
-- can be theirs.
pub record HasPackedFrame (words : List ℕ) : Type 0 where
  pub some : 6 ≤ length words
  pub opening : slice_index words 0 ≡ packed_magic
  pub version : slice_index words 1 ≡ format_three.version
  pub closing : slice_index words (length words - 1) ≡ packed_end
  pub documents : packed_documents words ≤ format_three.most_documents
  pub terms : packed_terms words ≤ most_terms
  pub bits : packed_bits words ≤ most_list_bits
  pub whole : packed_count (packed_documents words) (packed_terms words) (packed_bits words)
      ≡ length words

-- These numbers are the directory: their bits stand there.
abbrev pub AreStarts : List ℕ → List ℕ → Type 0
AreStarts words starts =
    HoldsPart part_bits (bits_of words) (64 * packed_directory words)
    (starts_universe (packed_bits words) (packed_terms words)) (packed_terms words + 1) starts

-- The directory is one of some places, of which the first is that of no bit, with zeros behind it
-- up to the end of its last word.
pub record HasStarts (words : List ℕ) : Type 0 where
  pub starts : List ℕ
  pub stand : AreStarts words starts
  pub first : slice_index starts 0 ≡ 0
  pub filled : HasNoOne (bits_of words)
      (64 * packed_directory words + payload
      (starts_universe (packed_bits words) (packed_terms words)) (packed_terms words + 1))
      (64 * (length words - 4))

-- the places that the directory states
abbrev pub starts_stated : List ℕ → List ℕ
starts_stated words =
    values_at (bits_of words) (64 * packed_directory words)
    (starts_universe (packed_bits words) (packed_terms words)) (packed_terms words + 1)

-- where the bits of list t begin, counted from the first list's
abbrev pub start_stated : List ℕ → ℕ → ℕ
start_stated words t = slice_index (starts_stated words) t - t

-- The bits of list t are those of some list.
abbrev pub IsListStored : List ℕ → ℕ → Type 0
IsListStored words t =
    HoldsList (packed_documents words) (bits_of words) (first_list_bit + start_stated words t)
    (first_list_bit + start_stated words (t + 1))

-- The bits of list t are those of this list.
abbrev pub IsListAt : List ℕ → ℕ → List Posting → Type 0
IsListAt words t list = (doc_ends : List ℕ) × (freq_ends : List ℕ)
    × IsListBetween (packed_documents words) (bits_of words)
    (first_list_bit + start_stated words t) (first_list_bit + start_stated words (t + 1)) list
    doc_ends freq_ends

-- The lists of a packed file are those of this collection, over as many documents.
pub record AreListsOf (words : List ℕ) (c : Collection) : Type 0 where
  pub documents : packed_documents words ≡ c.documents
  pub lists : (t : ℕ) → t < packed_terms words → IsListAt words t (list_of c t)

-- The bits of all lists before one are those of lists.
abbrev pub AreListsStored : List ℕ → ℕ → Type 0
AreListsStored words t = (r : ℕ) → r < t → IsListStored words r

-- No check behind all lists breaks.
pub record PassesPackedClosing (words : List ℕ) : Type 0 where
  pub lists : HasNoOne (bits_of words) (first_list_bit + packed_bits words)
      (64 * packed_sizes words)
  pub sizes : packed_documents words % 2 ≡ 1
      → slice_index words (packed_directory words - 1) / 2 ^ 32 ≡ 0

-- No check of a packed file breaks.
pub record PassesPacked (words : List ℕ) : Type 0 where
  pub frame : HasPackedFrame words
  pub starts : HasStarts words
  pub lists : AreListsStored words (packed_terms words)
  pub closing : PassesPackedClosing words
