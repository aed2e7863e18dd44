use Rattle.std.specs.Prelude.{◌≡◌, ℕ, ◌+◌, ◌*◌, ◌^◌, ◌<◌, ◌≤◌, List, length, slice_range}
use Rattle.std.specs.List.{All}
use Rattle.bit_words.specs.Bits.{bits_of}
use Rattle.collection_model.specs.FormatNumbers.{format_three}
use Rattle.collection_model.specs.Collection.{Posting, greatest_freq}
use Rattle.collection_model.specs.Sequences.{doc_sequence, freq_sequence}
use Rattle.packed_list.specs.ListBits.{list_bits, IsCutInto}
use Rattle.packed_list.specs.ListStated.{list_at}

-- Bits that begin at a place are those of one list over n documents, and of one partition of each
-- of its sequences.
abbrev pub OnePackedList : Type 0
OnePackedList =
    (n at : ℕ) (list other : List Posting) (doc_ends freq_ends doc_cuts freq_cuts : List ℕ)
    → n ≤ format_three.most_documents
    → IsCutInto n list doc_ends freq_ends → IsCutInto n other doc_cuts freq_cuts
    → list_bits n at list doc_ends freq_ends ≡ list_bits n at other doc_cuts freq_cuts
    → (list ≡ other) × (doc_ends ≡ doc_cuts) × (freq_ends ≡ freq_cuts)

-- Where the bits of a list of some postings stand in words, they state its two sequences in their
-- parts, and its greatest frequency.
abbrev pub ListsStateBack : Type 0
ListsStateBack =
    (n at : ℕ) (words : List ℕ) (list : List Posting) (doc_ends freq_ends : List ℕ)
    → n ≤ format_three.most_documents → All (λ w. w < 2 ^ 64) words
    → IsCutInto n list doc_ends freq_ends → 1 ≤ length list
    → at + length (list_bits n at list doc_ends freq_ends) ≤ 64 * length words
    → slice_range (bits_of words) at (at + length (list_bits n at list doc_ends freq_ends))
    ≡ list_bits n at list doc_ends freq_ends
    → list_at n words at ≡ record {
      most = greatest_freq list;
      docs = record { format = format_three; values = doc_sequence list; ends = doc_ends };
      freqs = record { format = format_three; values = freq_sequence list; ends = freq_ends };
    }

-- No list takes 2 ^ 44 bits, wherever they begin.
abbrev pub ListsAreShort : Type 0
ListsAreShort =
    (n at : ℕ) (list : List Posting) (doc_ends freq_ends : List ℕ) → n ≤ format_three.most_documents
    → IsCutInto n list doc_ends freq_ends
    → length (list_bits n at list doc_ends freq_ends) < 2 ^ 44
