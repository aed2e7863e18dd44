use Rattle.std.specs.Prelude.{ℕ, ◌+◌, ◌-◌, List, [], ◌∷◌, ◌++◌, length}
use Rattle.bit_words.specs.Bits.{field_bits}
use Rattle.collection_model.specs.FormatNumbers.{format_three}
use Rattle.collection_model.specs.Collection.{Posting, IsPostingList, greatest_freq}
use Rattle.collection_model.specs.Sequences.{doc_sequence, freq_sequence}
use Rattle.part_cost.specs.Payload.{digits}
use Rattle.part_cost.specs.Partition.{IsPartition}
use Rattle.packed_list.specs.Gamma.{gamma}
use Rattle.packed_sequence.specs.SequenceBits.{last_doc, last_sum, sequence_bits}

-- what every list begins with: how many postings it has, and its greatest frequency
abbrev pub head_bits : List Posting → List ℕ
head_bits list = gamma (length list) ++ gamma (greatest_freq list)

-- the documents of a list of two postings and more
abbrev pub docs_bits : ℕ → ℕ → List Posting → List ℕ → List ℕ
docs_bits n at list ends = sequence_bits (last_doc n) at (doc_sequence list) ends

-- its frequencies
abbrev pub freqs_bits : ℕ → List Posting → List ℕ → List ℕ
freqs_bits at list ends =
    sequence_bits (last_sum (length list) (greatest_freq list)) at (freq_sequence list) ends

-- the bits of a list over n documents whose sequences are in these parts, the first of them at a
-- place, which is counted from the start of a word: a list without postings takes none, and one
-- posting has its document in place of the sequences
abbrev pub list_bits : ℕ → ℕ → List Posting → List ℕ → List ℕ → List ℕ
list_bits n at [] doc_ends freq_ends = []
list_bits n at (p ∷ []) doc_ends freq_ends = head_bits (p ∷ []) ++ field_bits (digits (n - 1)) p.doc
list_bits n at (p ∷ q ∷ list) doc_ends freq_ends =
    head ++ docs ++ freqs_bits (at + length head + length docs) (p ∷ q ∷ list) freq_ends
  where
    head : List ℕ
    head = head_bits (p ∷ q ∷ list)

    docs : List ℕ
    docs = docs_bits n (at + length head) (p ∷ q ∷ list) doc_ends

-- a list with partitions of its two sequences, over n documents
pub record IsCutInto (n : ℕ) (list : List Posting) (doc_ends freq_ends : List ℕ) : Type 0 where
  pub well_formed : IsPostingList format_three n list
  pub docs : IsPartition (length list) doc_ends
  pub freqs : IsPartition (length list) freq_ends
