use Rattle.std.specs.Prelude.{◌≡◌, ℕ, ◌+◌, ◌*◌, ◌^◌, ◌<◌, ◌≤◌, List, length}
use Rattle.std.specs.List.{All}
use Rattle.collection_model.specs.FormatNumbers.{format_three, most_terms}
use Rattle.packed_list.specs.ListBits.{IsCutInto}
use Rattle.index_file.specs.CutLists.{CutList}
use Rattle.part_cost.specs.declared.formats.Format.TheVariants.{Three}
use Rattle.index_file.specs.FileWords.{IsIndex, format_read}
use Rattle.index_file.specs.PackedWords.{most_list_bits, first_list_bit, bits_of_lists, packed_words}
use Rattle.index_file.specs.PackedAt.{packed_terms, start_stated, IsListStored}

-- what a packed file is of: lists over n documents in partitions of their sequences, and a size for
-- each document
pub record IsPackable (n : ℕ) (cs : List CutList) (sizes : List ℕ) : Type 0 where
  pub documents : n ≤ format_three.most_documents
  pub terms : length cs ≤ most_terms
  pub lists : All (λ c. IsCutInto n c.list c.parts.doc_ends c.parts.freq_ends) cs
  pub size_each : length sizes ≡ n
  pub small_sizes : All (λ s. s < 2 ^ 32) sizes
  pub fits : length (bits_of_lists n 0 cs) ≤ most_list_bits

-- Words are those of one packed file only.
abbrev pub OnePackedFile : Type 0
OnePackedFile =
    (n k : ℕ) (cs ds : List CutList) (sizes others : List ℕ) → IsPackable n cs sizes
    → IsPackable k ds others
    → packed_words n cs sizes ≡ packed_words k ds others → (n ≡ k) × (cs ≡ ds) × (sizes ≡ others)

-- The bits of list t of a packed file lie where it and the next begin, and are those of a list.
pub record LiesBetweenStarts (words : List ℕ) (t : ℕ) : Type 0 where
  pub ordered : start_stated words t ≤ start_stated words (t + 1)
  pub few : start_stated words (t + 1) ≤ most_list_bits
  pub within : first_list_bit + start_stated words (t + 1) ≤ 64 * length words
  pub stored : IsListStored words t

-- So do those of each list of an index that is a packed file.
abbrev pub PackedListsStand : Type 0
PackedListsStand = (words : List ℕ) → IsIndex words → format_read words ≡ Three
    → (t : ℕ) → t < packed_terms words → LiesBetweenStarts words t
