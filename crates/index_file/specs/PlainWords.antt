use Rattle.std.specs.Prelude.{◌≡◌, ℕ, ◌+◌, ◌*◌, ◌^◌, List, [], ◌∷◌, ◌++◌, length, codes}
use Rattle.std.specs.Int.{from_le_bytes, w64}
use Rattle.collection_model.specs.FormatNumbers.{FormatNumbers}
use Rattle.collection_model.specs.Collection.{Collection, WellFormed, greatest_freq}
use Rattle.collection_model.specs.Sequences.{doc_sequence, freq_sequence}
use Rattle.two_level.specs.SequenceWords.{sequence_words}
use Rattle.index_file.specs.CutLists.{ListParts, CutList, with_parts, ArePartitions}

-- the word at the beginning of a plain file
abbrev pub opening_magic : ℕ
opening_magic = from_le_bytes w64 (codes "PEFINDEX")

-- the word at its end
abbrev pub end_magic : ℕ
end_magic = from_le_bytes w64 (codes "XEDNIFEP")

-- the words of the documents of a list
abbrev pub doc_words : FormatNumbers → CutList → List ℕ
doc_words format c = sequence_words format (doc_sequence c.list) c.parts.doc_ends

-- the words of the frequencies of a list
abbrev pub freq_words : FormatNumbers → CutList → List ℕ
freq_words format c = sequence_words format (freq_sequence c.list) c.parts.freq_ends

-- the sequences of all lists, one after the other
abbrev pub lists_words : FormatNumbers → List CutList → List ℕ
lists_words format [] = []
lists_words format (c ∷ cs) = doc_words format c ++ freq_words format c ++ lists_words format cs

-- the four directory words of a list whose sequences begin at word p
abbrev pub list_entry : FormatNumbers → ℕ → CutList → List ℕ
list_entry format p c =
    p ∷ (p + length (doc_words format c)) ∷ (length c.list + 2 ^ 32 * length c.parts.doc_ends)
    ∷ (length c.parts.freq_ends + 2 ^ 32 * greatest_freq c.list) ∷ []

-- the directory words of lists whose sequences begin at word p
abbrev pub lists_directory : FormatNumbers → ℕ → List CutList → List ℕ
lists_directory format p [] = []
lists_directory format p (c ∷ cs) =
    list_entry format p c
    ++ lists_directory format (p + length (doc_words format c) + length (freq_words format c)) cs

-- sizes, two in a word, the lower document in the low half, as both kinds of file have them
abbrev pub sizes_words : List ℕ → List ℕ
sizes_words [] = []
sizes_words (a ∷ []) = a ∷ []
sizes_words (a ∷ b ∷ sizes) = (a + 2 ^ 32 * b) ∷ sizes_words sizes

-- the words of the plain file of n documents, these lists in these parts, and these sizes
abbrev pub plain_words : FormatNumbers → ℕ → List CutList → List ℕ → List ℕ
plain_words format n cs sizes =
    (opening_magic ∷ format.version ∷ []) ++ lists_words format cs ++ sizes_words sizes
    ++ lists_directory format 2 cs
    ++ (n ∷ length cs ∷ (2 + length (lists_words format cs)) ∷ end_magic ∷ [])

-- The words are those of the plain file of a well-formed collection in these partitions.
pub record SpellsPlain (format : FormatNumbers) (words : List ℕ) (c : Collection)
    (parts : List ListParts) : Type 0 where
  pub well_formed : WellFormed format c
  pub partitions : ArePartitions c.lists parts
  pub spelled : words ≡ plain_words format c.documents (with_parts c.lists parts) c.sizes

-- Some collection in some partitions is spelled so.
abbrev pub IsPlainIn : FormatNumbers → List ℕ → Type 0
IsPlainIn format words = (c : Collection) × (parts : List ListParts)
    × SpellsPlain format words c parts
