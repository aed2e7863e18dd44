use Rattle.std.specs.Prelude.{ℕ, ◌+◌, ◌^◌, List, [], ◌∷◌, ◌++◌, length, codes}
use Rattle.std.specs.Int.{from_le_bytes, w64}
use Rattle.bit_words.specs.Bits.{words_of}
use Rattle.part_codec.specs.PartBits.{part_bits}
use Rattle.collection_model.specs.FormatNumbers.{format_three}
use Rattle.packed_list.specs.ListBits.{list_bits}
use Rattle.index_file.specs.CutLists.{CutList}
use Rattle.index_file.specs.PlainWords.{sizes_words}

-- the word at the beginning of a packed file
abbrev pub packed_magic : ℕ
packed_magic = from_le_bytes w64 (codes "PEFPACKD")

-- the word at its end
abbrev pub packed_end : ℕ
packed_end = from_le_bytes w64 (codes "DKCAPFEP")

-- the most bits of all lists
abbrev pub most_list_bits : ℕ
most_list_bits = 2 ^ 43

-- the first bit of the lists: they stand behind two words
abbrev pub first_list_bit : ℕ
first_list_bit = 128

-- the bits of a list over n documents in its parts, with so many bits of lists before it
abbrev pub bits_of_list : ℕ → ℕ → CutList → List ℕ
bits_of_list n at c = list_bits n (first_list_bit + at) c.list c.parts.doc_ends c.parts.freq_ends

-- the bits of lists, one after the other without gaps, with so many bits of lists before them
abbrev pub bits_of_lists : ℕ → ℕ → List CutList → List ℕ
bits_of_lists n at [] = []
bits_of_lists n at (c ∷ cs) =
    bits_of_list n at c ++ bits_of_lists n (at + length (bits_of_list n at c)) cs

-- how many bits of lists stand before each list, and before the end of the last, with the number of
-- lists before it added
abbrev pub starts_from : ℕ → ℕ → ℕ → List CutList → List ℕ
starts_from n t at [] = (at + t) ∷ []
starts_from n t at (c ∷ cs) =
    (at + t) ∷ starts_from n (t + 1) (at + length (bits_of_list n at c)) cs

-- the bits of the directory of lists: one part, of the places where they begin
abbrev pub starts_bits : ℕ → List CutList → List ℕ
starts_bits n cs = part_bits (starts_from n 0 0 cs) (length (bits_of_lists n 0 cs) + length cs + 1)

-- the words of the packed file of n documents, these lists in these parts, and these sizes
abbrev pub packed_words : ℕ → List CutList → List ℕ → List ℕ
packed_words n cs sizes =
    (packed_magic ∷ format_three.version ∷ []) ++ words_of (bits_of_lists n 0 cs)
    ++ sizes_words sizes
    ++ words_of (starts_bits n cs)
    ++ (n ∷ length cs ∷ length (bits_of_lists n 0 cs) ∷ packed_end ∷ [])
