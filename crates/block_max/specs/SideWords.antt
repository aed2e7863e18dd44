-- The words of a side file.
use Rattle.std.specs.Prelude.{ℕ, ◌+◌, List, [], ◌∷◌, ◌++◌, map, flat_map, length, codes}
use Rattle.std.specs.Int.{from_le_bytes, w64}
use Rattle.block_max.specs.declared.side.Side.{Side}
use Rattle.block_max.specs.Blocks.{BlockList, blocks_before, blocks_of}

-- the first word
abbrev pub side_opening : ℕ
side_opening = from_le_bytes w64 (codes "PEFBLOCK")

-- the last word
abbrev pub side_end : ℕ
side_end = from_le_bytes w64 (codes "KCOLBFEP")

-- the greatest frequencies of the blocks of some lists, list after list
abbrev pub block_freqs : List BlockList → List ℕ
block_freqs cs = flat_map (λ c. map (λ b. b.greatest) (blocks_of c)) cs

-- The words of a side file of these lists: a word for each block between two words before them and
-- two behind.
abbrev pub side_words : List BlockList → List ℕ
side_words cs = side_opening ∷ 1 ∷ block_freqs cs ++ length (block_freqs cs) ∷ side_end ∷ []

-- the place among the words of the first block of list t
abbrev pub first_word : List BlockList → ℕ → ℕ
first_word cs t = 2 + blocks_before cs t

-- the words in which a side was viewed
abbrev pub words_seen : Side → List ℕ
words_seen side = side.words.now
