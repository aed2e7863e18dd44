-- Lemmas on the words of a file, as a builder puts them together.
use Rattle.std.proofs.Common.{◌≡◌, ap, ◌∙◌, ℕ, ◌+◌, ◌/◌, List, [], ◌∷◌, ◌++◌, length, drop, arith}
use Rattle.part_cost.specs.declared.formats.Format.{Format}
use Rattle.part_cost.specs.Formats.{numbers_of}
use Rattle.index_file.specs.FileWords.{CutList, opening_magic, end_magic, lists_words, sizes_words, plain_words}
use Rattle.index_file.specs.Builder.{Built, StandsForPlain}
use Rattle.index_file.proofs.Lengths.{directory-length, file-length}

-- the words of the lists behind those that begin a file, then the sizes, the directory and the closing words
pub file-words : (format : Format) (n lists at : ℕ) (words directory sizes : List ℕ) (cs : List CutList)
    → words ≡ opening_magic ∷ (numbers_of format).version ∷ drop 2 words
    → StandsForPlain (record { format = format; documents = n; words = drop 2 words; directory = directory }) cs
    → lists ≡ length directory / 4 → at ≡ length words
    → words ++ sizes_words sizes ++ directory ++ (n ∷ lists ∷ at ∷ end_magic ∷ []) ≡ plain_words (numbers_of format) n cs sizes
file-words format n lists at words directory sizes cs opening stands many from =
    let whole : words ≡ opening_magic ∷ (numbers_of format).version ∷ lists_words (numbers_of format) cs = opening ∙ ap (λ ws. opening_magic ∷ (numbers_of format).version ∷ ws) stands.words in
    let count : lists ≡ length cs = omega (arith, ap length stands.directory, directory-length (numbers_of format) 2 cs) in
    let place : at ≡ 2 + length (lists_words (numbers_of format) cs) = omega (arith, ap length whole) in
    (λ t. whole t ++ sizes_words sizes ++ stands.directory t ++ (n ∷ count t ∷ place t ∷ end_magic ∷ []))

-- how many words the file has
pub file-count : (b : Built) (sizes : List ℕ) (cs : List CutList) → StandsForPlain b cs → length (plain_words (numbers_of b.format) b.documents cs sizes) ≡ 2 + length b.words + (length sizes + 1) / 2 + length b.directory + 4
file-count b sizes cs stands = omega (arith, file-length (numbers_of b.format) b.documents cs sizes, ap length stands.words, ap length stands.directory)
