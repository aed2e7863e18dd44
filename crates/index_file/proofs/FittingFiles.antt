-- That a file of a kind that is not too large has room for its lists.
use Rattle.std.proofs.Common.{ℕ, ◌*◌, ◌≤◌, List, [], ◌∷◌, ◌++◌, length, arith, length-append}
use Rattle.bit_words.specs.Bits.{words_of}
use Rattle.collection_model.specs.FormatNumbers.{FormatNumbers, FileKind, Plain, Packed, format_three}
use Rattle.collection_model.specs.Collection.{Collection}
use Rattle.index_file.specs.CutLists.{CutList, ListParts, with_parts}
use Rattle.index_file.specs.PlainWords.{sizes_words}
use Rattle.index_file.specs.PackedWords.{packed_magic, packed_end, bits_of_lists, starts_bits, packed_words}
use Rattle.index_file.specs.FileWords.{FitsKind, words_of_kind, file_words}
use Rattle.index_file.specs.Builder.{most_words}
use Rattle.index_file.proofs.OnePackedFile.{length-words}

-- three lists behind two words
behind-two : (a b : ℕ) (xs ys zs ws : List ℕ) → length xs ≤ length ((a ∷ b ∷ []) ++ xs ++ ys ++ zs ++ ws)
behind-two a b xs ys zs ws =
    omega (
      arith,
      length-append ((a ∷ b ∷ []) ++ xs ++ ys ++ zs) ws,
      length-append ((a ∷ b ∷ []) ++ xs ++ ys) zs,
      length-append ((a ∷ b ∷ []) ++ xs) ys,
      length-append (a ∷ b ∷ []) xs,
    )

-- the bits of the lists of a packed file lie in its words
pub bits-within : (n : ℕ) (cs : List CutList) (sizes : List ℕ) → length (bits_of_lists n 0 cs) ≤ 64 * length (packed_words n cs sizes)
bits-within n cs sizes =
    let bits : List ℕ = bits_of_lists n 0 cs in
    omega (
      arith,
      length-words bits,
      behind-two packed_magic format_three.version (words_of bits) (sizes_words sizes) (words_of (starts_bits n cs)) (n ∷ length cs ∷ length bits ∷ packed_end ∷ []),
    )

pub fits-within : (kind : FileKind) (format : FormatNumbers) (n : ℕ) (cs : List CutList) (sizes : List ℕ) → length (words_of_kind kind format n cs sizes) ≤ most_words → FitsKind kind n cs
fits-within Plain format n cs sizes h = tt
fits-within Packed format n cs sizes h = omega (arith, h, bits-within n cs sizes)

-- so has the file of a collection
pub fits-file : (format : FormatNumbers) (c : Collection) (parts : List ListParts) → length (file_words format c parts) ≤ most_words → FitsKind format.kind c.documents (with_parts c.lists parts)
fits-file format c parts h = fits-within format.kind format c.documents (with_parts c.lists parts) c.sizes h
