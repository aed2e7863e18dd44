-- The bytes of words, and how many they are.
use Rattle.std.proofs.Common.{◌≡◌, refl, ℕ, ◌*◌, List, [], ◌∷◌, length, arith, length-append}
use Rattle.collection_model.specs.Bytes.{le64, word_bytes}

-- words take eight bytes each
pub word_bytes-length : (words : List ℕ) → length (word_bytes words) ≡ 8 * length words
word_bytes-length [] = refl
word_bytes-length (w ∷ words) = omega (arith, length-append (le64 w) (word_bytes words), eight w, word_bytes-length words)
  where
    eight : (w : ℕ) → length (le64 w) ≡ 8
    eight w = refl
