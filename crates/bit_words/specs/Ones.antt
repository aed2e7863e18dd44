use Rattle.std.specs.Prelude.{◌≡◌, ℕ, ◌+◌, ◌*◌, ◌/◌, ◌≤◌, List, length}
use Rattle.bit_words.specs.Bits.{bits_of, HasNoOne, IsWordWithin}

-- a range of bits, from the place reached up to an end
pub record BitRange : Type 0 where
  pub bits : List ℕ
  pub at : ℕ
  pub end : ℕ

-- The word at this place is read: these of its ones are in the range and not passed, and none is
-- between the place reached and the word.
pub record IsReading (words : List ℕ) (start rest at end : ℕ) : Type 0 where
  pub whole : 64 * (start / 64) ≡ start
  pub started : start ≤ end
  pub reached : at ≤ end
  pub near : at ≤ start + 64
  pub range : end ≤ 64 * length words
  pub passed : HasNoOne (bits_of words) at start
  pub word : IsWordWithin (bits_of words) (start / 64) at end rest
