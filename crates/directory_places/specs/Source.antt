use Rattle.std.specs.Prelude.{◌≡◌, ℕ, ◌+◌, ◌≤◌, List, take, drop, sum}
use Rattle.bit_words.specs.Bits.{bits_of}
use Rattle.directory_places.specs.declared.source.PlaceSource.{PlaceSource}
use Rattle.directory_places.specs.Places.{AreSpelled, places_of}

-- These places are left to be given.
pub record AreLeft (s : PlaceSource) (ys : List ℕ) : Type 0 where
  pub spelled : AreSpelled s.marks.words.now s.ends.now s.lists
  pub reached : s.at ≤ s.lists + 1
  pub before : s.passed ≡ sum (take s.at (take s.lists (bits_of s.marks.words.now)))
  pub left : ys ≡ drop s.at (places_of (take s.lists (bits_of s.marks.words.now)) s.ends.now)
