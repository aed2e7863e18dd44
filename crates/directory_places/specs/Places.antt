use Rattle.std.specs.Prelude.{◌≡◌, ℕ, ◌+◌, ◌*◌, ◌^◌, ◌<◌, ◌≤◌, List, map, length, take, sum, slice_index}
use Rattle.std.specs.List.{All, range_with_len}
use Rattle.bit_words.specs.Bits.{AreBits, bits_of}

-- the place of list k: the last end before it, with the number of lists before it added
abbrev pub place_of : List ℕ → List ℕ → ℕ → ℕ
place_of marks ends k = slice_index ends (sum (take k marks)) + k

-- the places of lists with these marks and ends, and that behind the last list
abbrev pub places_of : List ℕ → List ℕ → List ℕ
places_of marks ends = map (place_of marks ends) (range_with_len 0 (length marks + 1))

-- Behind a first one there is an end for each mark.
pub record AreMarked (marks ends : List ℕ) : Type 0 where
  pub bits : AreBits marks
  pub one_each : length ends ≡ sum marks + 1
  pub small : All (λ e. e < 2 ^ 62) ends
  pub few : length marks < 2 ^ 62

-- So many marks stand in words.
pub record AreSpelled (words ends : List ℕ) (lists : ℕ) : Type 0 where
  pub within : lists ≤ 64 * length words
  pub marked : AreMarked (take lists (bits_of words)) ends
