use Rattle.std.specs.Prelude.{◌≡◌, ◌≢◌, ℕ, ◌+◌, ◌-◌, ◌/◌, ◌^◌, ◌≤◌, ◌<◌, ◌==◌, List, length, slice_index}
use Rattle.std.specs.Int.{w64, bit_at, trailing_ones}
use Rattle.std.specs.List.Sorted.{IsStrictlyIncreasing}
use Rattle.collection_model.specs.Marks.{has_number}
use Rattle.index_file.specs.declared.run.Run.{Run}

-- the place of a number among all
abbrev pub place_in : Run → ℕ
place_in run = run.first + run.at

-- Marks tell which of the places from one on are numbers, as far as the highest mark.
abbrev pub AreMarked : ℕ → ℕ → List ℕ → Type 0
AreMarked marks place all = (i : ℕ) → 2 ^ i ≤ marks
    → has_number (place + i) all ≡ (bit_at marks i == 1)

-- Numbers from one place on, one of which is looked at, and marks from the last on, not all set.
pub record AreHere (all numbers : List ℕ) (run : Run) : Type 0 where
  pub within : run.at < run.count
  pub room : run.count ≤ length numbers
  pub inside : run.first + run.count ≤ length all
  pub same : (j : ℕ) → j < run.count → slice_index numbers j ≡ slice_index all (run.first + j)
  pub marked : AreMarked run.marks (slice_index numbers (run.count - 1)) all
  pub not_all : run.marks < 2 ^ 64 - 1

-- Numbers rise, few and small enough for the places that are kept and for sums with them.
pub record AreSmall (all : List ℕ) : Type 0 where
  pub rising : IsStrictlyIncreasing all
  pub small : (j : ℕ) → j < length all → slice_index all j < 2 ^ 63
  pub few : length all ≤ 2 ^ 32

-- The last number that was read is looked at, and the marks show one behind a gap.
abbrev pub ShowsNext : Run → Type 0
ShowsNext run = (run.at + 1 ≡ run.count)
    × (run.marks / 2 ^ trailing_ones w64 run.marks ≢ 0)

-- Each number from one place on up to another is one less than the next.
abbrev pub FollowOn : List ℕ → ℕ → ℕ → Type 0
FollowOn all from to = (t : ℕ) → from ≤ t → t < to → slice_index all (t + 1) ≡ slice_index all t + 1

-- A number is looked at up to which, from a place on, none are left out.
pub record IsOn (all numbers : List ℕ) (from : ℕ) (run : Run) : Type 0 where
  pub here : AreHere all numbers run
  pub later : from ≤ place_in run
  pub follow : FollowOn all from (place_in run)

-- From a place on the first number is looked at behind which some are left out, or the last.
pub record IsAtGap (all numbers : List ℕ) (from : ℕ) (run : Run) : Type 0 where
  pub here : AreHere all numbers run
  pub later : from ≤ place_in run
  pub follow : FollowOn all from (place_in run)
  pub gap : place_in run + 1 < length all → (run.at + 1 < run.count)
      × (slice_index all (place_in run + 1) ≢ slice_index all (place_in run) + 1)
