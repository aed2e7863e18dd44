-- Bounds of the scores of documents by interval.
use Rattle.std.specs.Prelude.{◌≡◌, ◌≢◌, ℕ, ◌+◌, ◌*◌, ◌<◌, ◌≤◌, List, [], map, length, zip}
use Rattle.std.specs.Prelude.{slice_index, slice_index_or}
use Rattle.std.specs.List.{All, sum_by}
use Rattle.collection_model.specs.Collection.{Posting}
use Rattle.interval_max.specs.Intervals.{greatest_in}
use Rattle.interval_max.specs.Bytes.{rounded_up}
use Rattle.interval_max.specs.Maxima.{bound_of}
use Rattle.interval_max.specs.declared.maxima.Bounds.{Bounds}

-- bounds are those of a list, or they are of none
abbrev pub IsBoundOf : List Posting → Bounds → Type 0
IsBoundOf list b = b.step ≢ 0 → (v : ℕ) → bound_of b v ≡ rounded_up list v

-- bounds for each of some lists
pub record AreBoundsOf (lists : List (List Posting)) (bounds : List Bounds) : Type 0 where
  pub each : length bounds ≡ length lists
  pub theirs : (i : ℕ) (b : Bounds) → i < length lists
      → IsBoundOf (slice_index_or lists i []) (slice_index_or bounds i b)

-- the most that some lists can give a document in interval v: the sum over the lists of the weight
-- times the greatest frequency there
abbrev pub interval_score : List (List Posting) → List ℕ → ℕ → ℕ
interval_score lists weights v = sum_by (λ e. e.1 * greatest_in e.0 v) (zip lists weights)

-- What a list adds to the bounds of scores: at least its weight times its greatest frequency in
-- each interval, and no more than its weight times the greatest number of 32 bits.
pub record IsRaised (list : List Posting) (weight : ℕ) (old new : List ℕ) : Type 0 where
  pub count : length new ≡ length old
  pub least : (v : ℕ) → v < length old
      → slice_index old v + weight * greatest_in list v ≤ slice_index new v
  pub most : (v : ℕ) → v < length old
      → slice_index new v ≤ slice_index old v + weight * 4294967295

-- other cursors at the start of the same lists
pub record AreAgain {X : Type 0} (list : X → List Posting) (place : X → ℕ)
    (cursors others : List X) : Type 0 where
  pub lists : map list others ≡ map list cursors
  pub at_start : All (λ c. place c ≡ 0) others
