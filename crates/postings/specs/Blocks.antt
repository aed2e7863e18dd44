use Rattle.std.specs.Prelude.{◌≡◌, ℕ, ◌+◌, ◌^◌, ◌<◌, ◌≤◌, List, length, slice_index}
use Rattle.std.specs.List.{All}
use Rattle.collection_model.specs.Sequences.{steps_from}
use Rattle.part_cost.specs.Span as span

-- the next sums of a list's frequencies from a place on, and one more than the sum before them
pub record AreSumsFrom (all : List ℕ) (from : ℕ) (sums : List ℕ) (past : ℕ) : Type 0 where
  pub within : from + length sums ≤ length all
  pub same : (j : ℕ) → j < length sums → slice_index sums j ≡ slice_index all (from + j)
  pub before : past ≡ span.past all from
  pub few : length all < 2 ^ 32
  pub not_zero : All (λ f. 1 ≤ f) (steps_from 0 all)
  pub fit : All (λ f. f < 2 ^ 32) (steps_from 0 all)
