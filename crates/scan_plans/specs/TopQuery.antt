-- What the plans of `top` ask of a query.
use Rattle.std.specs.Prelude.{◌≡◌, ℕ, ◌≤◌, ◌<◌, ◌^◌, List, map, length, sum}
use Rattle.std.specs.List.{All}
use Rattle.collection_model.specs.Collection.{Posting}
use Rattle.scan_plans.specs.Matches.{AreBelow}

-- a few cursors at the start of lists of documents below n, each with a weight, and the weights
-- together are light
pub record IsTopQuery {X : Type 0} (list : X → List Posting)
    (place : X → ℕ) (n : ℕ) (cursors : List X) (weights : List ℕ) : Type 0 where
  pub few : length cursors ≤ 1024
  pub at_start : All (λ c. place c ≡ 0) cursors
  pub in_range : AreBelow n (map list cursors)
  pub each : length weights ≡ length cursors
  pub some : All (λ w. 1 ≤ w) weights
  pub light : sum weights < 2 ^ 26
