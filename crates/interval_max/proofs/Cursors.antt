-- Lemmas on cursors that move.
use Rattle.std.proofs.Common.{◌≡◌, sym, subst, ℕ, ◌≤◌, List, arith}
use Rattle.std.specs.List.{All}
use Rattle.collection_model.specs.Collection.{Posting}
use Rattle.cursor_api.specs.NextGeq.{IsCursorAt, next_geq_place}
use Rattle.scan_plans.specs.Scan.{HasPassed, StandsFrom}
use Rattle.scan_plans.specs.Skips.{StandsAtNextGeq}

module _ {X : Type 0} (list : X → List Posting) (place : X → ℕ) where
  -- one that was moved stands where it is to
  pub moved-stands : StandsAtNextGeq → (d : ℕ) (old new : X) → IsCursorAt (list old) (place old) → HasPassed d (list old) (place old) → list new ≡ list old → place new ≡ next_geq_place (list old) (place old) d → StandsFrom d (list new) (place new)
  moved-stands law d old new good before lists places =
      subst (λ (p : ℕ). StandsFrom d (list new) p) (sym places)
      (subst (λ (l : List Posting). StandsFrom d l (next_geq_place (list old) (place old) d)) (sym lists) (law (list old) d (place old) good before))

  pub later-passed : (cs : List X) (d e : ℕ) → d ≤ e → All (λ c. HasPassed d (list c) (place c)) cs → All (λ c. HasPassed e (list c) (place c)) cs
  later-passed cs d e le all k x within = record { passed = λ j lt. let h = (all k x within).passed j lt in omega arith }

  pub starts-passed : (cs : List X) → All (λ c. place c ≡ 0) cs → All (λ c. HasPassed 0 (list c) (place c)) cs
  starts-passed cs start k d within = let e = start k d within in record { passed = λ j lt. absurd (omega arith) }
