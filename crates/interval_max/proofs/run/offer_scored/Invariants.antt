use Rattle.std.proofs.Common.{◌≡◌, ℕ, ◌+◌, ◌<◌, ◌≤◌, ◌⊎◌, Bool, false, List, length, slice_index}
use Rattle.std.specs.List.{All}
use Rattle.collection_model.specs.Collection.{Posting}
use Rattle.scan_plans.specs.Window.{AreScored}
use Rattle.scan_plans.specs.AnyOrder.{IsTopSeen}
use Rattle.interval_max.specs.Search.{IsLeastToEnter, seen_with}
use Rattle.interval_max.proofs.run.offer_scored.Given as goal

abbrev pub invariant-loop-i : goal.invariant-loop-i
invariant-loop-i l = record {
  k : l.top.k ≡ l.initial.top.k;
  n : l.top.n ≡ l.initial.top.n;
  least : IsLeastToEnter l.top l.least;
  clear : (k : ℕ) → k < l.i → slice_index l.scores k ≡ 0;
  rest : (k : ℕ) → l.i ≤ k → slice_index l.scores k ≡ slice_index l.initial.scores k;
  outside : All (λ e. (e.0 < l.first + l.i) ⊎ (l.first + length l.initial.scores ≤ e.0)) l.top.held;
  top : (lists : List (List Posting)) (weights : List ℕ) (seen : ℕ → Bool) → AreScored lists weights l.first l.initial.scores → ((d : ℕ) → l.first ≤ d → d < l.first + length l.initial.scores → seen d ≡ false)
      → IsTopSeen seen l.initial.top.n lists weights l.initial.top.k l.initial.top.held → IsTopSeen (seen_with seen l.first (l.first + l.i)) l.initial.top.n lists weights l.initial.top.k l.top.held;
}
