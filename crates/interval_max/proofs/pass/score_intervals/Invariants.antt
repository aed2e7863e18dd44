use Rattle.std.proofs.Common.{◌≡◌, ℕ, ◌*◌, ◌-◌, ◌<◌, ◌≤◌, map, length, slice_index}
use Rattle.std.specs.List.{All}
use Rattle.scan_plans.specs.Scan.{HasPassed}
use Rattle.interval_max.specs.Search.{IsReady, IsSearch}
use Rattle.interval_max.proofs.pass.score_intervals.Given as goal

abbrev pub invariant-loop-pass : goal.invariant-loop-pass
invariant-loop-pass g l = record {
  lists : map g.C.DocCursor.list l.cursors ≡ map g.C.DocCursor.list l.initial.cursors;
  passed : All (λ c. HasPassed (32 * l.pass.at) (g.C.DocCursor.list c) (g.C.DocCursor.place c)) l.cursors;
  within : l.pass.at ≤ length l.initial.bounds;
  ready : IsReady l.pass.room;
  floor : l.pass.floor ≡ l.initial.pass.floor;
  k : l.top.k ≡ l.initial.top.k;
  n : l.top.n ≡ l.initial.top.n;
  search : IsSearch l.initial.top.n (map g.C.DocCursor.list l.initial.cursors) l.weights l.initial.top.k l.bounds l.top.held;
  settled : l.initial.pass.floor ≡ 0 → (j : ℕ) → j < l.pass.at → slice_index l.bounds j ≡ 0;
}

abbrev pub decreases-loop-pass : goal.decreases-loop-pass
decreases-loop-pass g l = length l.initial.bounds - l.pass.at
