use Rattle.std.proofs.Common.{◌≡◌, ℕ, ◌-◌, ◌*◌, ◌<◌, ◌^◌, map, length}
use Rattle.std.specs.List.{All, sum_by}
use Rattle.scan_plans.specs.Best.{IsBest}
use Rattle.scan_plans.specs.Ranking.{held_of}
use Rattle.scan_plans.specs.Matches.{in_any}
use Rattle.scan_plans.specs.Scan.{StandsFrom}
use Rattle.scan_plans.specs.Window.{IsBlank}
use Rattle.scan_plans.proofs.top.score_all.Given as goal

abbrev pub invariant-loop-first : goal.invariant-loop-first
invariant-loop-first g l = record {
  low : ℕ;
  lists : map g.C.DocCursor.list l.cursors ≡ map g.C.DocCursor.list l.initial.cursors;
  stand : All (λ c. StandsFrom low (g.C.DocCursor.list c) (g.C.DocCursor.place c)) l.cursors;
  some : 0 < length l.marks;
  same : length l.scores ≡ 64 * length l.marks;
  blank : IsBlank l.scores l.marks;
  k : l.top.k ≡ l.fn.k;
  above : All (λ e. e.0 < low) l.top.found;
  best : IsBest l.fn.k (map g.C.DocCursor.list l.initial.cursors) l.weights (in_any low (map g.C.DocCursor.list l.initial.cursors)) (held_of l.top);
  bound : All (λ e. e.1 < 2 ^ 58) l.top.found;
}

abbrev pub decreases-loop-first : goal.decreases-loop-first
decreases-loop-first g l = sum_by (λ c. length (g.C.DocCursor.list c) - g.C.DocCursor.place c) l.cursors
