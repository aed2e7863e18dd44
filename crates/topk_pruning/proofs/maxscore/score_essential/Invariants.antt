use Rattle.std.proofs.Common.{◌≡◌, ◌-◌, ◌≤◌, length, map}
use Rattle.std.specs.List.{All}
use Rattle.scan_plans.specs.IsTop.{IsTopFrom}
use Rattle.scan_plans.specs.Scan.{HasPassed}
use Rattle.topk_pruning.specs.Windows.{IsReady}
use Rattle.topk_pruning.proofs.maxscore.score_essential.Given as goal

abbrev pub invariant-loop-first : goal.invariant-loop-first
invariant-loop-first g l = record {
  lists : map g.C.DocCursor.list l.cursors ≡ map g.C.DocCursor.list l.initial.cursors;
  passed : All (λ c. HasPassed l.from (g.C.DocCursor.list c) (g.C.DocCursor.place c)) l.cursors;
  in_range : l.from ≤ l.fn.n;
  ready : IsReady (length l.terms.items) l.fn.n l.scorer;
  k : l.top.k ≡ l.fn.k;
  n : l.top.n ≡ l.fn.n;
  floor : l.top.floor ≡ l.floor;
  held : IsTopFrom l.floor l.from (map g.C.DocCursor.list l.initial.cursors) l.weights l.fn.k l.top.held;
}

abbrev pub decreases-loop-first : goal.decreases-loop-first
decreases-loop-first g l = 4294967296 - l.from
