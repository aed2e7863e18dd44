use Rattle.std.proofs.Common.{◌≡◌, ℕ, ◌+◌, ◌≤◌, map, take, drop}
use Rattle.std.specs.List.{All}
use Rattle.scan_plans.specs.Scan.{HasPassed}
use Rattle.topk_pruning.specs.Terms.{AreBefore, bounds, score_in}
use Rattle.topk_pruning.proofs.candidates.score_above.Given as goal

abbrev pub invariant-loop-term : goal.invariant-loop-term
invariant-loop-term g l = record {
  lists : map g.C.DocCursor.list l.cursors ≡ map g.C.DocCursor.list l.initial.cursors;
  before : AreBefore g.C.DocCursor.list g.C.DocCursor.place l.doc l.others l.cursors;
  passed : (e : ℕ) → l.doc ≤ e → All (λ c. HasPassed e (g.C.DocCursor.list c) (g.C.DocCursor.place c)) l.initial.cursors → All (λ c. HasPassed e (g.C.DocCursor.list c) (g.C.DocCursor.place c)) l.cursors;
  so_far : l.score ≡ l.known + score_in (map g.C.DocCursor.list l.initial.cursors) l.doc (take l.term-index l.others);
  left : l.left ≡ bounds (drop l.term-index l.others);
}
