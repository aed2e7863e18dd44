use Rattle.std.proofs.Common.{◌≡◌, ◌+◌, ◌-◌, ◌<◌, ◌≤◌, length, map, drop}
use Rattle.std.specs.List.{All}
use Rattle.scan_plans.specs.Scan.{HasPassed}
use Rattle.scan_plans.specs.Window.{AreTakenBack}
use Rattle.topk_pruning.specs.Terms.{AreBefore, AreSpared, FollowsTo}
use Rattle.topk_pruning.proofs.candidates.offer_candidates.Given as goal

abbrev pub invariant-loop-place : goal.invariant-loop-place
invariant-loop-place g l = record {
  lists : map g.C.DocCursor.list l.cursors ≡ map g.C.DocCursor.list l.initial.cursors;
  passed : All (λ c. HasPassed (l.first + length l.initial.scores) (g.C.DocCursor.list c) (g.C.DocCursor.place c)) l.cursors;
  before : AreBefore g.C.DocCursor.list g.C.DocCursor.place (l.first + l.from) (drop l.terms.essential l.terms.all.now) l.cursors;
  taken : AreTakenBack l.from l.initial.scores l.initial.marks l.scores l.marks;
  within : l.from ≤ length l.initial.scores;
  in_range : l.first + l.from ≤ l.initial.top.n;
  k : l.top.k ≡ l.initial.top.k;
  n : l.top.n ≡ l.initial.top.n;
  floor : l.top.floor ≡ l.initial.top.floor;
  above : All (λ e. e.0 < l.first + l.from) l.top.held;
  spared : AreSpared l.initial.top.floor l.initial.top.k l.top.held l.terms.all.now l.terms.essential;
  held : FollowsTo (map g.C.DocCursor.list l.initial.cursors) l.terms.all.now l.initial.top.floor l.initial.top.k l.first (l.first + l.from) l.initial.top.held l.top.held;
}

abbrev pub decreases-loop-place : goal.decreases-loop-place
decreases-loop-place g l = length l.initial.scores - l.from
