use Rattle.std.proofs.Common.{◌<◌, map}
use Rattle.topk_pruning.proofs.Near.{AreSetTo}
use Rattle.topk_pruning.proofs.ceilings.bound_each.Given as goal

abbrev pub invariant-loop-place : goal.invariant-loop-place
invariant-loop-place g l = record {
  later : l.first < l.reach;
  so_far : AreSetTo (map g.C.DocCursor.list l.cursors) l.terms l.first l.reach l.place l.near;
}
