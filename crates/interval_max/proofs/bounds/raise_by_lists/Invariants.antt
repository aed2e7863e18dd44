use Rattle.std.proofs.Common.{◌≡◌, ℕ, ◌*◌, ◌<◌, ◌≤◌, map, take, length, slice_index}
use Rattle.std.specs.List.{AllWithin, sum_by, sum, zip}
use Rattle.interval_max.specs.Intervals.{greatest_in}
use Rattle.interval_max.proofs.bounds.raise_by_lists.Given as goal

abbrev pub invariant-loop-i : goal.invariant-loop-i
invariant-loop-i g l = record {
  lists : map g.C.DocCursor.list l.cursors ≡ map g.C.DocCursor.list l.initial.cursors;
  start : AllWithin (λ c. g.C.DocCursor.place c ≡ 0) l.cursors l.i (length l.cursors);
  least : (v : ℕ) → v < length l.initial.bounds → sum_by (λ e. e.1 * greatest_in e.0 v) (take l.i (zip (map g.C.DocCursor.list l.initial.cursors) l.weights)) ≤ slice_index l.bounds v;
  most : (v : ℕ) → v < length l.initial.bounds → slice_index l.bounds v ≤ sum (take l.i l.weights) * 4294967295;
}
