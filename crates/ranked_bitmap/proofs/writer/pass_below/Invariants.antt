use Rattle.std.proofs.Common.{ℕ, ◌<◌, List, drop, slice_index}
use Rattle.ranked_bitmap.proofs.writer.pass_below.Given as goal

abbrev pub invariant-loop-count : goal.invariant-loop-count
invariant-loop-count g l = (ys : List ℕ) → g.N.NumberSource.gives l.fn.values ys → record {
  left : g.N.NumberSource.gives l.values (drop l.count ys);
  below : (i : ℕ) → i < l.count → slice_index ys i < l.end;
}
