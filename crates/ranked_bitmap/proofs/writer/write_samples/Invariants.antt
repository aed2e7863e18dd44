use Rattle.std.proofs.Common.{◌≡◌, ℕ, ◌+◌, ◌*◌, ◌≤◌, ◌<◌, List, ◌++◌, length, drop, slice_index}
use Rattle.ranked_bitmap.proofs.Writing.{first_samples}
use Rattle.ranked_bitmap.proofs.writer.write_samples.Given as goal

abbrev pub invariant-loop-j : goal.invariant-loop-j
invariant-loop-j g l = (ys : List ℕ) → g.N.NumberSource.gives l.fn.values ys → record {
  left : g.N.NumberSource.gives l.values (drop l.count ys);
  written : l.to ≡ l.initial.to ++ first_samples g.row.B ys l.u l.j;
  within : l.count ≤ length ys;
  below : (i : ℕ) → i < l.count → slice_index ys i < g.row.B * (l.j + 1);
}
