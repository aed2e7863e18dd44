use Rattle.std.proofs.Common.{◌≡◌, ◌*◌, ◌≤◌}
use Rattle.std.specs.Prelude.{sum_by}
use Rattle.std.specs.List.{range_with_len}
use Rattle.index_file.specs.PackedView.{size_at}
use Rattle.index_file.proofs.totals.all_sizes.Given as goal

abbrev pub invariant-loop-d : goal.invariant-loop-d
invariant-loop-d l = record {
  so_far : l.total ≡ sum_by (size_at l.words l.fn.first) (range_with_len 0 l.d);
  few : l.total ≤ 4294967295 * l.d;
}
