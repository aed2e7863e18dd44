use Rattle.std.proofs.Common.{arith, rules, Fits, w32}
use Rattle.index_file.specs.PackedView.{size_at}
use Rattle.index_file.proofs.Sums.{sum-next}
use Rattle.index_file.proofs.totals.all_sizes.Goals as goal

pub loop-d-preserved : goal.loop-d-preserved
loop-d-preserved c =
    let small : Fits w32 c.size_at.result = search rules in
    record {
      so_far = omega (arith, c.loop-d.invariant.so_far, c.from-total.ensures, c.size_at.ensures, sum-next (size_at c.args.words.now c.args.first) c.loop-d.d);
      few = omega (arith, c.loop-d.invariant.few, c.from-total.ensures, small);
    }
