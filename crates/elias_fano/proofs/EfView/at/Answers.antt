use Rattle.std.proofs.Common.{◌*◌, ◌^◌, ◌≤◌, subst, sym}
use Rattle.elias_fano.proofs.LowFields.{short}
use Rattle.elias_fano.proofs.EfView.at.Goals as goal

pub invariant_of-result : goal.invariant_of-result
invariant_of-result g c =
    let p = c.args.part in
    record {
      spacing = c.requires.spacing;
      low_is = c.low_width-low.ensures.value;
      narrow = c.low_width-low.ensures.within;
      short = subst (λ n. p.m * 2 ^ n ≤ p.u) (sym c.low_width-low.ensures.value) (short c.low_width_is_best.ensures p.u p.m p.some p.fit p.in_range);
    }
