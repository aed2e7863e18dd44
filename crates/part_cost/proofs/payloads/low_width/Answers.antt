use Rattle.std.proofs.Common.{◌+◌, sym, arith}
use Rattle.part_cost.proofs.LowWidth.{first-few, low-width-at}
use Rattle.part_cost.proofs.payloads.low_width.Goals as goal

pub returns-then-greatest-low : goal.returns-then-greatest-low
returns-then-greatest-low c =
    let low = c.saturating_sub-low.result in
    let widths = first-few c.args.u c.args.m low (omega arith) (omega arith) (omega (arith, c.saturating_sub-low.ensures, c.digits.ensures, c.digits-2.ensures)) in
    let at = low-width-at c.args.u c.args.m (low + 1) (omega arith) c.requires.in_range (widths.0 c.if-greatest-low.true) in
    record { best = at.1.best; value = sym at.0; within = at.1.within; few = at.1.few }

pub returns-else-greatest-low : goal.returns-else-greatest-low
returns-else-greatest-low c =
    let low = c.saturating_sub-low.result in
    let widths = first-few c.args.u c.args.m low (omega arith) (omega arith) (omega (arith, c.saturating_sub-low.ensures, c.digits.ensures, c.digits-2.ensures)) in
    let at = low-width-at c.args.u c.args.m low (omega arith) c.requires.in_range (widths.1 c.if-greatest-low.false) in
    record { best = at.1.best; value = sym at.0; within = at.1.within; few = at.1.few }
