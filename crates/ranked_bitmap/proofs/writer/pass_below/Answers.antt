use Rattle.std.proofs.Common.{◌+◌, ◌<◌, length, drop, get_or, below_more, arith}
use Rattle.number_source.proofs.Given.{gives-next}
use Rattle.ranked_bitmap.proofs.writer.pass_below.Goals as goal

pub take-requires : goal.take-requires
take-requires g c =
    let ys = c.requires.0 in
    let h = c.requires.1 in
    let k = c.loop-count.count in
    let lt : k < length ys = omega (arith, c.left-left.ensures ys h) in
    record { some = (get_or ys k 0, drop (k + 1) ys, gives-next g.N.NumberSource.gives c.loop-count.values ys k lt (c.loop-count.invariant ys h).left) }

pub loop-count-preserved : goal.loop-count-preserved
loop-count-preserved g c = λ ys h.
    let k = c.loop-count.count in
    let lt : k < length ys = omega (arith, c.left-left.ensures ys h) in
    let taken = c.take.ensures (get_or ys k 0) (drop (k + 1) ys) (gives-next g.N.NumberSource.gives c.loop-count.values ys k lt (c.loop-count.invariant ys h).left) in
    record { left = taken.1; below = below_more _ _ (c.loop-count.invariant ys h).below (omega (arith, taken.0)) }
