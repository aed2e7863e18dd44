use Rattle.std.proofs.Common.{◌≡◌, ◌+◌, suc, ap, take, arith}
use Rattle.segments.specs.Totals.{total_of}
use Rattle.index_reading.specs.JoinedSegments.{collections_in}
use Rattle.index_reading.proofs.Joining.{total-more, total-all}
use Rattle.index_reading.proofs.joined.passing_segment.Goals as goal

pub returns-then-total-gt-MOST_TOTAL : goal.returns-then-total-gt-MOST_TOTAL
returns-then-total-gt-MOST_TOTAL c =
    let so_far = c.loop-s.invariant in
    let step = total-more c.args.segments.now c.args.term c.loop-s.s c.loop-s.total c.total-total.result c.index-segments-s.result c.loop-s-test.true c.index-segments-s.is c.total-total.ensures.value so_far.0 in
    let next : suc c.loop-s.s ≡ c.loop-s.s + 1 = omega arith in
    let on = ap (λ k. total_of (take k (collections_in c.args.segments.now)) c.args.term) next in
    (omega (arith, so_far.0, so_far.1), omega (arith, step, on, c.if-total-gt-MOST_TOTAL.true))

pub loop-s-preserved : goal.loop-s-preserved
loop-s-preserved c =
    let so_far = c.loop-s.invariant in (
      total-more c.args.segments.now c.args.term c.loop-s.s c.loop-s.total c.total-total.result c.index-segments-s.result c.loop-s-test.true c.index-segments-s.is c.total-total.ensures.value so_far.0,
      omega (arith, c.if-total-gt-MOST_TOTAL.false),
    )

pub returns : goal.returns
returns c =
    let so_far = c.loop-s.invariant in
    omega (arith, so_far.0, so_far.1, total-all c.args.segments.now c.args.term c.loop-s.s (omega (arith, c.loop-s-test.false)))
