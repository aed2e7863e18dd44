use Rattle.std.proofs.Common.{◌≡◌, ◌+◌, ◌<◌, ◌-◌, ◌^◌, drop, length, slice_index, arith, ap, ◌∙◌}
use Rattle.part_cost.specs.Payload.{widest_low}
use Rattle.part_cost.specs.Partition.{cost_from, partition_cost}
use Rattle.two_level.specs.SequenceView.{start_of_part}
use Rattle.index_file.specs.Measures.{Measure, Payload, counted, measure_at, measure_of_part}
use Rattle.index_file.proofs.Measured.{every, part-rises, part-begins, cost-next}
use Rattle.index_file.proofs.measures.of_sequence.Goals as goal
use Rattle.index_file.proofs.measures.of_sequence.Goals.{After-of_part}

pub of_part-requires-clause-some : goal.of_part-requires-clause-some
of_part-requires-clause-some c =
    let v = c.args.sequence.now in
    let i = c.loop-i.i in
    let lt : c.loop-i.i < length c.args.sequence.now.ends = omega (arith, c.parts-i-end.ensures) in
    let rises = part-rises 0 (length v.values) v.ends (c.requires.measured Payload).partition i (start_of_part v.ends i) lt (part-begins v.ends i) in
    omega (arith, rises.0, c.part.ensures.start, c.part.ensures.end)

pub of_part-requires-clause-fit : goal.of_part-requires-clause-fit
of_part-requires-clause-fit c =
    let v = c.args.sequence.now in
    let i = c.loop-i.i in
    let lt : c.loop-i.i < length c.args.sequence.now.ends = omega (arith, c.parts-i-end.ensures) in
    let rises = part-rises 0 (length v.values) v.ends (c.requires.measured Payload).partition i (start_of_part v.ends i) lt (part-begins v.ends i) in
    let room = c.part_is_relative.ensures.room v.values (c.requires.measured Payload).rising c.part.result.from c.part.result.to
    (omega (arith, rises.0, c.part.ensures.start, c.part.ensures.end)) (omega (arith, rises.1, c.part.ensures.end)) in
    omega (arith, room, c.part.ensures.universe_of_part)

pub of_part-requires-clause-in_range : goal.of_part-requires-clause-in_range
of_part-requires-clause-in_range c =
    let v = c.args.sequence.now in
    let i = c.loop-i.i in
    let lt : c.loop-i.i < length c.args.sequence.now.ends = omega (arith, c.parts-i-end.ensures) in
    let rises = part-rises 0 (length v.values) v.ends (c.requires.measured Payload).partition i (start_of_part v.ends i) lt (part-begins v.ends i) in
    let within = c.part_is_relative.ensures.within (2 ^ widest_low) v.values (c.requires.measured Payload).below c.part.result.from c.part.result.to
    (omega (arith, rises.0, c.part.ensures.start, c.part.ensures.end)) (omega (arith, rises.1, c.part.ensures.end)) in
    omega (arith, within, c.part.ensures.universe_of_part)

-- what the part adds to each measure
added : (c : After-of_part) (m : Measure)
    → counted c.of_part.result m ≡ measure_of_part m c.args.sequence.now.values (start_of_part c.args.sequence.now.ends c.loop-i.i) (slice_index c.args.sequence.now.ends c.loop-i.i)
added c m =
    let v = c.args.sequence.now in
    let i = c.loop-i.i in
    let part = c.part.result in
    let a = c.of_part.ensures in
    every c.of_part.result (λ x. measure_at x c.part.result.u (c.part.result.to - c.part.result.from)) a.ones a.bitmaps a.efs a.bits m
    ∙ ap (λ u. measure_at m u (part.to - part.from)) c.part.ensures.universe_of_part
    ∙ ap (λ x. measure_of_part m v.values x part.to) c.part.ensures.start
    ∙ ap (measure_of_part m v.values (start_of_part v.ends i)) c.part.ensures.end

-- what was counted, with the part
so_far : (c : After-of_part) (m : Measure) → counted c.loop-i.total m + counted c.of_part.result m + cost_from (measure_of_part m c.args.sequence.now.values) (start_of_part c.args.sequence.now.ends (c.loop-i.i + 1)) (drop (c.loop-i.i + 1) c.args.sequence.now.ends)
    ≡ partition_cost (measure_of_part m c.args.sequence.now.values) c.args.sequence.now.ends
so_far c m =
    let v = c.args.sequence.now in
    let i = c.loop-i.i in
    let lt : c.loop-i.i < length c.args.sequence.now.ends = omega (arith, c.parts-i-end.ensures) in
    omega (arith, c.loop-i.invariant m, cost-next (measure_of_part m v.values) v.ends i lt, added c m)

pub plus-total-requires : goal.plus-total-requires
plus-total-requires c = record {
  small = λ m. omega (arith, so_far (goal.at.plus-total-requires c).After-of_part m, (c.requires.measured m).small);
}

pub loop-i-preserved : goal.loop-i-preserved
loop-i-preserved c m = omega (arith, so_far (goal.at.loop-i-preserved c).After-of_part m, c.plus-total.ensures m)
