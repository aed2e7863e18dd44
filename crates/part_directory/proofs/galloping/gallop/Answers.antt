use Rattle.std.proofs.Common.{◌≡◌, ℕ, ◌+◌, ◌-◌, ◌<◌, ◌≤◌, List, ap, arith}
use Rattle.std.specs.Prelude.{slice_index}
use Rattle.part_cost.specs.Payload.{digits}
use Rattle.part_directory.proofs.Probes.{half-digits, round-next, few-probes, reached-place, before-found}
use Rattle.part_directory.proofs.galloping.gallop.Goals as goal

pub loop-low-preserved : goal.loop-low-preserved
loop-low-preserved g c =
    let i = c.loop-low.invariant in
    let e = c.falls_short.ensures in
    let xs : List ℕ = g.D.Lasts.lasts c.args.d.now in
    let high : ℕ = c.loop-low.high in
    let short = e.short c.loop-low-test.true in
    let probe = i.probe short.0 in
    let count = c.parts-count.ensures in
    let least = c.min.ensures in
    let small : slice_index xs (high + 1 - 1) < c.args.x = omega (arith, short.1, ap (slice_index xs) (let k : high + 1 - 1 ≡ high = omega arith in k)) in
    let more = half-digits (high + 1 - c.args.from) (c.loop-low.low - c.args.from) (omega (arith, i.after, i.up)) (omega (arith, i.after, i.up, probe)) (omega (arith, short.0, count, c.parts-count.type_inv)) in
    let round : digits (high + 1 - c.args.from - 1) + 1 ≤ digits (high + 1 - c.args.from) =
    round-next (c.loop-low.low - c.args.from) (high + 1 - c.args.from) (omega (arith, i.after, i.up, probe)) (omega (arith, short.0, count, c.parts-count.type_inv)) (λ some. i.round (omega (arith, some))) in
    record {
      after = omega (arith, i.after, i.up);
      up = omega arith;
      near = omega (arith, least, i.after, i.up);
      within = omega (arith, least, short.0, count);
      probe = λ lt. omega (arith, least, lt, short.0, count, i.after, i.up);
      before = λ lt. small;
      counted = omega (arith, i.counted, e.counted);
      bounded = omega (arith, i.bounded, e.bounded, more);
      round = λ lt. round;
    }

pub loop-low-init : goal.loop-low-init
loop-low-init g c = record {
  after = omega arith;
  up = omega arith;
  near = omega arith;
  within = c.requires;
  probe = λ lt. omega arith;
  before = λ lt. absurd (omega (arith, lt));
  counted = omega arith;
  bounded = omega arith;
  round = λ lt. absurd (omega (arith, lt));
}

pub halve-requires-clause-reached : goal.halve-requires-clause-reached
halve-requires-clause-reached g c = c.falls_short.ensures.reached c.loop-low-test.false

pub returns-clause-first : goal.returns-clause-first
returns-clause-first g c =
    let xs : List ℕ = g.D.Lasts.lasts c.args.d.now in
    reached-place xs (g.met.D.Lasts.rising c.args.d.now) c.args.from c.halve.result c.args.x (omega (arith, c.loop-low.invariant.after, c.halve.ensures.after)) (omega (arith, c.halve.ensures.within, c.loop-low.invariant.within))
    (before-found xs c.args.from c.loop-low.low c.halve.result c.args.x c.halve.ensures.after c.loop-low.invariant.before c.halve.ensures.before) c.halve.ensures.reached

pub returns-clause-bounded : goal.returns-clause-bounded
returns-clause-bounded g c =
    few-probes _ c.falls_short.new.probes c.halve.new.probes c.args.from c.loop-low.low c.loop-low.high c.halve.result c.loop-low.invariant.after c.loop-low.invariant.up c.loop-low.invariant.near c.halve.ensures.after (omega (arith, c.halve.type_inv)) c.loop-low.invariant.round
    (omega (arith, c.loop-low.invariant.bounded, c.falls_short.ensures.bounded)) c.halve.ensures.bounded
