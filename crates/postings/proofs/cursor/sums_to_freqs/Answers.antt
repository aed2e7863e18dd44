use Rattle.std.proofs.Common.{◌≡◌, ◌+◌, length, ap, ◌∙◌, arith}
use Rattle.part_cost.specs.Span.{past}
use Rattle.postings.proofs.Blocks.{none-turned, sum-turned, one-turned}
use Rattle.postings.proofs.cursor.sums_to_freqs.Goals as goal

pub loop-j-init : goal.loop-j-init
loop-j-init c = λ all from are. none-turned all c.args.sums.now from c.args.past are

pub overflow_add-next : goal.overflow_add-next
overflow_add-next c =
    let h = c.requires.sums in
    omega (arith, (sum-turned h.0 c.args.sums.now c.loop-j.sums h.1 c.loop-j.j c.args.past c.loop-j.past h.2 (c.loop-j.invariant h.0 h.1 h.2) c.loop-j.auto.sums (omega arith)).1)

pub overflow_sub-sums : goal.overflow_sub-sums
overflow_sub-sums c =
    let h = c.requires.sums in
    (sum-turned h.0 c.args.sums.now c.loop-j.sums h.1 c.loop-j.j c.args.past c.loop-j.past h.2 (c.loop-j.invariant h.0 h.1 h.2) c.loop-j.auto.sums (omega arith)).0.forward

pub loop-j-preserved : goal.loop-j-preserved
loop-j-preserved c = λ all from are.
    one-turned all c.args.sums.now c.loop-j.sums from c.loop-j.j c.args.past c.loop-j.past are (c.loop-j.invariant all from are) c.loop-j.auto.sums (omega arith)

pub returns-clause-freqs : goal.returns-clause-freqs
returns-clause-freqs c = λ all from are j lt. (c.loop-j.invariant all from are).done j (omega arith)

pub returns-clause-past : goal.returns-clause-past
returns-clause-past c = λ all from are. (c.loop-j.invariant all from are).before ∙ ap (λ k. past all (from + k)) (let e : c.loop-j.j ≡ length c.args.sums.now = omega arith in e)
