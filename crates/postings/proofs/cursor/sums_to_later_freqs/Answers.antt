use Rattle.std.proofs.Common.{◌≡◌, ◌+◌, length, ap, ◌∙◌, arith}
use Rattle.part_cost.specs.Span.{past}
use Rattle.postings.proofs.Blocks.{none-later, sum-later, one-later, sum-small}
use Rattle.postings.proofs.cursor.sums_to_later_freqs.Goals as goal

pub overflow_add-past : goal.overflow_add-past
overflow_add-past c =
    let h = c.requires.sums in
    omega (arith, sum-small h.0 c.args.sums.now h.1 h.2 h.3 (omega (arith, c.requires.some)))

pub loop-j-init : goal.loop-j-init
loop-j-init c = λ all from past are. none-later all c.args.sums.now from past are (omega (arith, c.requires.some))

pub overflow_add-next-in-loop-j : goal.overflow_add-next-in-loop-j
overflow_add-next-in-loop-j c =
    let h = c.requires.sums in
    omega (arith, (sum-later h.0 c.args.sums.now c.loop-j.sums h.1 c.loop-j.j h.2 c.loop-j.past h.3 (c.loop-j.invariant h.0 h.1 h.2 h.3) c.loop-j.auto.sums (omega arith)).1)

pub overflow_sub-sums : goal.overflow_sub-sums
overflow_sub-sums c =
    let h = c.requires.sums in
    (sum-later h.0 c.args.sums.now c.loop-j.sums h.1 c.loop-j.j h.2 c.loop-j.past h.3 (c.loop-j.invariant h.0 h.1 h.2 h.3) c.loop-j.auto.sums (omega arith)).0.forward

pub loop-j-preserved : goal.loop-j-preserved
loop-j-preserved c = λ all from past are.
    one-later all c.args.sums.now c.loop-j.sums from c.loop-j.j past c.loop-j.past are (c.loop-j.invariant all from past are) c.loop-j.auto.sums (omega arith)

pub returns-clause-freqs : goal.returns-clause-freqs
returns-clause-freqs c = λ all from past are j lt. (c.loop-j.invariant all from past are).done j (omega arith)

pub returns-clause-past : goal.returns-clause-past
returns-clause-past c = λ all from past_it are. (c.loop-j.invariant all from past_it are).before ∙ ap (past all) (let e : from + c.loop-j.j + 1 ≡ from + length c.args.sums.now = omega (arith, c.requires.some) in e)
