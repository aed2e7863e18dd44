use Rattle.std.proofs.Common.{rules, arith}
use Rattle.std.proofs.lemmas.Bool.{eq-eqb}
use Rattle.query_text.proofs.LeadingNumbers.{run-ends, run-spells, run-refused}
use Rattle.query_text.proofs.numbers.leading_number.Goals as goal
use Rattle.query_text.proofs.numbers.leading_number.Goals.{then-loop-len-test+else-text-len-ne32, else-loop-len-test}

pub returns-in_err-value-clause-number : goal.returns-in_err-value-clause-number
returns-in_err-value-clause-number c =
    rw c.from_residual.ensures (run-refused c.args.text.now c.loop-len.value c.loop-len.len c.loop-len.invariant (search rules) (search rules) (search rules))

pub returns-clause-len : goal.returns-clause-len
returns-clause-len c =
    run-ends c.args.text.now c.loop-len.value c.loop-len.len c.loop-len.invariant
    (λ lt. elim c.loop-len-test.branch [ then-loop-len-test+else-text-len-ne32 w ↦ eq-eqb _ _ (search rules) | else-loop-len-test w ↦ absurd (omega (arith, lt, w.loop-len-test.false)) ])

pub returns-clause-number : goal.returns-clause-number
returns-clause-number c = run-spells c.args.text.now c.loop-len.value c.loop-len.len c.loop-len.invariant (returns-clause-len c) (search rules)
