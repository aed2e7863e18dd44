use Rattle.std.proofs.Common.{refl, arith}
use Rattle.query_text.proofs.LeadingNumbers.{first-none, first-some}
use Rattle.query_text.proofs.numbers.next_number.Goals as goal

pub returns-in_err-number-clause-first : goal.returns-in_err-number-clause-first
returns-in_err-number-clause-first c =
    rw c.from_residual.ensures (first-none c.args.text.now _ c.leading_spaces.result c.leading_spaces.ensures.count refl c.in_err-number.ensures.number)

pub returns-clause-first : goal.returns-clause-first
returns-clause-first c =
    first-some c.args.text.now _ c.leading_spaces.result c.leading_spaces.ensures.count refl c.in_ok-number.number c.in_ok-number.len _ c.in_ok-number.ensures.number c.in_ok-number.ensures.len
    (omega (arith, c.in_ok-number.ensures.some, c.in_ok-number.ensures.within)) refl
