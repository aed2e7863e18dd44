use Rattle.std.proofs.Common.{rules, ◌∙◌, sym, arith}
use Rattle.query_text.proofs.Decimals.{number-whole}
use Rattle.query_text.proofs.LeadingNumbers.{number-refused}
use Rattle.query_text.proofs.numbers.number.Goals as goal

pub returns-in_err-value : goal.returns-in_err-value
returns-in_err-value c =
    c.from_residual.ensures ∙ number-refused c.args.field.now c.loop-byte.value c.loop-byte.byte-index (omega arith) c.loop-byte.invariant.spells (search rules)

pub returns : goal.returns
returns c =
    number-whole c.args.field.now c.loop-byte.byte-index c.loop-byte.value c.loop-byte-test.false (sym c.is_empty.ensures ∙ c.if-is_empty.false) c.loop-byte.invariant.digits c.loop-byte.invariant.spells
    c.loop-byte.invariant.fits
