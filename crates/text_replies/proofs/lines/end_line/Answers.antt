use Rattle.std.proofs.Common.{◌∙◌}
use Rattle.std.proofs.lemmas.Result.{err_from_is_err_and}
use Rattle.text_replies.proofs.Taken.{taken-refused, taken-line}
use Rattle.text_replies.proofs.lines.end_line.Goals as goal

pub returns-in_err-hold : goal.returns-in_err-hold
returns-in_err-hold g c =
    let p = err_from_is_err_and c.from_residual.result c.from_residual.ensures.1 in
    rw (p.1, p.2, c.in_err-hold.ensures) (λ read start h. taken-refused _ _ _ _ _ _ _ h)

pub returns-in_err-answer_line : goal.returns-in_err-answer_line
returns-in_err-answer_line g c =
    let p = err_from_is_err_and c.from_residual-in_err-answer_line.result c.from_residual-in_err-answer_line.ensures.1 in
    rw (p.1, p.2) (λ read start h. taken-line _ _ _ _ _ _ _ _ _ _ h c.requires (c.deref.ensures.value ∙ c.in_ok-hold.ensures) c.in_err-answer_line.ensures tt)

pub returns : goal.returns
returns g c = λ read start h. taken-line _ _ _ _ _ _ _ _ _ _ h c.requires (c.deref.ensures.value ∙ c.in_ok-hold.ensures) c.in_ok-answer_line.ensures c.clear.ensures.items
