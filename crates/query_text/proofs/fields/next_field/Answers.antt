use Rattle.std.proofs.Common.{◌∙◌, sym, refl}
use Rattle.query_text.proofs.Runs.{fields-none, fields-first}
use Rattle.query_text.proofs.fields.next_field.Goals as goal

pub returns-then-is_empty-clause-first : goal.returns-then-is_empty-clause-first
returns-then-is_empty-clause-first c =
    fields-none c.args.text.now c.leading_spaces.result c.leading_spaces.ensures.count (sym c.is_empty.ensures ∙ c.if-is_empty.true)

pub returns-clause-first : goal.returns-clause-first
returns-clause-first c =
    fields-first c.args.text.now _ _ _ c.leading_spaces.result c.leading_field.result c.leading_spaces.ensures.count refl (sym c.is_empty.ensures ∙ c.if-is_empty.false) c.leading_field.ensures.count
    c.split_at.ensures.front c.split_at.ensures.back
