use Rattle.std.proofs.Common.{sym, ◌∙◌, ap, arith}
use Rattle.part_codec.specs.Forms.{all_ones}
use Rattle.part_codec.proofs.Parts.{all_taken, ones-held, held-ones}
use Rattle.part_codec.proofs.views.form_of.Goals as goal

pub returns-in-Ones-clause-m : goal.returns-in-Ones-clause-m
returns-in-Ones-clause-m c = c.at.ensures ∙ sym (all_taken c.args.part.u c.args.part.m (sym c.kind.ensures ∙ c.in-Ones.is))

pub returns-in-Ones-clause-part : goal.returns-in-Ones-clause-part
returns-in-Ones-clause-part c ys = (
  λ h. ones-held _ _ _ _ ys (sym c.kind.ensures ∙ c.in-Ones.is) (omega (arith, c.args.part.some, c.args.part.fit)) (h ∙ ap all_ones c.at.ensures),
  λ h. held-ones _ _ _ _ ys (sym c.kind.ensures ∙ c.in-Ones.is) h ∙ ap all_ones (sym c.at.ensures),
)
