use Rattle.std.proofs.Common.{◌≡◌, ◌+◌, ◌∙◌, sym, ap, subst, arith}
use Rattle.std.proofs.lemmas.Nat.Bits.{bit_at_ones}
use Rattle.std.proofs.lemmas.Bool.{eq-eqb}
use Rattle.std.specs.Int.{bit_at}
use Rattle.collection_model.specs.Marks.{has_number}
use Rattle.part_codec.specs.Forms.{HoldsIn}
use Rattle.part_codec.proofs.Kept.{has-ones}
use Rattle.part_codec.proofs.views.PartView.word_from.Goals as goal

pub returns-else-saturating_sub-lt64-clause-some :
    goal.returns-else-saturating_sub-lt64-clause-some
returns-else-saturating_sub-lt64-clause-some c ys h k lt =
    ap (has_number (c.args.from + k)) (subst (λ f. HoldsIn f ys) c.in-Ones.is h)
    ∙ has-ones c.in-Ones.ones.u (c.args.from + k) (omega (arith, lt, c.if-saturating_sub-lt64.false, c.saturating_sub.ensures))
    ∙ sym (eq-eqb (bit_at 18446744073709551615 k) 1 (bit_at_ones 64 k lt))
