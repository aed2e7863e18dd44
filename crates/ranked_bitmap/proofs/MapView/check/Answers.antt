use Rattle.std.proofs.Common.{arith, refl, sym, ◌∙◌}
use Rattle.std.proofs.lemmas.Bool.{eq-eqb, eqb-true}
use Rattle.ranked_bitmap.proofs.Views.{within-held, checked-holds, held-all, held-last, held-samples}
use Rattle.ranked_bitmap.proofs.MapView.check.Goals as goal

pub returns-then-self-len : goal.returns-then-self-len
returns-then-self-len g c = (
  λ e. cc,
  λ held.
      absurd (omega (arith, within-held g.row.B c.args.self.now held.0 held.1, c.len.ensures, c.if-self-len.true)),
)

pub returns-then-not-bit : goal.returns-then-not-bit
returns-then-not-bit g c = (
  λ e. cc,
  λ held.
      c.if-not-bit.ensures.1 (held-last g.row.B c.args.self.now held.0 held.1),
)

pub returns-in-Some : goal.returns-in-Some
returns-in-Some g c = (
  λ same.
      checked-holds g.row.B c.args.self.now (omega (arith, c.len.ensures, c.if-self-len.false))
      (sym c.in-Some.ensures.some ∙ eqb-true c.in-Some.count c.args.self.now.part.m same) (c.if-not-bit.ensures.0 refl) c.in-Some.ensures.sampled,
  λ held.
      eq-eqb c.in-Some.count c.args.self.now.part.m (c.in-Some.ensures.some ∙ held-all g.row.B c.args.self.now held.0 held.1),
)

pub returns-in-None : goal.returns-in-None
returns-in-None g c = (
  λ e. cc,
  λ held.
      absurd (c.in-None.ensures.none (held-samples c.digits_hold.ensures.hold g.row.B c.args.self.now held.0 held.1)),
)
