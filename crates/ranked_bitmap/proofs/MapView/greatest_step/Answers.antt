use Rattle.std.proofs.Common.{◌≡◌, ℕ, ◌+◌, ◌-◌, length, get_or, ap, sym, subst, arith, ◌∙◌, inl, inr}
use Rattle.bit_words.specs.Bits.{bits_of, IsFirstOne, HasNoOne}
use Rattle.std.proofs.lemmas.Bool.{cases_lt}
use Rattle.ranked_bitmap.proofs.Views.{within-held, number-below}
use Rattle.ranked_bitmap.proofs.Following.{IsNumber, next-of-ones, none-of-ones}
use Rattle.ranked_bitmap.proofs.Ones.{AreBelow}
use Rattle.ranked_bitmap.proofs.Steps.{StepsPassed, next-passed, all-passed}
use Rattle.ranked_bitmap.proofs.MapView.greatest_step.Goals as goal

pub ones_from-ones-requires-clause-range : goal.ones_from-ones-requires-clause-range
ones_from-ones-requires-clause-range g c = omega (arith, within-held g.row.B c.args.self.now c.requires.held.0 c.requires.held.1)

pub ones-preserved : goal.ones-preserved
ones-preserved g c =
    let v = c.args.self.now in
    let so_far = c.ones.invariant in
    let found = c.in-Some.ensures in
    let one = c.in-Some.one in
    let end : ℕ = v.part.place + v.part.u in
    let first : IsFirstOne (bits_of v.part.bits.words.now) c.ones.ones.at end one =
    subst (λ bits. IsFirstOne bits c.ones.ones.at end one) so_far.bits (subst (λ e. IsFirstOne c.ones.ones.bits c.ones.ones.at e one) so_far.end found.first) in
    let after = first.at_or_after in
    let before = first.before_end in
    record {
      bits = found.bits ∙ so_far.bits;
      end = found.end ∙ so_far.end;
      reached = found.behind;
      started = omega (arith, so_far.started, so_far.reached);
      passed = λ ys h.
          let passed = so_far.passed ys h in
          let below : AreBelow ys (c.ones.ones.at - v.part.place) passed.count = subst (λ p. AreBelow ys (p - v.part.place) passed.count) (sym so_far.reached) passed.below in
          let number : IsNumber ys passed.count (one - v.part.place) =
          next-of-ones g.row.B v ys h c.ones.ones.at end one passed.count (omega (arith, so_far.started, so_far.reached)) (omega arith) below first in
          subst (λ p. StepsPassed ys p c.max-most.result) (let e : one - v.part.place + 1 ≡ one + 1 - v.part.place = omega (arith, so_far.started, so_far.reached) in e)
          (next-passed ys (c.ones.past - v.part.place) c.ones.most (one - v.part.place) c.max-most.result passed number
          (omega (arith, c.max-most.ensures, so_far.started, so_far.reached)));
    }

pub returns : goal.returns
returns g c = λ ys h.
    let v = c.args.self.now in
    let passed = c.ones.invariant.passed ys h in
    let end : ℕ = v.part.place + v.part.u in
    let none : HasNoOne (bits_of v.part.bits.words.now) c.ones.ones.at end = λ q after before.
    ap (λ bits. get_or bits q 0) (sym c.ones.invariant.bits) ∙ c.in_default.ensures.none q after (omega (arith, c.ones.invariant.end)) in
    let below : AreBelow ys (c.ones.ones.at - v.part.place) passed.count = subst (λ p. AreBelow ys (p - v.part.place) passed.count) (sym c.ones.invariant.reached) passed.below in
    all-passed ys (c.ones.past - v.part.place) c.ones.most passed
    (elim (cases_lt passed.count (length ys)) [
      | inl more ↦
          let behind = none-of-ones g.row.B v ys h c.ones.ones.at end passed.count (omega (arith, c.ones.invariant.started, c.ones.invariant.reached)) below none more in
          absurd (omega (arith, behind, number-below g.row.B v ys h passed.count (omega (arith, h.values.count))))
      | inr all ↦ all
    ])
