use Rattle.std.proofs.Common.{◌≡◌, ℕ, ◌+◌, ◌-◌, ◌≤◌, List, length, refl, get_or, ap, sym, subst, arith, ◌∙◌}
use Rattle.bit_words.specs.Bits.{bits_of, IsFirstOne, HasNoOne}
use Rattle.ranked_bitmap.specs.MapView.{Holds}
use Rattle.ranked_bitmap.proofs.Ones.{AreBelow}
use Rattle.ranked_bitmap.proofs.Views.{within-held}
use Rattle.ranked_bitmap.proofs.Following.{IsNumber, next-of-ones}
use Rattle.ranked_bitmap.proofs.Steps.{StepsPassed, none-counted, next-counted, all-passed, none-left, given-next, given-all}
use Rattle.ranked_bitmap.proofs.MapView.steps_into.Given as given
use Rattle.ranked_bitmap.proofs.MapView.steps_into.Goals as goal
use Rattle.ranked_bitmap.proofs.MapView.steps_into.Goals.{In_default, In-Some}

pub ones_from-ones-requires-clause-range : goal.ones_from-ones-requires-clause-range
ones_from-ones-requires-clause-range g c = omega (arith, within-held g.row.B c.args.self.now c.requires.held.0 c.requires.held.1)

pub loop-j-init : goal.loop-j-init
loop-j-init g c =
    let begun = c.ones_from-ones.ensures in
    let v = c.args.self.now in
    record {
      bits = begun.bits;
      end = begun.end;
      reached = begun.at;
      started = omega arith;
      given = λ ys h. refl;
      passed = λ ys h. subst (λ p. (s : StepsPassed ys p 0) × (s.count ≡ 0)) (let e : 0 ≡ v.part.place - v.part.place = omega arith in e) (none-counted ys);
    }

-- so many numbers lie below what is reached
are-below : (g : given.Over) (c : In-Some g) (ys : List ℕ) → Holds g.row.B c.args.self.now ys → AreBelow ys (c.loop-j.ones.at - c.args.self.now.part.place) c.loop-j.j
are-below g c ys h =
    let i = c.loop-j.invariant in
    let passed = i.passed ys h in
    subst (λ p. AreBelow ys (p - c.args.self.now.part.place) c.loop-j.j) (sym i.reached)
    (subst (λ n. AreBelow ys (c.loop-j.past - c.args.self.now.part.place) n) passed.1 passed.0.below)

-- none is missing
none-missing : (g : given.Over) (c : In_default g) (ys : List ℕ) → Holds g.row.B c.args.self.now ys → ⊥
none-missing g c ys h =
    let v = c.args.self.now in
    let i = c.loop-j.invariant in
    let passed = i.passed ys h in
    let end : ℕ = v.part.place + v.part.u in
    let below : AreBelow ys (c.loop-j.ones.at - v.part.place) c.loop-j.j =
    subst (λ p. AreBelow ys (p - v.part.place) c.loop-j.j) (sym i.reached) (subst (λ n. AreBelow ys (c.loop-j.past - v.part.place) n) passed.1 passed.0.below) in
    let none : HasNoOne (bits_of v.part.bits.words.now) c.loop-j.ones.at end = λ q after before.
    ap (λ bits. get_or bits q 0) (sym i.bits) ∙ c.in_default.ensures.none q after (omega (arith, i.end)) in
    let all = none-left g.row.B v ys h c.loop-j.ones.at end c.loop-j.j (omega (arith, i.started, i.reached)) (omega arith) below none in
    omega (arith, all, h.values.count, c.requires.room, c.loop-j.auto.to, c.loop-j-test.true)

pub returns-in_default-clause-step : goal.returns-in_default-clause-step
returns-in_default-clause-step g c = λ ys h. absurd (none-missing g (goal.at.returns-in_default-clause-step g c).In_default ys h)

pub returns-in_default-clause-given : goal.returns-in_default-clause-given
returns-in_default-clause-given g c = λ ys h. absurd (none-missing g (goal.at.returns-in_default-clause-given g c).In_default ys h)

pub loop-j-preserved : goal.loop-j-preserved
loop-j-preserved g c =
    let v = c.args.self.now in
    let so_far = c.loop-j.invariant in
    let found = c.in-Some.ensures in
    let one = c.in-Some.one in
    let end : ℕ = v.part.place + v.part.u in
    let first : IsFirstOne (bits_of v.part.bits.words.now) c.loop-j.ones.at end one =
    subst (λ bits. IsFirstOne bits c.loop-j.ones.at end one) so_far.bits (subst (λ e. IsFirstOne c.loop-j.ones.bits c.loop-j.ones.at e one) so_far.end found.first) in
    let after = first.at_or_after in
    let before = first.before_end in
    let number : (ys : List ℕ) → Holds g.row.B v ys → IsNumber ys c.loop-j.j (one - v.part.place) = λ ys h.
    next-of-ones g.row.B v ys h c.loop-j.ones.at end one c.loop-j.j (omega (arith, so_far.started, so_far.reached)) (omega arith)
    (are-below g (goal.at.loop-j-preserved g c).In-Some ys h) first in
    record {
      bits = found.bits ∙ so_far.bits;
      end = found.end ∙ so_far.end;
      reached = found.behind;
      started = omega (arith, so_far.started, so_far.reached);
      given = λ ys h. given-next ys c.loop-j.to c.args.base c.loop-j.j (one - v.part.place) (omega arith) (number ys h).within (number ys h).is (so_far.given ys h);
      passed = λ ys h.
          let passed = so_far.passed ys h in
          next-counted ys (c.loop-j.past - v.part.place) c.loop-j.most (one - v.part.place) c.max-most.result (one + 1 - v.part.place) c.loop-j.j passed.0 passed.1
          (subst (λ n. IsNumber ys n (one - v.part.place)) (sym passed.1) (number ys h))
          (omega (arith, c.max-most.ensures, so_far.started, so_far.reached)) (omega (arith, so_far.started, so_far.reached));
    }

pub returns-clause-step : goal.returns-clause-step
returns-clause-step g c = λ ys h.
    let passed = c.loop-j.invariant.passed ys h in
    all-passed ys (c.loop-j.past - c.args.self.now.part.place) c.loop-j.most passed.0
    (omega (arith, passed.1, h.values.count, c.requires.room, c.loop-j.auto.to, c.loop-j-test.false))

pub returns-clause-given : goal.returns-clause-given
returns-clause-given g c = λ ys h.
    let all : length c.loop-j.to ≤ c.loop-j.j = omega (arith, c.loop-j-test.false, c.loop-j.auto.to) in
    given-all ys c.loop-j.to c.args.base c.loop-j.j all (omega (arith, all, h.values.count, c.requires.room, c.loop-j.auto.to)) (c.loop-j.invariant.given ys h)
