use Rattle.std.proofs.Common.{◌≡◌, ℕ, ◌+◌, ◌-◌, ◌≤◌, List, length, refl, get_or, ap, sym, subst, arith, ◌∙◌}
use Rattle.bit_words.specs.Bits.{bits_of, IsFirstOne, HasNoOne}
use Rattle.ranked_bitmap.specs.MapView.{Holds}
use Rattle.ranked_bitmap.proofs.Ones.{AreBelow}
use Rattle.ranked_bitmap.proofs.Views.{within-held}
use Rattle.ranked_bitmap.proofs.Following.{IsNumber, next-of-ones}
use Rattle.ranked_bitmap.proofs.Steps.{none-left, given-next, given-all}
use Rattle.ranked_bitmap.proofs.MapView.numbers_into.Goals as goal

pub ones_from-ones-requires-clause-range : goal.ones_from-ones-requires-clause-range
ones_from-ones-requires-clause-range g c = omega (arith, within-held g.row.B c.args.self.now c.requires.held.0 c.requires.held.1)

pub loop-j-init : goal.loop-j-init
loop-j-init g c =
    let begun = c.ones_from-ones.ensures in
    record {
      bits = begun.bits;
      end = begun.end;
      started = omega (arith, begun.at);
      given = λ ys h. refl;
      passed = λ ys h. record {
        fit = omega arith;
        below = λ k lt. absurd (omega arith);
        above = λ k more within. omega (arith, begun.at);
      };
    }

pub returns-in_default : goal.returns-in_default
returns-in_default g c = λ ys h.
    let v = c.args.self.now in
    let i = c.loop-j.invariant in
    let end : ℕ = v.part.place + v.part.u in
    let none : HasNoOne (bits_of v.part.bits.words.now) c.loop-j.ones.at end = λ q after before.
    ap (λ bits. get_or bits q 0) (sym i.bits) ∙ c.in_default.ensures.none q after (omega (arith, i.end)) in
    let all = none-left g.row.B v ys h c.loop-j.ones.at end c.loop-j.j i.started (omega arith) (i.passed ys h) none in
    absurd (omega (arith, all, h.values.count, c.requires.room, c.loop-j.auto.to, c.loop-j-test.true))

pub loop-j-preserved : goal.loop-j-preserved
loop-j-preserved g c =
    let v = c.args.self.now in
    let so_far = c.loop-j.invariant in
    let found = c.in-Some.ensures in
    let one = c.in-Some.one in
    let end : ℕ = v.part.place + v.part.u in
    let first : IsFirstOne (bits_of v.part.bits.words.now) c.loop-j.ones.at end one =
    subst (λ bits. IsFirstOne bits c.loop-j.ones.at end one) so_far.bits (subst (λ e. IsFirstOne c.loop-j.ones.bits c.loop-j.ones.at e one) so_far.end found.first) in
    let after = first.at_or_after in
    let before = first.before_end in
    let number : (ys : List ℕ) → Holds g.row.B v ys → IsNumber ys c.loop-j.j (one - v.part.place) = λ ys h.
    next-of-ones g.row.B v ys h c.loop-j.ones.at end one c.loop-j.j so_far.started (omega arith) (so_far.passed ys h) first in
    record {
      bits = found.bits ∙ so_far.bits;
      end = found.end ∙ so_far.end;
      started = omega (arith, found.behind, so_far.started);
      given = λ ys h. given-next ys c.loop-j.to c.args.base c.loop-j.j (one - v.part.place) (omega arith) (number ys h).within (number ys h).is (so_far.given ys h);
      passed = λ ys h.
          subst (λ i. AreBelow ys i (c.loop-j.j + 1)) (let e : one - v.part.place + 1 ≡ c.next.new.self.at - v.part.place = omega (arith, found.behind, so_far.started) in e)
          (number ys h).passed;
    }

pub returns : goal.returns
returns g c = λ ys h.
    let all : length c.loop-j.to ≤ c.loop-j.j = omega (arith, c.loop-j-test.false, c.loop-j.auto.to) in
    given-all ys c.loop-j.to c.args.base c.loop-j.j all (omega (arith, all, h.values.count, c.requires.room, c.loop-j.auto.to)) (c.loop-j.invariant.given ys h)
