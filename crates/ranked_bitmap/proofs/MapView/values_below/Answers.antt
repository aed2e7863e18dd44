use Rattle.std.proofs.Common.{◌≡◌, ℕ, ◌+◌, ◌-◌, ◌<◌, List, get_or, ap, sym, subst, arith, ◌∙◌}
use Rattle.bit_words.specs.Bits.{bits_of, IsFirstOne, HasNoOne}
use Rattle.collection_model.proofs.NextBelow.{given-none, given-more, given-all}
use Rattle.ranked_bitmap.proofs.Ones.{AreBelow}
use Rattle.ranked_bitmap.proofs.Views.{within-held, number-below}
use Rattle.ranked_bitmap.proofs.Following.{IsNumber, below-number, next-of-ones, none-of-ones}
use Rattle.ranked_bitmap.specs.MapView.{Holds}
use Rattle.ranked_bitmap.proofs.MapView.values_below.Goals as goal

pub overflow_add-self : goal.overflow_add-self
overflow_add-self g c =
    omega (arith, c.requires.number c.requires.held.0 c.requires.held.1, number-below g.row.B c.args.self.now c.requires.held.0 c.requires.held.1 c.args.k (omega arith), c.args.self.now.part.in_range, c.args.self.now.part.placed, c.args.self.now.part.few_words)

pub ones_from-ones-requires-clause-ordered : goal.ones_from-ones-requires-clause-ordered
ones_from-ones-requires-clause-ordered g c =
    omega (arith, c.requires.number c.requires.held.0 c.requires.held.1, number-below g.row.B c.args.self.now c.requires.held.0 c.requires.held.1 c.args.k (omega arith), c.max.ensures, c.min-end.ensures)

pub ones_from-ones-requires-clause-range : goal.ones_from-ones-requires-clause-range
ones_from-ones-requires-clause-range g c = omega (arith, within-held g.row.B c.args.self.now c.requires.held.0 c.requires.held.1, c.min-end.ensures)

pub loop-j-init : goal.loop-j-init
loop-j-init g c =
    let begun = c.ones_from-ones.ensures in
    let at = c.ones_from-ones.result.at in
    let number : at - c.args.self.now.part.place ≡ c.args.number = omega (arith, begun.at) in
    record {
      bits = begun.bits;
      end = begun.end;
      started = omega (arith, begun.at);
      given = λ ys h. given-none ys c.args.k c.args.x c.args.to.now;
      passed = λ ys h.
          subst (λ i. AreBelow ys (at - c.args.self.now.part.place) i) (let e : c.args.k ≡ c.args.k + 0 = omega arith in e)
          (below-number g.row.B c.args.self.now ys h c.args.k (at - c.args.self.now.part.place) (omega arith) (number ∙ c.requires.number ys h));
    }

pub returns-in_default-clause-values : goal.returns-in_default-clause-values
returns-in_default-clause-values g c ys h =
    let end : ℕ = c.args.self.now.part.place + c.min-end.result in
    let none : HasNoOne (bits_of c.args.self.now.part.bits.words.now) c.loop-j.ones.at end = λ q after before.
    ap (λ bits. get_or bits q 0) (sym c.loop-j.invariant.bits) ∙ c.in_default.ensures.none q after (omega (arith, c.loop-j.invariant.end)) in
    given-all ys c.args.k c.args.x c.loop-j.to c.loop-j.j (c.loop-j.invariant.given ys h) (omega arith) (c.loop-j.invariant.passed ys h).fit
    (λ room more.
    let behind = none-of-ones g.row.B c.args.self.now ys h c.loop-j.ones.at end (c.args.k + c.loop-j.j) (omega (arith, c.loop-j.invariant.started)) (c.loop-j.invariant.passed ys h) none more in
    omega (arith, behind, number-below g.row.B c.args.self.now ys h (c.args.k + c.loop-j.j) (omega (arith, h.values.count)), c.max.ensures, c.min-end.ensures))

pub loop-j-preserved : goal.loop-j-preserved
loop-j-preserved g c =
    let v = c.args.self.now in
    let so_far = c.loop-j.invariant in
    let found = c.in-Some.ensures in
    let one = c.in-Some.one in
    let end : ℕ = v.part.place + c.min-end.result in
    let first : IsFirstOne (bits_of v.part.bits.words.now) c.loop-j.ones.at end one =
    subst (λ bits. IsFirstOne bits c.loop-j.ones.at end one) so_far.bits (subst (λ e. IsFirstOne c.loop-j.ones.bits c.loop-j.ones.at e one) so_far.end found.first) in
    let after = first.at_or_after in
    let before = first.before_end in
    let number : (ys : List ℕ) → Holds g.row.B v ys → IsNumber ys (c.args.k + c.loop-j.j) (one - v.part.place) = λ ys h.
    next-of-ones g.row.B v ys h c.loop-j.ones.at end one (c.args.k + c.loop-j.j) (omega (arith, so_far.started)) (omega (arith, c.min-end.ensures)) (so_far.passed ys h) first in
    let below : one - v.part.place < c.args.x = omega (arith, so_far.started, c.max.ensures, c.min-end.ensures) in
    record {
      bits = found.bits ∙ so_far.bits;
      end = found.end ∙ so_far.end;
      started = omega (arith, found.behind, so_far.started);
      given = λ ys h. given-more ys c.args.k c.args.x c.loop-j.to c.loop-j.j (one - v.part.place) (so_far.given ys h) (omega arith) (number ys h).is below;
      passed = λ ys h.
          subst (λ i. AreBelow ys i (c.args.k + (c.loop-j.j + 1))) (let e : one - v.part.place + 1 ≡ c.next.new.self.at - v.part.place = omega (arith, found.behind, so_far.started) in e)
          (subst (λ i. AreBelow ys (one - v.part.place + 1) i) (let e : c.args.k + c.loop-j.j + 1 ≡ c.args.k + (c.loop-j.j + 1) = omega arith in e) (number ys h).passed);
    }
