use Rattle.std.proofs.Common.{◌≡◌, ℕ, ◌+◌, ◌-◌, ◌*◌, ◌^◌, ◌<◌, ◌∙◌, List, length, get_or, ap, arith, slice_index, slice_set, subst, sym}
use Rattle.bit_words.proofs.Value.{length-bits_of}
use Rattle.std.proofs.lemmas.List.{length-set}
use Rattle.collection_model.specs.NextBelow.{AreNextBelow}
use Rattle.bit_words.specs.Bits.{bits_of}
use Rattle.elias_fano.specs.EfBits.{high_place}
use Rattle.elias_fano.specs.EfPlaces.{low_field, low_fields_at, IsPast}
use Rattle.elias_fano.specs.EfView.{Holds}
use Rattle.collection_model.proofs.NextBelow.{given-none, given-all, given-more}
use Rattle.elias_fano.proofs.Lookups.{number-got}
use Rattle.elias_fano.proofs.LowFields.{next-field, field-within, field-read, low_field-below}
use Rattle.elias_fano.proofs.Passing.{none-next, one-next, past-number}
use Rattle.elias_fano.proofs.Views.{within-held}
use Rattle.elias_fano.proofs.EfView.values_below.Given as given
use Rattle.elias_fano.proofs.EfView.values_below.Goals as goal
use Rattle.elias_fano.proofs.EfView.values_below.Goals.{In-Some, After-next-in-loop-i}

-- the next one is that of the number
one-is : (g : given.Over) (c : In-Some g) → (ys : List ℕ) → Holds g.row.Q c.args.self.now ys
    → (c.args.k + c.loop-i.i + 1 < c.args.self.now.part.m) × (c.in-Some.one ≡ c.args.self.now.part.place + high_place c.args.self.now.low (c.args.k + c.loop-i.i + 1) (get_or ys (c.args.k + c.loop-i.i + 1) 0))
one-is g c ys h = let i = c.loop-i.invariant in one-next g.row.Q c.args.self.now ys h (c.args.k + c.loop-i.i + 1) i.bits i.end (i.past ys h) c.in-Some.ensures.first

-- and what is read is its low field
field-is : (g : given.Over) (c : After-next-in-loop-i g)
    → c.next-in-loop-i.result ≡ low_field (bits_of c.args.self.now.part.bits.words.now) c.args.self.now.part.place c.args.self.now.part.u c.args.self.now.part.m c.args.self.now.low (c.args.k + c.loop-i.i + 1)
field-is g c = let i = c.loop-i.invariant in field-read g.row.Q c.args.self.now (c.args.k + c.loop-i.i + 1) i.row i.field i.width c.next-in-loop-i.ensures.value

pub returns-in_default-clause-values : goal.returns-in_default-clause-values
returns-in_default-clause-values g c = λ ys h.
    let last = none-next g.row.Q c.args.self.now ys h (c.args.k + c.loop-i.i + 1) c.loop-i.invariant.bits c.loop-i.invariant.end (c.loop-i.invariant.past ys h) c.in_default.ensures.none in
    let longer = length-set c.loop-i.to c.loop-i.i c.loop-i.number in
    given-all ys c.args.k c.args.x (slice_set c.loop-i.to c.loop-i.i c.loop-i.number) (c.loop-i.i + 1)
    (given-more ys c.args.k c.args.x c.loop-i.to c.loop-i.i c.loop-i.number (c.loop-i.invariant.given ys h) (omega arith) (c.loop-i.invariant.number ys h) (omega arith))
    (omega arith) (omega (arith, h.values.count)) (λ room more. absurd (omega (arith, h.values.count)))

pub fields_from-fields-requires : goal.fields_from-fields-requires
fields_from-fields-requires g c = (omega arith, (within-held g.row.Q c.args.self.now c.requires.held.0 c.requires.held.1, omega arith))

pub loop-i-init : goal.loop-i-init
loop-i-init g c =
    let v = c.args.self.now in
    let k = c.args.k in
    let next : k + 1 ≡ k + 0 + 1 = omega arith in
    record {
      within = omega (arith, c.requires.within);
      number = λ ys h. c.requires.number ys h ∙ ap (λ n. slice_index ys n) (let e : k ≡ k + 0 = omega arith in e);
      given = λ ys h. given-none ys k c.args.x c.args.to.now;
      bits = c.ones_behind-ones.ensures.bits;
      end = c.ones_behind-ones.ensures.end;
      row = c.fields_from-fields.ensures.bits;
      width = c.fields_from-fields.ensures.width;
      field = c.fields_from-fields.ensures.at ∙ ap (λ n. v.part.place + low_fields_at v.part.u v.part.m v.low + v.low * n) next;
      past = λ ys h. subst (λ n. IsPast v.part.place v.part.m v.low ys n c.ones_behind-ones.result.at) next (c.ones_behind-ones.ensures.past ys h);
    }

pub next-requires-in-loop-i : goal.next-requires-in-loop-i
next-requires-in-loop-i g c =
    let ys = c.requires.held.0 in
    let h = c.requires.held.1 in
    let next = one-is g (goal.at.next-requires-in-loop-i g c).In-Some ys h in
    omega (arith, c.loop-i.invariant.field, c.loop-i.invariant.width, ap length c.loop-i.invariant.row, length-bits_of c.args.self.now.part.bits.words.now, field-within g.row.Q c.args.self.now (c.args.k + c.loop-i.i + 1) (within-held g.row.Q c.args.self.now ys h) next.0)

pub joined-number-requires : goal.joined-number-requires
joined-number-requires g c =
    let next = one-is g (goal.at.joined-number-requires g c).In-Some c.requires.held.0 c.requires.held.1 in
    let read = field-is g (goal.at.joined-number-requires g c).After-next-in-loop-i in
    let small : c.next-in-loop-i.result < 2 ^ c.args.self.now.low = omega (arith, read, low_field-below g.row.Q c.args.self.now (c.args.k + c.loop-i.i + 1)) in
    (omega arith, (omega (arith, next.1), (omega (arith, c.in-Some.ensures.first.before_end, c.loop-i.invariant.end), small)))

pub loop-i-preserved : goal.loop-i-preserved
loop-i-preserved g c =
    let v = c.args.self.now in
    let k = c.args.k + c.loop-i.i + 1 in
    let i = c.loop-i.invariant in
    let same : c.args.k + c.loop-i.i + 1 ≡ c.args.k + (c.loop-i.i + 1) = omega arith in
    let next = one-is g (goal.at.loop-i-preserved g c).In-Some c.requires.held.0 c.requires.held.1 in
    let read = field-is g (goal.at.loop-i-preserved g c).After-next-in-loop-i in
    record {
      within = omega (arith, next.0);
      number = λ ys h.
          let one = one-is g (goal.at.loop-i-preserved g c).In-Some ys h in
          number-got g.row.Q v ys k c.in-Some.one c.joined-number.result h one.0 one.1 (c.joined-number.ensures.value ∙ ap (λ f. (c.in-Some.one - v.part.place - k) * 2 ^ v.low + f) read) ∙ ap (λ n. slice_index ys n) same;
      given = λ ys h. given-more ys c.args.k c.args.x c.loop-i.to c.loop-i.i c.loop-i.number (i.given ys h) (omega arith) (i.number ys h) (omega arith);
      bits = c.in-Some.ensures.bits ∙ i.bits;
      end = c.in-Some.ensures.end ∙ i.end;
      row = c.next-in-loop-i.ensures.bits ∙ i.row;
      width = c.next-in-loop-i.ensures.width ∙ i.width;
      field = omega (arith, c.next-in-loop-i.ensures.behind, i.field, i.width, next-field (v.part.place + low_fields_at v.part.u v.part.m v.low) v.low k, ap (λ n. v.low * n) same);
      past = λ ys h.
          let one = one-is g (goal.at.loop-i-preserved g c).In-Some ys h in
          subst (λ n. IsPast v.part.place v.part.m v.low ys (n + 1) c.next.new.self.at) same
          (subst (λ n. IsPast v.part.place v.part.m v.low ys (k + 1) n) (sym c.in-Some.ensures.behind)
          (past-number v.part.place v.part.m v.low ys h.values.rising h.values.count k c.in-Some.one one.0 one.1));
    }

pub returns-then-number-x-clause-values : goal.returns-then-number-x-clause-values
returns-then-number-x-clause-values g c = λ ys h.
    given-all ys c.args.k c.args.x c.loop-i.to c.loop-i.i (c.loop-i.invariant.given ys h) (omega arith) (omega (arith, c.loop-i.invariant.within, h.values.count)) (λ room more. omega (arith, c.loop-i.invariant.number ys h, c.if-number-x.true))

pub returns-clause-values : goal.returns-clause-values
returns-clause-values g c = λ ys h.
    let all : c.loop-i.i ≡ length c.loop-i.to = omega (arith, c.loop-i-test.false, c.loop-i.auto.to, c.loop-i.auto.i-end) in
    subst (λ n. AreNextBelow ys c.args.k c.args.x c.loop-i.to n) all
    (given-all ys c.args.k c.args.x c.loop-i.to c.loop-i.i (c.loop-i.invariant.given ys h) (omega arith) (omega (arith, c.loop-i.invariant.within, h.values.count)) (λ room more. absurd (omega (arith, room, all))))
