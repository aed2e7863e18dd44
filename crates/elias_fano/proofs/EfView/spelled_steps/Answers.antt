use Rattle.std.proofs.Common.{◌≡◌, ℕ, suc, ◌+◌, ◌-◌, ◌*◌, ◌^◌, ◌<◌, ◌≤◌, List, [], ◌∷◌, ◌++◌, length, get_or, map, take, zero, IsTrue, not, eqb, refl, ap, ◌∙◌, subst, sym, arith}
use Rattle.std.proofs.Math.Nat.{mul-le-mul_left}
use Rattle.std.proofs.Math.Dec.{eqb-suc-zero}
use Rattle.std.proofs.lemmas.List.{map-append, take_all, take_more_set}
use Rattle.bit_words.specs.Bits.{bits_of}
use Rattle.bit_words.proofs.Value.{bits-bits_of, length-bits_of}
use Rattle.part_cost.specs.Span.{past}
use Rattle.elias_fano.specs.EfBits.{high_place}
use Rattle.elias_fano.specs.EfPlaces.{low_field, low_fields_at, sample_at}
use Rattle.elias_fano.specs.EfView.{Holds}
use Rattle.part_cost.proofs.Parts.{past-number}
use Rattle.elias_fano.proofs.Scanning.{sample-read}
use Rattle.elias_fano.proofs.Views.{view-read-at, read-view-at, places-fit-at}
use Rattle.elias_fano.proofs.Checking.{AreBegun, begun-none, begun-more, begun-all, past-last, IsNextSampled, unsampled, sampled-same, sampled-next}
use Rattle.elias_fano.proofs.Lookups.{number-is, past-next}
use Rattle.elias_fano.proofs.LowFields.{next-field, field-within, field-read, low_field-below}
use Rattle.elias_fano.proofs.Passing.{none-next, one-next, past-exactly, same-range}
use Rattle.elias_fano.proofs.Steps.{greatest-step}
use Rattle.elias_fano.proofs.EfView.spelled_steps.Given as given
use Rattle.elias_fano.proofs.EfView.spelled_steps.Goals as goal
use Rattle.elias_fano.proofs.EfView.spelled_steps.Goals.{then-this-ne0, else-this-ne0, then-k-sampled+else-not-is_sampled, else-k-sampled, In-Some, After-next-in-loop-k}

-- what is asked for is a constant, which is not 0 then
gives : (n : ℕ) → IsTrue (not (eqb n 0)) → 1 ≤ n
gives zero h = cc
gives (suc n) h = omega arith

asks : (n : ℕ) → 1 ≤ n → IsTrue (not (eqb n 0))
asks zero h = absurd (omega (arith, h))
asks (suc n) h = ap not (eqb-suc-zero n)

-- the next one is that of the number, of all that the bits can be
one-is : (g : given.Over) (c : In-Some g) → (zs : List ℕ) → Holds g.row.Q c.args.self.now zs
    → (c.loop-k.k < c.args.self.now.part.m) × (c.in-Some.one ≡ c.args.self.now.part.place + high_place c.args.self.now.low c.loop-k.k (get_or zs c.loop-k.k 0))
one-is g c zs h =
    one-next g.row.Q c.args.self.now zs h c.loop-k.k c.loop-k.invariant.bits c.loop-k.invariant.end (past-exactly g.row.Q c.args.self.now zs h c.loop-k.k c.loop-k.ones.at (omega arith) (c.loop-k.invariant.all zs h).0) c.in-Some.ensures.first

-- and what is read is its low field
field-is : (g : given.Over) (c : After-next-in-loop-k g)
    → c.next-in-loop-k.result ≡ low_field (bits_of c.args.self.now.part.bits.words.now) c.args.self.now.part.place c.args.self.now.part.u c.args.self.now.part.m c.args.self.now.low c.loop-k.k
field-is g c = let i = c.loop-k.invariant in field-read g.row.Q c.args.self.now c.loop-k.k i.row i.field i.width c.next-in-loop-k.ensures.value

pub returns-in_default-clause-none : goal.returns-in_default-clause-none
returns-in_default-clause-none g c = λ zs h.
    let from = c.loop-k.invariant.all zs h in
    let all = none-next g.row.Q c.args.self.now zs h c.loop-k.k c.loop-k.invariant.bits c.loop-k.invariant.end (past-exactly g.row.Q c.args.self.now zs h c.loop-k.k c.loop-k.ones.at (omega arith) from.0) c.in_default.ensures.none in
    omega arith

-- each field lies within the words
pub next-requires-in-loop-k : goal.next-requires-in-loop-k
next-requires-in-loop-k g c =
    omega (arith, c.loop-k.invariant.field, c.loop-k.invariant.width, ap length c.loop-k.invariant.row, length-bits_of c.args.self.now.part.bits.words.now, field-within g.row.Q c.args.self.now c.loop-k.k c.requires.bits c.loop-k-test.true)

pub joined-number-requires : goal.joined-number-requires
joined-number-requires g c =
    let small : c.next-in-loop-k.result < 2 ^ c.args.self.now.low = omega (arith, field-is g (goal.at.joined-number-requires g c).After-next-in-loop-k, low_field-below g.row.Q c.args.self.now c.loop-k.k) in
    (omega arith, (omega (arith, c.in-Some.ensures.first.at_or_after, c.loop-k.invariant.low), (omega (arith, c.in-Some.ensures.first.before_end, c.loop-k.invariant.end), small)))

-- what is read is the number of all that the bits can be
pub returns-then-number-least-clause-none : goal.returns-then-number-least-clause-none
returns-then-number-least-clause-none g c = λ zs h.
    let within : c.loop-k.k < length zs = omega (arith, h.values.count, c.loop-k-test.true) in
    let one = one-is g (goal.at.returns-then-number-least-clause-none g c).In-Some zs h in
    let number = number-is g.row.Q c.args.self.now zs c.loop-k.k c.in-Some.one h one.0 one.1 in
    let read = field-is g (goal.at.returns-then-number-least-clause-none g c).After-next-in-loop-k in
    omega (arith, c.joined-number.ensures.value, read, number, (c.loop-k.invariant.all zs h).1, past-number zs h.values.rising c.loop-k.k within, c.if-number-least.true)

pub returns-then-not-is_sampled-clause-none : goal.returns-then-not-is_sampled-clause-none
returns-then-not-is_sampled-clause-none g c = λ zs h.
    let v = c.args.self.now in
    let one = one-is g (goal.at.returns-then-not-is_sampled-clause-none g c).In-Some zs h in
    let sampled = c.if-not-is_sampled.ensures.1
    (λ j e.
    sample-read (bits_of v.part.bits.words.now) v.part.place v.part.u v.part.m v.low g.row.Q zs (view-read-at g.row.Q v zs h) v.spacing j (omega (arith, e, c.loop-k-test.true))
    (places-fit-at c.places_fit_samples.ensures g.row.Q v zs h (g.row.Q * (j + 1)) (omega (arith, e, c.loop-k-test.true)))
    ∙ ap (λ n. high_place v.low n (get_or zs n 0)) e
    ∙ omega (arith, one.1)) in
    cc

pub loop-k-init : goal.loop-k-init
loop-k-init g c =
    let v = c.args.self.now in
    record {
      begun = ([], subst (λ n. AreBegun (bits_of v.part.bits.words.now) v.part.place v.part.u v.part.m v.low g.row.Q 0 n 0 []) (sym c.ones_from-ones.ensures.at) (begun-none (bits_of v.part.bits.words.now) v.part.place v.part.u v.part.m v.low g.row.Q), refl, λ e. refl);
      all = λ zs h. (omega (arith, c.ones_from-ones.ensures.at), refl);
      bits = c.ones_from-ones.ensures.bits;
      end = c.ones_from-ones.ensures.end ∙ c.low_fields.ensures;
      multiple = (1, omega arith);
      some = omega arith;
      ahead = omega arith;
      between = λ j after. omega (arith, mul-le-mul_left {m = 1} {n = j + 1} g.row.Q (let e : 1 ≤ j + 1 = omega arith in e));
      row = c.fields_from-fields.ensures.bits;
      width = c.fields_from-fields.ensures.width;
      field = c.fields_from-fields.ensures.at;
      low = omega (arith, c.ones_from-ones.ensures.at);
    }

pub loop-k-preserved : goal.loop-k-preserved
loop-k-preserved g c =
    let v = c.args.self.now in
    let bits = bits_of v.part.bits.words.now in
    let i = c.loop-k.invariant in
    let k = c.loop-k.k in
    let number = c.joined-number.result in
    let begun = i.begun in
    let read = field-is g (goal.at.loop-k-preserved g c).After-next-in-loop-k in
    let is = c.joined-number.ensures.value ∙ ap (λ f. (c.in-Some.one - v.part.place - k) * 2 ^ v.low + f) read in
    let q = g.row.Q in
    let now : IsNextSampled q k c.loop-k.sampled = record { multiple = i.multiple; some = i.some; ahead = i.ahead; between = i.between } in
    let next : IsNextSampled q (k + 1) c.if-k-sampled.sampled × ((j : ℕ) → q * (j + 1) ≡ k → sample_at bits v.part.place v.part.u v.part.m v.low j ≡ c.in-Some.one - v.part.place) =
    elim c.if-k-sampled.branch [
      | then-k-sampled+else-not-is_sampled w ↦ (
        subst (λ n. IsNextSampled q (k + 1) n) (sym w.sampled-is) (sampled-next q k c.loop-k.sampled v.spacing now w.if-k-sampled.true),
        w.if-not-is_sampled.ensures.0 refl,
      )
      | else-k-sampled w ↦ (
        subst (λ n. IsNextSampled q (k + 1) n) (sym w.sampled-is) (sampled-same q k c.loop-k.sampled now w.if-k-sampled.false),
        λ j e. absurd (unsampled q k c.loop-k.sampled now w.if-k-sampled.false j e),
      )
    ] in
    record {
      begun = (
        begun.0 ++ number ∷ [],
        subst (λ n. AreBegun bits v.part.place v.part.u v.part.m v.low g.row.Q (k + 1) n (number + 1) (begun.0 ++ number ∷ [])) (sym c.in-Some.ensures.behind)
            (begun-more bits v.part.place v.part.u v.part.m v.low g.row.Q k c.loop-k.ones.at c.loop-k.least
            (v.part.place + low_fields_at v.part.u v.part.m v.low) c.in-Some.one number begun.0
            (bits-bits_of v.part.bits.words.now) begun.1 (same-range i.bits i.end c.in-Some.ensures.first)
            (omega (arith, c.in-Some.ensures.first.at_or_after, i.low))
            is c.if-number-least.false next.1),
        greatest-step begun.0 number k c.loop-k.least c.loop-k.steps c.max-steps.result begun.1.count begun.1.least_is begun.2 c.max-steps.ensures,
        λ e. elim c.if-this-ne0.branch [
          | then-this-ne0 w ↦ subst (λ (xs : List ℕ). take (k + 1) xs ≡ map (λ y. y + c.args.base) (begun.0 ++ number ∷ [])) (sym w.to-is)
              (take_more_set c.loop-k.to k (number + c.args.base) (omega (arith, c.requires.room (asks g.row.GIVES e), c.loop-k.auto.to, c.loop-k-test.true))
              ∙ ap (λ (xs : List ℕ). xs ++ (number + c.args.base) ∷ []) (begun.3 e)
              ∙ sym (map-append (λ y. y + c.args.base) begun.0 (number ∷ [])))
          | else-this-ne0 w ↦ absurd (omega (arith, e, w.if-this-ne0.false))
        ],
      );
      all = λ zs h.
          let from = i.all zs h in
          let one = one-is g (goal.at.loop-k-preserved g c).In-Some zs h in
          let number = number-is g.row.Q v zs k c.in-Some.one h one.0 one.1 in
          (omega (arith, one.1, past-next v.low k zs, c.in-Some.ensures.behind), omega (arith, is, number, ap (λ n. past zs n) (let e : k + 1 ≡ suc k = omega arith in e)));
      bits = c.in-Some.ensures.bits ∙ i.bits;
      end = c.in-Some.ensures.end ∙ i.end;
      multiple = next.0.multiple;
      some = next.0.some;
      ahead = next.0.ahead;
      between = next.0.between;
      row = c.next-in-loop-k.ensures.bits ∙ i.row;
      width = c.next-in-loop-k.ensures.width ∙ i.width;
      field = omega (arith, c.next-in-loop-k.ensures.behind, i.field, i.width, next-field (v.part.place + low_fields_at v.part.u v.part.m v.low) v.low k);
      low = omega (arith, c.in-Some.ensures.first.at_or_after, i.low, c.in-Some.ensures.behind);
    }

pub returns-then-least-self-clause-some : goal.returns-then-least-self-clause-some
returns-then-least-self-clause-some g c =
    let v = c.args.self.now in
    let bits = bits_of v.part.bits.words.now in
    let ys = c.loop-k.invariant.begun.0 in
    let all : c.loop-k.k ≡ v.part.m = omega (arith, c.loop-k-test.false, c.loop-k.auto.k-end) in
    let begun : AreBegun bits v.part.place v.part.u v.part.m v.low g.row.Q v.part.m c.loop-k.ones.at v.part.u ys =
    subst (λ n. AreBegun bits v.part.place v.part.u v.part.m v.low g.row.Q v.part.m c.loop-k.ones.at n ys) c.if-least-self.true
    (subst (λ n. AreBegun bits v.part.place v.part.u v.part.m v.low g.row.Q n c.loop-k.ones.at c.loop-k.least ys) all c.loop-k.invariant.begun.1) in (
      ys,
      read-view-at g.row.Q v ys
          (begun-all bits v.part.place v.part.u v.part.m v.low g.row.Q c.loop-k.ones.at ys (bits-bits_of v.part.bits.words.now) v.part.some v.spacing
          (omega (arith, c.requires.bits, length-bits_of v.part.bits.words.now)) begun),
      c.loop-k.invariant.begun.2,
      λ e. subst (λ (xs : List ℕ). xs ≡ map (λ y. y + c.args.base) ys) (take_all c.loop-k.k c.loop-k.to (omega (arith, all, c.loop-k.auto.to, c.requires.room e))) (c.loop-k.invariant.begun.3 (gives g.row.GIVES e)),
    )

pub returns-else-least-self-clause-none : goal.returns-else-least-self-clause-none
returns-else-least-self-clause-none g c = λ zs h.
    let from = c.loop-k.invariant.all zs h in
    let all : c.loop-k.k ≡ c.args.self.now.part.m = omega (arith, c.loop-k-test.false, c.loop-k.auto.k-end) in
    c.if-least-self.false (from.1 ∙ ap (λ n. past zs n) all ∙ past-last zs c.args.self.now.part.m c.args.self.now.part.some ∙ h.values.last)
