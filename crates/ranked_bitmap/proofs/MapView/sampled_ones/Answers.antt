use Rattle.std.proofs.Common.{◌≡◌, ◌+◌, ◌-◌, ◌*◌, ◌/◌, arith, ap, ◌∙◌, subst, inl, inr}
use Rattle.std.proofs.lemmas.Bool.{cases_lt}
use Rattle.bit_words.specs.Bits.{bits_of, ones_between}
use Rattle.bit_words.proofs.Value.{bits-bits_of}
use Rattle.ranked_bitmap.specs.MapPlaces.{sample_at}
use Rattle.part_cost.proofs.Numbers.{sampled-within}
use Rattle.ranked_bitmap.proofs.Reading.{count-more, ones-on, ones-few}
use Rattle.ranked_bitmap.proofs.MapView.sampled_ones.Given as given
use Rattle.ranked_bitmap.proofs.MapView.sampled_ones.Goals as goal
use Rattle.ranked_bitmap.proofs.MapView.sampled_ones.Goals.{After-ones-count, After-ones}

-- the ones up to the next sample
counted : (g : given.Over) (c : After-ones-count g) → c.loop-j.count + c.ones-count.result ≡ ones_between (bits_of c.args.self.now.part.bits.words.now) c.args.self.now.part.place (c.args.self.now.part.place + g.row.B * (c.loop-j.j + 1))
counted g c = count-more (bits_of c.args.self.now.part.bits.words.now) c.args.self.now.part.place g.row.B c.loop-j.j c.loop-j.count c.ones-count.result c.loop-j.invariant.count c.ones-count.ensures

pub overflow_add-count : goal.overflow_add-count
overflow_add-count g c =
    let v = c.args.self.now in
    let within = sampled-within g.row.B v.part.u c.loop-j.j v.spacing (omega (arith, v.part.some, v.part.fit)) c.loop-j-test.true in
    omega (
      arith,
      counted g (goal.at.overflow_add-count g c).After-ones-count,
      ones-few (bits_of v.part.bits.words.now) v.part.place (g.row.B * (c.loop-j.j + 1)) (bits-bits_of v.part.bits.words.now),
      v.part.in_range,
    )

pub returns-then-sample-count-clause-none : goal.returns-then-sample-count-clause-none
returns-then-sample-count-clause-none g c = λ sampled.
    c.if-sample-count.true (omega (
      arith,
      c.sample.ensures,
      sampled c.loop-j.j c.loop-j-test.true,
      counted g (goal.at.returns-then-sample-count-clause-none g c).After-ones-count,
    ))

pub loop-j-preserved : goal.loop-j-preserved
loop-j-preserved g c =
    let v = c.args.self.now in
    let more = counted g (goal.at.loop-j-preserved g c).After-ones-count in
    let here : sample_at (bits_of v.part.bits.words.now) v.part.place v.part.u v.part.m c.loop-j.j ≡ ones_between (bits_of v.part.bits.words.now) v.part.place (v.part.place + g.row.B * (c.loop-j.j + 1)) =
    omega (arith, more, c.sample.ensures, c.if-sample-count.false) in
    record {
      count = more;
      right = λ i lt.
          elim (cases_lt i c.loop-j.j) [
            | inl less ↦ c.loop-j.invariant.right i less
            | inr last ↦
                let same : c.loop-j.j ≡ i = omega arith in
                subst (λ n. sample_at (bits_of v.part.bits.words.now) v.part.place v.part.u v.part.m n ≡ ones_between (bits_of v.part.bits.words.now) v.part.place (v.part.place + g.row.B * (n + 1))) same here
          ];
    }

-- and with the ones behind the last sample all are counted
all-counted : (g : given.Over) (c : After-ones g) → c.loop-j.count + c.ones.result ≡ ones_between (bits_of c.args.self.now.part.bits.words.now) c.args.self.now.part.place (c.args.self.now.part.place + c.args.self.now.part.u)
all-counted g c =
    let v = c.args.self.now in
    let all : c.loop-j.j ≡ (v.part.u - 1) / g.row.B = omega arith in
    let before = c.loop-j.invariant.count ∙ ap (λ n. ones_between (bits_of v.part.bits.words.now) v.part.place (v.part.place + g.row.B * n)) all in
    ones-on (bits_of v.part.bits.words.now) v.part.place (g.row.B * ((v.part.u - 1) / g.row.B)) v.part.u c.loop-j.count c.ones.result (omega (arith, v.spacing)) before c.ones.ensures

pub overflow_add-result : goal.overflow_add-result
overflow_add-result g c =
    omega (arith, all-counted g (goal.at.overflow_add-result g c).After-ones, ones-few (bits_of c.args.self.now.part.bits.words.now) c.args.self.now.part.place c.args.self.now.part.u (bits-bits_of c.args.self.now.part.bits.words.now), c.args.self.now.part.in_range)

pub returns-clause-some : goal.returns-clause-some
returns-clause-some g c = all-counted g (goal.at.returns-clause-some g c).After-ones
