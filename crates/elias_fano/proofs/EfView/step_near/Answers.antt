use Rattle.std.proofs.Common.{◌≡◌, ℕ, List, ◌+◌, ◌<◌, get_or, ◌∙◌, ap, arith, inl, inr, slice_index, subst, sym}
use Rattle.std.proofs.lemmas.Bool.{cases_lt}
use Rattle.elias_fano.specs.EfBits.{high_place}
use Rattle.elias_fano.specs.EfPlaces.{IsPast}
use Rattle.elias_fano.specs.EfView.{Holds}
use Rattle.elias_fano.proofs.Lookups.{number-got, place-below}
use Rattle.elias_fano.proofs.Passing.{past-number}
use Rattle.elias_fano.proofs.Numbered.{one-near}
use Rattle.elias_fano.proofs.Views.{within-held}
use Rattle.elias_fano.proofs.EfView.step_near.Given as given
use Rattle.elias_fano.proofs.EfView.step_near.Goals as goal
use Rattle.elias_fano.proofs.EfView.step_near.Goals.{In-Some}

-- the next one is that of the number
one-is : (g : given.Over) (c : In-Some g) → (ys : List ℕ) → Holds g.row.Q c.args.self.now ys
    → (c.loop-near.near + 1 < c.args.self.now.part.m) × (c.in-Some.one ≡ c.args.self.now.part.place + high_place c.args.self.now.low (c.loop-near.near + 1) (get_or ys (c.loop-near.near + 1) 0))
one-is g c ys h = let i = c.loop-near.invariant in one-near g.row.Q c.args.self.now ys h (c.loop-near.near + 1) i.bits i.end (i.past ys h) c.in-Some.ensures.first

pub number-found-requires : goal.number-found-requires
number-found-requires g c =
    let k = c.loop-near.near + 1 in
    let ys = c.requires.held.0 in
    let h = c.requires.held.1 in
    let next = one-is g (goal.at.number-found-requires g c).In-Some ys h in
    let below = place-below g.row.Q c.args.self.now ys k h next.0 in
    (omega arith, (within-held g.row.Q c.args.self.now ys h, (next.0, (omega (arith, next.1), omega (arith, next.1)))))

pub loop-near-preserved : goal.loop-near-preserved
loop-near-preserved g c =
    let v = c.args.self.now in
    let k = c.loop-near.near + 1 in
    let i = c.loop-near.invariant in
    let zs = c.requires.held.0 in
    let held = c.requires.held.1 in
    let next = one-is g (goal.at.loop-near-preserved g c).In-Some zs held in
    record {
      within = next.0;
      below = λ ys h j after before.
          elim (cases_lt j c.loop-near.near) [
            | inl less ↦ i.below ys h j after less
            | inr more ↦
                let here : j ≡ c.loop-near.near = omega arith in
                omega (arith, ap (λ n. slice_index ys n) here, i.number ys h)
          ];
      number = λ ys h.
          let one = one-is g (goal.at.loop-near-preserved g c).In-Some ys h in
          number-got g.row.Q v ys k c.in-Some.one c.number-found.result h one.0 one.1 c.number-found.ensures.value;
      bits = c.in-Some.ensures.bits ∙ i.bits;
      end = omega (arith, c.in-Some.ensures.end, i.end);
      past = λ ys h.
          let one = one-is g (goal.at.loop-near-preserved g c).In-Some ys h in
          subst (λ n. IsPast v.part.place v.part.m v.low ys (k + 1) n) (sym c.in-Some.ensures.behind)
          (past-number v.part.place v.part.m v.low ys h.values.rising h.values.count k c.in-Some.one one.0 one.1);
    }
