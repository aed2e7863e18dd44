use Rattle.std.proofs.Common.{◌≡◌, slice_index, ap, arith, inl, inr}
use Rattle.std.proofs.lemmas.Bool.{cases_lt}
use Rattle.elias_fano.proofs.Views.{within-held}
use Rattle.elias_fano.proofs.Lookups.{number-got, place-below, not-last}
use Rattle.elias_fano.proofs.EfView.step_to.Goals as goal

pub number-number-requires : goal.number-number-requires
number-number-requires g c =
    let one = c.requires.one c.requires.held.0 c.requires.held.1 in
    let below = place-below g.row.Q c.args.self.now c.requires.held.0 c.args.k c.requires.held.1 c.requires.within in
    (omega arith, (within-held g.row.Q c.args.self.now c.requires.held.0 c.requires.held.1, (c.requires.within, (omega arith, omega arith))))

pub loop-number-init : goal.loop-number-init
loop-number-init g c =
    record {
      reached = omega arith;
      within = c.requires.within;
      number = λ ys h. number-got g.row.Q c.args.self.now ys c.args.k c.args.one c.number-number.result h c.requires.within (c.requires.one ys h) c.number-number.ensures.value;
      passed = λ ys h j after before. absurd (omega arith);
    }

pub after-number-requires : goal.after-number-requires
after-number-requires g c =
    (omega arith, (c.requires.held, (not-last g.row.Q c.args.self.now c.requires.held.0 c.loop-number.at c.loop-number.number c.args.x c.requires.held.1 c.loop-number.invariant.within (c.loop-number.invariant.number c.requires.held.0 c.requires.held.1) c.loop-number-test.true c.requires.reached, c.loop-number.invariant.number)))

pub loop-number-preserved : goal.loop-number-preserved
loop-number-preserved g c =
    let zs = c.requires.held.0 in
    let held = c.requires.held.1 in
    record {
      reached = omega (arith, c.loop-number.invariant.reached);
      within = not-last g.row.Q c.args.self.now zs c.loop-number.at c.loop-number.number c.args.x held c.loop-number.invariant.within (c.loop-number.invariant.number zs held) c.loop-number-test.true c.requires.reached;
      number = λ ys h. c.after-number.ensures ys h;
      passed = λ ys h j after before.
          elim (cases_lt j c.loop-number.at) [
            | inl less ↦ c.loop-number.invariant.passed ys h j after less
            | inr more ↦
                let here : j ≡ c.loop-number.at = omega arith in
                omega (arith, ap (λ n. slice_index ys n) here, c.loop-number.invariant.number ys h, c.loop-number-test.true)
          ];
    }

pub returns : goal.returns
returns g c = λ ys h. (
  record {
    at_or_after = c.loop-number.invariant.reached;
    within = omega (arith, c.loop-number.invariant.within, h.values.count);
    at_least = omega (arith, c.loop-number.invariant.number ys h, c.loop-number-test.false);
    first = c.loop-number.invariant.passed ys h;
  },
  c.loop-number.invariant.number ys h,
)
