use Rattle.std.proofs.Common.{◌≡◌, ◌+◌, ◌-◌, ◌*◌, ◌<◌, ap, arith}
use Rattle.elias_fano.specs.EfPlaces.{past_place}
use Rattle.elias_fano.proofs.Rising.{past-before}
use Rattle.elias_fano.proofs.Scanning.{within-sampled}
use Rattle.elias_fano.proofs.Views.{within-held}
use Rattle.elias_fano.proofs.Lookups.{run-sample, place-below}
use Rattle.elias_fano.proofs.EfView.start_of_run.Goals as goal

pub sample-requires : goal.sample-requires
sample-requires g c =
    let run : c.args.run - 1 + 1 ≡ c.args.run = omega arith in
    let lt : g.row.Q * (c.args.run - 1 + 1) < c.args.self.now.part.m = omega (arith, ap (λ n. g.row.Q * n) run, c.requires.within) in
    (omega arith, (within-held g.row.Q c.args.self.now c.requires.held.0 c.requires.held.1, within-sampled g.row.Q c.args.self.now.part.m (c.args.run - 1) c.args.self.now.spacing lt))

pub overflow_add-result : goal.overflow_add-result
overflow_add-result g c =
    let ys = c.requires.held.0 in
    let h = c.requires.held.1 in
    let is = run-sample c.places_fit_samples.ensures g.row.Q c.args.self.now ys h c.args.run (omega arith) c.requires.within in
    omega (arith, c.sample.ensures, is, place-below g.row.Q c.args.self.now ys (g.row.Q * c.args.run) h c.requires.within, within-held g.row.Q c.args.self.now ys h)

pub returns-then-run-eq0 : goal.returns-then-run-eq0
returns-then-run-eq0 g c = λ ys h.
    let none : g.row.Q * c.args.run ≡ 0 = omega (arith, ap (λ n. g.row.Q * n) c.if-run-eq0.true) in
    record {
      few = omega (arith, c.requires.within);
      past = omega (arith, ap (λ n. past_place c.args.self.now.low ys n) none);
      not_past = λ lt. omega arith;
    }

pub returns-else-run-eq0 : goal.returns-else-run-eq0
returns-else-run-eq0 g c = λ ys h.
    let is = run-sample c.places_fit_samples.ensures g.row.Q c.args.self.now ys h c.args.run (omega arith) c.requires.within in
    record {
      few = omega (arith, c.requires.within);
      past = omega (arith, c.sample.ensures, is, past-before ys c.args.self.now.low h.values.rising (g.row.Q * c.args.run) (omega (arith, c.requires.within, h.values.count)));
      not_past = λ lt. omega (arith, c.sample.ensures, is);
    }
