use Rattle.std.proofs.Common.{ap, ◌∙◌, ℕ, ◌+◌, ◌*◌, ◌<◌, ◌≤◌, List, length, get_or, arith}
use Rattle.std.proofs.Math.Nat.{mul-le-mul_left}
use Rattle.std.proofs.lemmas.List.{take_all}
use Rattle.interval_max.specs.Peaks.{peak_at}
use Rattle.interval_max.specs.declared.peaks.Peak.{Peak}
use Rattle.interval_max.proofs.Steps.{no_peak}
use Rattle.interval_max.proofs.Rounded.{peaks-none_there}
use Rattle.interval_max.proofs.Raised.{peak-times}
use Rattle.interval_max.proofs.bounds.raise_by_peaks.Goals as goal

pub raise_peak-requires : goal.raise_peak-requires
raise_peak-requires c = record {
  room = λ lt.
      let peaks : List Peak = c.args.peaks.now in
      let j : ℕ = c.loop-peak.peak-index in
      let p : Peak = get_or peaks j no_peak in
      let short : p.interval < length c.args.bounds.now = omega (arith, c.loop-peak.auto.bounds) in
      let none = ap (λ (n : ℕ). c.args.weight * n) (peaks-none_there peaks j c.requires.rising c.loop-peak-test.true) in
      let product : c.args.weight * p.greatest ≤ c.args.weight * 4294967295 = mul-le-mul_left c.args.weight (c.requires.small j no_peak c.loop-peak-test.true) in
      omega (arith, c.loop-peak.invariant p.interval short, c.requires.room p.interval short);
}

pub loop-peak-preserved : goal.loop-peak-preserved
loop-peak-preserved c = λ v inside.
    let peaks : List Peak = c.args.peaks.now in
    let j : ℕ = c.loop-peak.peak-index in
    omega (arith, c.loop-peak.invariant v inside, c.raise_peak.ensures.raised v (omega (arith, c.loop-peak.auto.bounds)), peak-times peaks j v c.args.weight c.requires.rising c.loop-peak-test.true)

pub returns-clause-raised : goal.returns-clause-raised
returns-clause-raised c = λ v inside.
    let all = ap (λ (ps : List Peak). c.args.weight * peak_at ps v) (take_all c.loop-peak.peak-index c.args.peaks.now (omega arith)) in
    c.loop-peak.invariant v inside ∙ ap (λ (n : ℕ). get_or c.args.bounds.now v 0 + n) all
