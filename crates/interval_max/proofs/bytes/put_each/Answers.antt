use Rattle.std.proofs.Common.{◌≡◌, refl, sym, inl, inr, ◌∙◌, subst, ℕ, ◌+◌, ◌<◌, ◌≢◌, List, take, length, get_or, set, arith}
use Rattle.std.specs.Int.{div_ceil}
use Rattle.std.proofs.lemmas.Bool.{cases_eq}
use Rattle.std.proofs.lemmas.List.{length-set, get_or-set_same, get_or-set_other}
use Rattle.interval_max.specs.Peaks.{peak_at}
use Rattle.interval_max.specs.declared.peaks.Peak.{Peak}
use Rattle.interval_max.proofs.Steps.{no_peak}
use Rattle.interval_max.proofs.Rounded.{byte-there, byte-elsewhere}
use Rattle.interval_max.proofs.bytes.put_each.Goals as goal

pub loop-peak-preserved : goal.loop-peak-preserved
loop-peak-preserved c =
    let peaks : List Peak = c.args.peaks.now in
    let j : ℕ = c.loop-peak.peak-index in
    let p : Peak = get_or peaks j no_peak in
    let u : ℕ = p.interval in
    let each : List ℕ = c.loop-peak.bytes.items in
    let byte : ℕ = c.steps_to.result in
    let step : ℕ = c.args.step in
    let inside : j < length peaks = c.loop-peak-test.true in
    let count = c.loop-peak.invariant.count_is in
    let within = c.requires.within j no_peak inside in
    record {
      count_is = length-set each u byte ∙ count;
      each = λ v. elim (cases_eq u v) as (λ _. get_or (set each u byte) v 0 ≡ div_ceil (peak_at (take (j + 1) peaks) v) step) [
        | inl same ↦ subst (λ (v : ℕ). get_or (set each u byte) v 0 ≡ div_ceil (peak_at (take (j + 1) peaks) v) step) same
            (get_or-set_same each u byte 0 (omega arith) ∙ c.steps_to.ensures ∙ sym (byte-there peaks j step u c.requires.rising inside refl))
        | inr other ↦ (let apart : v ≢ u = λ e. other (sym e) in get_or-set_other each u v byte 0 apart ∙ c.loop-peak.invariant.each v ∙ sym (byte-elsewhere peaks j step v c.requires.rising inside other))
      ];
    }
