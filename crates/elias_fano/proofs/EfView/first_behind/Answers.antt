use Rattle.std.proofs.Common.{◌≡◌, ◌^◌, ap, arith, inl, inr, slice_index}
use Rattle.std.proofs.lemmas.Bool.{cases_lt}
use Rattle.std.proofs.Math.Nat.{div-mul-le_self}
use Rattle.elias_fano.proofs.Lookups.{first-onward}
use Rattle.elias_fano.proofs.EfView.first_behind.Goals as goal

pub returns : goal.returns
returns g c = λ ys h.
    let k = c.args.k in
    let x = c.args.x in
    let next = c.seek_after-next in
    let first = next.ensures.first ys h in
    let found = c.step_to.ensures ys h in (
      first-onward ys k next.result.0 x c.step_to.result.0 (omega (arith, first.at_or_after))
          (λ j after before. elim (cases_lt k j) [
            | inl less ↦ omega (arith, first.first j (omega arith) before, div-mul-le_self x (2 ^ c.args.self.now.low))
            | inr other ↦
                let here : j ≡ k = omega arith in
                omega (arith, ap (λ n. slice_index ys n) here, c.requires.number ys h, c.requires.below)
          ]) found.0,
      found.1,
    )
