use Rattle.std.proofs.Common.{◌≡◌, ◌<◌, ◌∙◌, ap, slice_index, arith, inl, inr}
use Rattle.std.proofs.lemmas.Bool.{cases_lt}
use Rattle.elias_fano.proofs.Views.{within-held}
use Rattle.elias_fano.proofs.Lookups.{number-got, place-below}
use Rattle.elias_fano.proofs.EfView.get.Goals as goal

pub number-requires : goal.number-requires
number-requires g c =
    let ys = c.requires.held.0 in
    let h = c.requires.held.1 in
    let one = c.seek-found.ensures.one ys h in
    let within : c.seek-found.result.0 < c.args.self.now.part.m = omega (arith, (c.seek-found.ensures.first ys h).within, h.values.count) in
    let below = place-below g.row.Q c.args.self.now ys c.seek-found.result.0 h within in
    (omega arith, (within-held g.row.Q c.args.self.now ys h, (within, (omega arith, omega arith))))

pub returns : goal.returns
returns g c = λ ys h.
    let first = c.seek-found.ensures.first ys h in
    let same : c.seek-found.result.0 ≡ c.args.k =
    elim (cases_lt c.args.k c.seek-found.result.0) [
      | inl less ↦ absurd (omega (arith, first.first c.args.k (omega arith) less))
      | inr more ↦ omega (arith, first.at_or_after)
    ] in
    number-got g.row.Q c.args.self.now ys c.seek-found.result.0 c.seek-found.result.1 c.number.result h (omega (arith, first.within, h.values.count)) (c.seek-found.ensures.one ys h) c.number.ensures.value
    ∙ ap (λ n. slice_index ys n) same
