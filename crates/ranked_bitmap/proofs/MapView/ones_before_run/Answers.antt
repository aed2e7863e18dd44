use Rattle.std.proofs.Common.{◌≡◌, ◌+◌, ◌-◌, ◌*◌, ap, arith, ◌∙◌}
use Rattle.bit_words.specs.Bits.{bits_of, ones_between}
use Rattle.ranked_bitmap.proofs.Views.{within-held, held-samples}
use Rattle.ranked_bitmap.proofs.MapView.ones_before_run.Goals as goal

pub sample-requires : goal.sample-requires
sample-requires g c =
    (omega arith, (within-held g.row.B c.args.self.now c.requires.held.0 c.requires.held.1, omega (arith, c.if-run-eq0.false)))

pub returns-else-run-eq0 : goal.returns-else-run-eq0
returns-else-run-eq0 g c =
    let v = c.args.self.now in
    c.sample.ensures
    ∙ held-samples c.digits_hold.ensures.hold g.row.B v c.requires.held.0 c.requires.held.1 (c.args.run - 1) (omega (arith, c.if-run-eq0.false))
    ∙ ap (λ n. ones_between (bits_of v.part.bits.words.now) v.part.place (v.part.place + g.row.B * n)) (let e : c.args.run - 1 + 1 ≡ c.args.run = omega (arith, c.if-run-eq0.false) in e)
