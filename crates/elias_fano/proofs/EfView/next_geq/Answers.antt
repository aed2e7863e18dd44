use Rattle.std.proofs.Common.{◌^◌, arith}
use Rattle.std.proofs.Math.Nat.{div-mul-le_self}
use Rattle.elias_fano.proofs.Lookups.{first-onward}
use Rattle.elias_fano.proofs.EfView.next_geq.Goals as goal

pub step_to-requires : goal.step_to-requires
step_to-requires g c =
    let ys = c.requires.held.0 in
    let h = c.requires.held.1 in
    (omega arith, (c.requires.held, (c.requires.reached, (omega (arith, (c.seek-k.ensures.first ys h).within, h.values.count), c.seek-k.ensures.one))))

pub returns : goal.returns
returns g c = λ ys h.
    let first = c.seek-k.ensures.first ys h in
    let found = c.step_to.ensures ys h in (
      first-onward ys c.args.from c.seek-k.result.0 c.args.x c.step_to.result.0 first.at_or_after
          (λ j after before. omega (arith, first.first j after before, div-mul-le_self c.args.x (2 ^ c.args.self.now.low))) found.0,
      found.1,
    )
