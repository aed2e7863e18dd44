use Rattle.std.proofs.Common.{◌/◌, ◌^◌, ◌<◌, ap, arith}
use Rattle.elias_fano.proofs.Views.{within-held}
use Rattle.elias_fano.proofs.Lookups.{place-below}
use Rattle.elias_fano.proofs.EfView.seek_after.Goals as goal

pub overflow_add-number : goal.overflow_add-number
overflow_add-number g c =
    let v = c.args.self.now in
    let ys = c.requires.held.0 in
    let h = c.requires.held.1 in
    omega (arith, ap (λ n. n / 2 ^ v.low) (c.requires.number ys h), place-below g.row.Q v ys c.args.k h (let e : c.args.k < v.part.m = omega arith in e), within-held g.row.Q v ys h, v.part.few_words)
