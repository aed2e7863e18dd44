use Rattle.elias_fano.proofs.Lookups.{first-onward}
use Rattle.elias_fano.proofs.EfView.first_from.Goals as goal

pub returns : goal.returns
returns g c = λ ys h.
    let near = c.step_near-near in
    let found = c.first_behind-2.ensures ys h in
    (first-onward ys c.args.k near.result.0 c.args.x c.first_behind-2.result.0 near.ensures.after (near.ensures.below ys h) found.0, found.1)
