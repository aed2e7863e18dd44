use Rattle.std.proofs.Common.{ℕ, ◌+◌, ◌*◌, ◌/◌, ◌<◌, arith}
use Rattle.elias_fano.proofs.Views.{within-held}
use Rattle.elias_fano.proofs.Numbered.{past-inside, run-starts}
use Rattle.elias_fano.proofs.EfView.one_back.Goals as goal

pub one_before-requires : goal.one_before-requires
one_before-requires g c =
    let v = c.args.self.now in
    let ys = c.requires.held.0 in
    let h = c.requires.held.1 in
    let run : ℕ = c.args.k / g.row.Q + 1 in
    let within : g.row.Q * run < v.part.m = run-starts g.row.Q run v.part.m h.values.some (omega (arith, c.if-run-self.true)) in
    let inside = past-inside g.row.Q v ys h (g.row.Q * run) c.start_of_run-end.result within (c.start_of_run-end.ensures ys h) in
    (omega arith, (c.requires.held, (c.requires.past, (c.requires.ordered, (omega (arith, v.spacing), (c.start_of_run-end.ensures, inside))))))

pub low_fields-requires : goal.low_fields-requires
low_fields-requires g c = (omega arith, within-held g.row.Q c.args.self.now c.requires.held.0 c.requires.held.1)
