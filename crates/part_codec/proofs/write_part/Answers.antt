use Rattle.std.proofs.Common.{length, arith}
use Rattle.elias_fano.proofs.Rising.{relative-fit}
use Rattle.part_codec.proofs.write_part.Goals as goal

pub kind-requires-clause-fit : goal.kind-requires-clause-fit
kind-requires-clause-fit g c =
    let r = c.requires.values in
    omega (arith, c.left.ensures r.0 r.1, relative-fit c.args.u (length r.0) r.0 r.2)
