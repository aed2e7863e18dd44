use Rattle.std.proofs.Common.{length, ap, arith}
use Rattle.std.specs.Prelude.{slice_index}
use Rattle.index_file.proofs.starts.read_starts.Goals as goal

pub less_places-requires : goal.less_places-requires
less_places-requires c =
    let h = c.requires.held in
    let is = c.read_numbers.ensures h.0 h.1 in
    record { above = λ t lt. (let e = ap (λ ys. slice_index ys t) is in omega (arith, e, h.2 t (omega (arith, lt, ap length is)))) }
