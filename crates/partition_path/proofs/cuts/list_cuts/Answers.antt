use Rattle.std.proofs.Common.{arith}
use Rattle.partition_path.proofs.cuts.list_cuts.Goals as goal

pub cuts_found-requires : goal.cuts_found-requires
cuts_found-requires g c =
    let list = c.new-cost.result in
    record { looks = λ some h i j first second within. omega (arith, c.payloads_add.ensures.parts list.values.now list.rising h i j first second within) }
