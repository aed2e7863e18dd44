use Rattle.std.proofs.Common.{◌≡◌, ap, length, get_or, arith}
use Rattle.std.proofs.lemmas.List.{get_or_read}
use Rattle.std.proofs.Math.Nat.{div-mul-le_self}
use Rattle.part_cost.specs.Span.{cost_of_part}
use Rattle.partition_path.specs.declared.lines.Open.{Open}
use Rattle.partition_path.specs.Lines.{known_to, no_open}
use Rattle.partition_path.proofs.Along.{least-known}
use Rattle.partition_path.proofs.lines.line_cuts.Goals as goal

pub returns-clause-least : goal.returns-clause-least
returns-clause-least c others partition =
    let n = length c.args.values.now in
    let known = c.in_ok-known.known.items in
    let cost = cost_of_part c.args.charge c.args.values.now in
    let all = c.in_ok-known.ensures in
    let read : c.index.result.now ≡ get_or known n no_open = get_or_read known n c.index.result.now (omega (arith, all.places)) c.index.ensures no_open in
    let least : c.index.result.now.least ≡ known_to known n = ap (λ (o : Open). o.least) read in
    let below = least-known cost n known all 0 others partition in
    omega (arith, least, below, all.origin, div-mul-le_self c.index.result.now.least 1024)
