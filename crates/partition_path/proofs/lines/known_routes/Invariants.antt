use Rattle.partition_path.proofs.Along.{Along}
use Rattle.partition_path.proofs.lines.known_routes.Given as goal

abbrev pub invariant-loop-j : goal.invariant-loop-j
invariant-loop-j l = Along l.charge l.values l.widths l.j l.known.items l.routes.items l.bitmap l.full
