use Rattle.std.proofs.Common.{◌≡◌, ◌++◌}
use Rattle.index_file.specs.Builder.{repeated}
use Rattle.index_file.proofs.entries.push_entries.Given as goal

abbrev pub invariant-loop : goal.invariant-loop
invariant-loop l = l.to.items ≡ l.fn.to.items ++ repeated l.counter l.entry
