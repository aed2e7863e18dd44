use Rattle.std.proofs.Common.{◌≡◌, ◌++◌, take}
use Rattle.index_reading.proofs.sizes.add_sizes.Given as goal

abbrev pub invariant-loop-document : goal.invariant-loop-document
invariant-loop-document l = l.sizes.items ≡ l.initial.sizes.items ++ take l.document l.index.collection.sizes
