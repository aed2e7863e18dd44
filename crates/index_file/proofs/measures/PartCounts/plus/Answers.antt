use Rattle.std.proofs.Common.{arith}
use Rattle.part_cost.specs.declared.kinds.Kind.TheVariants.{Ones, Bitmap, Ef}
use Rattle.index_file.specs.Measures.{PartsOf, Payload}
use Rattle.index_file.proofs.measures.PartCounts.plus.Goals as goal

pub overflow_add-result : goal.overflow_add-result
overflow_add-result c = omega (arith, c.requires.small (PartsOf Ones))

pub overflow_add-result-2 : goal.overflow_add-result-2
overflow_add-result-2 c = omega (arith, c.requires.small (PartsOf Bitmap))

pub overflow_add-result-3 : goal.overflow_add-result-3
overflow_add-result-3 c = omega (arith, c.requires.small (PartsOf Ef))

pub overflow_add-result-4 : goal.overflow_add-result-4
overflow_add-result-4 c = omega (arith, c.requires.small Payload)
