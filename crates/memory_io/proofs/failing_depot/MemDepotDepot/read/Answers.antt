use Rattle.std.proofs.Common.{refl}
use Rattle.memory_io.proofs.FailedCalls.{failed-read}
use Rattle.memory_io.proofs.failing_depot.MemDepotDepot.read.Goals as goal

pub returns-then-fails_next-clause-reads : goal.returns-then-fails_next-clause-reads
returns-then-fails_next-clause-reads c = failed-read _ _ c.args.slot _ _ c.fail.result c.fail.ensures.failed refl c.fail.ensures.unchanged c.fail.ensures.fault.0 c.fail.ensures.fault.1
