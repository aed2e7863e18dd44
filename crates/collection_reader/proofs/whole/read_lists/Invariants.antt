use Rattle.std.proofs.Common.{◌-◌}
use Rattle.collection_reader.proofs.ListsRead.{AreReadSoFar}
use Rattle.collection_reader.proofs.whole.read_lists.Given as goal

abbrev pub invariant-loop-freqs : goal.invariant-loop-freqs
invariant-loop-freqs g l = AreReadSoFar l.fn.reader l.reader (g.D.Depot.state l.fn.depot) (g.D.Depot.state l.depot) l.lists.docs.items l.lists.freqs.items

abbrev pub decreases-loop-freqs : goal.decreases-loop-freqs
decreases-loop-freqs g l = 4294967296 - l.reader.lists
