use Rattle.std.proofs.Common.{◌-◌}
use Rattle.index_building.specs.AddedFromFiles.{IsBuilding}
use Rattle.index_building.proofs.build.build_words.Given as goal

abbrev pub invariant-loop-freqs : goal.invariant-loop-freqs
invariant-loop-freqs g l = IsBuilding l.fn.format l.fn.base (g.D.Depot.state l.fn.depot) (g.D.Depot.state l.depot) l.reader l.builder l.fn.steps l.steps

abbrev pub decreases-loop-freqs : goal.decreases-loop-freqs
decreases-loop-freqs g l = 4294967296 - l.reader.lists
