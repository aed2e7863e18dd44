use Rattle.std.proofs.Common.{◌≡◌, length}
use Rattle.part_cost.specs.declared.formats.Format.TheVariants.{Two}
use Rattle.pef_report.specs.Generated.{generated}
use Rattle.index_building.specs.AddedFromLists.{IsMaking}
use Rattle.index_building.proofs.generate.add_generated.Given as goal

abbrev pub invariant-loop-freqs : goal.invariant-loop-freqs
invariant-loop-freqs g l =
    (l.lists.documents ≡ l.fn.documents) × IsMaking Two (generated l.fn.seed l.fn.documents l.fn.terms) l.lists.lists l.builder l.fn.steps l.steps

abbrev pub decreases-loop-freqs : goal.decreases-loop-freqs
decreases-loop-freqs g l = length l.lists.lists
