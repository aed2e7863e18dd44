use Rattle.std.proofs.Common.{◌-◌, ◌≤◌, length, reverse}
use Rattle.partition_path.specs.Tables.{IsReached}
use Rattle.partition_path.specs.Chains.{IsChain}
use Rattle.partition_path.proofs.routes.Routes.ends.Given as goal

abbrev pub invariant-loop-end : goal.invariant-loop-end
invariant-loop-end l = IsChain l.self l.end (length l.self - 1) (reverse l.ends.items) × (l.end ≤ length l.self - 1) × IsReached l.self l.end

abbrev pub decreases-loop-end : goal.decreases-loop-end
decreases-loop-end l = l.end
