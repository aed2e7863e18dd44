use Rattle.std.proofs.Common.{ℕ, ◌<◌, ◌≤◌, ◌^◌}
use Rattle.part_cost.specs.Payload.{widest_low}
use Rattle.partition_path.specs.Lines.{gap_at}
use Rattle.partition_path.proofs.lines.greatest_gap.Given as goal

abbrev pub invariant-loop-j : goal.invariant-loop-j
invariant-loop-j l = ((m : ℕ) → m < l.j → gap_at l.values m ≤ l.greatest) × (l.greatest ≤ 2 ^ widest_low)
