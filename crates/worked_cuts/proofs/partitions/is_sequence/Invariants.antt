use Rattle.std.proofs.Common.{ℕ, ◌+◌, ◌<◌, get_or}
use Rattle.part_cost.specs.Formats.{numbers_of}
use Rattle.worked_cuts.proofs.partitions.is_sequence.Given as goal

abbrev pub invariant-loop-i : goal.invariant-loop-i
invariant-loop-i l =
    ((k : ℕ) → k + 1 < l.i → get_or l.values k 0 < get_or l.values (k + 1) 0) × ((k : ℕ) → k < l.i → get_or l.values k 0 < (numbers_of l.format).most_sum)
