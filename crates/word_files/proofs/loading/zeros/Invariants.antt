use Rattle.std.proofs.Common.{◌-◌, ◌≤◌, length}
use Rattle.word_files.proofs.loading.zeros.Given as goal

abbrev pub invariant-loop-zeros : goal.invariant-loop-zeros
invariant-loop-zeros l = length l.zeros.items ≤ 8192

abbrev pub decreases-loop-zeros : goal.decreases-loop-zeros
decreases-loop-zeros l = 8192 - length l.zeros.items
