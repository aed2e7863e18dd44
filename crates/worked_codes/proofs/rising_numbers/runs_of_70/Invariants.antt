use Rattle.std.proofs.Common.{◌≡◌, map, ◌+◌, ◌*◌, ◌/◌}
use Rattle.std.specs.List.{range_with_len}
use Rattle.worked_codes.proofs.rising_numbers.runs_of_70.Given as goal

abbrev pub invariant-loop-k : goal.invariant-loop-k
invariant-loop-k l = l.values.items ≡ map (λ k. k + 930 * (k / 70)) (range_with_len 0 l.k)
