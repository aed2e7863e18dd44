use Rattle.std.proofs.Common.{◌≡◌, ℕ, ◌+◌, ◌*◌, ◌<◌, ◌≤◌, slice_index}
use Rattle.interval_max.proofs.bytes.raise_by_few.Given as goal

abbrev pub invariant-loop-v : goal.invariant-loop-v
invariant-loop-v l = record {
  done : (k : ℕ) → k < l.v → slice_index l.bounds k ≡ slice_index l.initial.bounds k + l.times * slice_index l.each k;
  rest : (k : ℕ) → l.v ≤ k → slice_index l.bounds k ≡ slice_index l.initial.bounds k;
}
