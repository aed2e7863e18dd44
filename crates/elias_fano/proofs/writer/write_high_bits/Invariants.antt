use Rattle.std.proofs.Common.{◌≡◌, ℕ, ◌+◌, List, ◌++◌, length, take, drop}
use Rattle.part_cost.specs.Span.{past}
use Rattle.elias_fano.specs.EfBits.{high_bits}
use Rattle.elias_fano.specs.EfPlaces.{past_place}
use Rattle.elias_fano.proofs.writer.write_high_bits.Given as goal

abbrev pub invariant-loop : goal.invariant-loop
invariant-loop g l = (ys : List ℕ) → g.N.NumberSource.gives l.fn.values ys → record {
  left : g.N.NumberSource.gives l.values (drop l.counter ys);
  last : l.last + l.counter ≡ past_place l.low ys l.counter;
  written : l.to ≡ l.initial.to ++ take (past_place l.low ys l.counter) (high_bits l.low (past ys (length ys)) ys);
}
