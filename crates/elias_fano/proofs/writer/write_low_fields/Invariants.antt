use Rattle.std.proofs.Common.{◌≡◌, ℕ, List, ◌++◌, take, drop}
use Rattle.elias_fano.specs.EfBits.{low_fields}
use Rattle.elias_fano.proofs.writer.write_low_fields.Given as goal

abbrev pub invariant-loop : goal.invariant-loop
invariant-loop g l = (ys : List ℕ) → g.N.NumberSource.gives l.fn.values ys → record {
  left : g.N.NumberSource.gives l.values (drop l.counter ys);
  written : l.to ≡ l.initial.to ++ low_fields l.low (take l.counter ys);
}
