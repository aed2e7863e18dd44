use Rattle.std.proofs.Common.{◌≡◌, ℕ, ◌+◌, ◌*◌, List, ◌++◌, drop}
use Rattle.elias_fano.proofs.Writing.{samples_before}
use Rattle.elias_fano.proofs.writer.write_samples.Given as goal

abbrev pub invariant-loop-j : goal.invariant-loop-j
invariant-loop-j g l = (ys : List ℕ) → g.N.NumberSource.gives l.fn.values ys → record {
  left : g.N.NumberSource.gives l.values (drop (g.row.Q * l.j + 1) ys);
  written : l.to ≡ l.initial.to ++ samples_before g.row.Q l.low ys l.j;
}
