use Rattle.std.proofs.Common.{◌≡◌, ℕ, List, ◌++◌, length, take, drop}
use Rattle.part_cost.specs.Span as span
use Rattle.ranked_bitmap.specs.MapBits.{marks}
use Rattle.ranked_bitmap.proofs.writer.write_marks.Given as goal

abbrev pub invariant-loop : goal.invariant-loop
invariant-loop g l = (ys : List ℕ) → g.N.NumberSource.gives l.fn.values ys → record {
  left : g.N.NumberSource.gives l.values (drop l.counter ys);
  past : l.past ≡ span.past ys l.counter;
  written : l.to ≡ l.initial.to ++ take (span.past ys l.counter) (marks ys (span.past ys (length ys)));
}
