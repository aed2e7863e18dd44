use Rattle.std.proofs.Common.{◌≡◌}
use Rattle.worked_sequences.proofs.reading.reads_back.Given as goal

abbrev pub invariant-loop-k : goal.invariant-loop-k
invariant-loop-k g l = record {
  sequence : l.cursor.sequence ≡ l.view;
  place : l.cursor.place ≡ l.k-counter;
}
