use Rattle.std.proofs.Common.{◌≡◌, ◌++◌, take}
use Rattle.collection_model.specs.Sequences.{steps_from}
use Rattle.part_cost.specs.Span as span
use Rattle.index_reading.proofs.turn.add_freqs.Given as goal

abbrev pub invariant-loop : goal.invariant-loop
invariant-loop l = l.freqs.items ≡ l.initial.freqs.items ++ take l.counter (steps_from 0 l.sums.values)

abbrev pub invariant-loop-k : goal.invariant-loop-k
invariant-loop-k l = record {
  read : l.freqs.items ≡ l.initial.freqs.items ++ take l.k (steps_from 0 l.sums.values);
  before : l.past ≡ span.past l.sums.values l.k;
}
