use Rattle.std.proofs.Common.{◌≡◌, ◌≤◌, [], ◌∷◌, ◌++◌, take, length}
use Rattle.collection_model.specs.Sequences.{postings_in}
use Rattle.interval_max.specs.Peaks.{ArePeaksTo}
use Rattle.interval_max.proofs.Sequences.{past}
use Rattle.interval_max.proofs.peaks.sequence_peaks.Given as goal

abbrev pub invariant-loop-j : goal.invariant-loop-j
invariant-loop-j l = record {
  few : l.count ≤ l.j;
  room : length l.peaks ≡ length l.initial.peaks;
  past_is : l.past ≡ past l.sums l.j;
  peaks : ArePeaksTo (postings_in l.docs l.sums) l.j (take l.count l.peaks ++ l.last ∷ []);
}
