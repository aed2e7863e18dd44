use Rattle.std.proofs.Common.{◌-◌, ℕ, ◌<◌, ◌≤◌}
use Rattle.interval_max.specs.Kept.{AreRising, count_of, entry_in, word_of}
use Rattle.interval_max.proofs.view.MaximaView.place_of.Given as goal

abbrev pub invariant-loop-from : goal.invariant-loop-from
invariant-loop-from l = record {
  within : l.to ≤ count_of l.self.bytes.now;
  low : AreRising (λ i. (entry_in (word_of l.self.bytes.now) i).term) (count_of l.self.bytes.now) → (i : ℕ) → i < l.from → (entry_in (word_of l.self.bytes.now) i).term < l.term;
  high : AreRising (λ i. (entry_in (word_of l.self.bytes.now) i).term) (count_of l.self.bytes.now) → (i : ℕ) → l.to ≤ i → i < count_of l.self.bytes.now → l.term < (entry_in (word_of l.self.bytes.now) i).term;
}

abbrev pub decreases-loop-from : goal.decreases-loop-from
decreases-loop-from l = l.to - l.from
