use Rattle.std.proofs.Common.{◌≡◌, ℕ, ◌*◌, ◌<◌, ◌≤◌, false}
use Rattle.part_cost.specs.Formats.{numbers_of}
use Rattle.sequence_words.specs.SequenceFault.{payload_before, entry_breaks}
use Rattle.sequence_words.proofs.Entries.{Reached}
use Rattle.sequence_words.proofs.checking.check_directory.Given as goal

abbrev pub invariant-loop-part : goal.invariant-loop-part
invariant-loop-part l = record {
  reached : Reached (numbers_of l.format) l.words l.part l.passed.values l.passed.past;
  bits_are : l.passed.bits ≡ payload_before (numbers_of l.format) l.words l.part;
  few : l.passed.bits ≤ 2 * l.passed.past;
  past_within : l.passed.past ≤ (numbers_of l.format).most_sum;
  entries : (q : ℕ) → q < l.part → entry_breaks (numbers_of l.format) l.words l.parts l.m l.bound q ≡ false;
}
