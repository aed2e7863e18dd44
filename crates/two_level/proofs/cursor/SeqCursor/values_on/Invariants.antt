use Rattle.std.proofs.Common.{◌≡◌, ◌+◌, ◌-◌, ◌≤◌, length}
use Rattle.collection_model.proofs.NextBelow.{AreGiven}
use Rattle.two_level.proofs.cursor.SeqCursor.values_on.Given as goal

abbrev pub invariant-given : goal.invariant-given
invariant-given l = record {
  sequence : l.self.sequence ≡ l.initial.self.sequence;
  place : l.self.place + l.initial.count ≡ l.initial.self.place + l.count;
  begun : l.initial.count ≤ l.initial.self.place + 1;
  within : l.initial.self.place + 1 - l.initial.count + length l.initial.to ≤ length l.initial.self.sequence.values;
  room : l.count ≤ length l.to;
  given : AreGiven l.initial.self.sequence.values (l.initial.self.place + 1 - l.initial.count) 18446744073709551615 l.to l.count;
}

abbrev pub decreases-given : goal.decreases-given
decreases-given l = length l.initial.to - l.count
