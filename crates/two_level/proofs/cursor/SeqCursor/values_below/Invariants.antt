use Rattle.std.proofs.Common.{◌≡◌, ◌+◌, ◌-◌, ◌≤◌, length}
use Rattle.collection_model.proofs.NextBelow.{AreGiven}
use Rattle.two_level.proofs.cursor.SeqCursor.values_below.Given as goal

abbrev pub invariant-given : goal.invariant-given
invariant-given l = record {
  sequence : l.self.sequence ≡ l.initial.self.sequence;
  place : l.self.place ≡ l.initial.self.place + l.count;
  within : l.self.place ≤ length l.initial.self.sequence.values;
  most : l.most ≤ length l.initial.self.sequence.values - l.initial.self.place;
  room : l.count ≤ length l.to;
  given : AreGiven l.initial.self.sequence.values l.initial.self.place l.x l.to l.count;
}

abbrev pub decreases-given : goal.decreases-given
decreases-given l = l.most - l.count
