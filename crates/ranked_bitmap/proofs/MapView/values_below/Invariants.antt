use Rattle.std.proofs.Common.{◌≡◌, ◌+◌, ◌-◌, ◌≤◌, ℕ, List}
use Rattle.bit_words.specs.Bits.{bits_of}
use Rattle.collection_model.proofs.NextBelow.{AreGiven}
use Rattle.ranked_bitmap.specs.MapView.{Holds}
use Rattle.ranked_bitmap.proofs.Ones.{AreBelow}
use Rattle.ranked_bitmap.proofs.MapView.values_below.Given as goal

abbrev pub invariant-loop-j : goal.invariant-loop-j
invariant-loop-j g l = record {
  bits : l.ones.bits ≡ bits_of l.self.part.bits.words.now;
  end : l.ones.end ≡ l.self.part.place + l.end;
  started : l.self.part.place + l.number ≤ l.ones.at;
  given : (ys : List ℕ) → Holds g.row.B l.self ys → AreGiven ys l.k l.x l.to l.j;
  passed : (ys : List ℕ) → Holds g.row.B l.self ys → AreBelow ys (l.ones.at - l.self.part.place) (l.k + l.j);
}
