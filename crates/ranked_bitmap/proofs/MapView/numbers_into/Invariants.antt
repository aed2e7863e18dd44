use Rattle.std.proofs.Common.{◌≡◌, ◌+◌, ◌-◌, ◌≤◌, ℕ, List, map, take}
use Rattle.bit_words.specs.Bits.{bits_of}
use Rattle.ranked_bitmap.specs.MapView.{Holds}
use Rattle.ranked_bitmap.proofs.Ones.{AreBelow}
use Rattle.ranked_bitmap.proofs.MapView.numbers_into.Given as goal

abbrev pub invariant-loop-j : goal.invariant-loop-j
invariant-loop-j g l = record {
  bits : l.ones.bits ≡ bits_of l.self.part.bits.words.now;
  end : l.ones.end ≡ l.self.part.place + l.self.part.u;
  started : l.self.part.place ≤ l.ones.at;
  given : (ys : List ℕ) → Holds g.row.B l.self ys → take l.j l.to ≡ map (λ y. y + l.base) (take l.j ys);
  passed : (ys : List ℕ) → Holds g.row.B l.self ys → AreBelow ys (l.ones.at - l.self.part.place) l.j;
}
