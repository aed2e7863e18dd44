use Rattle.std.proofs.Common.{◌≡◌, ℕ, ◌+◌, ◌-◌, ◌≤◌, List}
use Rattle.bit_words.specs.Bits.{bits_of}
use Rattle.ranked_bitmap.specs.MapView.{Holds}
use Rattle.ranked_bitmap.proofs.Steps.{StepsPassed}
use Rattle.ranked_bitmap.proofs.MapView.greatest_step.Given as goal

abbrev pub invariant-ones : goal.invariant-ones
invariant-ones g l = record {
  bits : l.ones.bits ≡ bits_of l.self.part.bits.words.now;
  end : l.ones.end ≡ l.self.part.place + l.self.part.u;
  reached : l.ones.at ≡ l.past;
  started : l.self.part.place ≤ l.past;
  passed : (ys : List ℕ) → Holds g.row.B l.self ys → StepsPassed ys (l.past - l.self.part.place) l.most;
}

abbrev pub decreases-ones : goal.decreases-ones
decreases-ones g l = l.ones.end + 1 - l.past
