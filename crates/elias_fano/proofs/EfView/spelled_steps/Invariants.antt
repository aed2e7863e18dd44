use Rattle.std.proofs.Common.{◌≡◌, ℕ, ◌≤◌, ◌+◌, ◌*◌, List, map, take}
use Rattle.bit_words.specs.Bits.{bits_of}
use Rattle.collection_model.specs.Collection.{greatest}
use Rattle.collection_model.specs.Sequences.{steps_from}
use Rattle.part_cost.specs.Span.{past}
use Rattle.elias_fano.specs.EfPlaces.{low_fields_at, past_place}
use Rattle.elias_fano.specs.EfView.{Holds}
use Rattle.elias_fano.proofs.Checking.{AreBegun}
use Rattle.elias_fano.proofs.EfView.spelled_steps.Given as goal

abbrev pub invariant-loop-k : goal.invariant-loop-k
invariant-loop-k g l = record {
  -- the bits so far are those of some numbers, whose greatest step this is, and which are given
  begun : (ys : List ℕ) × AreBegun (bits_of l.self.part.bits.words.now) l.self.part.place l.self.part.u l.self.part.m l.self.low g.row.Q l.k l.ones.at l.least ys × (l.steps ≡ greatest (steps_from 0 ys))
      × (1 ≤ g.row.GIVES → take l.k l.to ≡ map (λ y. y + l.base) ys);
  -- and all numbers that these bits are begin so
  all : (zs : List ℕ) → Holds g.row.Q l.self zs → (l.ones.at ≡ l.self.part.place + past_place l.self.low zs l.k) × (l.least ≡ past zs l.k);
  bits : l.ones.bits ≡ bits_of l.self.part.bits.words.now;
  end : l.ones.end ≡ l.self.part.place + low_fields_at l.self.part.u l.self.part.m l.self.low;
  -- the multiples of the spacing up to the next one
  multiple : (r : ℕ) × (l.sampled ≡ g.row.Q * r);
  some : g.row.Q ≤ l.sampled;
  ahead : l.k ≤ l.sampled;
  between : (j : ℕ) → l.k ≤ g.row.Q * (j + 1) → l.sampled ≤ g.row.Q * (j + 1);
  row : l.fields.bits ≡ bits_of l.self.part.bits.words.now;
  width : l.fields.width ≡ l.self.low;
  field : l.fields.at ≡ l.self.part.place + low_fields_at l.self.part.u l.self.part.m l.self.low + l.self.low * l.k;
  low : l.self.part.place + l.k ≤ l.ones.at;
}
