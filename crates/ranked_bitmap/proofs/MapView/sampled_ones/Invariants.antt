use Rattle.std.proofs.Common.{◌≡◌, ℕ, ◌+◌, ◌*◌, ◌<◌}
use Rattle.bit_words.specs.Bits.{bits_of, ones_between}
use Rattle.ranked_bitmap.specs.MapPlaces.{sample_at}
use Rattle.ranked_bitmap.proofs.MapView.sampled_ones.Given as goal

abbrev pub invariant-loop-j : goal.invariant-loop-j
invariant-loop-j g l = record {
  count : l.count ≡ ones_between (bits_of l.self.part.bits.words.now) l.self.part.place (l.self.part.place + g.row.B * l.j);
  right : (i : ℕ) → i < l.j → sample_at (bits_of l.self.part.bits.words.now) l.self.part.place l.self.part.u l.self.part.m i ≡ ones_between (bits_of l.self.part.bits.words.now) l.self.part.place (l.self.part.place + g.row.B * (i + 1));
}
