use Rattle.std.proofs.Common.{◌≡◌, ℕ, ◌+◌, ◌*◌, ◌<◌, List, slice_index}
use Rattle.bit_words.specs.Bits.{bits_of}
use Rattle.elias_fano.specs.EfPlaces.{low_fields_at, IsPast}
use Rattle.elias_fano.specs.EfView.{Holds}
use Rattle.collection_model.proofs.NextBelow.{AreGiven}
use Rattle.elias_fano.proofs.EfView.values_below.Given as goal

abbrev pub invariant-loop-i : goal.invariant-loop-i
invariant-loop-i g l =
    let v = l.self in
    record {
      within : l.k + l.i < v.part.m;
      number : (ys : List ℕ) → Holds g.row.Q v ys → l.number ≡ slice_index ys (l.k + l.i);
      given : (ys : List ℕ) → Holds g.row.Q v ys → AreGiven ys l.k l.x l.to l.i;
      bits : l.ones.bits ≡ bits_of v.part.bits.words.now;
      end : l.ones.end ≡ v.part.place + low_fields_at v.part.u v.part.m v.low;
      row : l.fields.bits ≡ bits_of v.part.bits.words.now;
      width : l.fields.width ≡ v.low;
      field : l.fields.at ≡ v.part.place + low_fields_at v.part.u v.part.m v.low + v.low * (l.k + l.i + 1);
      past : (ys : List ℕ) → Holds g.row.Q v ys → IsPast v.part.place v.part.m v.low ys (l.k + l.i + 1) l.ones.at;
    }
