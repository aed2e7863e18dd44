use Rattle.std.proofs.Common.{◌≡◌, ℕ, ◌+◌, ◌<◌, ◌≤◌, List, slice_index}
use Rattle.bit_words.specs.Bits.{bits_of}
use Rattle.elias_fano.specs.EfPlaces.{low_fields_at, IsPast, AreBelow}
use Rattle.elias_fano.specs.EfView.{Holds}
use Rattle.elias_fano.proofs.EfView.step_near.Given as goal

abbrev pub invariant-loop-near : goal.invariant-loop-near
invariant-loop-near g l =
    let v = l.self in
    record {
      within : l.near < v.part.m;
      below : (ys : List ℕ) → Holds g.row.Q v ys → AreBelow ys l.k l.near l.x;
      number : (ys : List ℕ) → Holds g.row.Q v ys → l.found ≡ slice_index ys l.near;
      bits : l.ones.bits ≡ bits_of v.part.bits.words.now;
      end : l.ones.end ≤ v.part.place + low_fields_at v.part.u v.part.m v.low;
      past : (ys : List ℕ) → Holds g.row.Q v ys → IsPast v.part.place v.part.m v.low ys (l.near + 1) l.ones.at;
    }
