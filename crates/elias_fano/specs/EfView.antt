use Rattle.std.specs.Prelude.{ℕ, ◌+◌, ◌*◌, ◌≤◌, List, length}
use Rattle.bit_words.specs.Bits.{bits_of}
use Rattle.part_cost.specs.Stored.{HoldsPart}
use Rattle.elias_fano.specs.declared.EfView.{EfView}
use Rattle.elias_fano.specs.EfBits.{ef_bits}
use Rattle.elias_fano.specs.EfPlaces.{ef_length_at}

-- The view's bits are those of these relative values.
abbrev pub Holds : (q : ℕ) → EfView q → List ℕ → Type 0
Holds q v ys = HoldsPart (ef_bits q) (bits_of v.part.bits.words.now) v.part.place v.part.u v.part.m
    ys

-- The view's bits lie within the words.
abbrev pub IsWithin : (q : ℕ) → EfView q → Type 0
IsWithin q v = v.part.place + ef_length_at q v.part.u v.part.m v.low
    ≤ 64 * length v.part.bits.words.now
