use Rattle.std.specs.Prelude.{ℕ, ◌+◌, ◌*◌, ◌≤◌, List, length}
use Rattle.bit_words.specs.Bits.{bits_of}
use Rattle.part_cost.specs.Stored.{HoldsPart}
use Rattle.ranked_bitmap.specs.declared.MapView.{MapView}
use Rattle.ranked_bitmap.specs.MapBits.{map_bits}
use Rattle.ranked_bitmap.specs.MapPlaces.{map_length}

-- The view's bits are those of these relative values.
abbrev pub Holds : (q : ℕ) → MapView q → List ℕ → Type 0
Holds q v ys = HoldsPart (map_bits q) (bits_of v.part.bits.words.now) v.part.place v.part.u v.part.m
    ys

-- The view's bits lie within the words.
abbrev pub IsWithin : (q : ℕ) → MapView q → Type 0
IsWithin q v = v.part.place + map_length q v.part.u v.part.m ≤ 64 * length v.part.bits.words.now
