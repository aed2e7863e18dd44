use Rattle.std.specs.Prelude.{ℕ, ◌+◌, ◌-◌, ◌*◌, ◌/◌, ◌^◌, ◌==◌, List, map, filter, length, take, drop, slice_index}
use Rattle.std.specs.List.{range_with_len}
use Rattle.bit_words.specs.Bits.{field_at}
use Rattle.part_cost.specs.declared.kinds.Kind.{Kind}
use Rattle.part_cost.specs.declared.kinds.Kind.TheVariants.{Ones, Bitmap, Ef}
use Rattle.part_cost.specs.Payload.{kind_of, low_width_of}

-- the places of the ones among some bits
abbrev pub places_of_ones : List ℕ → List ℕ
places_of_ones bits = filter (λ p. slice_index bits p == 1) (range_with_len 0 (length bits))

-- number k of a part in Elias-Fano form at low width l: its high part by the place of its one, and
-- its low field
abbrev pub ef_value : List ℕ → ℕ → ℕ → ℕ → ℕ → ℕ
ef_value bits u m l k =
    (slice_index (places_of_ones (take (m + (u - 1) / 2 ^ l) bits)) k - k) * 2 ^ l + field_at bits
    (m + (u - 1) / 2 ^ l + l * k) l

-- the relative values that the first bits are, in the form of this kind
abbrev pub values_of_kind : Kind → List ℕ → ℕ → ℕ → List ℕ
values_of_kind Ones bits u m = range_with_len 0 u
values_of_kind Bitmap bits u m = places_of_ones (take u bits)
values_of_kind Ef bits u m = map (ef_value bits u m (low_width_of u m)) (range_with_len 0 m)

-- the relative values whose bits stand at a place, where they are those of some
unfoldable pub values_at : List ℕ → ℕ → ℕ → ℕ → List ℕ
values_at bits place u m = values_of_kind (kind_of u m) (drop place bits) u m
