use Rattle.std.proofs.Common.{◌≡◌, ◌^◌, [], ◌∷◌, refl}
use Rattle.bit_words.specs.Bits.{field_bits}
use Rattle.part_cost.specs.Payload.{kind_of, low_width_of, ef_payload, bitmap_payload}
use Rattle.elias_fano.specs.EfBits.{ef_bits}
use Rattle.ranked_bitmap.specs.MapBits.{map_bits}
use Rattle.part_codec.specs.PartBits.{part_bits}
use Rattle.part_codec.specs.PartValues.{values_at}

-- 3, 700 in Elias-Fano form, as a number of 20 bits, and back behind a bit
far-bits : part_bits (3 ∷ 700 ∷ []) 701 ≡ field_bits 20 770105
unfolding kind_of low_width_of ef_payload bitmap_payload ef_bits lib.Count.count_leading_zeros
far-bits = refl

far-values : values_at (1 ∷ field_bits 20 770105) 1 701 2 ≡ 3 ∷ 700 ∷ []
unfolding kind_of low_width_of ef_payload bitmap_payload values_at lib.Count.count_leading_zeros
far-values = refl

-- the greatest number below 2 ^ 48, alone, as a number of 49 bits, and back behind a bit
widest-bits : part_bits (281474976710655 ∷ []) (2 ^ 48) ≡ field_bits 49 562949953421310
unfolding kind_of low_width_of ef_payload bitmap_payload ef_bits lib.Count.count_leading_zeros
widest-bits = refl

widest-values : values_at (1 ∷ field_bits 49 562949953421310) 1 (2 ^ 48) 1 ≡ 281474976710655 ∷ []
unfolding kind_of low_width_of ef_payload bitmap_payload values_at lib.Count.count_leading_zeros
widest-values = refl

-- 0, 5 as a bitmap, and back behind a bit
near-bits : part_bits (0 ∷ 5 ∷ []) 6 ≡ field_bits 6 33
unfolding kind_of low_width_of ef_payload bitmap_payload map_bits lib.Count.count_leading_zeros
near-bits = refl

near-values : values_at (1 ∷ field_bits 6 33) 1 6 2 ≡ 0 ∷ 5 ∷ []
unfolding kind_of low_width_of ef_payload bitmap_payload values_at lib.Count.count_leading_zeros
near-values = refl

-- 0, 1, 2 take no bits
all-bits : part_bits (0 ∷ 1 ∷ 2 ∷ []) 3 ≡ []
unfolding kind_of
all-bits = refl
