use Rattle.std.proofs.Common.{◌≡◌, refl, ℕ, List, [], ◌∷◌, ◌++◌, length}
use Rattle.std.specs.List.{range_with_len}
use Rattle.bit_words.specs.Bits.{field_at, words_of}
use Rattle.ranked_bitmap.specs.MapBits.{map_bits}

-- 0, 2: three places
bits-3 : words_of (map_bits 512 (0 ∷ 2 ∷ []) 3) ≡ 5 ∷ []
unfolding map_bits lib.Count.count_leading_zeros
bits-3 = refl

-- 0, 5: six places, and then with a sample every four places
bits-6 : words_of (map_bits 512 (0 ∷ 5 ∷ []) 6) ≡ 33 ∷ []
unfolding map_bits lib.Count.count_leading_zeros
bits-6 = refl

pub length-6 : length (map_bits 4 (0 ∷ 5 ∷ []) 6) ≡ 8
unfolding map_bits lib.Count.count_leading_zeros
length-6 = refl

word-6 : words_of (map_bits 4 (0 ∷ 5 ∷ []) 6) ≡ 97 ∷ []
unfolding map_bits lib.Count.count_leading_zeros
word-6 = refl

-- 0 to 599 without 300
abbrev but_300 : List ℕ
but_300 = range_with_len 0 300 ++ range_with_len 301 299

length-600 : length (map_bits 512 but_300 600) ≡ 610
unfolding map_bits lib.Count.count_leading_zeros
length-600 = refl

sample-600 : field_at (map_bits 512 but_300 600) 600 10 ≡ 511
unfolding map_bits lib.Count.count_leading_zeros
sample-600 = refl
