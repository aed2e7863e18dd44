use Rattle.std.specs.Prelude.{ℕ, ◌≤◌, ◌<◌, zero, suc, ◌+◌, ◌-◌, ◌*◌, ◌/◌, ◌^◌, List, slice_index}
use Rattle.bit_words.specs.Bits.{field_at}
use Rattle.part_cost.specs.Payload.{digits, ef_bits_at, low_width_of}
use Rattle.elias_fano.specs.EfBits.{high_place}

-- how many bits m numbers in universe u take at low width l, with a sample after each run of so
-- many numbers
abbrev pub ef_length_at : ℕ → ℕ → ℕ → ℕ → ℕ
ef_length_at spacing u m l = ef_bits_at u m l + (m - 1) / spacing * digits (3 * m)

-- how many they take
unfoldable pub ef_length : ℕ → ℕ → ℕ → ℕ
ef_length spacing u m = ef_length_at spacing u m (low_width_of u m)

-- the place of the first low field, behind the high bits
abbrev pub low_fields_at : ℕ → ℕ → ℕ → ℕ
low_fields_at u m l = m + (u - 1) / 2 ^ l

-- the low field of number k
abbrev pub low_field : List ℕ → ℕ → ℕ → ℕ → ℕ → ℕ → ℕ
low_field bits place u m l k = field_at bits (place + low_fields_at u m l + l * k) l

-- sample j, from 0 on, behind the low fields
abbrev pub sample_at : List ℕ → ℕ → ℕ → ℕ → ℕ → ℕ → ℕ
sample_at bits place u m l j =
    field_at bits (place + low_fields_at u m l + l * m + digits (3 * m) * j) (digits (3 * m))

-- one more than the place of the number before number k among the high bits; 0 at their start
abbrev pub past_place : ℕ → List ℕ → ℕ → ℕ
past_place l ys zero = 0
past_place l ys (suc k) = high_place l k (slice_index ys k) + 1

-- The place lies past the ones of the first k of m numbers, and past no other.
pub record IsPast (place m l : ℕ) (ys : List ℕ) (k at : ℕ) : Type 0 where
  pub few : k ≤ m
  pub past : place + past_place l ys k ≤ at
  pub not_past : k < m → at ≤ place + high_place l k (slice_index ys k)

-- The numbers from one place up to another are below x.
abbrev pub AreBelow : List ℕ → ℕ → ℕ → ℕ → Type 0
AreBelow ys from to x = (k : ℕ) → from ≤ k → k < to → slice_index ys k < x
