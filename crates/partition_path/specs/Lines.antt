-- Lines under the costs of parts, in 1/1024 of a bit: so much for a part, and so much for each of
-- its numbers, by the gap before it.
use Rattle.std.specs.Prelude.{◌≡◌, ℕ, zero, suc, ◌+◌, ◌-◌, ◌*◌, ◌/◌, ◌^◌, ◌<◌, ◌≤◌}
use Rattle.std.specs.Prelude.{List, length, slice_index_or}
use Rattle.part_cost.specs.Span.{universe}
use Rattle.partition_path.specs.declared.lines.Open.{Open}

-- the gap before number j: its universe alone
abbrev pub gap_at : List ℕ → ℕ → ℕ
gap_at xs j = universe xs j (suc j)

-- what a number behind this gap takes at least in an Elias-Fano part of low width k: its low field,
-- its one, nine bits of a sample for 128 numbers, and the zeros of its high bits
abbrev pub width_weight : ℕ → ℕ → ℕ
width_weight k gap = 1024 * (k + 1) + 72 + 1024 * gap / 2 ^ k

-- what all numbers before place j take so
abbrev pub weights_to : ℕ → List ℕ → ℕ → ℕ
weights_to k xs zero = 0
weights_to k xs (suc j) = weights_to k xs j + width_weight k (gap_at xs j)

-- no route
abbrev pub no_open : Open
no_open = record { least = 2 ^ 64 - 1; start = 0 }

-- what the cheapest known route to place i costs
abbrev pub known_to : List Open → ℕ → ℕ
known_to known i = (slice_index_or known i no_open).least

-- A route to place j whose last part is open costs no more than any whose last part starts before
-- place j and takes so much for each number.
abbrev pub IsOpen : ℕ → (ℕ → ℕ) → List Open → ℕ → Open → Type 0
IsOpen charge to known j route =
    (i : ℕ) → i < j → route.least + to i ≤ known_to known i + charge + to j

-- Each place comes from one before it, and a known route costs no more than with a part from a
-- place before, by 1024 times the cost.
pub record AreKnown (cost : ℕ → ℕ → ℕ) (j : ℕ) (known : List Open) : Type 0 where
  pub places : length known ≡ j + 1
  pub origin : known_to known 0 ≡ 0
  pub earlier : (e : ℕ) → 0 < e → e ≤ j → (slice_index_or known e no_open).start < e
  pub least : (i e : ℕ) → i < e → e ≤ j → known_to known e ≤ known_to known i + 1024 * cost i e

-- A route with a number more in its last part, behind a gap: it costs no more than before and the
-- number's weight, nor than where the part starts with the number behind a known route.
pub record IsLonger (place known charge weight : ℕ) (old new : Open) : Type 0 where
  pub stays : new.least ≤ old.least + weight
  pub begins : new.least ≤ known + charge + weight
  pub start : old.start ≤ place → new.start ≤ place

-- Routes of all low widths with a number more, and one that costs no more than each of them.
pub record AreLonger (place known charge gap : ℕ) (old new : List Open) (best : Open) : Type 0 where
  pub count : length new ≡ length old
  pub each : (k : ℕ) → k < length old → IsLonger place known charge (width_weight k gap)
      (slice_index_or old k no_open) (slice_index_or new k no_open)
  pub cheapest : (k : ℕ) → k < length old → best.least ≤ (slice_index_or new k no_open).least
  pub start : ((k : ℕ) → k < length old → (slice_index_or old k no_open).start ≤ place)
      → best.start ≤ place
