use Rattle.std.specs.Prelude.{◌≡◌, ℕ, ◌+◌, ◌-◌, ◌*◌, ◌≤◌, ◌<◌, min, nat_le, if◌then◌else◌, List, [], length, flat_map, slice_index, slice_range}
use Rattle.std.specs.List.{count_by, range_with_len}
use Rattle.collection_model.specs.Sequences.{steps_from}
use Rattle.part_cost.specs.Span.{past, universe}
use Rattle.sequence_words.specs.SequenceView.{SequenceView, start_of_part}

-- how many of some numbers are at least so great
abbrev pub count_reaching : ℕ → List ℕ → ℕ
count_reaching least ns = count_by (λ n. nat_le least n) ns

-- the first place from one up to another whose step is at least so long, or the end of these places
pub record IsFirstStep (xs : List ℕ) (from to least found : ℕ) : Type 0 where
  pub after : from ≤ found
  pub within : found ≤ to
  pub passed : (k : ℕ) → from ≤ k → k < found → slice_index (steps_from 0 xs) k < least
  pub reached : found < to → least ≤ slice_index (steps_from 0 xs) found

-- The longest of some steps and of others are kept, as many as were kept before.
abbrev pub KeepsLongest : List ℕ → List ℕ → List ℕ → Type 0
KeepsLongest old steps new = (least : ℕ)
    → count_reaching least new
    ≡ min (length old) (count_reaching least old + count_reaching least steps)

-- the steps of the part from one place up to another, where they are at least twice as long in the
-- mean as those of all values
abbrev pub steps_if_long : List ℕ → ℕ → ℕ → List ℕ
steps_if_long xs i j = if nat_le (2 * past xs (length xs) * (j - i)) (universe xs i j * length xs)
    then slice_range (steps_from 0 xs) i j else []

-- the steps of the parts whose steps are so long
unfoldable pub steps_of_long_parts : SequenceView → List ℕ
steps_of_long_parts v =
    flat_map (λ q. steps_if_long v.values (start_of_part v.ends q) (slice_index v.ends q))
    (range_with_len 0 (length v.ends))
