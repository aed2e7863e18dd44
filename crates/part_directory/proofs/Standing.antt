use Rattle.std.proofs.Common.{◌≡◌, ℕ, ◌+◌, ◌<◌, ◌≤◌, List, length, slice_index, Option, Some, None, refl, sym, ap, ◌∙◌, subst, inl, inr, arith}
use Rattle.std.specs.List.Sorted.{IsStrictlyIncreasing}
use Rattle.std.proofs.lemmas.Bool.{cases_lt}
use Rattle.collection_model.specs.FormatNumbers.{FormatNumbers}
use Rattle.part_cost.specs.Stored.{IsFirstAtLeast}
use Rattle.part_codec.specs.Sought.{IsSought}
use Rattle.part_codec.specs.declared.views.Sought.{Sought}
use Rattle.part_directory.specs.declared.held.HeldPart.{HeldPart}
use Rattle.sequence_words.specs.SequenceView.{sequence_stated, place_at_least}
use Rattle.part_directory.specs.HeldParts.{LiesIn, IsValueBehind, StandsBehind}
use Rattle.part_directory.proofs.Places.{found-place, found-first}

-- the value at the place that is known stands behind it
pub stands-here : (format : FormatNumbers) (words : List ℕ) (parts place : ℕ) (held : Option HeldPart) (value : ℕ) → LiesIn format words parts place held value
    → StandsBehind held (sequence_stated format words parts).values place value
stands-here format words parts place (Some held) value lies = record {
  place = place;
  first = record {
    at_or_after = omega arith;
    within = omega (arith, lies.2, lies.0.values.within);
    at_least = omega (arith, lies.3);
    first = λ q after before. absurd (omega (arith, after, before));
  };
  before = lies.2;
  value_there = lies.3;
}
stands-here format words parts place None value lies = lies

-- the place of a value that stands behind another
pub place-behind : (held : HeldPart) (xs : List ℕ) (from value : ℕ) (b : IsValueBehind held xs from value) → b.place ≡ place_at_least xs from value
place-behind held xs from value b = found-first xs from b.place value b.first

-- at the end it is the end
pub place-at-end : (xs : List ℕ) (from value : ℕ) → from ≡ length xs → from ≡ place_at_least xs from value
place-at-end xs from value is =
    found-place xs from from value (omega arith) (omega (arith, is)) (λ k after lt. absurd (omega (arith, after, lt))) (λ lt. absurd (omega (arith, lt, is)))

-- the place of a value that is known is its own
pub place-here : (format : FormatNumbers) (words : List ℕ) (parts place : ℕ) (held : Option HeldPart) (value : ℕ) → LiesIn format words parts place held value
    → place ≡ place_at_least (sequence_stated format words parts).values place value
unfolding stands-here
place-here format words parts place (Some held) value lies =
    place-behind held (sequence_stated format words parts).values place value (stands-here format words parts place (Some held) value lies)
place-here format words parts place None value lies = place-at-end (sequence_stated format words parts).values place value lies

-- a value that stands behind a place lies at its own place in the part
pub lies-there : (format : FormatNumbers) (words : List ℕ) (parts counted : ℕ) (held : Option HeldPart) (known value : ℕ) → LiesIn format words parts counted held known
    → StandsBehind held (sequence_stated format words parts).values counted value
    → LiesIn format words parts (place_at_least (sequence_stated format words parts).values counted value) held value
lies-there format words parts counted (Some held) known value lies b =
    subst (λ p. LiesIn format words parts p (Some held) value) (place-behind held (sequence_stated format words parts).values counted value b)
    (lies.0, omega (arith, lies.1, b.first.at_or_after), b.before, b.value_there)
lies-there format words parts counted None known value lies end =
    sym (place-at-end (sequence_stated format words parts).values counted value end) ∙ end

-- a place that is known is no later than that of the value, and is its own where the values are the same
pub known-below : (held : HeldPart) (xs : List ℕ) (from known value : ℕ) → known ≡ slice_index xs from → IsValueBehind held xs from value → known ≤ value
known-below held xs from known value is b =
    elim (cases_lt from b.place) as (λ _. known ≤ value) [
      | inl less ↦ omega (arith, is, b.first.first from (omega arith) less)
      | inr more ↦ (let e : from ≡ b.place = omega (arith, more, b.first.at_or_after) in omega (arith, is, b.value_there, subst (λ p. slice_index xs from ≡ slice_index xs p) e refl))
    ]

pub known-place : (held : HeldPart) (xs : List ℕ) (from known value : ℕ) → known ≡ slice_index xs from → value ≤ known → IsValueBehind held xs from value → from ≡ place_at_least xs from value
known-place held xs from known value is most b =
    elim (cases_lt from b.place) as (λ _. from ≡ place_at_least xs from value) [
      | inl less ↦ absurd (omega (arith, is, most, b.first.first from (omega arith) less))
      | inr more ↦ (let e : from ≡ b.place = omega (arith, more, b.first.at_or_after) in e ∙ place-behind held xs from value b)
    ]

-- what a search in the part finds, by a value that is less, stands behind the place that it tells
pub sought-behind : (held : HeldPart) (xs : List ℕ) (from x : ℕ) (sought : Sought) (s : IsSought xs from x sought) → s.own < held.part.to → IsValueBehind held xs sought.place sought.number
sought-behind held xs from x sought s before = record {
  place = s.own;
  first = record {
    at_or_after = s.before;
    within = s.first.within;
    at_least = omega (arith, s.number);
    first = λ q after lt. omega (arith, s.first.first q (omega (arith, after, s.after)) lt, s.first.at_least, s.number);
  };
  before = before;
  value_there = s.number;
}

-- at its own place
pub sought-own : (held : HeldPart) (xs : List ℕ) (from x : ℕ) (sought : Sought) (s : IsSought xs from x sought) → s.own < held.part.to → s.own ≡ place_at_least xs sought.place sought.number
unfolding sought-behind
sought-own held xs from x sought s before = place-behind held xs sought.place sought.number (sought-behind held xs from x sought s before)

-- and is the first at or behind the place of the lesser value
pub sought-place : (held : HeldPart) (xs : List ℕ) (from x value : ℕ) (sought : Sought) (s : IsSought xs from x sought) → s.own < held.part.to → value < x → IsValueBehind held xs from value
    → place_at_least xs sought.place sought.number ≡ place_at_least xs (place_at_least xs from value) x
sought-place held xs from x value sought s before less b =
    let own = sought-own held xs from x sought s before in
    let here : b.place ≡ place_at_least xs from value = place-behind held xs from value b in
    let ordered : b.place ≤ s.own =
    elim (cases_lt s.own b.place) as (λ _. b.place ≤ s.own) [
      | inl early ↦ absurd (omega (arith, b.first.first s.own s.first.at_or_after early, s.first.at_least, less))
      | inr late ↦ late
    ] in
    let first : IsFirstAtLeast xs b.place x s.own = record {
      at_or_after = ordered;
      within = s.first.within;
      at_least = s.first.at_least;
      first = λ q after lt. s.first.first q (omega (arith, after, b.first.at_or_after)) lt;
    } in
    sym own ∙ found-first xs b.place s.own x first ∙ subst (λ p. place_at_least xs b.place x ≡ place_at_least xs p x) here refl

-- a value that stands behind a place is that at its own place
pub value-there : (format : FormatNumbers) (words : List ℕ) (parts counted : ℕ) (held : Option HeldPart) (known value : ℕ) → LiesIn format words parts counted held known
    → StandsBehind held (sequence_stated format words parts).values counted value
    → place_at_least (sequence_stated format words parts).values counted value < length (sequence_stated format words parts).values
    → value ≡ slice_index (sequence_stated format words parts).values (place_at_least (sequence_stated format words parts).values counted value)
value-there format words parts counted (Some held) known value lies b within = (lies-there format words parts counted (Some held) known value lies b).3
value-there format words parts counted None known value lies end within =
    absurd (omega (arith, within, end, place-at-end (sequence_stated format words parts).values counted value end))

-- the place of a value that is large enough is the first
pub place-stays : (xs : List ℕ) (place x : ℕ) → place ≤ length xs → (place < length xs → x ≤ slice_index xs place) → place ≡ place_at_least xs place x
place-stays xs place x fit most = found-place xs place place x (omega arith) fit (λ k after lt. absurd (omega (arith, after, lt))) most

-- the first value that is greater than one is the next
pub place-next : (xs : List ℕ) → IsStrictlyIncreasing xs → (place value : ℕ) → place < length xs → value ≡ slice_index xs place → place + 1 ≡ place_at_least xs place (value + 1)
place-next xs up place value within is =
    found-place xs place (place + 1) (value + 1) (omega arith) (omega (arith, within))
    (λ k after lt. (let e : k ≡ place = omega (arith, after, lt) in omega (arith, is, ap (slice_index xs) e)))
    (λ lt. omega (arith, is, up place lt))
