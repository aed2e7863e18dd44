-- Marks that are kept where a sequence has its values, by the part that is held.
use Rattle.std.proofs.Common.{◌≡◌, ap, inl, inr, ℕ, ◌+◌, ◌-◌, ◌*◌, ◌<◌, ◌≤◌, List, length, slice_index, arith}
use Rattle.std.specs.List.Sorted.{IsStrictlyIncreasing}
use Rattle.std.proofs.lemmas.Bool.{cases_lt}
use Rattle.collection_model.specs.Marks.{has_number, AreKept}
use Rattle.collection_model.proofs.Marks.{has-at, place-of, same-test, kept-from}
use Rattle.part_cost.specs.Span.{AreRelative}
use Rattle.part_cost.proofs.Numbers.{rises}
use Rattle.part_cost.proofs.Parts.{past-at}
use Rattle.part_codec.specs.PartView.{universe_of, count_of}
use Rattle.part_codec.proofs.Relative.{relative-held}
use Rattle.part_directory.specs.declared.held.HeldPart.{HeldPart}
use Rattle.sequence_words.specs.SequenceParts.{counted_from}
use Rattle.part_directory.specs.HeldParts.{HoldsValues}
use Rattle.part_directory.proofs.HeldParts.{relative-count, number-here}

module _ (held : HeldPart) (xs : List ℕ) (h : HoldsValues held xs) (up : IsStrictlyIncreasing xs) where
  abbrev numbers : List ℕ
  numbers = counted_from held.past xs held.part.from held.part.to

  are-relative : AreRelative (universe_of held.view) (count_of held.view) numbers
  are-relative = relative-held held.view numbers h.numbers

  some-here : held.part.from < held.part.to
  some-here = omega (arith, are-relative.some, h.m)

  -- a value in the universe of the part stands in it
  stands-inside : (first k j : ℕ) → held.past ≤ first → first + k < held.past + universe_of held.view → j < length xs → slice_index xs j ≡ first + k → (held.part.from ≤ j) × (j < held.part.to)
  stands-inside first k j from below within is = (
    elim (cases_lt j held.part.from) as (λ _. held.part.from ≤ j) [
      | inl early ↦ (let before = past-at xs held.part.from (omega arith) in
          let within = h.within in
          let some = some-here in
          let more = rises xs up j (held.part.from - 1) (omega arith) (omega arith) in
          absurd (omega (arith, h.before)))
      | inr late ↦ late
    ],
    elim (cases_lt j held.part.to) as (λ _. j < held.part.to) [
      | inl early ↦ early
      | inr late ↦ (let some = some-here in
          let last = number-here held xs h (held.part.to - 1) (omega (arith, some-here)) (omega (arith, some-here)) in
          let more = rises xs up (held.part.to - 1) j (omega (arith, some-here)) within in
          let end = are-relative.last in
          let same : slice_index numbers (held.part.to - 1 - held.part.from) ≡ slice_index numbers (count_of held.view - 1) = ap (slice_index numbers) (omega (arith, h.m)) in
          absurd (omega (arith, last, more, end, same)))
    ],
  )

  -- a number of its universe is one of its own exactly where it is a value
  pub has-there : (first from k : ℕ) → from + held.past ≡ first → from + k < universe_of held.view → has_number (from + k) numbers ≡ has_number (first + k) xs
  has-there first from k start inside = same-test (has_number (from + k) numbers) (has_number (first + k) xs)
      (λ has.
      let at = place-of (from + k) numbers has in
      let count = relative-count held xs h in
      let within : held.part.from + at.0 < held.part.to = omega (arith, at.1) in
      has-at (first + k) xs (held.part.from + at.0) (omega (arith, within, h.within)) (omega (arith, h.restored at.0 within, at.2)))
      (λ has.
      let at = place-of (first + k) xs has in
      let inside = stands-inside first k at.0 (omega arith) (omega arith) at.1 at.2 in
      has-at (from + k) numbers (at.0 - held.part.from) (omega (arith, relative-count held xs h, inside.0, inside.1)) (omega (arith, number-here held xs h at.0 inside.0 inside.1, at.2)))

  pub kept-here : (first from words : ℕ) (old new : List ℕ) → from + held.past ≡ first → 64 * words ≤ universe_of held.view - from → AreKept numbers from old new words → AreKept xs first old new words
  kept-here first from words old new start inside kept = kept-from xs numbers first from old new words kept (λ k lt. has-there first from k start (omega arith))
