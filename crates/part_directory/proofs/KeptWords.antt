-- How many words of marks the part that is held keeps.
use Rattle.std.proofs.Common.{◌≡◌, sym, ap, ◌∙◌, inl, inr, ℕ, ◌+◌, ◌-◌, ◌<◌, ◌≤◌, Bool, if◌then◌else◌, List, length, slice_index, arith}
use Rattle.std.specs.Prelude.{nat_le}
use Rattle.std.proofs.lemmas.Bool.{cases_lt, le-leb, lt-leb}
use Rattle.part_cost.specs.declared.kinds.Kind.{Kind}
use Rattle.part_cost.specs.Payload.{kind_of}
use Rattle.part_cost.specs.Span.{AreRelative, past, universe}
use Rattle.part_cost.proofs.Parts.{past-at}
use Rattle.part_codec.specs.KeptWords.{words_kept}
use Rattle.part_codec.specs.PartView.{universe_of, count_of}
use Rattle.part_codec.proofs.KeptWords.{words-moved, words-of_one}
use Rattle.part_codec.proofs.Relative.{relative-held}
use Rattle.part_directory.specs.declared.held.HeldPart.{HeldPart}
use Rattle.sequence_words.specs.SequenceParts.{counted_from}
use Rattle.part_directory.specs.HeldParts.{HoldsValues}
use Rattle.part_directory.specs.KeptWords.{words_kept_by_part}
use Rattle.part_directory.proofs.HeldParts.{number-here}

module _ (held : HeldPart) (xs : List ℕ) (h : HoldsValues held xs) where
  abbrev i : ℕ
  i = held.part.from

  abbrev j : ℕ
  j = held.part.to

  abbrev kind : Kind
  kind = kind_of (universe xs i j) (j - i)

  are-relative : AreRelative (universe_of held.view) (count_of held.view) (counted_from held.past xs i j)
  are-relative = relative-held held.view (counted_from held.past xs i j) h.numbers

  some-here : i < j
  some-here = omega (arith, are-relative.some, h.m)

  -- one past the last value of the part
  end-here : past xs j ≡ held.part.last + 1
  end-here =
      let some = some-here in
      let last = number-here held xs h (j - 1) (omega (arith, some)) (omega (arith, some)) in
      let same : slice_index (counted_from held.past xs i j) (j - 1 - i) ≡ slice_index (counted_from held.past xs i j) (count_of held.view - 1) = ap (slice_index (counted_from held.past xs i j)) (omega (arith, h.m)) in
      past-at xs j (omega (arith, some)) ∙ omega (arith, last, same, are-relative.last, h.u, h.above)

  -- what a part keeps from a number on that is not before it
  inside : (first most : ℕ) → past xs i ≤ first → words_kept_by_part xs i j first most ≡ words_kept kind (past xs j) first most
  inside first most le = ap (λ (b : Bool). if b then words_kept kind (past xs j) first most else 0) (le-leb (past xs i) first le)

  -- one value keeps none
  one : (first most : ℕ) → past xs i ≤ first → j - i ≡ 1 → words_kept_by_part xs i j first most ≡ 0
  one first most le is =
      inside first most le
      ∙ ap (λ (m : ℕ). words_kept (kind_of (universe xs i j) m) (past xs j) first most) is
      ∙ words-of_one (universe xs i j) (past xs j) first most (omega (arith, le))

  pub words-inside : (first from most n : ℕ) → from + held.past ≡ first → n ≡ words_kept (kind_of (universe_of held.view) (count_of held.view)) (universe_of held.view) from most → n ≡ words_kept_by_part xs held.part.from held.part.to first most
  words-inside first from most n start told =
      let le : past xs i ≤ first = omega (arith, h.before, start) in
      elim (cases_lt 1 (j - i)) as (λ _. n ≡ words_kept_by_part xs i j first most) [
        | inl many ↦ (
            let first_is = h.whole (omega (arith, many)) in
            let u_is : universe_of held.view ≡ universe xs i j = omega (arith, h.u, first_is, end-here) in
            told
            ∙ ap (λ (u : ℕ). words_kept (kind_of u (count_of held.view)) (universe_of held.view) from most) u_is
            ∙ ap (λ (m : ℕ). words_kept (kind_of (universe xs i j) m) (universe_of held.view) from most) h.m
            ∙ words-moved kind (universe_of held.view) from (past xs j) first most (omega (arith, h.u, h.above, end-here, start))
            ∙ sym (inside first most le))
        | inr few ↦ (
            let is : j - i ≡ 1 = omega (arith, few, some-here) in
            told
            ∙ ap (λ (m : ℕ). words_kept (kind_of (universe_of held.view) m) (universe_of held.view) from most) (h.m ∙ is)
            ∙ words-of_one (universe_of held.view) (universe_of held.view) from most (omega arith)
            ∙ sym (one first most le is))
      ]

  pub words-before : (first most : ℕ) → first < held.past → 0 ≡ words_kept_by_part xs held.part.from held.part.to first most
  words-before first most before = elim (cases_lt first (past xs i)) as (λ _. 0 ≡ words_kept_by_part xs i j first most) [
    | inl early ↦ sym (ap (λ (b : Bool). if b then words_kept kind (past xs j) first most else 0) (lt-leb (past xs i) first early))
    | inr late ↦ (elim (cases_lt 1 (j - i)) as (λ _. 0 ≡ words_kept_by_part xs i j first most) [
      | inl many ↦ (let first_is = h.whole (omega (arith, many)) in absurd (omega (arith, first_is, before, late)))
      | inr few ↦ sym (one first most late (omega (arith, few, some-here)))
    ])
  ]
