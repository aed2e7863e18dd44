use Rattle.std.proofs.Common.{◌≡◌, ℕ, zero, suc, ◌+◌, ◌-◌, ◌<◌, ◌≤◌, true, List, length, drop, slice_index, get_or, inl, inr, ap, arith}
use Rattle.std.specs.Prelude.{nat_le, not}
use Rattle.std.specs.List.{position_or_len}
use Rattle.std.specs.List.Sorted.{IsStrictlyIncreasing}
use Rattle.std.proofs.lemmas.Bool.{cases_lt, leb-false, lt-leb}
use Rattle.std.proofs.lemmas.Bool.Decides.{nat_tests}
use Rattle.std.proofs.lemmas.List.{length-drop, get_or-drop}
use Rattle.std.proofs.lemmas.List.Sums.{position_or_len_is, fails_before_first, passes_at_first, prefix_len-le-length}
use Rattle.collection_model.specs.FormatNumbers.{FormatNumbers}
use Rattle.part_cost.specs.Stored.{IsFirstAtLeast}
use Rattle.part_cost.proofs.Parts.{past-at}
use Rattle.sequence_words.specs.SequenceFault.{stated_last, stated_end, end_before}
use Rattle.sequence_words.specs.SequenceView.{SequenceView, place_at_least}
use Rattle.sequence_words.specs.SequenceParts.{StatesParts}

true-le : (a b : ℕ) → a ≤ b → nat_le a b ≡ true
true-le a b h = grind (arith, nat_tests)

le-true : (a b : ℕ) → nat_le a b ≡ true → a ≤ b
le-true a b h = grind (arith, nat_tests)

pub never-falls : (xs : List ℕ) → IsStrictlyIncreasing xs → (j d : ℕ) → j + d < length xs → slice_index xs j ≤ slice_index xs (j + d)
never-falls xs up j zero lt = omega (arith, ap (slice_index xs) (let e : j + 0 ≡ j = omega arith in e))
never-falls xs up j (suc d) lt =
    let step : slice_index xs (j + d) < slice_index xs (j + d + 1) = up (j + d) (omega (arith, lt)) in
    omega (arith, never-falls xs up j d (omega (arith, lt)), step, ap (slice_index xs) (let e : j + suc d ≡ j + d + 1 = omega arith in e))

-- the place behind values that are too small
pub found-place : (xs : List ℕ) (place at x : ℕ) → place ≤ at → at ≤ length xs → ((k : ℕ) → place ≤ k → k < at → slice_index xs k < x)
    → (at < length xs → x ≤ slice_index xs at) → at ≡ place_at_least xs place x
found-place xs place at x le fit before reached =
    let is = position_or_len_is (λ y. nat_le x y) (drop place xs) (at - place) 0 (omega (arith, length-drop place xs, fit))
    (λ k lt.
    let less = before (place + k) (omega arith) (omega (arith, lt)) in
    let here : get_or (drop place xs) k 0 ≡ slice_index xs (place + k) = get_or-drop place xs k 0 in
    lt-leb x (get_or (drop place xs) k 0) (omega (arith, here, less)))
    (λ lt.
    let most = reached (omega (arith, lt, length-drop place xs)) in
    let here : get_or (drop place xs) (at - place) 0 ≡ slice_index xs (place + (at - place)) = get_or-drop place xs (at - place) 0 in
    let same : slice_index xs (place + (at - place)) ≡ slice_index xs at = ap (slice_index xs) (let e : place + (at - place) ≡ at = omega (arith, le) in e) in
    true-le x (get_or (drop place xs) (at - place) 0) (omega (arith, here, same, most))) in
    omega (arith, is, le)

pub found-first : (xs : List ℕ) (place at x : ℕ) → IsFirstAtLeast xs place x at → at ≡ place_at_least xs place x
found-first xs place at x h = found-place xs place at x h.at_or_after (omega (arith, h.within)) h.first (λ lt. h.at_least)

module _ (xs : List ℕ) (from x : ℕ) where
  abbrev rest : List ℕ
  rest = drop from xs

  -- how far behind it lies
  abbrev far : ℕ
  far = position_or_len (λ y. nat_le x y) rest

  -- the place that is found lies within
  pub place-within : from ≤ length xs → place_at_least xs from x ≤ length xs
  place-within fit = omega (arith, prefix_len-le-length (λ y. not (nat_le x y)) rest, length-drop from xs, fit)

  -- the values from the first place on before it are too small
  pub place-after : (k : ℕ) → from ≤ k → k < place_at_least xs from x → slice_index xs k < x
  place-after k after lt =
      let small = leb-false x (get_or rest (k - from) 0) (fails_before_first (λ y. nat_le x y) rest (k - from) 0 (omega (arith, lt, after))) in
      let here : get_or rest (k - from) 0 ≡ slice_index xs (from + (k - from)) = get_or-drop from xs (k - from) 0 in
      let same : slice_index xs (from + (k - from)) ≡ slice_index xs k = ap (slice_index xs) (let e : from + (k - from) ≡ k = omega (arith, after) in e) in
      omega (arith, small, here, same)

  pub place-before : from < place_at_least xs from x → slice_index xs (place_at_least xs from x - 1) < x
  place-before lt = place-after (place_at_least xs from x - 1) (omega (arith, lt)) (omega (arith, lt))

  -- the value there is large enough
  pub place-reached : from ≤ length xs → place_at_least xs from x < length xs → x ≤ slice_index xs (place_at_least xs from x)
  place-reached fit lt =
      let most = le-true x (get_or rest far 0) (passes_at_first (λ y. nat_le x y) rest 0 (omega (arith, lt, length-drop from xs, fit))) in
      let here : get_or rest far 0 ≡ slice_index xs (from + far) = get_or-drop from xs far 0 in
      omega (arith, most, here)

-- values that are too small may be left out
pub later-place : (xs : List ℕ) (place from x : ℕ) → place ≤ from → from ≤ length xs → ((k : ℕ) → place ≤ k → k < from → slice_index xs k < x)
    → place_at_least xs from x ≡ place_at_least xs place x
later-place xs place from x le fit before =
    found-place xs place (place_at_least xs from x) x (omega (arith, le)) (place-within xs from x fit)
    (λ k after lt. elim (cases_lt k from) [ inl less ↦ before k after less | inr more ↦ place-after xs from x k more lt ])
    (place-reached xs from x fit)

-- all values before the end of a part are too small where its last is
pub below-last : (format : FormatNumbers) (words : List ℕ) (parts q x : ℕ) (v : SequenceView) → StatesParts format words parts v → q < parts → stated_last format words q < x
    → (k : ℕ) → k < stated_end format words q → slice_index v.values k < x
below-last format words parts q x v d lt less k before =
    let p = d.part q lt in
    let end : ℕ = stated_end format words q in
    let last = past-at v.values end (omega (arith, before)) in
    let grows = never-falls v.values d.rising k (end - 1 - k) (omega (arith, before, p.within)) in
    let same : slice_index v.values (k + (end - 1 - k)) ≡ slice_index v.values (end - 1) = ap (slice_index v.values) (let e : k + (end - 1 - k) ≡ end - 1 = omega (arith, before) in e) in
    omega (arith, p.last, last, grows, same, less)

-- all values of the parts before one that is reached are too small
pub below-reached : (format : FormatNumbers) (words : List ℕ) (parts part reached x : ℕ) (v : SequenceView) → StatesParts format words parts v → part ≤ reached → reached ≤ parts
    → (part < reached → stated_last format words (reached - 1) < x)
    → (k : ℕ) → end_before format words part ≤ k → k < end_before format words reached → slice_index v.values k < x
below-reached format words parts part zero x v d le fit before k after lt = absurd (omega (arith, lt))
below-reached format words parts part (suc q) x v d le fit before k after lt =
    elim (cases_lt part (suc q)) [
      | inl less ↦
          let small : stated_last format words q < x =
          omega (arith, before less, ap (stated_last format words) (let e : q ≡ suc q - 1 = omega arith in e)) in
          below-last format words parts q x v d (omega (arith, fit)) small k lt
      | inr more ↦ absurd (omega (arith, after, lt, ap (end_before format words) (let e : part ≡ suc q = omega (arith, le, more) in e)))
    ]

-- a part that is not before another ends no earlier
pub ends-rise : (format : FormatNumbers) (words : List ℕ) (parts part reached : ℕ) (v : SequenceView) → StatesParts format words parts v → part ≤ reached → reached ≤ parts
    → end_before format words part ≤ end_before format words reached
ends-rise format words parts part zero v d le fit = omega (arith, ap (end_before format words) (let e : part ≡ zero = omega (arith, le) in e))
ends-rise format words parts part (suc q) v d le fit =
    elim (cases_lt part (suc q)) [
      | inl less ↦ omega (arith, ends-rise format words parts part q v d (omega (arith, less)) (omega (arith, fit)), (d.part q (omega (arith, fit))).some)
      | inr more ↦ omega (arith, ap (end_before format words) (let e : part ≡ suc q = omega (arith, le, more) in e))
    ]
