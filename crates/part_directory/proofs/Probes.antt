use Rattle.std.proofs.Common.{◌≡◌, ℕ, zero, suc, ◌+◌, ◌-◌, ◌*◌, ◌^◌, ◌<◌, ◌≤◌, List, length, slice_index, ap, ◌∙◌, add-one, inl, inr, arith}
use Rattle.std.specs.List.{range_with_len}
use Rattle.std.specs.List.Sorted.{IsStrictlyIncreasing}
use Rattle.std.proofs.Math.Nat.{pow-suc}
use Rattle.std.proofs.lemmas.Bool.{cases_lt}
use Rattle.std.proofs.lemmas.List.{length-map}
use Rattle.std.proofs.lemmas.List.FromFn.{length-range_with_len, get_or-map-range_with_len}
use Rattle.collection_model.specs.FormatNumbers.{FormatNumbers}
use Rattle.part_cost.specs.Payload.{digits}
use Rattle.part_cost.proofs.DigitCounts.{digits-hold, digits-are-fewest}
use Rattle.part_cost.proofs.Growth.{digits-grow}
use Rattle.sequence_words.specs.SequenceFault.{stated_last, past_before}
use Rattle.sequence_words.specs.SequenceView.{SequenceView, place_at_least, lasts_stated}
use Rattle.sequence_words.specs.SequenceParts.{StatesParts}
use Rattle.part_directory.proofs.Places.{never-falls, found-place, place-within, place-before, place-reached}

half-below : (n m d : ℕ) → 1 ≤ n → m * 2 ≤ n → n < 2 ^ d → m < 2 ^ 64 → digits m + 1 ≤ d
half-below n m zero some half below fit = absurd (omega (arith, some, below))
half-below n m (suc e) some half below fit =
    let less : m < 2 ^ e = omega (arith, half, below, pow-suc 2 e) in
    omega (arith, digits-are-fewest m e fit less)

-- half of a number has a digit less
pub half-digits : (n m : ℕ) → 1 ≤ n → m * 2 ≤ n → n < 2 ^ 64 → digits m + 1 ≤ digits n
half-digits n m some half fit = half-below n m (digits n) some half (digits-hold n fit) (omega (arith, half, fit))

-- twice a number and one has at most a digit more
double-digits : (m n : ℕ) → n ≡ m * 2 + 1 → n < 2 ^ 64 → digits n ≤ digits m + 1
double-digits m n is fit =
    let below : m < 2 ^ digits m = digits-hold m (omega (arith, is, fit)) in
    let less : n < 2 ^ suc (digits m) = omega (arith, is, below, pow-suc 2 (digits m)) in
    let few : digits n ≤ suc (digits m) = digits-are-fewest n (suc (digits m)) fit less in
    omega (arith, few)

-- a number less one has a digit less than it, where it is one, or twice a number of which that holds
pub round-next : (w n : ℕ) → n ≡ w + (w - 1) + 1 → n < 2 ^ 64 → (0 < w → digits (w - 1) + 1 ≤ digits w) → digits (n - 1) + 1 ≤ digits n
round-next zero n is fit round = half-digits n (n - 1) (omega (arith, is)) (omega (arith, is)) fit
round-next (suc v) n is fit round =
    let most : digits (n - 1) ≤ digits (suc v - 1) + 1 = double-digits (suc v - 1) (n - 1) (omega (arith, is)) (omega (arith, fit)) in
    let more : digits (suc v) + 1 ≤ digits n = half-digits n (suc v) (omega (arith, is)) (omega (arith, is)) fit in
    let here : digits (suc v - 1) + 1 ≤ digits (suc v) = round (omega arith) in
    omega (arith, most, more, here)

-- no number has no digits
no-digits : (n : ℕ) → n ≡ 0 → digits n ≤ 0
no-digits n is = digits-are-fewest n 0 (omega (arith, is)) (omega (arith, is))

-- the probes of a gallop: one for each digit of its width and one more, and then those of a halving
pub few-probes : (old before new from low high at : ℕ) → from ≤ low → low ≤ high → high ≤ low + (low - from - 1) → low ≤ at → at < 2 ^ 32
    → (from < low → digits (low - from - 1) + 1 ≤ digits (low - from)) → before ≤ old + digits (low - from) + 1 → new ≤ before + digits (high - low)
    → new ≤ old + 2 * digits (at - from + 1)
few-probes old before new from low high at le up near after fit round first then =
    elim (cases_lt from low) [
      | inl less ↦
          let gap : digits (high - low) ≤ digits (low - from - 1) = digits-grow (high - low) (low - from - 1) (omega (arith, near)) in
          let more : digits (low - from) ≤ digits (at - from + 1) = digits-grow (low - from) (at - from + 1) (omega (arith, after)) in
          let here : digits (low - from - 1) + 1 ≤ digits (low - from) = round less in
          omega (arith, gap, more, here, first, then)
      | inr more ↦
          let gap : digits (high - low) ≤ 0 = no-digits (high - low) (omega (arith, near, more)) in
          let width : digits (low - from) ≤ 0 = no-digits (low - from) (omega (arith, more)) in
          let one : digits 0 + 1 ≤ digits (at - from + 1) = half-digits (at - from + 1) 0 (omega arith) (omega arith) (omega (arith, fit)) in
          omega (arith, gap, width, one, first, then)
    ]

-- the first place that is reached, where the value before it is too small
pub reached-place : (xs : List ℕ) → IsStrictlyIncreasing xs → (from at x : ℕ) → from ≤ at → at ≤ length xs → (from < at → slice_index xs (at - 1) < x)
    → (at < length xs → x ≤ slice_index xs at) → at ≡ place_at_least xs from x
reached-place xs up from at x le fit before reached =
    found-place xs from at x le fit
    (λ k after lt.
    let grows = never-falls xs up k (at - 1 - k) (omega (arith, lt, fit)) in
    let same : slice_index xs (k + (at - 1 - k)) ≡ slice_index xs (at - 1) = ap (slice_index xs) (let e : k + (at - 1 - k) ≡ at - 1 = omega (arith, lt) in e) in
    omega (arith, grows, same, before (omega (arith, after, lt))))
    reached

-- the value before a place is too small, where it was found from another on before which it is too small
pub before-found : (xs : List ℕ) (from low at x : ℕ) → low ≤ at → (from < low → slice_index xs (low - 1) < x) → (low < at → slice_index xs (at - 1) < x) → from < at → slice_index xs (at - 1) < x
before-found xs from low at x le small later behind =
    elim (cases_lt low at) [
      | inl less ↦ later less
      | inr more ↦ omega (arith, small (omega (arith, behind, more)), ap (slice_index xs) (let e : at - 1 ≡ low - 1 = omega (arith, le, more) in e))
    ]

-- as many last values are stated as there are parts
pub count-lasts : (format : FormatNumbers) (words : List ℕ) (parts : ℕ) → length (lasts_stated format words parts) ≡ parts
count-lasts format words parts = length-map (range_with_len 0 parts) (stated_last format words) ∙ length-range_with_len 0 parts

-- the last value of a part
pub last-stated : (format : FormatNumbers) (words : List ℕ) (parts q : ℕ) → q < parts → slice_index (lasts_stated format words parts) q ≡ stated_last format words q
last-stated format words parts q lt = get_or-map-range_with_len (stated_last format words) 0 parts q q 0 lt (omega arith)

-- the last values of a sequence rise
pub lasts-rise : (format : FormatNumbers) (words : List ℕ) (parts : ℕ) (v : SequenceView) → StatesParts format words parts v → IsStrictlyIncreasing (lasts_stated format words parts)
lasts-rise format words parts v d q lt =
    let count = count-lasts format words parts in
    let fit : q + 1 < parts = omega (arith, lt, count) in
    let here = last-stated format words parts q (omega (arith, fit)) in
    let next = last-stated format words parts (q + 1) fit in
    let above = (d.part (q + 1) fit).above in
    let past : past_before format words (q + 1) ≡ stated_last format words q + 1 = ap (past_before format words) (add-one q) in
    omega (arith, here, next, above, past)

-- the last value before a part that was found is too small
pub stated-before : (format : FormatNumbers) (words : List ℕ) (parts from at x : ℕ) → from ≤ parts → at ≡ place_at_least (lasts_stated format words parts) from x → from < at → stated_last format words (at - 1) < x
stated-before format words parts from at x fit is lt =
    let xs : List ℕ = lasts_stated format words parts in
    let count = count-lasts format words parts in
    let within = place-within xs from x (omega (arith, count, fit)) in
    let small = place-before xs from x (omega (arith, is, lt)) in
    let same : slice_index xs (at - 1) ≡ slice_index xs (place_at_least xs from x - 1) = ap (λ n. slice_index xs (n - 1)) is in
    let here = last-stated format words parts (at - 1) (omega (arith, is, within, count, lt)) in
    omega (arith, small, same, here)

-- its own last value is large enough
pub stated-reached : (format : FormatNumbers) (words : List ℕ) (parts from at x : ℕ) → from ≤ parts → at ≡ place_at_least (lasts_stated format words parts) from x → at < parts → x ≤ stated_last format words at
stated-reached format words parts from at x fit is lt =
    let xs : List ℕ = lasts_stated format words parts in
    let count = count-lasts format words parts in
    let most = place-reached xs from x (omega (arith, count, fit)) (omega (arith, is, lt, count)) in
    let same : slice_index xs at ≡ slice_index xs (place_at_least xs from x) = ap (slice_index xs) is in
    omega (arith, most, same, last-stated format words parts at lt)
