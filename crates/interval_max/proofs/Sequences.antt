-- Lemmas on the two sequences of a list.
use Rattle.std.proofs.Common.{◌≡◌, refl, sym, ap, ◌∙◌, subst, ℕ, zero, suc, ◌+◌, ◌-◌, ◌*◌, ◌^◌, ◌<◌, ◌≤◌, List, [], ◌∷◌, length, get_or, arith}
use Rattle.std.specs.List.{All}
use Rattle.std.specs.List.Sorted.{IsStrictlyIncreasing}
use Rattle.std.proofs.lemmas.List.Elements.{All-get_or}
use Rattle.collection_model.specs.Collection.{docs_of, freqs_of}
use Rattle.collection_model.specs.Sequences.{postings_in, steps_from}
use Rattle.collection_model.proofs.Lists.{docs_of-length, docs-of_postings, freqs-of_postings, rising-length}
use Rattle.collection_model.proofs.Sequences.{same-steps, steps-length}
use Rattle.cursor_api.specs.NextGeq.{IsCursorList}

-- one more than the value before a place, 0 at the first
abbrev pub past : List ℕ → ℕ → ℕ
past xs zero = 0
past xs (suc k) = get_or xs k 0 + 1

-- the step at a place is how far its value lies past the one before it
step-first : (s : ℕ) (xs : List ℕ) → 0 < length xs → get_or (steps_from s xs) 0 0 ≡ get_or xs 0 0 + 1 - s
step-first s [] some = absurd (omega (arith, some))
step-first s (x ∷ xs) some = refl

step-later : (s : ℕ) (xs : List ℕ) (k : ℕ) → suc k < length xs → get_or (steps_from s xs) (suc k) 0 ≡ get_or xs (suc k) 0 - get_or xs k 0
step-later s [] k within = absurd (omega (arith, within))
step-later s (x ∷ xs) zero within = let first : get_or (steps_from (x + 1) xs) 0 0 ≡ get_or xs 0 0 + 1 - (x + 1) = step-first (x + 1) xs (omega (arith, within)) in omega (arith, first)
step-later s (x ∷ xs) (suc k) within = step-later (x + 1) xs k (omega (arith, within))

step-past : (xs : List ℕ) (k : ℕ) → k < length xs → get_or (steps_from 0 xs) k 0 ≡ get_or xs k 0 + 1 - past xs k
step-past xs zero within = step-first 0 xs within
step-past xs (suc k) within = let step : get_or (steps_from 0 xs) (suc k) 0 ≡ get_or xs (suc k) 0 - get_or xs k 0 = step-later 0 xs k within in omega (arith, step)

-- where the steps fit a frequency, k of them reach at most k times the greatest that fits
past-few : (xs : List ℕ) (k : ℕ) → All (λ f. f < 2 ^ 32) (steps_from 0 xs) → k ≤ length xs → past xs k ≤ k * 4294967295
past-few xs zero fit within = omega arith
past-few xs (suc k) fit within =
    let before : past xs k ≤ k * 4294967295 = past-few xs k fit (omega (arith, within)) in
    let step : get_or (steps_from 0 xs) k 0 < 4294967296 = All-get_or (λ f. f < 4294967296) (steps_from 0 xs) k 0 (omega (arith, within, steps-length 0 xs)) fit in
    omega (arith, before, step, step-past xs k (omega (arith, within)))

module _ (docs sums : List ℕ) (each : length sums ≡ length docs) where
  pub docs-in : docs_of (postings_in docs sums) ≡ docs
  docs-in = docs-of_postings docs (steps_from 0 sums) (same-steps docs sums (sym each))

  pub freqs-in : freqs_of (postings_in docs sums) ≡ steps_from 0 sums
  freqs-in = freqs-of_postings docs (steps_from 0 sums) (same-steps docs sums (sym each))

  pub in-length : length (postings_in docs sums) ≡ length docs
  in-length = sym (docs_of-length (postings_in docs sums)) ∙ ap length docs-in

  -- posting j, where they are a list: what its document and its sum say, and one more than the sum
  -- before it
  module _ (good : IsCursorList (postings_in docs sums)) (j : ℕ) (within : j < length docs) where
    pub doc-fits : get_or docs j 0 < 4294967295
    doc-fits = All-get_or (λ d. d < 4294967295) docs j 0 within (subst (All (λ d. d < 4294967295)) docs-in good.docs)

    inside : j < length (steps_from 0 sums)
    inside = omega (arith, within, each, steps-length 0 sums)

    fit : All (λ f. f < 2 ^ 32) (steps_from 0 sums)
    fit = subst (All (λ f. f < 2 ^ 32)) freqs-in good.fit

    some : 1 ≤ get_or (steps_from 0 sums) j 0
    some = All-get_or (λ f. 1 ≤ f) (steps_from 0 sums) j 0 inside (subst (All (λ f. 1 ≤ f)) freqs-in good.not_zero)

    few : get_or (steps_from 0 sums) j 0 < 4294967296
    few = All-get_or (λ f. f < 4294967296) (steps_from 0 sums) j 0 inside fit

    step : get_or (steps_from 0 sums) j 0 ≡ get_or sums j 0 + 1 - past sums j
    step = step-past sums j (omega (arith, within, each))

    pub sum-fits : get_or sums j 0 + 1 < 18446744073709551616
    sum-fits =
        let many : length docs ≤ 4294967295 = rising-length docs 4294967295 (subst IsStrictlyIncreasing docs-in good.rising) (subst (All (λ d. d < 4294967295)) docs-in good.docs) in
        let most : get_or sums j 0 + 1 ≤ suc j * 4294967295 = past-few sums (suc j) fit (omega (arith, within, each)) in
        omega (arith, many, most, within)

    pub past-le : past sums j ≤ get_or sums j 0 + 1
    past-le = omega (arith, some, step)

    pub freq-fits : get_or sums j 0 + 1 - past sums j < 4294967296
    freq-fits = omega (arith, few, step)

    pub doc-in : get_or docs j 0 ≡ get_or (docs_of (postings_in docs sums)) j 0
    doc-in = ap (λ ds. get_or ds j 0) (sym docs-in)

    pub freq-in : get_or sums j 0 + 1 - past sums j ≡ get_or (freqs_of (postings_in docs sums)) j 0
    freq-in = sym step ∙ ap (λ fs. get_or fs j 0) (sym freqs-in)

    pub past-more : get_or sums j 0 + 1 ≡ past sums (j + 1)
    past-more = let e : suc j ≡ j + 1 = omega arith in ap (past sums) e
