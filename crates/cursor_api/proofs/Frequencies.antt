-- Lemmas on the frequencies of a list of postings.
use Rattle.std.proofs.Common.{◌≡◌, refl, sym, ap, ◌∙◌, ℕ, zero, suc, ◌+◌, ◌<◌, ◌≤◌, true, not, leb, List, [], ◌∷◌, length, get_or, drop, min, arith, cond}
use Rattle.std.specs.List.{count_by, fold, reduce, position_or_len}
use Rattle.std.specs.Option.{unwrap_or}
use Rattle.std.proofs.lemmas.Bool.{le-leb}
use Rattle.std.proofs.lemmas.List.{drop-map}
use Rattle.std.proofs.lemmas.List.Sums.{sum_by-cons}
use Rattle.collection_model.specs.Collection.{Posting, freqs_of, postings_of}
use Rattle.collection_model.proofs.Lists.{freqs-of_postings}
use Rattle.cursor_api.specs.NextGeq.{next_frequent_place}

-- the first posting with such a frequency stands where the first such frequency does
first-of_freqs : (f : ℕ) (list : List Posting) → position_or_len (λ p. leb f p.freq) list ≡ position_or_len (λ x. leb f x) (freqs_of list)
first-of_freqs f [] = refl
first-of_freqs f (p ∷ list) = ap (λ n. cond (not (leb f p.freq)) (1 + n) 0) (first-of_freqs f list)

-- the place that a search of the rest of the frequencies gives
pub frequent-place : (docs freqs : List ℕ) (at f passed : ℕ) → length docs ≡ length freqs → passed ≡ position_or_len (λ x. leb f x) (drop at freqs) → at + passed ≡ next_frequent_place (postings_of docs freqs) at f
frequent-place docs freqs at f passed same is =
    let list : List Posting = postings_of docs freqs in
    let rest : freqs_of (drop at list) ≡ drop at freqs = sym (drop-map (λ p. p.freq) at list) ∙ ap (drop at) (freqs-of_postings docs freqs same) in
    ap (λ n. at + n) (is ∙ ap (position_or_len (λ x. leb f x)) (sym rest) ∙ sym (first-of_freqs f (drop at list)))

-- the least of some numbers is no more than the first of them, and than each other
least-fold : (a : ℕ) (xs : List ℕ) (j : ℕ) → (fold min a xs ≤ a) × (j < length xs → fold min a xs ≤ get_or xs j 0)
least-fold a [] j = (omega arith, λ lt. absurd (omega arith))
least-fold a (x ∷ xs) zero = let more = least-fold (min a x) xs 0 in (omega (arith, more.0), λ lt. omega (arith, more.0))
least-fold a (x ∷ xs) (suc j) = let more = least-fold (min a x) xs j in (omega (arith, more.0), λ lt. more.1 (omega arith))

-- each of some numbers is at least the least of them
pub least-reduce : (xs : List ℕ) (j : ℕ) → j < length xs → unwrap_or (reduce min xs) 0 ≤ get_or xs j 0
least-reduce [] j lt = absurd (omega arith)
least-reduce (x ∷ xs) zero lt = (least-fold x xs 0).0
least-reduce (x ∷ xs) (suc j) lt = (least-fold x xs j).1 (omega arith)

-- where the first numbers are at least one, so many are
pub first-count : (f k : ℕ) (xs : List ℕ) → k ≤ length xs → ((j : ℕ) → j < k → f ≤ get_or xs j 0) → k ≤ count_by (λ x. leb f x) xs
first-count f zero xs le each = omega arith
first-count f (suc k) [] le each = absurd (omega arith)
first-count f (suc k) (x ∷ xs) le each =
    let more : k ≤ count_by (λ y. leb f y) xs = first-count f k xs (omega arith) (λ j lt. each (suc j) (omega arith)) in
    let yes : leb f x ≡ true = le-leb _ _ (each 0 (omega arith)) in
    let one : cond {A = ℕ} (leb f x) 1 0 ≡ 1 = ap (λ b. cond {A = ℕ} b 1 0) yes in
    let step : count_by (λ y. leb f y) (x ∷ xs) ≡ cond (leb f x) 1 0 + count_by (λ y. leb f y) xs = sum_by-cons _ x xs in
    omega (arith, more, one, step)
