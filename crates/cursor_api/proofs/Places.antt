-- Lemmas on the places of a cursor.
use Rattle.std.proofs.Common.{◌≡◌, refl, sym, ap, inl, inr, ◌∙◌, ℕ, ◌+◌, ◌-◌, ◌<◌, ◌≤◌, Bool, true, false, leb, ltb, List, [], ◌∷◌, length, get_or, drop, max, min, arith, length-drop}
use Rattle.std.specs.List.{between, position_or_len, fold, reduce}
use Rattle.std.specs.Option.{unwrap_or}
use Rattle.std.specs.List.Sorted.{IsStrictlyIncreasing, IsNonDecreasingBy, IsPartitionPoint, IsPartitionedBy}
use Rattle.std.proofs.lemmas.Bool.{leb-true, leb-false, le-leb, lt-leb, ltb-true, ltb-false, cases_lt}
use Rattle.std.proofs.lemmas.List.{get_or-drop, get_or-map}
use Rattle.std.proofs.lemmas.List.Edits.{length-between, get_or-between}
use Rattle.std.proofs.lemmas.List.Sorted.{IsPartitionedBy-ltb}
use Rattle.std.proofs.lemmas.List.Sums.{prefix_len-le-length, position_or_len_is, fails_before_first, passes_at_first}
use Rattle.std.proofs.lemmas.List.Kept.{AllPairs-from_increasing}
use Rattle.collection_model.specs.Collection.{Posting, docs_of, greatest, postings_of}
use Rattle.collection_model.specs.NextBelow.{AreNextBelow}
use Rattle.collection_model.proofs.Lists.{docs-of_postings}
use Rattle.cursor_api.specs.NextGeq.{IsFirstFrom, next_geq_place}
use Rattle.cursor_api.specs.Laws.{IsNextGeq}

abbrev no_posting : Posting
no_posting = record { doc = 0; freq = 0 }

abbrev is_at_least : ℕ → Posting → Bool
is_at_least d p = leb d p.doc

-- document k of a list, counted from a place
doc-from : (list : List Posting) (place j k : ℕ) → place + j ≡ k → k < length list → get_or (docs_of list) k 0 ≡ (get_or (drop place list) j no_posting).doc
doc-from list place j k e within = get_or-map (λ p. p.doc) list k no_posting 0 within ∙ ap (λ i. (get_or list i no_posting).doc) (sym e) ∙ ap (λ p. p.doc) (sym (get_or-drop place list j no_posting))

pub next_geq-first : (list : List Posting) (place d : ℕ) → place ≤ length list → IsNextGeq list place d (next_geq_place list place d)
next_geq-first list place d within =
    let rest : List Posting = drop place list in
    let far : ℕ = position_or_len (is_at_least d) rest in
    let count : length rest ≡ length list - place = length-drop place list in
    let far_within : far ≤ length rest = prefix_len-le-length _ rest in
    record {
      at_or_after = omega arith;
      within = omega arith;
      passed = λ k from before.
          let j : k - place < far = omega arith in
          let fails : leb d (get_or rest (k - place) no_posting).doc ≡ false = fails_before_first (is_at_least d) rest (k - place) no_posting j in
          omega (arith, leb-false _ _ fails, doc-from list place (k - place) k (omega arith) (omega arith));
      reached = λ inside.
          let passes : leb d (get_or rest far no_posting).doc ≡ true = passes_at_first (is_at_least d) rest no_posting (omega arith) in
          omega (arith, leb-true _ _ passes, doc-from list place far (place + far) refl (omega arith));
    }

pub next_geq-one : (list : List Posting) (place d found : ℕ) → IsNextGeq list place d found → found ≡ next_geq_place list place d
next_geq-one list place d found is =
    let rest : List Posting = drop place list in
    let count : length rest ≡ length list - place = length-drop place list in
    let from : place ≤ found = is.at_or_after in
    let within : found ≤ length list = is.within in
    let far : position_or_len (is_at_least d) rest ≡ found - place =
    position_or_len_is (is_at_least d) rest (found - place) no_posting (omega arith)
    (λ k before. lt-leb _ _ (let passed : get_or (docs_of list) (place + k) 0 < d = is.passed (place + k) (omega arith) (omega arith) in
    omega (arith, doc-from list place k (place + k) refl (omega arith))))
    (λ before. le-leb _ _ (let reached : d ≤ get_or (docs_of list) found 0 = is.reached (omega arith) in
    omega (arith, doc-from list place (found - place) found (omega arith) (omega arith)))) in
    omega arith

-- the numbers of a rising list from a place on do not fall
pub rising-from : (docs : List ℕ) (place : ℕ) → IsStrictlyIncreasing docs → IsNonDecreasingBy (λ x. x) (drop place docs)
rising-from docs place rising i j d le within =
    let count : length (drop place docs) ≡ length docs - place = length-drop place docs in
    elim (cases_lt i j) as (λ _. get_or (drop place docs) i d ≤ get_or (drop place docs) j d) [
      | inl lt ↦ (let below : get_or docs (place + i) d < get_or docs (place + j) d = AllPairs-from_increasing docs rising (place + i) (place + j) d (omega arith) (omega arith) in omega (arith, get_or-drop place docs i d, get_or-drop place docs j d))
      | inr ge ↦ (let same : i ≡ j = omega arith in let e : get_or (drop place docs) i d ≡ get_or (drop place docs) j d = ap (λ k. get_or (drop place docs) k d) same in omega arith)
    ]

-- a part of numbers that do not fall is parted at each number
pub part-is_parted : (docs : List ℕ) (low high d : ℕ) → IsNonDecreasingBy (λ x. x) docs → high ≤ length docs → IsPartitionedBy (λ y. ltb y d) (between low high docs)
part-is_parted docs low high d rise within =
    let count : length (between low high docs) ≡ high - low = length-between docs low high within in
    IsPartitionedBy-ltb (λ x. x) (between low high docs) d
    (λ i j e le inside. omega (arith, rise (low + i) (low + j) e (omega arith) (omega arith), get_or-between docs low high i e (omega arith), get_or-between docs low high j e (omega arith)))

-- the place that a search of a part gives, where the numbers before the part are below d, and the last of it is not unless it ends the list
pub part-finds : (docs : List ℕ) (low high d r : ℕ) → low ≤ high → high ≤ length docs → IsPartitionPoint (λ y. ltb y d ≡ true) (λ y. ltb y d ≡ false) (between low high docs) r → r ≤ length (between low high docs) → ((k : ℕ) → k < low → get_or docs k 0 < d)
    → (high < length docs → (low < high) × (d ≤ get_or docs (high - 1) 0)) → IsFirstFrom docs d (low + r)
part-finds docs low high d r le within point bound before last =
    let count : length (between low high docs) ≡ high - low = length-between docs low high within in
    let below : (j : ℕ) → j < r → get_or docs (low + j) 0 < d = λ j lt. omega (arith, ltb-true _ _ (point.0 j 0 (omega arith) lt), get_or-between docs low high j 0 (omega arith)) in
    record {
      within = omega arith;
      passed = λ k lt. elim (cases_lt k low) as (λ _. get_or docs k 0 < d) [
        | inl early ↦ before k early
        | inr late ↦ (let h = below (k - low) (omega arith) in let e : low + (k - low) ≡ k = omega arith in let read = ap (λ i. get_or docs i 0) e in omega arith)
      ];
      reached = λ inside. elim (cases_lt r (high - low)) as (λ _. d ≤ get_or docs (low + r) 0) [
        | inl lt ↦ omega (arith, ltb-false _ _ (point.1 r 0 (omega arith) (omega arith)), get_or-between docs low high r 0 (omega arith))
        | inr ge ↦ (let end = last (omega arith) in
            let from = end.0 in
            let least = end.1 in
            let h = below (high - 1 - low) (omega arith) in
            let e : low + (high - 1 - low) ≡ high - 1 = omega arith in
            let read = ap (λ i. get_or docs i 0) e in
            absurd (omega arith))
      ];
    }

-- the documents from a place on that are below an end, as many of them as have room
pub next-below : (docs freqs given : List ℕ) (at end found count : ℕ) → length docs ≡ length freqs → at ≤ length docs → IsPartitionPoint (λ y. ltb y end ≡ true) (λ y. ltb y end ≡ false) (drop at docs) found → found ≤ length (drop at docs)
    → count ≡ min found (length given) → ((j : ℕ) → j < count → get_or given j 0 ≡ get_or (drop at docs) j 0) → AreNextBelow (docs_of (postings_of docs freqs)) at end given count
next-below docs freqs given at end found count same within point bound least copied =
    let rest : length (drop at docs) ≡ length docs - at = length-drop at docs in
    let all : docs_of (postings_of docs freqs) ≡ docs = docs-of_postings docs freqs same in
    let long : length (docs_of (postings_of docs freqs)) ≡ length docs = ap length all in
    let read : (j : ℕ) → get_or (docs_of (postings_of docs freqs)) (at + j) 0 ≡ get_or (drop at docs) j 0 = λ j. ap (λ xs. get_or xs (at + j) 0) all ∙ sym (get_or-drop at docs j 0) in
    record {
      room = omega arith;
      within = omega arith;
      same = λ j lt. copied j lt ∙ sym (read j);
      below = λ j lt. omega (arith, ltb-true _ _ (point.0 j 0 (omega arith) (omega arith)), read j);
      full = λ short more. omega (arith, ltb-false _ _ (point.1 count 0 (omega arith) (omega arith)), read count);
    }

-- the numbers folded from a first one
greatest-fold : (a : ℕ) (xs : List ℕ) → fold max a xs ≡ max a (greatest xs)
greatest-fold a [] = omega arith
greatest-fold a (x ∷ xs) = let more : fold max (max a x) xs ≡ max (max a x) (greatest xs) = greatest-fold (max a x) xs in omega arith

-- the greatest number as an iterator gives it
pub greatest-reduce : (xs : List ℕ) → unwrap_or (reduce max xs) 0 ≡ greatest xs
greatest-reduce [] = refl
greatest-reduce (x ∷ xs) = greatest-fold x xs
