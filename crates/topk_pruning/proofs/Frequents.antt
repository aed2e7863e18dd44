-- Lemmas on the postings of a frequency.
use Rattle.std.proofs.Common.{◌≡◌, sym, ap, inl, inr, ◌∙◌, ℕ, ◌+◌, ◌-◌, ◌<◌, ◌≤◌, true, eqb, leb, List, drop, length, get_or, Option, Some, None, arith}
use Rattle.std.specs.List.{position_or_len}
use Rattle.std.specs.Option.{option_map, IfSome}
use Rattle.std.proofs.lemmas.Bool.{cases_lt, cases_Bool, eqb-true, leb-true, leb-false}
use Rattle.std.proofs.lemmas.List.{get_or-drop, get_or-map, length-drop, length-map}
use Rattle.std.proofs.lemmas.List.Folds.{Any-from_list_any}
use Rattle.std.proofs.lemmas.List.Kept.{AllPairs-from_increasing}
use Rattle.std.proofs.lemmas.List.Sums.{fails_before_first, passes_at_first}
use Rattle.std.proofs.lemmas.Option.{slice_get-get_or, slice_get_past}
use Rattle.collection_model.specs.Collection.{Posting, docs_of, freqs_of}
use Rattle.cursor_api.specs.NextGeq.{IsCursorList, next_frequent_place}
use Rattle.scan_plans.specs.Matches.{has_doc, freq_of_doc}
use Rattle.scan_plans.specs.Scan.{doc_at, StandsFrom, HasPassed}
use Rattle.scan_plans.specs.Skips.{StandsWhereItIs, HasWhereItStands}
use Rattle.topk_pruning.proofs.Scores.{freq-absent}

abbrev no_posting : Posting
no_posting = record { doc = 0; freq = 0 }

some-same : (a b : ℕ) → Some a ≡ Some b → a ≡ b
some-same a b is = cc

module _ (law : HasWhereItStands) (here : StandsWhereItIs) (list : List Posting) (good : IsCursorList list) where
  rises : (i j : ℕ) → i < j → j < length list → get_or (docs_of list) i 0 < get_or (docs_of list) j 0
  rises i j lt within = AllPairs-from_increasing (docs_of list) good.rising i j 0 lt (omega (arith, length-map list (λ p. p.doc)))

  doc_at-is : (k : ℕ) → k < length list → doc_at list k ≡ Some (get_or (docs_of list) k 0)
  doc_at-is k within = ap (option_map (λ p. p.doc)) (slice_get-get_or list k no_posting within) ∙ ap Some (sym (get_or-map (λ p. p.doc) list k no_posting 0 within))

  doc_at-some : (k d : ℕ) → doc_at list k ≡ Some d → (k < length list) × (get_or (docs_of list) k 0 ≡ d)
  doc_at-some k d is = elim (cases_lt k (length list)) as (λ _. (k < length list) × (get_or (docs_of list) k 0 ≡ d)) [
    | inl within ↦ (within, some-same (get_or (docs_of list) k 0) d (sym (doc_at-is k within) ∙ is))
    | inr past ↦ (let e : Option.None ≡ Some d = sym (ap (option_map (λ p. p.doc)) (slice_get_past list k past)) ∙ is in cc)
  ]

  -- a cursor at a place has passed no document from its own on
  passed-at : (k d : ℕ) → k < length list → get_or (docs_of list) k 0 ≡ d → HasPassed d list k
  passed-at k d within is = record { passed = λ j lt. let h = rises j k lt within in omega arith }

  freq-at : (k d : ℕ) → k < length list → get_or (docs_of list) k 0 ≡ d → freq_of_doc d list ≡ get_or (freqs_of list) k 0
  freq-at k d within is =
      let there : doc_at list k ≡ Some d = doc_at-is k within ∙ ap Some is in
      let stands : StandsFrom d list k = here list d k (record { well_formed = good; within = omega arith }) (passed-at k d within is) (λ e at. let same = some-same d e (sym there ∙ at) in omega arith) in
      (law list d d k (record { well_formed = good; within = omega arith }) stands there).2

  -- the place of a document
  place-of : (d : ℕ) → has_doc d list ≡ true → (k : ℕ) × (k < length list) × (get_or (docs_of list) k 0 ≡ d)
  place-of d has =
      let any = Any-from_list_any (λ p. eqb p.doc d) list has in
      (any.0, any.2, get_or-map (λ p. p.doc) list any.0 any.1 0 any.2 ∙ ap (λ (p : Posting). p.doc) any.3 ∙ eqb-true any.1.doc d any.4)

  module _ (from place f : ℕ) (some : 1 ≤ f) (stands : StandsFrom from list place) where
    -- postings before the next frequent one have lower frequencies
    low-before : (k : ℕ) → place ≤ k → k < length list → k < next_frequent_place list place f → get_or (freqs_of list) k 0 < f
    low-before k after within before =
        let j : ℕ = k - place in
        let at : place + j ≡ k = omega arith in
        let low = leb-false f (get_or (drop place list) j no_posting).freq (fails_before_first (λ p. leb f p.freq) (drop place list) j no_posting (omega arith)) in
        let read = ap (λ (p : Posting). p.freq) (get_or-drop place list j no_posting) in
        let same = ap (λ (i : ℕ). (get_or list i no_posting).freq) at in
        let freq = get_or-map (λ p. p.freq) list k no_posting 0 within in
        omega arith

    high-at : next_frequent_place list place f < length list → f ≤ get_or (freqs_of list) (next_frequent_place list place f) 0
    high-at within =
        let j : ℕ = position_or_len (λ p. leb f p.freq) (drop place list) in
        let l = length-drop place list in
        let high = leb-true f (get_or (drop place list) j no_posting).freq (passes_at_first (λ p. leb f p.freq) (drop place list) no_posting (omega arith)) in
        let read = ap (λ (p : Posting). p.freq) (get_or-drop place list j no_posting) in
        let freq = get_or-map (λ p. p.freq) list (place + j) no_posting 0 within in
        omega arith

    before-place : (d k : ℕ) (o : Option ℕ) → o ≡ doc_at list (next_frequent_place list place f) → IfSome o (λ doc. d < doc) → k < length list → get_or (docs_of list) k 0 ≡ d → k < next_frequent_place list place f
    before-place d k None is lt within at = elim (cases_lt k (next_frequent_place list place f)) as (λ _. k < next_frequent_place list place f) [
      | inl before ↦ before
      | inr after ↦ (let e : Option.None ≡ Some (get_or (docs_of list) (next_frequent_place list place f) 0) = is ∙ doc_at-is (next_frequent_place list place f) (omega arith) in cc)
    ]
    before-place d k (Some doc) is lt within at = elim (cases_lt k (next_frequent_place list place f)) as (λ _. k < next_frequent_place list place f) [
      | inl before ↦ before
      | inr after ↦ (let next = doc_at-some (next_frequent_place list place f) doc (sym is) in
          let found = next.1 in
          elim (cases_lt (next_frequent_place list place f) k) as (λ _. k < next_frequent_place list place f) [
            | inl later ↦ (let h = rises (next_frequent_place list place f) k later within in absurd (omega arith))
            | inr not ↦ (let same : next_frequent_place list place f ≡ k = omega arith in let h = ap (λ (i : ℕ). get_or (docs_of list) i 0) same in absurd (omega arith))
          ])
    ]

    -- so have their documents, and those that the list has not
    pub frequent-before : (d : ℕ) (o : Option ℕ) → o ≡ doc_at list (next_frequent_place list place f) → from ≤ d → IfSome o (λ doc. d < doc) → freq_of_doc d list < f
    frequent-before d o is after lt = elim (cases_Bool (has_doc d list)) as (λ _. freq_of_doc d list < f) [
      | inl has ↦ (let at = place-of d has in
          let k : ℕ = at.0 in
          let within = at.1 in
          let doc = at.2 in
          let late : place ≤ k = elim (cases_lt k place) as (λ _. place ≤ k) [ inl early ↦ (let h = stands.passed k early in absurd (omega arith)) | inr ge ↦ ge ] in
          let low = low-before k late within (before-place d k o is lt within doc) in
          let freq = freq-at k d within doc in
          omega arith)
      | inr not ↦ (let none = freq-absent d list not in omega arith)
    ]

    -- the document there has the frequency
    pub frequent-found : (o : Option ℕ) → o ≡ doc_at list (next_frequent_place list place f) → IfSome o (λ doc. (from ≤ doc) × (f ≤ freq_of_doc doc list))
    frequent-found None is = tt
    frequent-found (Some doc) is =
        let q : ℕ = next_frequent_place list place f in
        let next = doc_at-some q doc (sym is) in
        let found = next.1 in
        let first = stands.left q (omega arith) next.0 in
        let high = high-at next.0 in
        let freq = freq-at q doc next.0 found in
        (omega arith, omega arith)

    pub frequent-passed : (o : Option ℕ) → o ≡ doc_at list (next_frequent_place list place f) → IfSome o (λ doc. HasPassed doc list (next_frequent_place list place f))
    frequent-passed None is = tt
    frequent-passed (Some doc) is = let next = doc_at-some (next_frequent_place list place f) doc (sym is) in passed-at (next_frequent_place list place f) doc next.0 next.1
