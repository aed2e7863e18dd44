-- Lemmas on one list and a place in it.
use Rattle.std.proofs.Common.{◌≡◌, sym, ap, inl, inr, ◌⊎◌, ◌∙◌, ℕ, ◌+◌, ◌<◌, ◌≤◌, true, false, eqb, List, length, get_or, Option, Some, None, arith}
use Rattle.std.specs.List.{slice_get, find, position_or_len}
use Rattle.std.specs.Option.{option_map, unwrap_or}
use Rattle.std.proofs.lemmas.Bool.{cases_lt, eq-eqb, ne_eqb, false≢true}
use Rattle.std.proofs.lemmas.List.{get_or-map, length-map}
use Rattle.std.proofs.lemmas.List.Elements.{All-from_get_or}
use Rattle.std.proofs.lemmas.List.Folds.{list_any_at, list_any_none, find_at, Any-from_list_any}
use Rattle.std.proofs.lemmas.List.Sums.{position_or_len_is, fails_before_first, passes_at_first}
use Rattle.std.proofs.lemmas.List.Kept.{AllPairs-from_increasing}
use Rattle.std.proofs.lemmas.Option.{slice_get-get_or, slice_get_past}
use Rattle.collection_model.specs.Collection.{Posting, docs_of, freqs_of}
use Rattle.cursor_api.specs.NextGeq.{IsCursorList, IsCursorAt, next_geq_place}
use Rattle.cursor_api.specs.Laws.{NextGeqIsFirst, IsNextGeq}
use Rattle.scan_plans.specs.Matches.{has_doc, freq_of_doc}
use Rattle.scan_plans.specs.Scan.{doc_at, StandsFrom, HasPassed}

abbrev pub no_posting : Posting
no_posting = record { doc = 0; freq = 0 }

pub doc-read : (list : List Posting) (k : ℕ) → k < length list → get_or (docs_of list) k 0 ≡ (get_or list k no_posting).doc
doc-read list k within = get_or-map (λ p. p.doc) list k no_posting 0 within

freq-read : (list : List Posting) (k : ℕ) → k < length list → get_or (freqs_of list) k 0 ≡ (get_or list k no_posting).freq
freq-read list k within = get_or-map (λ p. p.freq) list k no_posting 0 within

-- a place has a document, or is past the end
pub doc_at-within : (list : List Posting) (place : ℕ) → place < length list → doc_at list place ≡ Some (get_or (docs_of list) place 0)
doc_at-within list place within = ap (option_map (λ p. p.doc)) (slice_get-get_or list place no_posting within) ∙ ap Some (sym (doc-read list place within))

pub doc_at-past : (list : List Posting) (place : ℕ) → length list ≤ place → doc_at list place ≡ None
doc_at-past list place past = ap (option_map (λ p. p.doc)) (slice_get_past list place past)

pub doc_at-some : (list : List Posting) (place d : ℕ) → doc_at list place ≡ Some d → (place < length list) × (get_or (docs_of list) place 0 ≡ d)
doc_at-some list place d is = elim (cases_lt place (length list)) as (λ _. (place < length list) × (get_or (docs_of list) place 0 ≡ d)) [
  | inl within ↦ (within, let e : Some (get_or (docs_of list) place 0) ≡ Some d = sym (doc_at-within list place within) ∙ is in cc)
  | inr past ↦ (let e : Option.None ≡ Some d = sym (doc_at-past list place past) ∙ is in cc)
]

pub doc_at-none : (list : List Posting) (place : ℕ) → doc_at list place ≡ None → length list ≤ place
doc_at-none list place is = elim (cases_lt place (length list)) as (λ _. length list ≤ place) [
  | inl within ↦ (let e : Some (get_or (docs_of list) place 0) ≡ None = sym (doc_at-within list place within) ∙ is in cc)
  | inr past ↦ past
]

-- a list has a document that stands at a place
pub has_doc-at : (list : List Posting) (d k : ℕ) → k < length list → get_or (docs_of list) k 0 ≡ d → has_doc d list ≡ true
has_doc-at list d k within is = list_any_at (λ p. eqb p.doc d) list k no_posting within (eq-eqb _ d (sym (doc-read list k within) ∙ is))

-- it has none that differs from each
pub has_doc-none : (list : List Posting) (d : ℕ) → ((k : ℕ) → k < length list → (get_or (docs_of list) k 0 < d) ⊎ (d < get_or (docs_of list) k 0)) → has_doc d list ≡ false
has_doc-none list d other = list_any_none (λ p. eqb p.doc d) list (All-from_get_or (λ p. eqb p.doc d ≡ false) list no_posting
    (λ k within. ne_eqb _ d (λ e. let read : get_or (docs_of list) k 0 ≡ d = doc-read list k within ∙ e in elim (other k within) as (λ _. ⊥) [ inl below ↦ absurd (omega arith) | inr above ↦ absurd (omega arith) ])))

-- no document between what was passed and what is left
pub has_doc-between : (list : List Posting) (low high place e : ℕ) → ((k : ℕ) → k < place → get_or (docs_of list) k 0 < low) → ((k : ℕ) → place ≤ k → k < length list → high ≤ get_or (docs_of list) k 0)
    → low ≤ e → e < high → has_doc e list ≡ false
has_doc-between list low high place e passed left from before =
    has_doc-none list e (λ k within. elim (cases_lt k place) as (λ _. (get_or (docs_of list) k 0 < e) ⊎ (e < get_or (docs_of list) k 0)) [
      | inl below ↦ inl (let h = passed k below in omega arith)
      | inr above ↦ inr (let h = left k above within in omega arith)
    ])

-- the documents of a list rise
pub docs-rise : (list : List Posting) → IsCursorList list → (i j : ℕ) → i ≤ j → j < length list → get_or (docs_of list) i 0 ≤ get_or (docs_of list) j 0
docs-rise list good i j le within =
    elim (cases_lt i j) as (λ _. get_or (docs_of list) i 0 ≤ get_or (docs_of list) j 0) [
      | inl lt ↦ (let h : get_or (docs_of list) i 0 < get_or (docs_of list) j 0 = AllPairs-from_increasing (docs_of list) good.rising i j 0 lt (omega (arith, length-map list (λ p. p.doc))) in omega arith)
      | inr ge ↦ (let same : i ≡ j = omega arith in let h : get_or (docs_of list) i 0 ≡ get_or (docs_of list) j 0 = ap (λ k. get_or (docs_of list) k 0) same in omega arith)
    ]

-- a cursor that stands at its first document from low on stands at its first from a document that none of what is left is below
pub stands-later : (list : List Posting) (low d place : ℕ) → IsCursorList list → StandsFrom low list place → low ≤ d → ((e : ℕ) → doc_at list place ≡ Some e → d ≤ e) → StandsFrom d list place
stands-later list low d place good stands from least = record {
  passed = λ k before. let h = stands.passed k before in omega arith;
  left = λ k after within.
      let first = least (get_or (docs_of list) place 0) (doc_at-within list place (omega arith)) in
      let rise = docs-rise list good place k after within in
      omega arith;
}

-- what holds of a list whose cursor stands at a document
pub record IsAt (d : ℕ) (list : List Posting) (place : ℕ) : Type 0 where
  pub has : has_doc d list ≡ true
  pub freq : freq_of_doc d list ≡ get_or (freqs_of list) place 0
  pub after : StandsFrom (d + 1) list (place + 1)

pub at-doc : (list : List Posting) (d place : ℕ) → IsCursorList list → StandsFrom d list place → doc_at list place ≡ Some d → IsAt d list place
at-doc list d place good stands is =
    let here = doc_at-some list place d is in
    let within : place < length list = here.0 in
    let found : position_or_len (λ p. eqb p.doc d) list ≡ place = position_or_len_is (λ p. eqb p.doc d) list place no_posting (omega arith)
    (λ k before. let h : get_or (docs_of list) k 0 < d = stands.passed k before in ne_eqb _ d (λ e. let r = doc-read list k (omega arith) in omega arith))
    (λ _. eq-eqb _ d (sym (doc-read list place within) ∙ here.1)) in
    let first : find (λ p. eqb p.doc d) list ≡ Some (get_or list place no_posting) = find_at (λ p. eqb p.doc d) list ∙ ap (slice_get list) found ∙ slice_get-get_or list place no_posting within in
    record {
      has = has_doc-at list d place within here.1;
      freq = ap (λ o. unwrap_or (option_map (λ p. p.freq) o) 0) first ∙ sym (freq-read list place within);
      after = record {
        passed = λ k before. let h : get_or (docs_of list) k 0 ≤ get_or (docs_of list) place 0 = docs-rise list good k place (omega arith) within in let e = here.1 in omega arith;
        left = λ k after inside. let h : get_or (docs_of list) place 0 < get_or (docs_of list) k 0 = AllPairs-from_increasing (docs_of list) good.rising place k 0 (omega arith) (omega (arith, length-map list (λ p. p.doc))) in let e = here.1 in omega arith;
      };
    }

-- what holds of one whose cursor does not
pub record IsNotAt (d : ℕ) (list : List Posting) (place : ℕ) : Type 0 where
  pub has : has_doc d list ≡ false
  pub freq : freq_of_doc d list ≡ 0
  pub after : StandsFrom (d + 1) list place

pub not-at-doc : (list : List Posting) (d place : ℕ) → IsCursorList list → StandsFrom d list place → (doc_at list place ≡ Some d → ⊥) → IsNotAt d list place
not-at-doc list d place good stands not =
    let left : (k : ℕ) → place ≤ k → k < length list → d < get_or (docs_of list) k 0 = λ k after within.
    let first : d ≤ get_or (docs_of list) place 0 = stands.left place (omega arith) (omega arith) in
    let other : get_or (docs_of list) place 0 ≡ d → ⊥ = λ e. not (doc_at-within list place (omega arith) ∙ ap Some e) in
    let rise = docs-rise list good place k after within in
    omega arith in
    let other : (k : ℕ) → k < length list → (get_or (docs_of list) k 0 < d) ⊎ (d < get_or (docs_of list) k 0) = λ k within. elim (cases_lt k place) as (λ _. (get_or (docs_of list) k 0 < d) ⊎ (d < get_or (docs_of list) k 0)) [
      | inl below ↦ inl (stands.passed k below)
      | inr above ↦ inr (left k above within)
    ] in
    let none : position_or_len (λ p. eqb p.doc d) list ≡ length list = position_or_len_is (λ p. eqb p.doc d) list (length list) no_posting (omega arith)
    (λ k within. ne_eqb _ d (λ e. let r = doc-read list k within in elim (other k within) as (λ _. ⊥) [ inl below ↦ absurd (omega arith) | inr above ↦ absurd (omega arith) ]))
    (λ lt. absurd (omega arith)) in
    let first : find (λ p. eqb p.doc d) list ≡ None = find_at (λ p. eqb p.doc d) list ∙ ap (slice_get list) none ∙ slice_get_past list (length list) (omega arith) in
    record {
      has = has_doc-none list d other;
      freq = ap (λ o. unwrap_or (option_map (λ p. p.freq) o) 0) first;
      after = record { passed = λ k before. let h = stands.passed k before in omega arith; left = λ k after within. let h = left k after within in omega arith };
    }

-- a document that a list has, has a frequency there, and no other has
pub has-freq : (list : List Posting) (d : ℕ) → IsCursorList list → has_doc d list ≡ true → 1 ≤ freq_of_doc d list
has-freq list d good has =
    let at : ℕ = position_or_len (λ p. eqb p.doc d) list in
    let any = Any-from_list_any (λ p. eqb p.doc d) list has in
    elim (cases_lt at (length list)) as (λ _. 1 ≤ freq_of_doc d list) [
      | inl within ↦ (let first : find (λ p. eqb p.doc d) list ≡ Some (get_or list at no_posting) = find_at (λ p. eqb p.doc d) list ∙ slice_get-get_or list at no_posting within in
          let freq : freq_of_doc d list ≡ (get_or list at no_posting).freq = ap (λ o. unwrap_or (option_map (λ p. p.freq) o) 0) first in
          let read = freq-read list at within in
          let some : 1 ≤ get_or (freqs_of list) at 0 = good.not_zero at 0 (omega (arith, length-map list (λ p. p.freq))) in
          omega arith)
      | inr past ↦ (let within = any.2 in
          let fails : eqb (get_or list any.0 any.1).doc d ≡ false = fails_before_first (λ p. eqb p.doc d) list any.0 any.1 (omega arith) in
          absurd (false≢true (sym fails ∙ ap (λ (p : Posting). eqb p.doc d) any.3 ∙ any.4)))
    ]

pub has-no-freq : (list : List Posting) (d : ℕ) → has_doc d list ≡ false → freq_of_doc d list ≡ 0
has-no-freq list d none =
    let at : ℕ = position_or_len (λ p. eqb p.doc d) list in
    elim (cases_lt at (length list)) as (λ _. freq_of_doc d list ≡ 0) [
      | inl within ↦ (let has : has_doc d list ≡ true = list_any_at (λ p. eqb p.doc d) list at no_posting within (passes_at_first (λ p. eqb p.doc d) list no_posting within) in
          absurd (false≢true (sym none ∙ has)))
      | inr past ↦ (let first : find (λ p. eqb p.doc d) list ≡ None = find_at (λ p. eqb p.doc d) list ∙ slice_get_past list at past in
          ap (λ o. unwrap_or (option_map (λ p. p.freq) o) 0) first)
    ]

-- `next_geq` goes to where the documents from d on are left
pub next_geq-stands : NextGeqIsFirst → (list : List Posting) (d place : ℕ) → IsCursorAt list place → HasPassed d list place → StandsFrom d list (next_geq_place list place d)
next_geq-stands law list d place good before =
    let found : ℕ = next_geq_place list place d in
    let is : IsNextGeq list place d found = law list place d good.within in
    record {
      passed = λ k lt. elim (cases_lt k place) as (λ _. get_or (docs_of list) k 0 < d) [ inl below ↦ before.passed k below | inr above ↦ is.passed k above lt ];
      left = λ k after within. let h = is.reached (let le : found ≤ k = after in omega arith) in let rise = docs-rise list good.well_formed found k after within in omega arith;
    }
