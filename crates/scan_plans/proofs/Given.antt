-- Lemmas on what the documents of a window are given.
use Rattle.std.proofs.Common.{◌≡◌, refl, sym, ap, inl, inr, ◌⊎◌, ◌∙◌, subst, ℕ, ◌+◌, ◌-◌, ◌*◌, ◌<◌, ◌≤◌, ◌≢◌, ◌||◌, Bool, true, false, eqb, List, length, get_or, take, Some, arith, slice_index, ◌^◌}
use Rattle.std.specs.List.{All, position_or_len}
use Rattle.std.specs.List.Sorted.{IsStrictlyIncreasing}
use Rattle.std.proofs.lemmas.Bool.{cases_lt, eqb-true, eqb-false}
use Rattle.std.proofs.lemmas.List.{get_or-take, length-map, length-take-le}
use Rattle.std.proofs.lemmas.List.Elements.{All-from_get_or}
use Rattle.std.proofs.lemmas.List.Folds.{list_any_none}
use Rattle.std.proofs.lemmas.List.Kept.{AllPairs-from_increasing}
use Rattle.std.proofs.lemmas.List.Sums.{fails_before_first, passes_at_first}
use Rattle.std.proofs.lemmas.Nat.{mul-le}
use Rattle.collection_model.specs.Collection.{Posting, docs_of, freqs_of}
use Rattle.collection_model.specs.NextBelow.{AreNextBelow}
use Rattle.cursor_api.specs.NextGeq.{IsCursorList, IsCursorAt}
use Rattle.scan_plans.specs.Matches.{has_doc, freq_of_doc}
use Rattle.scan_plans.specs.Scan.{doc_at, StandsFrom}
use Rattle.scan_plans.specs.Window.{AreGiven}
use Rattle.scan_plans.proofs.Postings.{no_posting, doc-read, doc_at-within, docs-rise, at-doc, IsAt, has-no-freq}

pub plus-none : (v : ℕ) → v + 0 ≡ v
plus-none v = omega arith

pub or-none : (v : Bool) → (v || false) ≡ v
or-none true = refl
or-none false = refl

pub or-some : (v : Bool) → true ≡ (v || true)
or-some true = refl
or-some false = refl

-- ---- a document of a list
-- a place of a list has a document, or none has it
doc-place : (list : List Posting) (d : ℕ) → ((i : ℕ) × (i < length list) × (get_or (docs_of list) i 0 ≡ d)) ⊎ (((i : ℕ) → i < length list → get_or (docs_of list) i 0 ≢ d) × (has_doc d list ≡ false))
doc-place list d =
    let at : ℕ = position_or_len (λ p. eqb p.doc d) list in
    elim (cases_lt at (length list)) as (λ _. ((i : ℕ) × (i < length list) × (get_or (docs_of list) i 0 ≡ d)) ⊎ (((i : ℕ) → i < length list → get_or (docs_of list) i 0 ≢ d) × (has_doc d list ≡ false))) [
      | inl within ↦ inl (at, within, doc-read list at within ∙ eqb-true _ d (passes_at_first (λ p. eqb p.doc d) list no_posting within))
      | inr past ↦ (let fails : (k : ℕ) → k < length list → eqb (get_or list k no_posting).doc d ≡ false = λ k within. fails_before_first (λ p. eqb p.doc d) list k no_posting (omega arith) in
          inr (λ i within e. eqb-false _ d (fails i within) (sym (doc-read list i within) ∙ e), list_any_none (λ p. eqb p.doc d) list (All-from_get_or (λ p. eqb p.doc d ≡ false) list no_posting fails)))
    ]

-- what holds of the document at a place
pub doc-there : (list : List Posting) (i : ℕ) → IsCursorList list → i < length list → IsAt (get_or (docs_of list) i 0) list i
doc-there list i good within =
    at-doc list (get_or (docs_of list) i 0) i good
    (record {
      passed = λ k before. AllPairs-from_increasing (docs_of list) good.rising k i 0 before (omega (arith, length-map list (λ p. p.doc)));
      left = λ k from inside. docs-rise list good i k from inside;
    }) (doc_at-within list i within)

pub freq-bound : (list : List Posting) (i : ℕ) → IsCursorList list → i < length list → get_or (freqs_of list) i 0 ≤ 4294967295
freq-bound list i good within = let fits = good.fit i 0 (omega (arith, length-map list (λ p. p.freq))) in omega arith

pub most-freq : (list : List Posting) (weight d : ℕ) → IsCursorList list → weight * freq_of_doc d list ≤ weight * 4294967295
most-freq list weight d good =
    let most : freq_of_doc d list ≤ 4294967295 = elim (doc-place list d) as (λ _. freq_of_doc d list ≤ 4294967295) [
      | inl there ↦ (let freq = (doc-there list there.0 good there.1).freq in let bound = freq-bound list there.0 good there.1 in
          subst (λ (e : ℕ). freq_of_doc e list ≤ 4294967295) there.2 (omega arith))
      | inr nowhere ↦ (let none = has-no-freq list d nowhere.1 in omega arith)
    ] in
    mul-le weight (freq_of_doc d list) weight 4294967295 (omega arith) most

-- ---- what they are given
module _ {V : Type 0} (add : V → V → V) (first : ℕ) where
  pub given-none : (docs : List ℕ) (give : ℕ → V) (from : ℕ) (old : ℕ → V) → AreGiven add first docs give from from old old
  given-none docs give from old = record { given = λ i le lt. absurd (omega arith); others = λ k other. refl }

  -- one document more
  pub given-more : (docs : List ℕ) (give : ℕ → V) (from to : ℕ) (old now new : ℕ → V) → IsStrictlyIncreasing docs → from ≤ to → to < length docs → ((i : ℕ) → from ≤ i → i ≤ to → first ≤ get_or docs i 0)
      → new (get_or docs to 0 - first) ≡ add (now (get_or docs to 0 - first)) (give to) → ((k : ℕ) → k ≢ get_or docs to 0 - first → new k ≡ now k) → AreGiven add first docs give from to old now → AreGiven add first docs give from (to + 1) old new
  given-more docs give from to old now new rising le within above here others so_far =
      let d : ℕ = get_or docs to 0 in
      let start : first ≤ d = above to le (omega arith) in
      let apart : (i : ℕ) → i < to → get_or docs i 0 < d = λ i lt. AllPairs-from_increasing docs rising i to 0 lt within in
      record {
        given = λ i f lt. elim (cases_lt i to) as (λ _. new (get_or docs i 0 - first) ≡ add (old (get_or docs i 0 - first)) (give i)) [
          | inl before ↦ (let low = apart i before in let bound = above i f (omega arith) in let other : get_or docs i 0 - first ≢ d - first = omega arith in
              others (get_or docs i 0 - first) other ∙ so_far.given i f before)
          | inr after ↦ (let same : to ≡ i = omega arith in
              subst (λ (j : ℕ). new (get_or docs j 0 - first) ≡ add (old (get_or docs j 0 - first)) (give j)) same
              (here ∙ ap (λ (v : V). add v (give to)) (so_far.others (d - first) (λ j g before e. let low = apart j before in absurd (omega arith)))))
        ];
        others = λ k other. others k (λ e. other to le (omega arith) (omega arith)) ∙ so_far.others k (λ i f lt. other i f (omega arith));
      }

  -- two runs of documents
  pub given-both : (docs : List ℕ) (give : ℕ → V) (from mid to : ℕ) (old then now : ℕ → V) → IsStrictlyIncreasing docs → from ≤ mid → mid ≤ to → to ≤ length docs → ((i : ℕ) → from ≤ i → i < to → first ≤ get_or docs i 0)
      → AreGiven add first docs give from mid old then → AreGiven add first docs give mid to then now → AreGiven add first docs give from to old now
  given-both docs give from mid to old then now rising low high within above early late = record {
    given = λ i f lt. let start = above i f lt in let p : ℕ = get_or docs i 0 - first in
        elim (cases_lt i mid) as (λ _. now (get_or docs i 0 - first) ≡ add (old (get_or docs i 0 - first)) (give i)) [
          | inl before ↦ late.others p (λ j g inside e. let apart : get_or docs i 0 < get_or docs j 0 = AllPairs-from_increasing docs rising i j 0 (omega arith) (omega arith) in absurd (omega arith)) ∙ early.given i f before
          | inr after ↦ late.given i after lt ∙ ap (λ (v : V). add v (give i)) (early.others p (λ j g inside e. let apart : get_or docs j 0 < get_or docs i 0 = AllPairs-from_increasing docs rising j i 0 (omega arith) (omega arith) in absurd (omega arith)))
        ];
    others = λ k other. late.others k (λ i g lt. other i (omega arith) lt) ∙ early.others k (λ i f lt. other i f (omega arith));
  }

  -- a block of documents is a run of those of the list
  pub given-block : (docs block : List ℕ) (give part : ℕ → V) (from count : ℕ) (old now : ℕ → V) → ((j : ℕ) → j < count → get_or block j 0 ≡ get_or docs (from + j) 0) → ((j : ℕ) → j < count → part j ≡ give (from + j))
      → AreGiven add first block part 0 count old now → AreGiven add first docs give from (from + count) old now
  given-block docs block give part from count old now same parts is = record {
    given = λ i f lt.
        let j : ℕ = i - from in
        let e : from + j ≡ i = omega arith in
        let within : j < count = omega arith in
        subst (λ (n : ℕ). now (get_or docs n 0 - first) ≡ add (old (get_or docs n 0 - first)) (give n)) e
        (subst (λ (d : ℕ). now (d - first) ≡ add (old (d - first)) (give (from + j))) (same j within) (is.given j (omega arith) within ∙ ap (add (old (get_or block j 0 - first))) (parts j within)));
    others = λ k other. is.others k (λ j f lt e. other (from + j) (omega arith) (omega arith) (sym (same j lt) ∙ e));
  }

  -- the documents that a cursor passed in a window are all that its list has there
  pub given-whole : (none : V) (nothing : (v : V) → add v none ≡ v) (list : List Posting) (give theirs : ℕ → V) (from to n : ℕ) (old now : ℕ → V) → to ≤ length list → StandsFrom first list from → StandsFrom (first + n) list to
      → ((i : ℕ) → i < length list → theirs (get_or (docs_of list) i 0) ≡ give i) → ((d : ℕ) → has_doc d list ≡ false → theirs d ≡ none) → AreGiven add first (docs_of list) give from to old now → (k : ℕ) → k < n → now k ≡ add (old k) (theirs (first + k))
  given-whole none nothing list give theirs from to n old now within before after gives absent is k inside =
      elim (doc-place list (first + k)) as (λ _. now k ≡ add (old k) (theirs (first + k))) [
        | inl there ↦ (let i : ℕ = there.0 in
            let here : get_or (docs_of list) i 0 ≡ first + k = there.2 in
            let low : from ≤ i = elim (cases_lt i from) as (λ _. from ≤ i) [ inl lt ↦ (let h = before.passed i lt in absurd (omega arith)) | inr le ↦ le ] in
            let high : i < to = elim (cases_lt i to) as (λ _. i < to) [ inl lt ↦ lt | inr le ↦ (let h = after.left i le there.1 in absurd (omega arith)) ] in
            let at : get_or (docs_of list) i 0 - first ≡ k = omega arith in
            subst (λ (p : ℕ). now p ≡ add (old p) (theirs (first + k))) at (is.given i low high ∙ ap (add (old (get_or (docs_of list) i 0 - first))) (sym (gives i there.1) ∙ ap theirs here)))
        | inr nowhere ↦ is.others k (λ i f lt. nowhere.0 i (omega arith)) ∙ sym (nothing (old k)) ∙ ap (add (old k)) (sym (absent (first + k) nowhere.1))
      ]

  -- places behind those of the documents are given nothing
  pub given-behind : (docs : List ℕ) (give : ℕ → V) (from to reached : ℕ) (old now : ℕ → V) → ((i : ℕ) → from ≤ i → i < to → get_or docs i 0 < first + reached) → AreGiven add first docs give from to old now → (k : ℕ) → reached ≤ k → now k ≡ old k
  given-behind docs give from to reached old now below is k behind = is.others k (λ i f lt e. let h = below i f lt in absurd (omega arith))

-- ---- the next documents of a list below an end
module _ (list : List Posting) (good : IsCursorList list) (first place n : ℕ) (above : (i : ℕ) → place ≤ i → i < length list → first ≤ get_or (docs_of list) i 0) (block : List ℕ) (count : ℕ) (next : AreNextBelow (docs_of list) place (first + n) block count) where
  counted : length (docs_of list) ≡ length list
  counted = length-map list (λ p. p.doc)

  pub block-within : place + count ≤ length list
  block-within = let w = next.within in omega (arith, counted)

  pub block-read : (j : ℕ) → j < count → get_or (take count block) j 0 ≡ get_or (docs_of list) (place + j) 0
  block-read j lt = get_or-take count block j 0 lt ∙ next.same j lt

  pub block-inside : (j : ℕ) → j < count → (first ≤ get_or (docs_of list) (place + j) 0) × (get_or (docs_of list) (place + j) 0 < first + n)
  block-inside j lt = (above (place + j) (omega arith) (omega (arith, block-within)), next.below j lt)

  -- behind the block the cursor stands from the next document on
  pub block-some : place < length list → get_or (docs_of list) place 0 < first + n → 0 < length block → 0 < count
  block-some within below room =
      elim (cases_lt 0 count) as (λ _. 0 < count) [
        | inl lt ↦ lt
        | inr ge ↦ (let at : place + count ≡ place = omega arith in let h = next.full (omega arith) (omega (arith, counted)) in let read = ap (λ i. get_or (docs_of list) i 0) at in absurd (omega arith))
      ]

  long : length (take count block) ≡ count
  long = length-take-le count block next.room

  -- one block more was given what is its
  pub step-given : {V : Type 0} (add : V → V → V) (give part : ℕ → V) (from : ℕ) (old then now : ℕ → V) → from ≤ place → ((i : ℕ) → from ≤ i → i < length list → first ≤ get_or (docs_of list) i 0) → ((j : ℕ) → j < count → part j ≡ give (place + j))
      → AreGiven add first (docs_of list) give from place old then → AreGiven add first (take count block) part 0 (length (take count block)) then now → AreGiven add first (docs_of list) give from (place + count) old now
  step-given add give part from old then now le start parts early late =
      let within = block-within in
      given-both add first (docs_of list) give from place (place + count) old then now good.rising le (omega arith) (omega (arith, counted)) (λ i f lt. start i f (omega arith)) early
      (given-block add first (docs_of list) (take count block) give part place count then now block-read parts (subst (λ (m : ℕ). AreGiven add first (take count block) part 0 m then now) long late))

  -- its last document is the last that was passed
  pub step-below : 0 < count → (i : ℕ) → i < place + count → get_or (docs_of list) i 0 < first + (get_or block (count - 1) 0 - first + 1)
  step-below some i lt =
      let rise = docs-rise list good i (place + (count - 1)) (omega arith) (omega (arith, block-within)) in
      omega (arith, next.same (count - 1) (omega arith))

  pub step-within : 0 < count → get_or block (count - 1) 0 - first + 1 ≤ n
  step-within some =
      let inside = block-inside (count - 1) (omega arith) in
      omega (arith, next.same (count - 1) (omega arith), inside.0, inside.1)

  -- a score has room for what a posting of the block adds
  pub step-room : (weight from : ℕ) (give : ℕ → ℕ) (old now freqs : List ℕ) → n ≡ length old → AreGiven ◌+◌ first (docs_of list) give from place (slice_index old) (slice_index now) → All (λ s. s + weight * 4294967295 < 2 ^ 64) old
      → ((j : ℕ) → j < count → get_or freqs j 0 ≡ get_or (freqs_of list) (place + j) 0) → (j : ℕ) → j < length (take count block) → get_or now (get_or (take count block) j 0 - first) 0 + weight * get_or freqs j 0 < 2 ^ 64
  step-room weight from give old now freqs wide so_far room same j lt =
      let within = block-within in
      let short : j < count = omega (arith, long) in
      let d : ℕ = get_or (docs_of list) (place + j) 0 in
      let inside = block-inside j short in
      let low = inside.0 in
      let high = inside.1 in
      let kept = so_far.others (d - first) (λ i f before e. let apart : get_or (docs_of list) i 0 < d = AllPairs-from_increasing (docs_of list) good.rising i (place + j) 0 (omega arith) (omega (arith, counted)) in absurd (omega arith)) in
      let free = room (d - first) 0 (omega arith) in
      let bound = freq-bound list (place + j) good (omega arith) in
      let product : weight * get_or freqs j 0 ≤ weight * 4294967295 = mul-le weight (get_or freqs j 0) weight 4294967295 (omega arith) (omega (arith, same j short)) in
      let at = ap (λ (e : ℕ). get_or now (e - first) 0) (block-read j short) in
      omega arith

-- a cursor whose next document is not below an end stands from it on
pub stands-end : (list : List Posting) (first n from place : ℕ) → IsCursorList list → StandsFrom first list from → ((i : ℕ) → from ≤ i → i < place → get_or (docs_of list) i 0 < first + n) → ((d : ℕ) → doc_at list place ≡ Some d → first + n ≤ d) → StandsFrom (first + n) list place
stands-end list first n from place good stand below least = record {
  passed = λ k lt. elim (cases_lt k from) as (λ _. get_or (docs_of list) k 0 < first + n) [ inl early ↦ (let h = stand.passed k early in omega arith) | inr late ↦ below k late lt ];
  left = λ k after within.
      let h = least (get_or (docs_of list) place 0) (doc_at-within list place (omega arith)) in
      let rise = docs-rise list good place k after within in
      omega arith;
}

-- what holds of a cursor that is moved, put in terms of the list that it had
pub next-is : (list now : List Posting) (first start n place : ℕ) (block : List ℕ) (count : ℕ) → now ≡ list → start ≡ first → AreNextBelow (docs_of now) place (start + n) block count → AreNextBelow (docs_of list) place (first + n) block count
next-is list now first start n place block count same at next =
    subst (λ (d : ℕ). AreNextBelow (docs_of list) place (d + n) block count) at (subst (λ (l : List Posting). AreNextBelow (docs_of l) place (start + n) block count) same next)

pub end-is : (list now : List Posting) (first start n from place reached : ℕ) → now ≡ list → start ≡ first → IsCursorAt now place → StandsFrom first list from → reached ≤ n → ((i : ℕ) → from ≤ i → i < place → get_or (docs_of list) i 0 < first + reached)
    → ((d : ℕ) → doc_at now place ≡ Some d → start + n ≤ d) → IsCursorAt list place × StandsFrom (first + n) list place
end-is list now first start n from place reached same at good stand within below behind =
    let kept = subst (λ (l : List Posting). IsCursorAt l place) same good in
    (kept, stands-end list first n from place kept.well_formed stand (λ i f lt. let b = below i f lt in omega arith) (λ d is. let h = behind d (ap (λ (l : List Posting). doc_at l place) same ∙ is) in omega arith))
