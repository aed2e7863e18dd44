-- Lemmas on one step over cursors.
use Rattle.std.proofs.Common.{◌≡◌, refl, sym, ap, inl, inr, ◌∙◌, subst, ℕ, zero, suc, ◌+◌, ◌-◌, ◌*◌, ◌<◌, ◌≤◌, ◌≢◌, true, false, List, [], ◌∷◌, ◌++◌, eqb, length, get_or, set, take, map, Some, None, arith}
use Rattle.std.specs.Prelude.{Contains}
use Rattle.std.specs.List.{All, AllWithin, sum_by, filter, range_with_len, zip}
use Rattle.std.proofs.lemmas.Bool.{cases_lt}
use Rattle.std.proofs.lemmas.List.{map-set, set-get_or, get_or-map, length-map, length-set, get_or-set_other, get_or_default, take_all}
use Rattle.std.proofs.lemmas.List.Elements.{All-contains}
use Rattle.std.proofs.lemmas.List.Folds.{list_all_at}
use Rattle.std.proofs.lemmas.List.Sums.{list_all-from_AllPass, sum_by_more, sum_by-cons}
use Rattle.std.proofs.lemmas.Slice.Zip.{length-zip, get_or-zip}
use Rattle.collection_model.specs.Collection.{Posting, docs_of}
use Rattle.cursor_api.specs.NextGeq.{IsCursorList, IsCursorAt, next_geq_place}
use Rattle.cursor_api.specs.Laws.{NextGeqIsFirst}
use Rattle.scan_plans.specs.Matches.{AreBelow, has_doc, freq_of_doc, score, in_all}
use Rattle.scan_plans.specs.Scan.{doc_at, StandsFrom, HasPassed, in_each}
use Rattle.scan_plans.proofs.Postings.{doc_at-some, doc_at-none, has_doc-at, has_doc-between, docs-rise, next_geq-stands}
use Rattle.scan_plans.proofs.Scans.{contains-first, contained-all, contains-from_map, filter-yes, filter-skip, filter-same, below-has_none}

-- what a list adds to the score of a document
abbrev pub share : ℕ → List Posting × ℕ → ℕ
share doc e = e.1 * freq_of_doc doc e.0

-- cursors of the same lists are as many
pub as-many : {X : Type 0} (list : X → List Posting) (now old : List X) → map list now ≡ map list old → length now ≡ length old
as-many list now old same = omega (arith, ap length same, length-map now list, length-map old list)

-- a cursor that goes on from a document has fewer left
pub left-fewer : (l m : List Posting) (d e p q : ℕ) → m ≡ l → d < e → doc_at l p ≡ Some d → StandsFrom e m q → length m - q < length l - p
left-fewer l m d e p q same forward is after =
    let count = ap length same in
    let here = doc_at-some l p d is in
    let within = here.0 in
    let is_d = here.1 in
    elim (cases_lt p q) as (λ _. length m - q < length l - p) [
      | inl lt ↦ omega arith
      | inr ge ↦ (let high = after.left p ge (omega arith) in let doc = ap (λ (l : List Posting). get_or (docs_of l) p 0) same in absurd (omega arith))
    ]

module _ {X : Type 0} (list : X → List Posting) (place : X → ℕ) where
  -- a cursor that moves leaves the lists as they are
  pub lists-set : (cs : List X) (i : ℕ) (new d : X) → i < length cs → list new ≡ list (get_or cs i d) → map list (set cs i new) ≡ map list cs
  lists-set cs i new d within same =
      map-set list cs i new ∙ ap (set (map list cs) i) (same ∙ sym (get_or-map list cs i d [] within)) ∙ set-get_or (map list cs) i []

  -- what is still to be done, one step on
  pub rest-set : (P : X → Type 0) (cs : List X) (i : ℕ) (new : X) → AllWithin P cs i (length cs) → AllWithin P (set cs i new) (i + 1) (length (set cs i new))
  rest-set P cs i new rest k d from within =
      let l = length-set cs i new in
      let other : k ≢ i = omega arith in
      subst P (sym (get_or-set_other cs i k new d other)) (rest k d (omega arith) (omega arith))

  -- a cursor that was moved by `next_geq`
  pub moved-stands : NextGeqIsFirst → (d : ℕ) (old new : X) → IsCursorAt (list old) (place old) → HasPassed d (list old) (place old) → list new ≡ list old → place new ≡ next_geq_place (list old) (place old) d → StandsFrom d (list new) (place new)
  moved-stands law d old new good before lists places =
      subst (λ (p : ℕ). StandsFrom d (list new) p) (sym places)
      (subst (λ (l : List Posting). StandsFrom d l (next_geq_place (list old) (place old) d)) (sym lists) (next_geq-stands law (list old) d (place old) good before))

  -- one list that has not the document is enough
  pub each-false : (cs os : List X) (i : ℕ) (new d : X) (e : ℕ) → i < length cs → list new ≡ list (get_or cs i d) → map list cs ≡ map list os → has_doc e (list new) ≡ false → in_each e (map list os) ≡ false
  each-false cs os i new d e within same lists not =
      let l = length-map cs list in
      let at : get_or (map list cs) i [] ≡ list new = get_or-map list cs i d [] within ∙ sym same in
      ap (in_each e) (sym lists) ∙ list_all_at (has_doc e) (map list cs) i [] (omega arith) (ap (has_doc e) at ∙ not)

  pub each-true : (cs os : List X) (e : ℕ) → map list cs ≡ map list os → ((k : ℕ) (d : X) → k < length cs → has_doc e (list (get_or cs k d)) ≡ true) → in_each e (map list os) ≡ true
  each-true cs os e lists all =
      ap (in_each e) (sym lists) ∙ list_all-from_AllPass (has_doc e) (map list cs) (contained-all (λ l. has_doc e l ≡ true) (map list cs)
      (λ l c. let r = contains-from_map list cs l c in ap (has_doc e) (sym r.2) ∙ All-contains (λ x. has_doc e (list x) ≡ true) cs r.0 all r.1))

  -- ---- a score, one list on
  pub item-holds : (P : X → Type 0) (cs : List X) (i : ℕ) (x : X) → x ≡ get_or cs i x → i < length cs → All P cs → P x
  item-holds P cs i x is within all = subst P (sym is) (all i x within)

  pub score-step : (doc : ℕ) (cs : List X) (ws : List ℕ) (i sum new : ℕ) (x : X) (w : ℕ) → x ≡ get_or cs i x → w ≡ get_or ws i 0 → i < length cs → i < length ws → sum ≡ sum_by (share doc) (take i (zip (map list cs) ws)) → new ≡ sum + w * freq_of_doc doc (list x)
      → new ≡ sum_by (share doc) (take (i + 1) (zip (map list cs) ws))
  score-step doc cs ws i sum new x w is weight within weighed so_far adds =
      let l = length-map cs list in
      let pair : get_or (zip (map list cs) ws) i ([], 0) ≡ (list x, w) = get_or-zip (map list cs) ws i ([], 0) (omega arith) weighed ∙ ap (λ (l : List Posting). (l, get_or ws i 0)) (get_or-map list cs i x [] within ∙ ap list (sym is)) ∙ ap (λ (n : ℕ). (list x, n)) (sym weight) in
      let read : share doc (get_or (zip (map list cs) ws) i ([], 0)) ≡ w * freq_of_doc doc (list x) = ap (share doc) pair in
      let more = sum_by_more (share doc) (zip (map list cs) ws) i ([], 0) (omega (arith, length-zip (map list cs) ws)) in
      omega arith

  pub score-whole : (doc : ℕ) (cs : List X) (ws : List ℕ) (i sum : ℕ) → length cs ≤ i → sum ≡ sum_by (share doc) (take i (zip (map list cs) ws)) → sum ≡ score (map list cs) ws doc
  score-whole doc cs ws i sum all is = let l = length-map cs list in is ∙ ap (sum_by (share doc)) (take_all i (zip (map list cs) ws) (omega (arith, length-zip (map list cs) ws)))

  -- ---- how much is left of the lists
  left-less : (l m : List Posting) (d e p q : ℕ) → m ≡ l → d < e → StandsFrom d l p → StandsFrom e m q → p ≤ length l → length m - q ≤ length l - p
  left-less l m d e p q same forward before after within =
      let count = ap length same in
      elim (cases_lt q p) as (λ _. length m - q ≤ length l - p) [
        | inl lt ↦ (let low = before.passed q lt in let high = after.left q (omega arith) (omega arith) in let doc = ap (λ (l : List Posting). get_or (docs_of l) q 0) same in absurd (omega arith))
        | inr ge ↦ omega arith
      ]

  sums-le : (f : X → ℕ) (xs ys : List X) → length ys ≡ length xs → ((k : ℕ) (d : X) → k < length xs → f (get_or ys k d) ≤ f (get_or xs k d)) → sum_by f ys ≤ sum_by f xs
  sums-le f [] [] same le = omega arith
  sums-le f [] (y ∷ ys) same le = absurd (omega arith)
  sums-le f (x ∷ xs) [] same le = absurd (omega arith)
  sums-le f (x ∷ xs) (y ∷ ys) same le =
      let here : f y ≤ f x = le 0 x (omega arith) in
      omega (arith, sum_by-cons f x xs, sum_by-cons f y ys, sums-le f xs ys (omega arith) (λ k d within. le (suc k) d (omega arith)))

  sums-less : (f : X → ℕ) (xs ys : List X) (k : ℕ) → length ys ≡ length xs → ((k : ℕ) (d : X) → k < length xs → f (get_or ys k d) ≤ f (get_or xs k d)) → k < length xs → ((d : X) → f (get_or ys k d) < f (get_or xs k d)) → sum_by f ys < sum_by f xs
  sums-less f [] ys k same le within lt = absurd (omega arith)
  sums-less f (x ∷ xs) [] k same le within lt = absurd (omega arith)
  sums-less f (x ∷ xs) (y ∷ ys) zero same le within lt =
      let here : f y < f x = lt x in
      omega (arith, sum_by-cons f x xs, sum_by-cons f y ys, sums-le f xs ys (omega arith) (λ k d within. le (suc k) d (omega arith)))
  sums-less f (x ∷ xs) (y ∷ ys) (suc k) same le within lt =
      let here : f y ≤ f x = le 0 x (omega arith) in
      omega (arith, sum_by-cons f x xs, sum_by-cons f y ys, sums-less f xs ys k (omega arith) (λ k d within. le (suc k) d (omega arith)) (omega arith) lt)

  -- some documents passed, less is left
  pub passing-leaves-less : ((c : X) → IsCursorAt (list c) (place c)) → (d e : ℕ) (cs ns : List X) → d < e → map list ns ≡ map list cs → All (λ c. StandsFrom d (list c) (place c)) cs → All (λ c. StandsFrom e (list c) (place c)) ns
      → (c : X) × Contains cs c × (doc_at (list c) (place c) ≡ Some d) → sum_by (λ c. length (list c) - place c) ns < sum_by (λ c. length (list c) - place c) cs
  passing-leaves-less good d e cs ns forward lists before after at =
      let counts = as-many list ns cs lists in
      let same : (k : ℕ) (x : X) → k < length cs → list (get_or ns k x) ≡ list (get_or cs k x) = λ k x w. sym (get_or-map list ns k x [] (omega arith)) ∙ ap (λ (ls : List (List Posting)). get_or ls k []) lists ∙ get_or-map list cs k x [] w in
      let first : X = at.0 in
      let place-of : ℕ = at.1.0 in
      let w : place-of < length cs = at.1.1 in
      sums-less (λ c. length (list c) - place c) cs ns place-of (omega arith)
      (λ k x w. left-less (list (get_or cs k x)) (list (get_or ns k x)) d e (place (get_or cs k x)) (place (get_or ns k x)) (same k x w) forward (before k x w) (after k x (omega arith)) (good (get_or cs k x)).within)
      w
      (λ x. let is : get_or cs place-of x ≡ first = get_or_default cs place-of x first w ∙ at.1.2 in
      left-fewer (list (get_or cs place-of x)) (list (get_or ns place-of x)) d e (place (get_or cs place-of x)) (place (get_or ns place-of x)) (same place-of x w) forward
      (subst (λ (c : X). doc_at (list c) (place c) ≡ Some d) (sym is) at.2) (after place-of x (omega arith)))

  -- ---- all cursors at their start
  pub starts-stand : (cs : List X) → All (λ c. place c ≡ 0) cs → All (λ c. StandsFrom 0 (list c) (place c)) cs
  starts-stand cs start k d within = let e = start k d within in record { passed = λ j lt. absurd (omega arith); left = λ j from inside. omega arith }

  pub starts-passed : (cs : List X) → All (λ c. place c ≡ 0) cs → All (λ c. HasPassed 0 (list c) (place c)) cs
  starts-passed cs start k d within = let e = start k d within in record { passed = λ j lt. absurd (omega arith) }

  pub later-passed : (cs : List X) (d e : ℕ) → d ≤ e → All (λ c. HasPassed d (list c) (place c)) cs → All (λ c. HasPassed e (list c) (place c)) cs
  later-passed cs d e le all k x within = record { passed = λ j lt. let h = (all k x within).passed j lt in omega arith }

  -- the documents of cursors are below the greatest number
  pub all-below : ((c : X) → IsCursorAt (list c) (place c)) → (cs : List X) → AreBelow 4294967295 (map list cs)
  all-below good cs = contained-all (λ l. All (λ d. d < 4294967295) (docs_of l)) (map list cs) (λ l c. let r = contains-from_map list cs l c in subst (λ (l : List Posting). All (λ d. d < 4294967295) (docs_of l)) r.2 (good r.0).well_formed.docs)

  -- the lists of cursors are those that a cursor may have
  pub all-rising : ((c : X) → IsCursorAt (list c) (place c)) → (cs : List X) → All IsCursorList (map list cs)
  all-rising good cs = contained-all IsCursorList (map list cs) (λ l c. let r = contains-from_map list cs l c in subst IsCursorList r.2 (good r.0).well_formed)

-- ---- where `next_geq` has led
pub nothing-left : (list : List Posting) (low place e : ℕ) → StandsFrom low list place → doc_at list place ≡ None → low ≤ e → has_doc e list ≡ false
nothing-left list low place e stands is from =
    let past = doc_at-none list place is in
    has_doc-between list low (e + 1) place e stands.passed (λ k after within. absurd (omega arith)) from (omega arith)

pub next-is-later : (list : List Posting) (low place d : ℕ) → StandsFrom low list place → doc_at list place ≡ Some d → low ≤ d
next-is-later list low place d stands is = let here = doc_at-some list place d is in let e = here.1 in let h = stands.left place (omega arith) here.0 in omega arith

pub nothing-between : (list : List Posting) (low place d e : ℕ) → IsCursorAt list place → StandsFrom low list place → doc_at list place ≡ Some d → low ≤ e → e < d → has_doc e list ≡ false
nothing-between list low place d e good stands is from before =
    let here = doc_at-some list place d is in
    let at_d = here.1 in
    has_doc-between list low d place e stands.passed (λ k after within. let rise = docs-rise list good.well_formed place k after within in omega arith) from before

pub has-next : (list : List Posting) (place d : ℕ) → doc_at list place ≡ Some d → has_doc d list ≡ true
has-next list place d is = let here = doc_at-some list place d is in has_doc-at list d place here.0 here.1

-- ---- documents in all lists
pub in_all-is : (n : ℕ) (lists : List (List Posting)) → 0 < length lists → in_all n lists ≡ filter (λ d. in_each d lists) (range_with_len 0 n)
in_all-is n [] some = absurd (omega arith)
in_all-is n (l ∷ ls) some = refl

pub in_all-none : (n : ℕ) (lists : List (List Posting)) → length lists ≡ 0 → in_all n lists ≡ []
in_all-none n [] none = refl
in_all-none n (l ∷ ls) none = absurd (omega arith)

-- no list has a document that is not below n, so not all have it
pub below-each : (n : ℕ) (lists : List (List Posting)) → 0 < length lists → AreBelow n lists → (e : ℕ) → n ≤ e → in_each e lists ≡ false
below-each n [] some below e from = absurd (omega arith)
below-each n (l ∷ ls) some below e from = list_all_at (has_doc e) (l ∷ ls) 0 [] (omega arith) (below-has_none n (l ∷ ls) below e from l (contains-first l ls))

-- a document that all lists have is a document of a list
pub each-bound : (n : ℕ) (lists : List (List Posting)) (e : ℕ) → 0 < length lists → AreBelow n lists → in_each e lists ≡ true → e < n
each-bound n lists e some below is =
    elim (cases_lt e n) as (λ _. e < n) [ inl lt ↦ lt | inr from ↦ (let no-e = below-each n lists some below e from in let both : true ≡ false = sym is ∙ no-e in cc) ]

-- one more shared document
pub and-step : (lists now : List (List Posting)) (docs more : List ℕ) (from doc : ℕ) → now ≡ lists → more ≡ docs ++ doc ∷ [] → docs ≡ filter (λ d. in_each d lists) (range_with_len 0 from) → from ≤ doc → ((d : ℕ) → from ≤ d → d < doc → in_each d now ≡ false) → in_each doc now ≡ true
    → more ≡ filter (λ d. in_each d lists) (range_with_len 0 (doc + 1))
and-step lists now docs more from doc same adds is le none all =
    let skipped = filter-skip (λ d. in_each d lists) from doc le (λ e f lt. ap (in_each e) (sym same) ∙ none e f lt) in
    adds ∙ ap (λ (l : List ℕ). l ++ doc ∷ []) (is ∙ sym skipped) ∙ sym (filter-yes (λ d. in_each d lists) doc (doc + 1) refl (ap (in_each doc) (sym same) ∙ all))

-- no more shared documents
pub and-end : (lists now : List (List Posting)) (docs : List ℕ) (from n : ℕ) → now ≡ lists → 0 < length lists → docs ≡ filter (λ d. in_each d lists) (range_with_len 0 from) → ((d : ℕ) → from ≤ d → in_each d now ≡ false) → AreBelow n lists → docs ≡ in_all n lists
and-end lists now docs from n same some is ends below =
    is ∙ filter-same (λ d. in_each d lists) from n (λ e f. ap (in_each e) (sym same) ∙ ends e f) (below-each n lists some below) ∙ sym (in_all-is n lists some)

pub not-zero : (n : ℕ) → eqb n 0 ≡ false → 0 < n
not-zero zero is = cc
not-zero (suc n) is = omega arith
