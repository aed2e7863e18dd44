-- Lemmas on windows of documents that are scored, and on the cursors of the terms that are asked.
use Rattle.std.proofs.Common.{◌≡◌, ◌≢◌, refl, sym, ap, inl, inr, ◌⊎◌, ◌∙◌, subst, ℕ, ◌+◌, ◌-◌, ◌*◌, ◌<◌, ◌≤◌, ◌^◌, true, false, min, List, [], ◌∷◌, take, drop, set, length, get_or, Option, Some, None, arith}
use Rattle.std.specs.List.{All, list_any, range_with_len, sum}
use Rattle.std.specs.List.Sorted.{IsPermutation}
use Rattle.std.specs.Option.{IfSome, IfNone}
use Rattle.std.proofs.lemmas.Bool.{cases_lt, cases_eq, cases_Bool, false≢true, le-ltb}
use Rattle.std.proofs.lemmas.List.{get_or_default, get_or-take, get_or-drop, get_or-set_same, get_or-set_other, length-take, length-drop, take_all}
use Rattle.std.proofs.lemmas.List.Elements.{All-contains, All-cons, All-take, All-drop, All-map}
use Rattle.std.proofs.lemmas.List.FromFn.{length-range_with_len, get_or-range_with_len, length-map-range_with_len, get_or-map-range_with_len}
use Rattle.std.proofs.lemmas.List.Folds.{Any-from_list_any, list_any_at}
use Rattle.std.proofs.lemmas.List.Sorted.{All-permutation}
use Rattle.std.proofs.lemmas.List.Sums.{get_or-le-sum_by, sum_by-take-drop}
use Rattle.collection_model.specs.Collection.{Posting}
use Rattle.scan_plans.specs.Matches.{has_doc}
use Rattle.scan_plans.specs.IsTop.{IsTopFrom}
use Rattle.scan_plans.specs.Ranking.{IsFirstK}
use Rattle.scan_plans.specs.Scan.{HasPassed}
use Rattle.scan_plans.specs.Skips.{IsBarred, CannotEnter, TopAfterOffer, TopAfterSkips}
use Rattle.scan_plans.specs.Window.{is_marked, IsFirstCandidate, NoneIsCandidate, AreTakenBack}
use Rattle.topk_pruning.specs.declared.term.Term.{Term}
use Rattle.topk_pruning.specs.Terms.{term_of, terms_of, list_of, share, score_in, in_lists, bounds, beats, AreApart, AreBefore, AreKept, AreTermsIn, AreQueryTerms, AreAllTerms, AreSpared, Considers, FollowsTo}
use Rattle.topk_pruning.proofs.Alike.{alike-moved, alike-apart}
use Rattle.topk_pruning.proofs.Scores.{terms-are, score-is, score-none, shares-within, beaten-cannot, spared-cannot}

abbrev pub no_term : Term
no_term = record { list = 0; weight = 0; bound = 0 }

-- ---- the terms of a query
pub terms-apart : (lists : List (List Posting)) (weights : List ℕ) (terms : List Term) → IsPermutation (terms_of lists weights) terms → AreApart terms
terms-apart lists weights terms moved =
    let n : ℕ = length lists in
    alike-apart (terms_of lists weights) terms (alike-moved (terms_of lists weights) terms moved) (λ i j d lt within.
    let l = length-map-range_with_len (term_of lists weights) 0 n in
    let a = ap (λ (t : Term). t.list) (get_or-map-range_with_len (term_of lists weights) 0 n i i d (omega arith) (omega arith)) in
    let b = ap (λ (t : Term). t.list) (get_or-map-range_with_len (term_of lists weights) 0 n j j d (omega arith) (omega arith)) in
    λ e. absurd (omega arith))

-- what holds for each weight holds for that of each term
terms-each : (P : ℕ → Type 0) (lists : List (List Posting)) (weights : List ℕ) (terms : List Term) → length weights ≡ length lists → All P weights → IsPermutation (terms_of lists weights) terms → All (λ t. P t.weight) terms
terms-each P lists weights terms each all moved =
    let Has : Term → Type 0 = λ t. P t.weight in
    All-permutation Has (terms_of lists weights) terms moved (All-map Has (term_of lists weights) (range_with_len 0 (length lists)) (λ k d within.
    let l = length-range_with_len 0 (length lists) in
    let at = get_or-range_with_len 0 (length lists) k d (omega arith) in
    all (get_or (range_with_len 0 (length lists)) k d) 0 (omega arith)))

pub terms-small : (lists : List (List Posting)) (weights : List ℕ) (terms : List Term) → length weights ≡ length lists → sum weights < 2 ^ 26 → IsPermutation (terms_of lists weights) terms → All (λ t. t.weight < 2 ^ 26) terms
terms-small lists weights terms each light moved = terms-each (λ w. w < 2 ^ 26) lists weights terms each (λ k d within. let le = get_or-le-sum_by (λ (w : ℕ). w) weights k d within in omega arith) moved

pub terms-weighty : (lists : List (List Posting)) (weights : List ℕ) (terms : List Term) → length weights ≡ length lists → All (λ w. 1 ≤ w) weights → IsPermutation (terms_of lists weights) terms → All (λ t. 1 ≤ t.weight) terms
terms-weighty lists weights terms each some moved = terms-each (λ w. 1 ≤ w) lists weights terms each some moved

-- all that is known of them
pub query-terms : (lists : List (List Posting)) (weights : List ℕ) (terms : List Term) → length weights ≡ length lists → sum weights < 2 ^ 26 → IsPermutation (terms_of lists weights) terms → bounds terms < 2 ^ 58 → AreQueryTerms lists terms
query-terms lists weights terms each light moved bounded = record {
  terms_are = terms-are lists weights terms moved bounded;
  apart = terms-apart lists weights terms moved;
  small = terms-small lists weights terms each light moved;
}

-- ---- some of the terms
pub are-take : (lists : List (List Posting)) (from to : ℕ) (terms : List Term) (i : ℕ) → AreTermsIn lists from to terms → AreTermsIn lists from to (take i terms)
are-take lists from to terms i are = record {
  within = All-take (λ (t : Term). t.list < length lists) i terms are.within;
  bounded = λ d after before. All-take (λ (t : Term). share lists d t ≤ t.bound) i terms (are.bounded d after before);
  light = omega (arith, sum_by-take-drop (λ (t : Term). t.bound) terms i, are.light);
}

pub are-drop : (lists : List (List Posting)) (from to : ℕ) (terms : List Term) (i : ℕ) → AreTermsIn lists from to terms → AreTermsIn lists from to (drop i terms)
are-drop lists from to terms i are = record {
  within = All-drop (λ (t : Term). t.list < length lists) i terms are.within;
  bounded = λ d after before. All-drop (λ (t : Term). share lists d t ≤ t.bound) i terms (are.bounded d after before);
  light = omega (arith, sum_by-take-drop (λ (t : Term). t.bound) terms i, are.light);
}

pub apart-take : (terms : List Term) (n : ℕ) → AreApart terms → AreApart (take n terms)
apart-take terms n apart i j d lt within =
    let l = length-take n terms in
    let h = apart i j d lt (omega arith) in
    let a = ap (λ (t : Term). t.list) (get_or-take n terms i d (omega arith)) in
    let b = ap (λ (t : Term). t.list) (get_or-take n terms j d (omega arith)) in
    λ e. h (sym a ∙ e ∙ b)

-- those behind some
pub behind-is : (terms : List Term) (n : ℕ) → take (length terms - n) (drop n terms) ≡ drop n terms
behind-is terms n = take_all (length terms - n) (drop n terms) (omega (arith, length-drop n terms))

-- ---- the cursors of some terms
module _ {X : Type 0} (list : X → List Posting) (place : X → ℕ) where
  pub before-read : (d : ℕ) (terms : List Term) (cs : List X) (k : ℕ) (t : Term) (c : X) → k < length terms → AreBefore list place d terms cs → HasPassed d (list (get_or cs (get_or terms k t).list c)) (place (get_or cs (get_or terms k t).list c))
  before-read d terms cs k t c within before = before.passed k t within c

  -- a cursor that moves to a document
  pub before-set : (d : ℕ) (terms : List Term) (cs : List X) (i : ℕ) (new : X) → i < length cs → HasPassed d (list new) (place new) → AreBefore list place d terms cs → AreBefore list place d terms (set cs i new)
  before-set d terms cs i new within here before = record {
    passed = λ k t inside c.
        let at : ℕ = (get_or terms k t).list in
        let P : X → Type 0 = λ x. HasPassed d (list x) (place x) in
        elim (cases_eq at i) as (λ _. P (get_or (set cs i new) at c)) [
          | inl same ↦ subst P (sym (ap (λ (j : ℕ). get_or (set cs i new) j c) same ∙ get_or-set_same cs i new c within)) here
          | inr other ↦ subst P (sym (get_or-set_other cs i at new c other)) (before.passed k t inside c)
        ];
  }

  pub before-later : (d e : ℕ) (terms : List Term) (cs : List X) → d ≤ e → AreBefore list place d terms cs → AreBefore list place e terms cs
  before-later d e terms cs le before = record { passed = λ k t inside c. record { passed = λ j lt. let h = (before.passed k t inside c).passed j lt in omega arith } }

  -- the cursors of other terms are as they were
  pub before-kept : (d n : ℕ) (terms : List Term) (old now : List X) → All (λ t. t.list < length old) terms → AreApart terms → AreKept (take n terms) old now → All (λ x. HasPassed d (list x) (place x)) old → AreBefore list place d (drop n terms) now
  before-kept d n terms old now within apart kept all = record {
    passed = λ k t inside c.
        let l = length-drop n terms in
        let P : X → Type 0 = λ x. HasPassed d (list x) (place x) in
        let at : ℕ = (get_or terms (n + k) t).list in
        let read : (get_or (drop n terms) k t).list ≡ at = ap (λ (t : Term). t.list) (get_or-drop n terms k t) in
        let same : get_or now at c ≡ get_or old at c = kept.same at (λ i e short.
        let m = length-take n terms in
        let a = ap (λ (t : Term). t.list) (get_or-take n terms i e (omega arith)) in
        let b = ap (λ (t : Term). t.list) (get_or_default terms (n + k) t e (omega arith)) in
        let h = apart i (n + k) e (omega arith) (omega arith) in
        λ is. h (sym a ∙ is ∙ b)) c in
        subst (λ (j : ℕ). P (get_or now j c)) (sym read) (subst P (sym same) (all at c (within (n + k) t (omega arith))));
  }

-- the cursor of a term that comes later is as it was
pub kept-read : {X : Type 0} (terms : List Term) (old now : List X) (i : ℕ) (t : Term) (c : X) → i < length terms → AreApart terms → AreKept (take i terms) old now → get_or now (get_or terms i t).list c ≡ get_or old (get_or terms i t).list c
kept-read terms old now i t c within apart kept = kept.same (get_or terms i t).list (λ k e short.
    let m = length-take i terms in
    let a = ap (λ (t : Term). t.list) (get_or-take i terms k e (omega arith)) in
    let b = ap (λ (t : Term). t.list) (get_or_default terms i t e within) in
    let h = apart k i e (omega arith) within in
    λ is. h (sym a ∙ is ∙ b)) c

pub kept-none : {X : Type 0} (terms : List Term) (old : List X) → AreKept (take 0 terms) old old
kept-none terms old = record { same = λ i all c. refl }

pub kept-more : {X : Type 0} (terms : List Term) (old now : List X) (i : ℕ) (t : Term) (new : X) → i < length terms → AreKept (take i terms) old now → AreKept (take (i + 1) terms) old (set now (get_or terms i t).list new)
kept-more terms old now i t new within kept = record {
  same = λ j all c.
      let m = length-take (i + 1) terms in
      let last : (get_or terms i t).list ≢ j = (let h = all i t (omega arith) in let a = ap (λ (t : Term). t.list) (get_or-take (i + 1) terms i t (omega arith)) in λ e. h (a ∙ e)) in
      let first : All (λ (t : Term). t.list ≢ j) (take i terms) = λ k e short.
      let l = length-take i terms in
      let h = all k e (omega arith) in
      let a = ap (λ (t : Term). t.list) (get_or-take (i + 1) terms k e (omega arith)) in
      let b = ap (λ (t : Term). t.list) (get_or-take i terms k e (omega arith)) in
      λ is. h (a ∙ sym b ∙ is) in
      get_or-set_other now (get_or terms i t).list j new c (λ e. last (sym e)) ∙ kept.same j first c;
}

-- ---- what is held
pub spared-kept : (terms : List Term) (floor k essential : ℕ) (held new : List (ℕ × ℕ)) → ((s : ℕ) → IsBarred floor k held s → IsBarred floor k new s) → AreSpared floor k held terms essential → AreSpared floor k new terms essential
spared-kept terms floor k essential held new kept so_far = record {
  within = so_far.within;
  spared = elim so_far.spared as (λ _. (essential ≡ length terms) ⊎ IsBarred floor k new (bounds (drop essential terms))) [
    | inl whole ↦ inl whole
    | inr barred ↦ inr (kept (bounds (drop essential terms)) barred)
  ];
}

-- ---- a score that the bounds left cannot lift
pub unlifted : (o : Option ℕ) (low score left whole : ℕ) → IfNone o (low ≡ 0) → IfSome o (λ least. low ≡ min (least + 1) 18446744073709551615 - left) → score < low → whole ≤ score + left → beats o whole ≡ false
unlifted None low score left whole none some lt le = absurd (omega arith)
unlifted (Some least) low score left whole none some lt le = le-ltb least whole (omega arith)

-- ---- the documents of a window
module _ (lists : List (List Posting)) (terms : List Term) (essential first : ℕ) (scores marks : List ℕ) (are : AreTermsIn lists first (first + length scores) terms)
    (scored : (k : ℕ) → k < length scores → get_or scores k 0 ≡ score_in lists (first + k) (take essential terms))
    (marked : (k : ℕ) → k < length scores → is_marked marks k ≡ in_lists lists (first + k) (take essential terms)) where
  -- where nothing is marked the score is 0
  pub unmarked-none : (from : ℕ) (ns nm : List ℕ) → length scores ≤ 64 * length marks → AreTakenBack from scores marks ns nm → (k : ℕ) → k < length ns → is_marked nm k ≡ false → get_or ns k 0 ≡ 0
  unmarked-none from ns nm wide taken k within is =
      let count = taken.count in
      elim (cases_lt k from) as (λ _. get_or ns k 0 ≡ 0) [
        | inl before ↦ taken.clear k before (omega arith)
        | inr after ↦ taken.scored k after (omega arith) ∙ scored k (omega arith) ∙ score-none lists (first + k) (take essential terms) (sym (marked k (omega arith)) ∙ sym (taken.marked k after (omega arith)) ∙ is)
      ]

  -- the whole score of a document is what is known, and what the others give
  pub whole-score : (k : ℕ) → k < length scores → get_or scores k 0 + score_in lists (first + k) (drop essential terms) ≡ score_in lists (first + k) terms
  whole-score k within = omega (arith, sum_by-take-drop (share lists (first + k)) terms essential, scored k within)

  pub light-score : (k : ℕ) → k < length scores → get_or scores k 0 + bounds (drop essential terms) < 2 ^ 58
  light-score k within =
      let known = scored k within in
      let le = shares-within lists (first + k) (take essential terms) ((are-take lists first (first + length scores) terms essential are).bounded (first + k) (omega arith) (omega arith)) in
      let whole = sum_by-take-drop (λ (t : Term). t.bound) terms essential in
      let light = are.light in
      omega arith

  -- a marked document is one that a list has
  pub marked-any : (k : ℕ) → k < length scores → is_marked marks k ≡ true → list_any (has_doc (first + k)) lists ≡ true
  marked-any k within is =
      let ts : List Term = take essential terms in
      let some = Any-from_list_any (λ t. has_doc (first + k) (list_of lists t)) ts (sym (marked k within) ∙ is) in
      let inside = (are-take lists first (first + length scores) terms essential are).within some.0 some.1 some.2 in
      let same = ap (λ (t : Term). t.list) some.3 in
      list_any_at (has_doc (first + k)) lists some.1.list [] (omega arith) some.4

  -- a document that is not marked, or whose score is too low, cannot enter
  pub passed-cannot : (weights : List ℕ) (floor k low : ℕ) (o : Option ℕ) (held : List (ℕ × ℕ)) → AreAllTerms lists weights terms → AreSpared floor k held terms essential → ((s : ℕ) → beats o s ≡ false → IsBarred floor k held s) → IfNone o (low ≡ 0) → IfSome o (λ least. low ≡ min (least + 1) 18446744073709551615 - bounds (drop essential terms))
      → (j : ℕ) → j < length scores → (is_marked marks j ≡ true → get_or scores j 0 < low) → CannotEnter lists weights floor k held (first + j)
  passed-cannot weights floor k low o held all spared bars none some j within passed =
      elim (cases_Bool (is_marked marks j)) as (λ _. CannotEnter lists weights floor k held (first + j)) [
        | inl is ↦ (let others = shares-within lists (first + j) (drop essential terms) ((are-drop lists first (first + length scores) terms essential are).bounded (first + j) (omega arith) (omega arith)) in
            let whole = whole-score j within in
            beaten-cannot lists weights terms floor k (first + j) o held all bars (unlifted o low (get_or scores j 0) (bounds (drop essential terms)) (score_in lists (first + j) terms) none some (passed is) (omega arith)))
        | inr not ↦ spared-cannot lists weights terms floor k essential (first + j) held all (are.bounded (first + j) (omega arith) (omega arith)) spared (sym (marked j within) ∙ not)
      ]

  -- documents that cannot enter are passed over
  pub follows-passed : TopAfterSkips → (from to floor k low : ℕ) (o : Option ℕ) (old held : List (ℕ × ℕ)) → AreSpared floor k held terms essential → ((s : ℕ) → beats o s ≡ false → IsBarred floor k held s) → IfNone o (low ≡ 0) → IfSome o (λ least. low ≡ min (least + 1) 18446744073709551615 - bounds (drop essential terms))
      → first + from ≤ to → to ≤ first + length scores → ((j : ℕ) → from ≤ j → first + j < to → is_marked marks j ≡ true → get_or scores j 0 < low) → FollowsTo lists terms floor k first (first + from) old held → FollowsTo lists terms floor k first to old held
  follows-passed skips from to floor k low o old held spared bars none some le end passed so_far weights all top =
      skips floor (first + from) to lists weights k held le (λ d f lt.
      let j : ℕ = d - first in
      let at : first + j ≡ d = omega arith in
      subst (CannotEnter lists weights floor k held) at (passed-cannot weights floor k low o held all spared bars none some j (omega arith) (passed j (omega arith) (omega arith)))) (so_far weights all top)

  -- the candidate is considered
  pub follows-considered : TopAfterOffer → TopAfterSkips → (place floor k : ℕ) (old held new : List (ℕ × ℕ)) → place < length scores → is_marked marks place ≡ true → Considers floor k (first + place) (get_or scores place 0 + score_in lists (first + place) (drop essential terms)) held new
      → FollowsTo lists terms floor k first (first + place) old held → FollowsTo lists terms floor k first (first + (place + 1)) old new
  follows-considered offers skips place floor k old held new within is considered so_far weights all top =
      let doc : ℕ = first + place in
      let next : doc + 1 ≡ first + (place + 1) = omega arith in
      let score_of = whole-score place within ∙ sym (score-is lists weights terms doc all) in
      let before = so_far weights all top in
      subst (λ (n : ℕ). IsTopFrom floor n lists weights k new) next (elim considered as (λ _. IsTopFrom floor (doc + 1) lists weights k new) [
        | inl offered ↦ offers floor doc lists weights k held new before (marked-any place within is) (subst (λ (s : ℕ). floor ≤ s) score_of offered.0) (subst (λ (s : ℕ). IsFirstK k ((doc, s) ∷ held) new) score_of offered.1)
        | inr passed ↦ subst (λ (h : List (ℕ × ℕ)). IsTopFrom floor (doc + 1) lists weights k h) (sym passed.0)
            (skips floor doc (doc + 1) lists weights k held (omega arith) (λ d f lt. let same : doc ≡ d = omega arith in subst (CannotEnter lists weights floor k held) same (inr (subst (IsBarred floor k held) score_of passed.1))) before)
      ])

-- what is held after a document is considered are documents before the next
pub considered-above : (floor k doc next score : ℕ) (held new : List (ℕ × ℕ)) → doc < next → Considers floor k doc score held new → All (λ e. e.0 < doc) held → All (λ e. e.0 < next) new
considered-above floor k doc next score held new lt (inl offered) above =
    let P : ℕ × ℕ → Type 0 = λ e. e.0 < next in
    let each : All P ((doc, score) ∷ held) = All-cons P (doc, score) held lt (λ i e within. let h = above i e within in omega arith) in
    λ i d within. All-contains P ((doc, score) ∷ held) (get_or new i d) each (offered.1.of_them i d within)
considered-above floor k doc next score held new lt (inr passed) above = subst (All (λ (e : ℕ × ℕ). e.0 < next)) (sym passed.0) (λ i e within. let h = above i e within in omega arith)

-- ---- the candidates of a window, one after another
pub record IsNextCandidate (low from place score : ℕ) (scores marks : List ℕ) : Type 0 where
  pub after : from ≤ place
  pub within : place < length scores
  pub marked : is_marked marks place ≡ true
  pub scored : score ≡ get_or scores place 0
  pub passed : (j : ℕ) → from ≤ j → j < place → is_marked marks j ≡ true → get_or scores j 0 < low

module _ (scores marks ns nm : List ℕ) (from : ℕ) (wide : length scores ≤ 64 * length marks) (taken : AreTakenBack from scores marks ns nm) where
  pub candidate-there : (low place score : ℕ) → IsFirstCandidate low ns nm place score → IsNextCandidate low from place score scores marks
  candidate-there low place score is =
      let count = taken.count in
      let inside = is.within in
      let after : from ≤ place = elim (cases_lt place from) as (λ _. from ≤ place) [
        | inl before ↦ absurd (false≢true (sym (taken.unmarked place before (omega arith)) ∙ is.marked))
        | inr ge ↦ ge
      ] in
      record {
        after = after;
        within = omega arith;
        marked = sym (taken.marked place after (omega arith)) ∙ is.marked;
        scored = sym is.scored ∙ taken.scored place after (omega arith);
        passed = λ j f lt one. let read = taken.scored j f (omega arith) in let h = is.others j lt (taken.marked j f (omega arith) ∙ one) in omega arith;
      }

  pub none-there : (low : ℕ) → NoneIsCandidate low ns nm → (j : ℕ) → from ≤ j → j < length scores → is_marked marks j ≡ true → get_or scores j 0 < low
  none-there low none j f lt one = let count = taken.count in let read = taken.scored j f lt in let h = none j (omega arith) (taken.marked j f (omega arith) ∙ one) in omega arith
