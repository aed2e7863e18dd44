-- Lemmas on a top list that is made with skips.
use Rattle.std.proofs.Common.{◌≡◌, sym, ap, inl, inr, ◌∙◌, subst, ◌⊎◌, ℕ, ◌+◌, ◌*◌, ◌<◌, ◌≤◌, ◌^◌, Bool, true, false, List, [], ◌∷◌, ◌++◌, map, take, drop, length, get_or, Option, Some, None, arith}
use Rattle.std.specs.Prelude.{◌||◌, ◌↔◌}
use Rattle.std.specs.List.{All, list_any, range_with_len}
use Rattle.std.specs.Option.{IfSome}
use Rattle.std.proofs.lemmas.List.{drop_all, length-map, take-append-drop, take_all}
use Rattle.std.proofs.lemmas.Bool.{le-ltb, ltb-false}
use Rattle.std.proofs.lemmas.List.Elements.{All-take}
use Rattle.std.proofs.lemmas.List.FromFn.{map-range_with_len_more}
use Rattle.std.proofs.lemmas.List.Folds.{list_any-append}
use Rattle.collection_model.specs.Collection.{Posting, greatest_freq}
use Rattle.scan_plans.specs.Matches.{AreBelow, has_doc}
use Rattle.scan_plans.specs.IsTop.{IsTopOf, IsTopFrom}
use Rattle.scan_plans.specs.Scan.{HasPassed}
use Rattle.scan_plans.specs.Skips.{IsBarred, CannotEnter, TopAfterSkips, TopIsBelow, HasOnlyBelow}
use Rattle.topk_pruning.specs.declared.term.Term.{Term}
use Rattle.topk_pruning.specs.Terms.{term_of, list_of, in_lists, bounds, AreTerms, AreAllTerms, score_in, beats, IsFirstDoc, IsNextDoc, AreSpared, IsEssential, FollowsTo}
use Rattle.topk_pruning.proofs.Scores.{any-is, score-is, bounded-at, shares-within, few-bound}
use Rattle.topk_pruning.proofs.Bars.{barred-lower}
use Rattle.topk_pruning.proofs.Moves.{later-passed}

-- ---- one more term
same-term : (a b : Term) → a.list ≡ b.list → a.weight ≡ b.weight → a.bound ≡ b.bound → a ≡ b
same-term a b p q r = λ i. record { list = p i; weight = q i; bound = r i }

pub terms-more : (lists : List (List Posting)) (weights : List ℕ) (i : ℕ) (t : Term) (terms new : List Term) → t.list ≡ i → t.weight ≡ get_or weights i 0 → t.bound ≡ get_or weights i 0 * greatest_freq (get_or lists i [])
    → terms ≡ map (term_of lists weights) (range_with_len 0 i) → new ≡ terms ++ t ∷ [] → new ≡ map (term_of lists weights) (range_with_len 0 (i + 1))
terms-more lists weights i t terms new list weight bound so_far adds =
    let same : t ≡ term_of lists weights i = same-term t (term_of lists weights i) list weight bound in
    adds ∙ ap (λ (ts : List Term). ts ++ t ∷ []) so_far ∙ ap (λ (t : Term). map (term_of lists weights) (range_with_len 0 i) ++ t ∷ []) same
    ∙ sym (map-range_with_len_more (term_of lists weights) 0 i i (omega arith))

-- ---- how many are essential
pub essential-spared : (terms : List Term) (o : Option ℕ) (count floor k : ℕ) (held : List (ℕ × ℕ)) → IsEssential terms o count → ((s : ℕ) → beats o s ≡ false → IsBarred floor k held s) → AreSpared floor k held terms count
essential-spared terms o count floor k held are bars = record {
  within = are.within;
  spared = elim are.spared as (λ _. (count ≡ length terms) ⊎ IsBarred floor k held (bounds (drop count terms))) [
    | inl whole ↦ inl whole
    | inr beaten ↦ inr (bars (bounds (drop count terms)) beaten)
  ];
}

-- ---- one step
pub any-of_take : {X : Type 0} (p : X → Bool) (i : ℕ) (xs : List X) → list_any p (take i xs) ≡ true → list_any p xs ≡ true
any-of_take p i xs is = ap (list_any p) (sym (take-append-drop i xs)) ∙ list_any-append p (take i xs) (drop i xs) ∙ ap (λ (b : Bool). b || list_any p (drop i xs)) is

-- a document at which windows begin: those before it are skipped
pub record IsStep (n : ℕ) (lists : List (List Posting)) (weights : List ℕ) (floor k from doc : ℕ) (held : List (ℕ × ℕ)) : Type 0 where
  pub later : from ≤ doc
  pub in_range : doc < n
  pub top : IsTopFrom floor doc lists weights k held
  pub above : All (λ e. e.0 < doc) held

-- a document that is in no essential list, or is barred, cannot enter
pub next-cannot : (lists : List (List Posting)) (weights : List ℕ) (terms : List Term) (floor k d : ℕ) (held : List (ℕ × ℕ)) → AreAllTerms lists weights terms → (in_lists lists d terms ≡ false) ⊎ IsBarred floor k held (score_in lists d terms) → CannotEnter lists weights floor k held d
next-cannot lists weights terms floor k d held all (inl none) = inl (any-is lists weights terms d all ∙ none)
next-cannot lists weights terms floor k d held all (inr barred) = inr (subst (IsBarred floor k held) (sym (score-is lists weights terms d all)) barred)

pub next-step : TopAfterSkips → TopIsBelow → HasOnlyBelow → (n : ℕ) (lists : List (List Posting)) (weights : List ℕ) (terms : List Term) (floor k from doc : ℕ) (held : List (ℕ × ℕ)) → AreBelow n lists → AreAllTerms lists weights terms
    → IsTopFrom floor from lists weights k held → IsNextDoc lists terms floor k held from (Some doc) → IsStep n lists weights floor k from doc held
next-step skips is_below only n lists weights terms floor k from doc held below all top next =
    let later : from ≤ doc = next.one_has_it.0 in
    let at : IsTopFrom floor doc lists weights k held = skips floor from doc lists weights k held later (λ d f lt. next-cannot lists weights terms floor k d held all (next.barred_before d f lt)) top in
    record { later = later; in_range = only n lists doc below (any-is lists weights terms doc all ∙ next.one_has_it.1); top = at; above = is_below floor doc lists weights k held at }

-- no candidate is left: all other documents are skipped
pub last-step : TopAfterSkips → (n : ℕ) (lists : List (List Posting)) (weights : List ℕ) (terms : List Term) (floor k from : ℕ) (held : List (ℕ × ℕ)) → AreAllTerms lists weights terms
    → from ≤ n → IsTopFrom floor from lists weights k held → IsNextDoc lists terms floor k held from None → IsTopFrom floor n lists weights k held
last-step skips n lists weights terms floor k from held all le top next =
    skips floor from n lists weights k held le (λ d f lt. next-cannot lists weights terms floor k d held all (next.barred_before d f tt)) top

-- a document that no essential list has is barred
pub spared-barred : (lists : List (List Posting)) (terms : List Term) (floor k essential d : ℕ) (held : List (ℕ × ℕ)) → AreTerms lists terms → AreSpared floor k held terms essential → in_lists lists d (take essential terms) ≡ false → (in_lists lists d terms ≡ false) ⊎ IsBarred floor k held (score_in lists d terms)
spared-barred lists terms floor k essential d held are so none = elim so.spared as (λ _. (in_lists lists d terms ≡ false) ⊎ IsBarred floor k held (score_in lists d terms)) [
  | inl whole ↦ inl (ap (in_lists lists d) (sym (take_all essential terms (omega arith))) ∙ none)
  | inr barred ↦ inr (barred-lower floor k held (bounds (drop essential terms)) (score_in lists d terms) (few-bound lists d essential terms (bounded-at lists terms d are) none) barred)
]

next-has : (lists : List (List Posting)) (terms : List Term) (essential from : ℕ) (o : Option ℕ) → IfSome o (λ doc. (from ≤ doc) × (in_lists lists doc (take essential terms) ≡ true)) → IfSome o (λ doc. (from ≤ doc) × (in_lists lists doc terms ≡ true))
next-has lists terms essential from None has = tt
next-has lists terms essential from (Some doc) has = (has.0, any-of_take (λ t. has_doc doc (list_of lists t)) essential terms has.1)

-- the first document of the essential lists is the next
pub next-of_first : (lists : List (List Posting)) (terms : List Term) (floor k essential from : ℕ) (held : List (ℕ × ℕ)) (o : Option ℕ) → AreTerms lists terms → AreSpared floor k held terms essential → IsFirstDoc lists (take essential terms) from o → IsNextDoc lists terms floor k held from o
next-of_first lists terms floor k essential from held o are so first = record {
  barred_before = λ d f lt. spared-barred lists terms floor k essential d held are so (first.none_before d f lt);
  one_has_it = next-has lists terms essential from o first.one_has_it;
}

-- so is the first of one list that can beat the bar
pub next-alone : (lists : List (List Posting)) (terms : List Term) (floor k bar from : ℕ) (held : List (ℕ × ℕ)) (o : Option ℕ) → ((s : ℕ) → (beats (Some bar) s ≡ false) ↔ IsBarred floor k held s) → ((d : ℕ) → from ≤ d → IfSome o (λ doc. d < doc) → score_in lists d terms ≤ bar)
    → IfSome o (λ doc. (from ≤ doc) × (in_lists lists doc (take 1 terms) ≡ true)) → IsNextDoc lists terms floor k held from o
next-alone lists terms floor k bar from held o bars before found = record {
  barred_before = λ d f lt. inr ((bars (score_in lists d terms)).0 (le-ltb bar (score_in lists d terms) (before d f lt)));
  one_has_it = next-has lists terms 1 from o found;
}

-- one term alone is essential: the bounds of the others do not beat the bar
pub others-low : (terms : List Term) (floor k essential bar : ℕ) (held : List (ℕ × ℕ)) → essential ≡ 1 → AreSpared floor k held terms essential → ((s : ℕ) → (beats (Some bar) s ≡ false) ↔ IsBarred floor k held s) → bounds (drop 1 terms) ≤ bar
others-low terms floor k essential bar held is so bars = elim so.spared as (λ _. bounds (drop 1 terms) ≤ bar) [
  | inl whole ↦ (let none : bounds (drop 1 terms) ≡ 0 = ap bounds (drop_all 1 terms (omega arith)) in omega arith)
  | inr barred ↦ ltb-false bar (bounds (drop 1 terms)) ((bars (bounds (drop 1 terms))).1 (subst (λ (e : ℕ). IsBarred floor k held (bounds (drop e terms))) is barred))
]

-- ---- the scores of a top list
pub scores-light : (docs : List ℕ) (lists : List (List Posting)) (weights : List ℕ) (terms : List Term) (k : ℕ) (held : List (ℕ × ℕ)) → AreAllTerms lists weights terms → AreTerms lists terms → IsTopOf docs lists weights k held → All (λ e. e.1 < 2 ^ 58) held
scores-light docs lists weights terms k held all are top i d within =
    let scored = top.scored i d within in
    let doc : ℕ = (get_or held i d).0 in
    let is = score-is lists weights terms doc all in
    let le = shares-within lists doc terms (bounded-at lists terms doc are) in
    let light = are.light in
    omega arith

-- ---- terms and cursors
module _ {X : Type 0} (list : X → List Posting) where
  pub within-all : (cs : List X) (terms : List Term) → AreTerms (map list cs) terms → All (λ t. t.list < length cs) terms
  within-all cs terms are = let l = length-map cs list in λ i t within. let h = are.within i t within in omega arith

  pub within-now : (cs : List X) (terms : List Term) (count : ℕ) → AreTerms (map list cs) terms → All (λ t. t.list < length cs) (take count terms)
  within-now cs terms count are = All-take (λ t. t.list < length cs) count terms (within-all cs terms are)

-- the cursors have passed no document from the one found on
pub passed-some : {X : Type 0} (list : X → List Posting) (place : X → ℕ) (cs : List X) (lists : List (List Posting)) (terms : List Term) (from : ℕ) (o : Option ℕ) → IsFirstDoc lists terms from o → All (λ c. HasPassed from (list c) (place c)) cs → IfSome o (λ doc. All (λ c. HasPassed doc (list c) (place c)) cs)
passed-some list place cs lists terms from None first all = tt
passed-some list place cs lists terms from (Some doc) first all = later-passed list place cs from doc first.one_has_it.0 all

-- ---- the same facts of equal lists
pub next-same : (now lists : List (List Posting)) (slice terms : List Term) (f g j k from : ℕ) (held : List (ℕ × ℕ)) (o : Option ℕ) → now ≡ lists → slice ≡ terms → f ≡ g → j ≡ k → IsNextDoc now slice f j held from o → IsNextDoc lists terms g k held from o
next-same now lists slice terms f g j k from held o same slices floors ks next =
    subst (λ (ls : List (List Posting)). IsNextDoc ls terms g k held from o) same (subst (λ (ts : List Term). IsNextDoc now ts g k held from o) slices
    (subst (λ (f : ℕ). IsNextDoc now slice f k held from o) floors (subst (λ (j : ℕ). IsNextDoc now slice f j held from o) ks next)))

pub follows-same : (now lists : List (List Posting)) (slice terms : List Term) (f g j k from to : ℕ) (held new : List (ℕ × ℕ)) → now ≡ lists → slice ≡ terms → f ≡ g → j ≡ k → FollowsTo now slice f j from to held new → FollowsTo lists terms g k from to held new
follows-same now lists slice terms f g j k from to held new same slices floors ks follows =
    subst (λ (ls : List (List Posting)). FollowsTo ls terms g k from to held new) same (subst (λ (ts : List Term). FollowsTo now ts g k from to held new) slices
    (subst (λ (f : ℕ). FollowsTo now slice f k from to held new) floors (subst (λ (j : ℕ). FollowsTo now slice f j from to held new) ks follows)))
