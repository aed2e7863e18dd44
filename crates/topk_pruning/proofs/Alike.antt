-- Lemmas on terms of the same lists with the same weights, in any order and with any bounds.
use Rattle.std.proofs.Common.{◌≡◌, refl, sym, ap, inl, inr, ◌∙◌, subst, ℕ, ◌*◌, ◌<◌, ◌≤◌, Bool, eqb, List, [], ◌∷◌, map, length, get_or, arith}
use Rattle.std.specs.Prelude.{◌||◌}
use Rattle.std.specs.List.{All, IsDistinct, sum_by, list_any}
use Rattle.std.specs.List.Sorted.{IsPermutation}
use Rattle.std.proofs.lemmas.Bool.{cases_eq, eqb-false, eq-eqb, ne_eqb}
use Rattle.std.proofs.lemmas.List.{length-map, get_or-map}
use Rattle.std.proofs.lemmas.List.Elements.{All-map}
use Rattle.std.proofs.lemmas.List.Sorted.{All-permutation, IsPermutation-trans, IsPermutation-map, sum_by-IsPermutation, list_any-IsPermutation}
use Rattle.std.proofs.lemmas.List.Sums.{sum_by-cons}
use Rattle.std.proofs.lemmas.Map.Keys.{IsDistinct-IsPermutation, IsDistinct-from_apart, apart_from_distinct}
use Rattle.collection_model.specs.Collection.{Posting}
use Rattle.scan_plans.specs.Matches.{has_doc, freq_of_doc}
use Rattle.topk_pruning.specs.declared.term.Term.{Term}
use Rattle.topk_pruning.specs.Terms.{share, score_in, in_lists, keys, AreAlike, AreApart, AreAllTerms, AreTermsIn, AreNear, FollowsTo}

-- the list of a term with its weight
abbrev pub key : Term → ℕ × ℕ
key t = (t.list, t.weight)

-- ---- sums and tests over what a list is mapped to
sum_mapped : {X Y : Type 0} (g : Y → ℕ) (f : X → Y) (xs : List X) → sum_by g (map f xs) ≡ sum_by (λ x. g (f x)) xs
sum_mapped g f [] = refl
sum_mapped g f (x ∷ xs) =
    let a = sum_by-cons g (f x) (map f xs) in
    let b = sum_by-cons (λ x. g (f x)) x xs in
    let more = sum_mapped g f xs in
    omega arith

any_mapped : {X Y : Type 0} (p : Y → Bool) (f : X → Y) (xs : List X) → list_any p (map f xs) ≡ list_any (λ x. p (f x)) xs
any_mapped p f [] = refl
any_mapped p f (x ∷ xs) = ap (λ b. p (f x) || b) (any_mapped p f xs)

-- ---- the same lists with the same weights
pub alike-moved : (terms others : List Term) → IsPermutation terms others → AreAlike terms others
alike-moved terms others moved = IsPermutation-map key terms others moved

pub alike-trans : (terms others last : List Term) → AreAlike terms others → AreAlike others last → AreAlike terms last
alike-trans terms others last a b = IsPermutation-trans (keys terms) (keys others) (keys last) a b

-- they give a document the same score
pub alike-score : (lists : List (List Posting)) (d : ℕ) (terms others : List Term) → AreAlike terms others → score_in lists d terms ≡ score_in lists d others
alike-score lists d terms others alike =
    let gain : ℕ × ℕ → ℕ = λ e. e.1 * freq_of_doc d (get_or lists e.0 []) in
    sym (sum_mapped gain key terms) ∙ sym (sum_by-IsPermutation gain (keys terms) (keys others) alike) ∙ sum_mapped gain key others

-- and have the same documents
pub alike-any : (lists : List (List Posting)) (d : ℕ) (terms others : List Term) → AreAlike terms others → in_lists lists d terms ≡ in_lists lists d others
alike-any lists d terms others alike =
    let has : ℕ × ℕ → Bool = λ e. has_doc d (get_or lists e.0 []) in
    sym (any_mapped has key terms) ∙ list_any-IsPermutation has (keys terms) (keys others) alike ∙ any_mapped has key others

-- what holds for the list and the weight of each
pub alike-all : (P : ℕ × ℕ → Type 0) (terms others : List Term) → AreAlike terms others → All (λ t. P (key t)) terms → All (λ t. P (key t)) others
alike-all P terms others alike all k t within =
    let l = length-map others key in
    let moved : All P (keys others) = All-permutation P (keys terms) (keys others) alike (All-map P key terms all) in
    subst P (get_or-map key others k t (key t) within) (moved k (key t) (omega arith))

-- ---- different lists
eqb-turned : (m n : ℕ) → eqb m n ≡ eqb n m
eqb-turned m n = elim (cases_eq m n) as (λ _. eqb m n ≡ eqb n m) [
  | inl same ↦ eq-eqb m n same ∙ sym (eq-eqb n m (sym same))
  | inr other ↦ ne_eqb m n other ∙ sym (ne_eqb n m (λ e. other (sym e)))
]

pub alike-apart : (terms others : List Term) → AreAlike terms others → AreApart terms → AreApart others
alike-apart terms others alike apart i j d lt within =
    let same : ℕ × ℕ → ℕ × ℕ → Bool = λ a b. eqb a.0 b.0 in
    let none : Term = record { list = 0; weight = 0; bound = 0 } in
    let l = length-map terms key in
    let m = length-map others key in
    let first : IsDistinct same (keys terms) = IsDistinct-from_apart same (keys terms) (λ i j e lt within.
    let a = ap (λ (e : ℕ × ℕ). e.0) (get_or-map key terms i none e (omega arith)) in
    let b = ap (λ (e : ℕ × ℕ). e.0) (get_or-map key terms j none e (omega arith)) in
    let h = apart i j none lt (omega arith) in
    ne_eqb _ _ (λ is. h (sym a ∙ is ∙ b))) in
    let now : IsDistinct same (keys others) = IsDistinct-IsPermutation same (λ a b. eqb-turned a.0 b.0) (keys terms) (keys others) alike first in
    let a = ap (λ (e : ℕ × ℕ). e.0) (get_or-map key others i d (key d) (omega arith)) in
    let b = ap (λ (e : ℕ × ℕ). e.0) (get_or-map key others j d (key d) within) in
    let h = eqb-false _ _ (apart_from_distinct same (keys others) i j (key d) now lt (omega arith)) in
    λ is. h (a ∙ is ∙ sym b)

-- ---- the terms of a query
pub all-alike : (lists : List (List Posting)) (weights : List ℕ) (terms others : List Term) → AreAlike terms others → AreAllTerms lists weights terms → AreAllTerms lists weights others
all-alike lists weights terms others alike all = record { each = all.each; all = IsPermutation-trans _ (keys terms) (keys others) all.all alike }

pub follows-alike : (lists : List (List Posting)) (terms others : List Term) (floor k from to : ℕ) (held new : List (ℕ × ℕ)) → AreAlike terms others → FollowsTo lists others floor k from to held new → FollowsTo lists terms floor k from to held new
follows-alike lists terms others floor k from to held new alike follows weights all top = follows weights (all-alike lists weights terms others alike all) top

-- ---- terms with bounds for a stretch of documents
pub in-moved : (lists : List (List Posting)) (from to : ℕ) (terms others : List Term) → IsPermutation terms others → AreTermsIn lists from to terms → AreTermsIn lists from to others
in-moved lists from to terms others moved are =
    let same = sum_by-IsPermutation (λ (t : Term). t.bound) terms others moved in
    let light = are.light in
    record {
      within = All-permutation (λ (t : Term). t.list < length lists) terms others moved are.within;
      bounded = λ d after before. All-permutation (λ (t : Term). share lists d t ≤ t.bound) terms others moved (are.bounded d after before);
      light = omega arith;
    }

pub near-moved : (lists : List (List Posting)) (terms : List Term) (from to : ℕ) (near others : List Term) → IsPermutation near others → AreNear lists terms from to near → AreNear lists terms from to others
near-moved lists terms from to near others moved are = record {
  alike = alike-trans terms near others are.alike (alike-moved near others moved);
  bounded = in-moved lists from to near others moved are.bounded;
}

-- a stretch inside
pub in-narrower : (lists : List (List Posting)) (from to low high : ℕ) (terms : List Term) → from ≤ low → high ≤ to → AreTermsIn lists from to terms → AreTermsIn lists low high terms
in-narrower lists from to low high terms after before are = record {
  within = are.within;
  bounded = λ d from_low to_high. are.bounded d (omega arith) (omega arith);
  light = are.light;
}
