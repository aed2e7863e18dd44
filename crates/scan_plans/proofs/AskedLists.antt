-- Cursors over the lists of terms that are asked together.
use Rattle.std.proofs.Common.{◌≡◌, sym, ◌∙◌, ap, subst, ℕ, zero, suc, ◌+◌, ◌^◌, ◌<◌, ◌≤◌, List, [], ◌∷◌, ◌++◌, length, get_or, take, map, arith}
use Rattle.std.specs.Prelude.{sum}
use Rattle.std.specs.List.{All}
use Rattle.std.proofs.lemmas.List.{length-map, map-append}
use Rattle.std.proofs.lemmas.List.Elements.{All-get_or, All-weaker, All-map, All-append}
use Rattle.std.proofs.Math.Seq.{take-suc}
use Rattle.collection_model.specs.Collection.{Posting, Collection, docs_of, list_of}
use Rattle.scan_plans.specs.Matches.{AreBelow}
use Rattle.scan_plans.specs.TopQuery.{IsTopQuery}

one-at : {X : Type 0} (P : X → Type 0) (x d : X) (k : ℕ) → k < 1 → P x → P (get_or (x ∷ []) k d)
one-at P x d zero lt h = h
one-at P x d (suc k) lt h = absurd (omega arith)

-- the documents of the lists of some terms are those of the collection
pub lists-below : (c : Collection) (terms : List ℕ) → AreBelow c.documents c.lists → All (λ t. t < length c.lists) terms → AreBelow c.documents (map (list_of c) terms)
lists-below c terms in_range below =
    All-map (λ list. All (λ d. d < c.documents) (docs_of list)) (list_of c) terms
    (
    All-weaker (λ t. t < length c.lists) (λ t. All (λ d. d < c.documents) (docs_of (list_of c t)))
    (λ t lt. All-get_or (λ list. All (λ d. d < c.documents) (docs_of list)) c.lists t [] lt in_range)
    terms
    below
    )

-- cursors at the starts of lists are a query of these with weights
pub is-query : {C : Type 0} (list_at : C → List Posting) (place_at : C → ℕ) (n : ℕ) (asked : List (List Posting)) (weights : List ℕ) (made cursors : List C) → length asked ≤ 1024 → AreBelow n asked → length weights ≡ length asked
    → All (λ w. 1 ≤ w) weights → sum weights < 2 ^ 26 → map list_at made ≡ asked → All (λ x. place_at x ≡ 0) made → cursors ≡ made → IsTopQuery list_at place_at n cursors weights
is-query list_at place_at n asked weights made cursors few below each some light so start same =
    let count : length cursors ≡ length asked = ap length same ∙ sym (length-map made list_at) ∙ ap length so in
    record {
      few = omega arith;
      at_start = subst (All (λ x. place_at x ≡ 0)) (sym same) start;
      in_range = subst (AreBelow n) (sym (ap (map list_at) same ∙ so)) below;
      each = each ∙ sym count;
      some = some;
      light = light;
    }

-- ---- one cursor more

pub lists-pushed : {C : Type 0} (list_at : C → List Posting) (c : Collection) (terms : List ℕ) (k : ℕ) (cursors more : List C) (cursor : C) →
    map list_at cursors ≡ map (list_of c) (take k terms) → more ≡ cursors ++ cursor ∷ [] → list_at cursor ≡ list_of c (get_or terms k 0) → k < length terms →
    map list_at more ≡ map (list_of c) (take (k + 1) terms)
lists-pushed list_at c terms k cursors more cursor so pushed of within =
    let next : suc k ≡ k + 1 = omega arith in
    let last : List ℕ = get_or terms k 0 ∷ [] in
    ap (map list_at) pushed ∙ map-append list_at cursors (cursor ∷ []) ∙ (λ i. so i ++ of i ∷ [])
    ∙ sym (map-append (list_of c) (take k terms) last) ∙ sym (ap (map (list_of c)) (take-suc terms k 0 within)) ∙ ap (λ n. map (list_of c) (take n terms)) next

pub starts-pushed : {C : Type 0} (place_at : C → ℕ) (cursors more : List C) (cursor : C) →
    All (λ c. place_at c ≡ 0) cursors → more ≡ cursors ++ cursor ∷ [] → place_at cursor ≡ 0 → All (λ c. place_at c ≡ 0) more
starts-pushed {C} place_at cursors more cursor so pushed start =
    let P : C → Type 0 = λ c. place_at c ≡ 0 in
    subst (All P) (sym pushed) (All-append P cursors (cursor ∷ []) so (λ k d lt. one-at P cursor d k lt start))
