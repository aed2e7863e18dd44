use Rattle.std.proofs.Common.{◌≡◌, ◌∙◌, refl, sym, subst, ℕ, zero, suc, ◌<◌, Bool, true, List, [], ◌∷◌, get_or, arith}
use Rattle.collection_model.specs.Collection.{Posting, postings_of}
use Rattle.cursor_api.specs.declared.plain.PlainCursor.{PlainCursor}
use Rattle.interval_max.specs.Bounded.{IsBoundOf, AreBoundsOf}
use Rattle.interval_max.specs.Kept.{AreMaximaOf}
use Rattle.interval_max.specs.declared.maxima.Bounds.{Bounds}
use Rattle.worked_plans.proofs.intervals.best_of_two.Goals as goal

-- the bounds of two lists
both : (a b : List Posting) (x y : Bounds) → IsBoundOf a x → IsBoundOf b y → AreBoundsOf (a ∷ b ∷ []) (x ∷ y ∷ [])
both a b x y first second = record { each = refl; theirs = at }
  where
    at : (i : ℕ) (d : Bounds) → i < 2 → IsBoundOf (get_or (a ∷ b ∷ []) i []) (get_or (x ∷ y ∷ []) i d)
    at zero d within = first
    at (suc i) d within = let none : i ≡ 0 = omega arith in subst (λ (j : ℕ). IsBoundOf (get_or (a ∷ b ∷ []) (suc j) []) (get_or (x ∷ y ∷ []) (suc j) d)) (sym none) second

pub top_intervals-requires-clause-maxima : goal.top_intervals-requires-clause-maxima
top_intervals-requires-clause-maxima c =
    let list : PlainCursor → List Posting = λ p. postings_of p.docs.now p.freqs.now in
    let a : List Posting = list c.args.first in
    let b : List Posting = list c.args.second in
    let has : ℕ → Bool = λ t. true in
    let lists : ℕ → List Posting = λ t. get_or (a ∷ b ∷ []) t [] in
    let one = c.in_ok-add.ensures.added has lists (c.new-writer.ensures has lists) refl refl in
    let two = c.in_ok-add-2.ensures.added has lists one refl refl in
    let are = subst (λ (bytes : List ℕ). AreMaximaOf has lists 2 bytes) (sym (c.new-maxima.ensures ∙ c.deref.ensures.value)) (c.in_ok-bytes.ensures has lists 2 two) in
    both (list c.counting-5.result.cursor) (list c.counting-6.result.cursor) c.bounds_if.result c.bounds_if-2.result
    (subst (λ (p : PlainCursor). IsBoundOf (list p) c.bounds_if.result) (sym c.counting-5.ensures) (c.bounds_if.ensures has lists 2 are (omega arith)))
    (subst (λ (p : PlainCursor). IsBoundOf (list p) c.bounds_if-2.result) (sym c.counting-6.ensures) (c.bounds_if-2.ensures has lists 2 are (omega arith)))
