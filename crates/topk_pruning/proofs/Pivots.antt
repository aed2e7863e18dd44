-- Lemmas on one step from pivot to pivot.
use Rattle.std.proofs.Common.{◌≡◌, refl, sym, subst, ℕ, ◌+◌, ◌*◌, ◌<◌, ◌≤◌, false, List, ◌++◌, take, drop, length, Option, Some, None, arith}
use Rattle.std.specs.List.{All}
use Rattle.std.proofs.lemmas.List.{length-map, drop_at}
use Rattle.std.proofs.lemmas.List.Elements.{All-drop}
use Rattle.std.proofs.lemmas.List.Sums.{sum_by-append}
use Rattle.collection_model.specs.Collection.{Posting, greatest_freq}
use Rattle.scan_plans.specs.Skips.{IsBarred}
use Rattle.topk_pruning.specs.declared.term.Term.{Term}
use Rattle.topk_pruning.specs.declared.order.Standing.{Standing}
use Rattle.topk_pruning.specs.Terms.{list_of, beats, AreTerms, IsFirstDoc, IsNextDoc}
use Rattle.topk_pruning.specs.Order.{terms_at, IsFalling, IsOrder, IsPivot}
use Rattle.topk_pruning.proofs.Tops.{next-of_first, essential-spared}
use Rattle.topk_pruning.proofs.Orders.{all-of, are-again, spared-order, pivot-first, no-pivot}

-- those that stand are some of the terms
pub standing-are : (lists : List (List Posting)) (terms : List Term) (from : ℕ) (order : List Standing) → IsOrder lists terms from order → AreTerms lists terms → AreTerms lists (terms_at order)
standing-are lists terms from order is are =
    let ts : List Term = terms_at order in
    let n : ℕ = length is.ended in
    let whole = are-again lists terms from order is are in
    let rest : drop n (is.ended ++ ts) ≡ ts = drop_at is.ended ts n refl in
    let light = whole.light in
    let parts = sum_by-append (λ (t : Term). t.bound) is.ended ts in
    record {
      within = subst (λ (ts : List Term). All (λ t. t.list < length lists) ts) rest (All-drop (λ (t : Term). t.list < length lists) n (is.ended ++ ts) whole.within);
      bounded = subst (λ (ts : List Term). All (λ t. t.bound ≡ t.weight * greatest_freq (list_of lists t)) ts) rest (All-drop (λ (t : Term). t.bound ≡ t.weight * greatest_freq (list_of lists t)) n (is.ended ++ ts) whole.bounded);
      light = omega arith;
    }

-- the order after the cursors caught up, at equal lists
pub caught-order : (now lists : List (List Posting)) (terms : List Term) (from : ℕ) (old new : List Standing) → now ≡ lists → ((terms : List Term) → IsOrder now terms from old → IsOrder now terms from new) → IsOrder lists terms from old → IsOrder lists terms from new
caught-order now lists terms from old new same caught is =
    subst (λ (ls : List (List Posting)). IsOrder ls terms from new) same (caught terms (subst (λ (ls : List (List Posting)). IsOrder ls terms from old) (sym same) is))

-- the document of a pivot is the next that can be held
pub pivot-step : (lists : List (List Posting)) (terms : List Term) (floor k from doc : ℕ) (order : List Standing) (o : Option ℕ) (held : List (ℕ × ℕ)) → AreTerms lists terms
    → (is : IsOrder lists terms from order) → IsFalling order → All (λ s. from ≤ s.doc) order → ((s : ℕ) → beats o s ≡ false → IsBarred floor k held s) → IsPivot order o (Some doc) → IsNextDoc lists (all-of lists terms from order is) floor k held from (Some doc)
pivot-step lists terms floor k from doc order o held are is falls caught bars pivot =
    let within = pivot.essential.within in
    let l = length-map order (λ (s : Standing). s.term) in
    next-of_first lists (all-of lists terms from order is) floor k (length is.ended + pivot.count) from held (Some doc) (are-again lists terms from order is are)
    (spared-order lists terms from floor k pivot.count order held is (essential-spared (terms_at order) o pivot.count floor k held pivot.essential bars))
    (pivot-first lists terms from pivot.count doc order is falls caught (omega arith) pivot.at)

-- where there is no pivot, none is left
pub pivot-end : (lists : List (List Posting)) (terms : List Term) (floor k from : ℕ) (order : List Standing) (o : Option ℕ) (held : List (ℕ × ℕ)) → AreTerms lists terms
    → (is : IsOrder lists terms from order) → ((s : ℕ) → beats o s ≡ false → IsBarred floor k held s) → IsPivot order o None → IsNextDoc lists (all-of lists terms from order is) floor k held from None
pivot-end lists terms floor k from order o held are is bars pivot =
    let every : List Term = all-of lists terms from order is in
    let none : pivot.count ≡ 0 = pivot.none in
    next-of_first lists every floor k (length is.ended + pivot.count) from held None (are-again lists terms from order is are)
    (spared-order lists terms from floor k pivot.count order held is (essential-spared (terms_at order) o pivot.count floor k held pivot.essential bars))
    (subst (λ (count : ℕ). IsFirstDoc lists (take (length is.ended + count) every) from None) (sym none) (no-pivot lists terms from order is))
