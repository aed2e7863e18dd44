-- Lemmas on terms with bounds for a stretch of documents.
use Rattle.std.proofs.Common.{◌≡◌, refl, sym, ap, inl, inr, ◌⊎◌, ◌∙◌, subst, ℕ, ◌+◌, ◌-◌, ◌*◌, ◌<◌, ◌≤◌, min, List, [], ◌∷◌, ◌++◌, take, drop, set, length, get_or, arith}
use Rattle.std.specs.List.{All, SwappedAt}
use Rattle.std.specs.List.Sorted.{IsPermutation}
use Rattle.std.proofs.lemmas.Nat.{mul-le}
use Rattle.std.proofs.lemmas.List.{length-set, length-take, get_or-take, drop_all, drop-drop, append-nil, take_all, take_more_set, map_push, map_more, ext_get_or}
use Rattle.std.proofs.lemmas.List.Elements.{All-push}
use Rattle.std.proofs.lemmas.List.Sorted.{IsPermutation-refl, sum_by-IsPermutation}
use Rattle.std.proofs.lemmas.List.Sums.{sum_by_more, sum_by_push, sum_by-drop_more, sum_by-take-drop}
use Rattle.collection_model.specs.Collection.{Posting, greatest_freq}
use Rattle.scan_plans.specs.Matches.{freq_of_doc}
use Rattle.scan_plans.specs.Skips.{IsBarred, TopAfterSkips}
use Rattle.topk_pruning.specs.declared.term.Term.{Term}
use Rattle.topk_pruning.specs.Terms.{list_of, share, bounds, keys, AreAlike, AreTerms, AreTermsIn, AreNear, AreSpared, FollowsTo}
use Rattle.topk_pruning.proofs.Alike.{key, alike-all}
use Rattle.topk_pruning.proofs.Bars.{barred-lower}
use Rattle.topk_pruning.proofs.Scores.{share-within, spared-cannot}

-- what a term adds is no more than its weight times a ceiling, and no more than its bound
pub share-under : (lists : List (List Posting)) (d g : ℕ) (t : Term) → t.bound ≡ t.weight * greatest_freq (list_of lists t) → freq_of_doc d (list_of lists t) ≤ g → share lists d t ≤ min (t.weight * g) t.bound
share-under lists d g t bounded le =
    let by_ceiling : share lists d t ≤ t.weight * g = mul-le t.weight (freq_of_doc d (list_of lists t)) t.weight g (omega arith) le in
    let by_bound = share-within lists d t bounded in
    omega arith

-- ---- one term after another
-- the first so many of some terms have their bounds for a stretch of documents
pub record AreSetTo (lists : List (List Posting)) (terms : List Term) (from to i : ℕ) (near : List Term) : Type 0 where
  pub each : length near ≡ length terms
  pub same : keys (take i near) ≡ keys (take i terms)
  pub light : bounds (take i near) ≤ bounds (take i terms)
  pub bounded : (d : ℕ) → from ≤ d → d < to → All (λ t. share lists d t ≤ t.bound) (take i near)

pub set-none : (lists : List (List Posting)) (terms : List Term) (from to : ℕ) (near : List Term) → length near ≡ length terms → AreSetTo lists terms from to 0 near
set-none lists terms from to near each = record { each = each; same = refl; light = omega arith; bounded = λ d after before k t within. absurd (omega arith) }

pub set-more : (lists : List (List Posting)) (terms : List Term) (from to till i : ℕ) (near : List Term) (t e : Term) → i < length terms → till ≤ to → key t ≡ key (get_or terms i e) → t.bound ≤ (get_or terms i e).bound
    → ((d : ℕ) → from ≤ d → d < till → share lists d t ≤ t.bound) → AreSetTo lists terms from to i near → AreSetTo lists terms from till (i + 1) (set near i t)
set-more lists terms from to till i near t e within shorter same less here so_far =
    let each = so_far.each in
    let light = so_far.light in
    let long = length-set near i t in
    let prefix : take (i + 1) (set near i t) ≡ take i near ++ t ∷ [] = take_more_set near i t (omega arith) in
    let sum = ap bounds prefix ∙ sum_by_push (λ (t : Term). t.bound) (take i near) t in
    let theirs = sum_by_more (λ (t : Term). t.bound) terms i e within in
    record {
      each = omega arith;
      same = ap keys prefix ∙ map_push key (take i near) t ∙ (λ j. so_far.same j ++ same j ∷ []) ∙ sym (map_more key terms i e within);
      light = omega arith;
      bounded = λ d after before. subst (All (λ (t : Term). share lists d t ≤ t.bound)) (sym prefix) (All-push (λ (t : Term). share lists d t ≤ t.bound) (take i near) t (so_far.bounded d after (omega arith)) (here d after before));
    }

pub set-all : (lists : List (List Posting)) (terms : List Term) (from to i : ℕ) (near : List Term) → i ≡ length terms → AreTerms lists terms → AreSetTo lists terms from to i near → AreNear lists terms from to near
set-all lists terms from to i near all are so_far =
    let each = so_far.each in
    let light = are.light in
    let whole : take i near ≡ near = take_all i near (omega arith) in
    let theirs : take i terms ≡ terms = take_all i terms (omega arith) in
    let same : keys near ≡ keys terms = ap keys (sym whole) ∙ so_far.same ∙ ap keys theirs in
    let alike : AreAlike terms near = subst (λ (es : List (ℕ × ℕ)). IsPermutation es (keys near)) same (IsPermutation-refl (keys near)) in
    let less = so_far.light in
    let a = ap bounds whole in
    let b = ap bounds theirs in
    record {
      alike = alike;
      bounded = record {
        within = alike-all (λ e. e.0 < length lists) terms near alike are.within;
        bounded = λ d after before. subst (All (λ (t : Term). share lists d t ≤ t.bound)) whole (so_far.bounded d after before);
        light = omega arith;
      };
    }

-- ---- terms that change places
-- what stands before both places stays
take-swapped : (xs ys : List Term) (i j : ℕ) → length ys ≡ length xs → i ≤ j → j < length xs → SwappedAt xs ys i j → take i ys ≡ take i xs
take-swapped xs ys i j each le within swapped =
    let none : Term = record { list = 0; weight = 0; bound = 0 } in
    let a = length-take i xs in
    let b = length-take i ys in
    ext_get_or none (take i ys) (take i xs) (omega arith) (λ k lt.
    let early : k < i = omega arith in
    get_or-take i ys k none early ∙ swapped.2 k none (λ e. absurd (omega arith)) (λ e. absurd (omega arith)) ∙ sym (get_or-take i xs k none early))

-- one more term is essential, that of a later place
pub swapped-less : (xs ys : List Term) (i j : ℕ) → length ys ≡ length xs → i ≤ j → j < length xs → SwappedAt xs ys i j → IsPermutation xs ys → bounds (drop (i + 1) ys) ≤ bounds (drop i xs)
swapped-less xs ys i j each le within swapped moved =
    let none : Term = record { list = 0; weight = 0; bound = 0 } in
    let same = sum_by-IsPermutation (λ (t : Term). t.bound) xs ys moved in
    let prefix = ap bounds (take-swapped xs ys i j each le within swapped) in
    let a = sum_by-take-drop (λ (t : Term). t.bound) xs i in
    let b = sum_by-take-drop (λ (t : Term). t.bound) ys i in
    let more = sum_by-drop_more (λ (t : Term). t.bound) ys i none (omega arith) in
    omega arith

-- more terms are essential, and the bounds of the others are no greater
pub spared-less : (old new : List Term) (few many floor k : ℕ) (held : List (ℕ × ℕ)) → length new ≡ length old → few ≤ many → many ≤ length new → bounds (drop many new) ≤ bounds (drop few old) → AreSpared floor k held old few → AreSpared floor k held new many
spared-less old new few many floor k held each le within less so_far = record {
  within = within;
  spared = elim so_far.spared as (λ _. (many ≡ length new) ⊎ IsBarred floor k held (bounds (drop many new))) [
    | inl whole ↦ inl (omega arith)
    | inr full ↦ inr (barred-lower floor k held (bounds (drop few old)) (bounds (drop many new)) less full)
  ];
}

-- more of the same terms are essential
pub spared-more : (terms : List Term) (few many floor k : ℕ) (held : List (ℕ × ℕ)) → few ≤ many → many ≤ length terms → AreSpared floor k held terms few → AreSpared floor k held terms many
spared-more terms few many floor k held le within so_far =
    let later : drop (many - few) (drop few terms) ≡ drop many terms = drop-drop (many - few) few terms ∙ ap (λ (n : ℕ). drop n terms) (omega arith) in
    let cut = sum_by-take-drop (λ (t : Term). t.bound) (drop few terms) (many - few) in
    let same = ap bounds later in
    spared-less terms terms few many floor k held refl le within (omega arith) so_far

-- ---- no term is essential
-- documents of which none can be held are passed over
pub follows-none : TopAfterSkips → (lists : List (List Posting)) (terms : List Term) (floor k from to essential : ℕ) (held : List (ℕ × ℕ)) → from ≤ to → AreTermsIn lists from to terms → essential ≡ 0 → AreSpared floor k held terms essential → FollowsTo lists terms floor k from to held held
follows-none skips lists terms floor k from to essential held le are none spared weights all top =
    skips floor from to lists weights k held le (λ d after before. spared-cannot lists weights terms floor k 0 d held all (are.bounded d after before) (subst (AreSpared floor k held terms) none spared) refl) top

-- ---- a list whose prefix was lent
pub written-back : {X : Type 0} (len : ℕ) (new old : List X) → len ≡ length old → length new ≡ length old → take len (new ++ drop (length new) old) ≡ new
written-back len new old all same = ap (λ l. take len (new ++ l)) (drop_all (length new) old (omega arith)) ∙ ap (take len) (append-nil new) ∙ take_all len new (omega arith)
