-- Lemmas on top lists.
use Rattle.std.proofs.Common.{inl, inr, ◌≡◌, refl, sym, ap, ◌∙◌, subst, ℕ, zero, suc, ◌+◌, ◌-◌, ◌<◌, ◌≤◌, ◌^◌, true, false, min, List, [], ◌∷◌, ◌++◌, map, take, reverse, length, get_or, arith}
use Rattle.std.specs.Prelude.{Contains, AllPairs, ◌↔◌}
use Rattle.std.specs.List.{All, list_any}
use Rattle.std.proofs.lemmas.Bool.{cases_lt, false_from_ne_true}
use Rattle.std.proofs.lemmas.List.{get_or_default, length-map, length-reverse, reverse-append}
use Rattle.std.proofs.lemmas.List.Elements.{All-contains, All-nil, All-take}
use Rattle.std.proofs.lemmas.List.Sorted.{IsPermutation-reverse, IsPermutation-sym, Contains-permutation}
use Rattle.collection_model.specs.Collection.{Posting}
use Rattle.scan_plans.specs.Matches.{has_doc, in_any, score}
use Rattle.scan_plans.specs.IsTop.{Before, IsTop, IsTopOf}
use Rattle.scan_plans.specs.Ranking.{Gathering, held_of, in_order, IsFirstK}
use Rattle.scan_plans.specs.Best.{scored, pairs_of, IsBest, IsBar}
use Rattle.scan_plans.specs.Window.{AreScored}
use Rattle.scan_plans.proofs.Order.{Pair, same-pair, contains-there, all-contained, in_order-from, in_order-more, first-k, first-k-more, IsFirstOf, first-one}
use Rattle.scan_plans.proofs.Scans.{contains-split, contains-map, contains-from_map, filter-below, filter-skip, any-next, any-same}

pairs-more : (lists : List (List Posting)) (weights : List ℕ) (docs : List ℕ) (d : ℕ) → pairs_of lists weights (docs ++ d ∷ []) ≡ scored lists weights d ∷ pairs_of lists weights docs
pairs-more lists weights docs d = ap (map (scored lists weights)) (reverse-append docs (d ∷ []))

pairs-from : (lists : List (List Posting)) (weights : List ℕ) (docs : List ℕ) (x : Pair) → Contains (pairs_of lists weights docs) x → Contains docs x.0 × (x.1 ≡ score lists weights x.0)
pairs-from lists weights docs x c =
    let r = contains-from_map (scored lists weights) (reverse docs) x c in
    let e : ℕ = r.0 in
    let inside : Contains docs e = Contains-permutation (reverse docs) docs e (IsPermutation-sym docs (reverse docs) (IsPermutation-reverse docs)) r.1 in
    let doc : e ≡ x.0 = ap (λ (z : Pair). z.0) r.2 in
    (subst (Contains docs) doc inside, sym (ap (λ (z : Pair). z.1) r.2) ∙ ap (score lists weights) doc)

pairs-to : (lists : List (List Posting)) (weights : List ℕ) (docs : List ℕ) (d : ℕ) → Contains docs d → Contains (pairs_of lists weights docs) (scored lists weights d)
pairs-to lists weights docs d c = contains-map (scored lists weights) (reverse docs) d (Contains-permutation docs (reverse docs) d (IsPermutation-reverse docs) c)

pub take-nil : (k : ℕ) → [] ≡ take k (in_order [])
take-nil zero = refl
take-nil (suc k) = refl

pub best-none : (k : ℕ) (lists : List (List Posting)) (weights : List ℕ) → IsBest k lists weights [] []
best-none k lists weights = record { ordered = λ i j d lt within. absurd (omega arith); first = take-nil k }

pub best-more : (k : ℕ) (lists : List (List Posting)) (weights : List ℕ) (docs : List ℕ) (held new : List Pair) (d : ℕ) → IsBest k lists weights docs held → All (λ e. e < d) docs → IsFirstK k (scored lists weights d ∷ held) new → IsBest k lists weights (docs ++ d ∷ []) new
best-more k lists weights docs held new d best below first =
    let other : (x : Pair) → Contains (pairs_of lists weights docs) x → scored lists weights d ≡ x → ⊥ = λ x c same.
    let lt = All-contains (λ e. e < d) docs x.0 below (pairs-from lists weights docs x c).0 in
    let doc : d ≡ x.0 = ap (λ (z : Pair). z.0) same in
    absurd (omega arith) in
    let more = pairs-more lists weights docs d in
    record {
      ordered = subst (λ (ps : List Pair). AllPairs Before (in_order ps)) (sym more) (in_order-more (scored lists weights d) (pairs_of lists weights docs) best.ordered other);
      first = first-k-more k (scored lists weights d) (pairs_of lists weights docs) held new best.ordered other best.first first ∙ ap (λ (ps : List Pair). take k (in_order ps)) (sym more);
    }

held-first : (k : ℕ) (lists : List (List Posting)) (weights : List ℕ) (docs : List ℕ) (held : List Pair) → IsBest k lists weights docs held → IsFirstK k (pairs_of lists weights docs) held
held-first k lists weights docs held best = subst (IsFirstK k (pairs_of lists weights docs)) (sym best.first) (first-k k (pairs_of lists weights docs) best.ordered)

pub best-below : (k : ℕ) (lists : List (List Posting)) (weights : List ℕ) (docs : List ℕ) (held : List Pair) (d : ℕ) → IsBest k lists weights docs held → All (λ e. e < d) docs → All (λ (x : Pair). x.0 < d) held
best-below k lists weights docs held d best below =
    let first = held-first k lists weights docs held best in
    all-contained (λ (x : Pair). x.0 < d) held (λ x c. All-contains (λ e. e < d) docs x.0 below (pairs-from lists weights docs x (All-contains (Contains (pairs_of lists weights docs)) held x first.of_them c)).0)

pub best-of : (docs : List ℕ) (lists : List (List Posting)) (weights : List ℕ) (k : ℕ) (held : List Pair) → IsBest k lists weights docs held → IsTopOf docs lists weights k held
best-of docs lists weights k held best =
    let first = held-first k lists weights docs held best in
    let of : (x : Pair) → Contains held x → Contains docs x.0 × (x.1 ≡ score lists weights x.0) = λ x c. pairs-from lists weights docs x (All-contains (Contains (pairs_of lists weights docs)) held x first.of_them c) in
    record {
      ordered = first.ordered;
      found = all-contained (λ e. Contains docs e.0) held (λ x c. (of x c).0);
      scored = all-contained (λ e. e.1 ≡ score lists weights e.0) held (λ x c. (of x c).1);
      count = first.count ∙ ap (min k) (length-map (reverse docs) (scored lists weights) ∙ length-reverse docs);
      others_after = λ d c absent. first.others_after (scored lists weights d) (pairs-to lists weights docs d c) (λ h. absent (contains-map (λ (e : Pair). e.0) held (scored lists weights d) h));
    }

pub best-top : (n : ℕ) (lists : List (List Posting)) (weights : List ℕ) (k : ℕ) (held : List Pair) → IsBest k lists weights (in_any n lists) held → IsTop n lists weights k held
best-top n lists weights k held best = best-of (in_any n lists) lists weights k held best

-- what is so of all gathered is so of the first k
pub held-all : (P : Pair → Type 0) (g : Gathering) → All P g.found → All P (held_of g)
held-all P g all = All-take P g.k (in_order g.found) (all-contained P (in_order g.found) (λ x c. All-contains P g.found x all (in_order-from g.found x c)))

pub top-of-none : (n : ℕ) (lists : List (List Posting)) (weights : List ℕ) → IsTop n lists weights 0 []
top-of-none n lists weights = record {
  ordered = λ i j d lt within. absurd (omega arith);
  found = All-nil (λ (e : Pair). Contains (in_any n lists) e.0);
  scored = All-nil (λ (e : Pair). e.1 ≡ score lists weights e.0);
  count = omega arith;
  others_after = λ d c absent. All-nil (λ (e : Pair). Before e (d, score lists weights d));
}

-- a top list is the first of the documents with their scores
top-first : (docs : List ℕ) (lists : List (List Posting)) (weights : List ℕ) (k : ℕ) (r : List Pair) → IsTopOf docs lists weights k r → IsFirstOf (λ (x : Pair). Contains docs x.0 × (x.1 ≡ score lists weights x.0)) r
top-first docs lists weights k r top = record {
  ordered = top.ordered;
  among = λ i d within. (top.found i d within, top.scored i d within);
  after = λ x is absent.
      let same : (x.0, score lists weights x.0) ≡ x = same-pair (x.0, score lists weights x.0) x refl (sym is.1) in
      subst (λ (z : Pair). All (λ e. Before e z) r) same (top.others_after x.0 is.0 (λ c.
      let found = contains-from_map (λ (e : Pair). e.0) r x.0 c in
      let score_of = All-contains (λ (e : Pair). e.1 ≡ score lists weights e.0) r found.0 top.scored found.1 in
      absent (subst (Contains r) (same-pair found.0 x found.2 (score_of ∙ ap (score lists weights) found.2 ∙ sym is.1)) found.1)));
}

pub one-of : (docs : List ℕ) (lists : List (List Posting)) (weights : List ℕ) (k : ℕ) (r s : List Pair) → IsTopOf docs lists weights k r → IsTopOf docs lists weights k s → r ≡ s
one-of docs lists weights k r s t u = first-one (λ (x : Pair). Contains docs x.0 × (x.1 ≡ score lists weights x.0)) r s (t.count ∙ sym u.count) (top-first docs lists weights k r t) (top-first docs lists weights k s u)

pub top-one : (n : ℕ) (lists : List (List Posting)) (weights : List ℕ) (k : ℕ) (r s : List Pair) → IsTop n lists weights k r → IsTop n lists weights k s → r ≡ s
top-one n lists weights k r s t u = one-of (in_any n lists) lists weights k r s t u

-- the documents found so far are below the next one
pub any-below : (low d : ℕ) (lists : List (List Posting)) → low ≤ d → All (λ e. e < d) (in_any low lists)
any-below low d lists le i x within = let h = filter-below (λ d. list_any (has_doc d) lists) low i x within in omega arith

-- scores below a bound stay so
pub still-below : (d s : ℕ) (held new : List Pair) → All (Contains ((d, s) ∷ held)) new → s < 2 ^ 58 → All (λ (e : Pair). e.1 < 2 ^ 58) held → All (λ (e : Pair). e.1 < 2 ^ 58) new
still-below d s held new of_them lt all =
    let P : Pair → Type 0 = λ e. e.1 < 2 ^ 58 in
    all-contained P new (λ x c. elim (contains-split (d, s) held x (All-contains (Contains ((d, s) ∷ held)) new x of_them c)) as (λ _. P x) [
      | inl is ↦ subst P is lt
      | inr inside ↦ All-contains P held x all inside
    ])

-- one document of a window on: it is offered where a list has it
pub best-next : (k : ℕ) (lists : List (List Posting)) (weights : List ℕ) (d e s : ℕ) (held new : List Pair) → d + 1 ≡ e → list_any (has_doc d) lists ≡ true → s ≡ score lists weights d → IsBest k lists weights (in_any d lists) held → IsFirstK k ((d, s) ∷ held) new
    → IsBest k lists weights (in_any e lists) new
best-next k lists weights d e s held new next is scores best first =
    let below : d ≤ d = omega arith in
    subst (λ (docs : List ℕ). IsBest k lists weights docs new) (sym (any-next d e lists next is))
    (best-more k lists weights (in_any d lists) held new d best (any-below d d lists below) (subst (λ (n : ℕ). IsFirstK k ((d, n) ∷ held) new) scores first))

pub best-same : (k : ℕ) (lists : List (List Posting)) (weights : List ℕ) (d e : ℕ) (held : List Pair) → d + 1 ≡ e → list_any (has_doc d) lists ≡ false → IsBest k lists weights (in_any d lists) held → IsBest k lists weights (in_any e lists) held
best-same k lists weights d e held next is best = subst (λ (docs : List ℕ). IsBest k lists weights docs held) (sym (any-same d e lists next is)) best

-- what is held after an offer is below the next document
pub offered-below : (d e s : ℕ) (held new : List Pair) → d < e → All (Contains ((d, s) ∷ held)) new → All (λ (x : Pair). x.0 < d) held → All (λ (x : Pair). x.0 < e) new
offered-below d e s held new lt of_them all =
    let P : Pair → Type 0 = λ x. x.0 < e in
    all-contained P new (λ x c. elim (contains-split (d, s) held x (All-contains (Contains ((d, s) ∷ held)) new x of_them c)) as (λ _. P x) [
      | inl is ↦ subst P is lt
      | inr inside ↦ (let h = All-contains (λ (x : Pair). x.0 < d) held x all inside in omega arith)
    ])

-- documents before one are not it
pub later-is_new : (d e : ℕ) (held : List Pair) → All (λ (x : Pair). x.0 < d) held → d ≤ e → ¬ Contains (map (λ (x : Pair). x.0) held) e
later-is_new d e held below le c =
    let r = contains-from_map (λ (x : Pair). x.0) held e c in
    let lt = All-contains (λ (x : Pair). x.0 < d) held r.0 below r.1 in
    let same = r.2 in
    absurd (omega arith)

-- what is held stands before a later document whose score is not above it
pub held-before : (d s : ℕ) (held : List Pair) → All (λ (e : Pair). e.0 < d) held → All (λ (e : Pair). s ≤ e.1) held → All (λ (h : Pair). Before h (d, s)) held
held-before d s held below least i z within =
    let lower = least i z within in
    let earlier = below i z within in
    elim (cases_lt s (get_or held i z).1) as (λ _. Before (get_or held i z) (d, s)) [ inl lt ↦ inl lt | inr ge ↦ inr (omega arith, earlier) ]

-- such a document does not enter where k are held
full-stays : (k d s : ℕ) (held : List Pair) → AllPairs Before held → length held ≡ k → All (λ (e : Pair). e.0 < d) held → All (λ (e : Pair). s ≤ e.1) held → IsFirstK k ((d, s) ∷ held) held
full-stays k d s held ordered full below least = record {
  ordered = ordered;
  of_them = all-contained (Contains ((d, s) ∷ held)) held (λ x c. contains-there (d, s) held x c);
  count = omega arith;
  others_after = λ e c absent. elim (contains-split (d, s) held e c) as (λ _. All (λ h. Before h e) held) [
    | inl is ↦ subst (λ (z : Pair). All (λ h. Before h z) held) is (held-before d s held below least)
    | inr inside ↦ absurd (absent inside)
  ];
}

-- ---- the documents of a window that have a score, offered one after another
pub record IsOffered (first at : ℕ) (scores : List ℕ) (old now : Gathering) : Type 0 where
  pub k : now.k ≡ old.k
  pub above : All (λ (e : Pair). e.0 < first + at) now.found
  pub best : (lists : List (List Posting)) (weights : List ℕ) → AreScored lists weights first scores → IsBest old.k lists weights (in_any first lists) (held_of old) → IsBest old.k lists weights (in_any (first + at) lists) (held_of now)
  pub bound : All (λ s. s < 2 ^ 58) scores → All (λ (e : Pair). e.1 < 2 ^ 58) old.found → All (λ (e : Pair). e.1 < 2 ^ 58) now.found

pub offered-none : (first : ℕ) (scores : List ℕ) (old : Gathering) → All (λ (e : Pair). e.0 < first) old.found → IsOffered first 0 scores old old
offered-none first scores old below =
    let start : first ≡ first + 0 = omega arith in
    record {
      k = refl;
      above = λ i x within. let h = below i x within in omega arith;
      best = λ lists weights scores best. subst (λ (n : ℕ). IsBest old.k lists weights (in_any n lists) (held_of old)) start best;
      bound = λ small held. held;
    }

pub offered-more : (first at s : ℕ) (scores : List ℕ) (old now new : Gathering) → at < length scores → s ≡ get_or scores at 0 → 0 < s → new.k ≡ now.k → IsFirstK now.k ((first + at, s) ∷ held_of now) (held_of new) → All (Contains ((first + at, s) ∷ now.found)) new.found → IsOffered first at scores old now → IsOffered first (at + 1) scores old new
offered-more first at s scores old now new within is some k firsts among so_far =
    let next : first + at + 1 ≡ first + (at + 1) = omega arith in
    record {
      k = k ∙ so_far.k;
      above = offered-below (first + at) (first + (at + 1)) s now.found new.found (omega arith) among so_far.above;
      best = λ lists weights are best.
          best-next old.k lists weights (first + at) (first + (at + 1)) s (held_of now) (held_of new) next ((are.found at within).0 (subst (λ (x : ℕ). 0 < x) is some)) (is ∙ are.scored at within) (so_far.best lists weights are best)
          (subst (λ (x : ℕ). IsFirstK x ((first + at, s) ∷ (held_of now)) (held_of new)) so_far.k firsts);
      bound = λ small held. still-below (first + at) s now.found new.found among (subst (λ (x : ℕ). x < 2 ^ 58) (sym is) (small at 0 within)) (so_far.bound small held);
    }

pub offered-same : (first at s : ℕ) (scores : List ℕ) (old now : Gathering) → at < length scores → s ≡ get_or scores at 0 → s ≤ 0 → IsOffered first at scores old now → IsOffered first (at + 1) scores old now
offered-same first at s scores old now within is none so_far =
    let next : first + at + 1 ≡ first + (at + 1) = omega arith in
    record {
      k = so_far.k;
      above = λ i x inside. let h = so_far.above i x inside in omega arith;
      best = λ lists weights are best.
          best-same old.k lists weights (first + at) (first + (at + 1)) (held_of now) next (false_from_ne_true (list_any (has_doc (first + at)) lists) (λ has. let above = (are.found at within).1 has in absurd (omega arith))) (so_far.best lists weights are best);
      bound = so_far.bound;
    }

-- one whose score does not pass the bar
pub offered-passed : (first at s bar : ℕ) (scores : List ℕ) (old now : Gathering) → at < length scores → s ≡ get_or scores at 0 → s ≤ bar → IsBar now.k (held_of now) bar → IsOffered first at scores old now → IsOffered first (at + 1) scores old now
offered-passed first at s bar scores old now within is low (inl none) so_far = offered-same first at s scores old now within is (omega arith) so_far
offered-passed first at s bar scores old now within is low (inr full) so_far =
    let next : first + at + 1 ≡ first + (at + 1) = omega arith in
    let doc : ℕ = first + at in
    let least : All (λ (e : Pair). s ≤ e.1) (held_of now) = λ i x inside. let h = full.1 i x inside in omega arith in
    elim (cases_lt 0 s) as (λ _. IsOffered first (at + 1) scores old now) [
      | inr none ↦ offered-same first at s scores old now within is none so_far
      | inl some ↦ record {
        k = so_far.k;
        above = λ i x inside. let h = so_far.above i x inside in omega arith;
        best = λ lists weights are best.
            let before = so_far.best lists weights are best in
            let count : length (held_of now) ≡ old.k = full.0 ∙ so_far.k in
            best-next old.k lists weights doc (first + (at + 1)) s (held_of now) (held_of now) next ((are.found at within).0 (subst (λ (x : ℕ). 0 < x) is some)) (is ∙ are.scored at within) before
            (full-stays old.k doc s (held_of now) (held-first old.k lists weights (in_any doc lists) (held_of now) before).ordered count (best-below old.k lists weights (in_any doc lists) (held_of now) doc before (any-below doc doc lists (omega arith))) least);
        bound = so_far.bound;
      }
    ]

-- no list has a document whose score is 0
pub offered-skip : (first at to : ℕ) (scores : List ℕ) (old now : Gathering) → at ≤ to → to ≤ length scores → ((k : ℕ) → at ≤ k → k < to → get_or scores k 0 ≡ 0) → IsOffered first at scores old now → IsOffered first to scores old now
offered-skip first at to scores old now le within none_there so_far = record {
  k = so_far.k;
  above = λ i x inside. let h = so_far.above i x inside in omega arith;
  best = λ lists weights are best.
      let none : (e : ℕ) → first + at ≤ e → e < first + to → list_any (has_doc e) lists ≡ false = λ e from lt.
      let k : ℕ = e - first in
      let is : first + k ≡ e = omega arith in
      let nothing = none_there k (omega arith) (omega arith) in
      subst (λ (d : ℕ). list_any (has_doc d) lists ≡ false) is
      (false_from_ne_true (list_any (has_doc (first + k)) lists) (λ has. let above = (are.found k (omega arith)).1 has in absurd (omega arith))) in
      subst (λ (docs : List ℕ). IsBest old.k lists weights docs (held_of now)) (sym (filter-skip (λ d. list_any (has_doc d) lists) (first + at) (first + to) (omega arith) none)) (so_far.best lists weights are best);
  bound = so_far.bound;
}

-- some of the scores of a window, from a place on
pub record IsPiece (from n : ℕ) (scores piece : List ℕ) : Type 0 where
  pub count : length piece ≡ n
  pub within : from + n ≤ length scores
  pub same : (k : ℕ) → k < n → get_or piece k 0 ≡ get_or scores (from + k) 0

pub scored-piece : (lists : List (List Posting)) (weights : List ℕ) (first base from n : ℕ) (scores piece : List ℕ) → base ≡ first + from → IsPiece from n scores piece → AreScored lists weights first scores → AreScored lists weights base piece
scored-piece lists weights first base from n scores piece start is are =
    record {
      scored = λ k inside.
          let doc : first + (from + k) ≡ base + k = omega arith in
          is.same k (omega arith) ∙ are.scored (from + k) (omega arith) ∙ ap (score lists weights) doc;
      found = λ k inside.
          let doc : first + (from + k) ≡ base + k = omega arith in
          subst (λ (d : ℕ). (0 < get_or piece k 0) ↔ (list_any (has_doc d) lists ≡ true)) doc
          (subst (λ (s : ℕ). (0 < s) ↔ (list_any (has_doc (first + (from + k))) lists ≡ true)) (sym (is.same k (omega arith))) (are.found (from + k) (omega arith)));
    }

-- those of a word were offered
pub offered-word : (first base at to : ℕ) (scores piece : List ℕ) (old now new : Gathering) → base ≡ first + at → at + 64 ≡ to → IsPiece at 64 scores piece → new.k ≡ now.k → All (λ (e : Pair). e.0 < base + 64) new.found
    → ((lists : List (List Posting)) (weights : List ℕ) → AreScored lists weights base piece → IsBest now.k lists weights (in_any base lists) (held_of now) → IsBest now.k lists weights (in_any (base + 64) lists) (held_of new))
    → (All (λ s. s < 2 ^ 58) piece → All (λ (e : Pair). e.1 < 2 ^ 58) now.found → All (λ (e : Pair). e.1 < 2 ^ 58) new.found) → IsOffered first at scores old now → IsOffered first to scores old new
offered-word first base at to scores piece old now new start end is k above best bound so_far =
    let next : base + 64 ≡ first + to = omega arith in
    record {
      k = k ∙ so_far.k;
      above = subst (λ (d : ℕ). All (λ (e : Pair). e.0 < d) new.found) next above;
      best = λ lists weights are held.
          let before = so_far.best lists weights are held in
          let here : IsBest now.k lists weights (in_any base lists) (held_of now) = subst (λ (d : ℕ). IsBest now.k lists weights (in_any d lists) (held_of now)) (sym start) (subst (λ (m : ℕ). IsBest m lists weights (in_any (first + at) lists) (held_of now)) (sym so_far.k) before) in
          let after = best lists weights (scored-piece lists weights first base at 64 scores piece start is are) here in
          subst (λ (d : ℕ). IsBest old.k lists weights (in_any d lists) (held_of new)) next (subst (λ (m : ℕ). IsBest m lists weights (in_any (base + 64) lists) (held_of new)) so_far.k after);
      bound = λ small held. bound (λ i d inside. subst (λ (s : ℕ). s < 2 ^ 58) (sym (get_or_default piece i d 0 inside ∙ is.same i (omega arith))) (small (at + i) 0 (omega arith))) (so_far.bound small held);
    }
