-- Lemmas on intervals that are settled.
use Rattle.std.proofs.Common.{◌≡◌, refl, sym, ap, inl, inr, ◌⊎◌, ◌∙◌, subst, ℕ, ◌+◌, ◌*◌, ◌/◌, ◌<◌, ◌≤◌, ◌≢◌, true, false, eqb, List, map, length, get_or, set, arith}
use Rattle.std.specs.Prelude.{Contains}
use Rattle.std.specs.List.{list_any}
use Rattle.std.proofs.lemmas.Bool.{cases_lt, cases_Bool, false≢true, eqb-false, eq-eqb, ne_eqb, or_cases, or_parts}
use Rattle.std.proofs.lemmas.List.{get_or-map, length-map, get_or-set_same, get_or-set_other}
use Rattle.std.proofs.lemmas.List.Elements.{All-weaker}
use Rattle.collection_model.specs.Collection.{Posting}
use Rattle.scan_plans.specs.Matches.{has_doc, score}
use Rattle.scan_plans.specs.AnyOrder.{IsTopSeen, IsOutranked, SeenAfterSkips, SeenIsHeld}
use Rattle.scan_plans.specs.Ranking.{Ranking}
use Rattle.interval_max.specs.Search.{AreOutside, IsQuery, AreSettled, IsLeastToEnter, IsSearch, is_inside, is_settled, seen_with}
use Rattle.interval_max.proofs.Seen.{inside-yes, inside-parts, lower-outranked}

-- none were settled yet
pub none-settled : (from : ℕ) (old : List ℕ) → AreSettled from from old old
none-settled from old = record { settled = λ j after lt. absurd (omega arith); before = λ j lt. refl; behind = λ j le. refl }

-- one more was
pub settled-more : (from to : ℕ) (old now : List ℕ) → from ≤ to → to < length now → AreSettled from to old now → AreSettled from (to + 1) old (set now to 0)
settled-more from to old now order within are = record {
  settled = λ j after lt. elim (cases_lt j to) as (λ _. get_or (set now to 0) j 0 ≡ 0) [
    | inl before ↦ (let other : j ≢ to = λ e. omega arith in get_or-set_other now to j 0 0 other ∙ are.settled j after before)
    | inr behind ↦ (let same : to ≡ j = omega arith in subst (λ (j : ℕ). get_or (set now to 0) j 0 ≡ 0) same (get_or-set_same now to 0 0 within))
  ];
  before = λ j lt. let other : j ≢ to = λ e. omega arith in get_or-set_other now to j 0 0 other ∙ are.before j lt;
  behind = λ j le. let other : j ≢ to = λ e. omega arith in get_or-set_other now to j 0 0 other ∙ are.behind j (omega arith);
}

module _ (from to : ℕ) (old new : List ℕ) (are : AreSettled from to old new) where
  -- an interval is one of them, or it stays
  pub one-of : (j : ℕ) → ((from ≤ j) × (j < to)) ⊎ (get_or new j 0 ≡ get_or old j 0)
  one-of j = elim (cases_lt j from) as (λ _. ((from ≤ j) × (j < to)) ⊎ (get_or new j 0 ≡ get_or old j 0)) [
    | inl before ↦ inr (are.before j before)
    | inr after ↦ elim (cases_lt j to) as (λ _. ((from ≤ j) × (j < to)) ⊎ (get_or new j 0 ≡ get_or old j 0)) [
      | inl inside ↦ inl (after, inside)
      | inr behind ↦ inr (are.behind j behind)
    ]
  ]

  -- what was settled still is
  pub still-settled : (d : ℕ) → is_settled old d ≡ true → is_settled new d ≡ true
  still-settled d is = elim (one-of (d / 32)) as (λ _. is_settled new d ≡ true) [
    | inl both ↦ eq-eqb (get_or new (d / 32) 0) 0 (are.settled (d / 32) both.0 both.1)
    | inr same ↦ ap (λ (b : ℕ). eqb b 0) same ∙ is
  ]

  -- a document whose interval is settled now lies in one of them
  pub newly-settled : (d : ℕ) → is_settled old d ≡ false → is_settled new d ≡ true → (from ≤ d / 32) × (d / 32 < to)
  newly-settled d not now = elim (one-of (d / 32)) as (λ _. (from ≤ d / 32) × (d / 32 < to)) [
    | inl both ↦ both
    | inr same ↦ absurd (false≢true (sym not ∙ ap (λ (b : ℕ). eqb b 0) (sym same) ∙ now))
  ]

  -- bounds hold as before
  pub still-bounded : (n k : ℕ) (lists : List (List Posting)) (weights : List ℕ) (held : List (ℕ × ℕ)) → IsSearch n lists weights k old held
      → (d : ℕ) → list_any (has_doc d) lists ≡ true → get_or new (d / 32) 0 ≢ 0 → score lists weights d ≤ get_or new (d / 32) 0
  still-bounded n k lists weights held search d has some = elim (one-of (d / 32)) as (λ _. score lists weights d ≤ get_or new (d / 32) 0) [
    | inl both ↦ absurd (some (are.settled (d / 32) both.0 both.1))
    | inr same ↦ (let le = search.bounded d has (λ none. some (same ∙ none)) in omega arith)
  ]

  -- none of their documents can enter
  pub skipped-search : SeenAfterSkips → (n k : ℕ) (lists : List (List Posting)) (weights : List ℕ) (held : List (ℕ × ℕ)) → IsSearch n lists weights k old held
      → ((d s : ℕ) → from ≤ d / 32 → d / 32 < to → get_or old (d / 32) 0 ≢ 0 → s ≤ get_or old (d / 32) 0 → IsOutranked k held (d, s)) → IsSearch n lists weights k new held
  skipped-search law n k lists weights held search ranked = record {
    top = law n lists weights k (is_settled old) (is_settled new) held search.top still-settled
        (λ d not now.
        let both = newly-settled d not now in
        let some : get_or old (d / 32) 0 ≢ 0 = eqb-false (get_or old (d / 32) 0) 0 not in
        elim (cases_Bool (list_any (has_doc d) lists)) as (λ _. (list_any (has_doc d) lists ≡ false) ⊎ IsOutranked k held (d, score lists weights d)) [
          | inl has ↦ inr (ranked d (score lists weights d) both.0 both.1 some (search.bounded d has some))
          | inr absent ↦ inl absent
        ]);
    bounded = still-bounded n k lists weights held search;
  }

  -- none of their bounds is so much as a document must have to enter
  pub low-search : SeenAfterSkips → (n least : ℕ) (top : Ranking) (lists : List (List Posting)) (weights : List ℕ) → IsLeastToEnter top least → ((j : ℕ) → from ≤ j → j < to → get_or old j 0 < least) → IsSearch n lists weights top.k old top.held → IsSearch n lists weights top.k new top.held
  low-search law n least top lists weights enters low search = skipped-search law n top.k lists weights top.held search
      (λ d s after before some le. elim (enters.lower (get_or old (d / 32) 0) (low (d / 32) after before)) as (λ _. IsOutranked top.k top.held (d, s)) [
        | inl zero ↦ absurd (some zero)
        | inr full ↦ lower-outranked top.k d s top.held full.0 (All-weaker (λ (e : ℕ × ℕ). get_or old (d / 32) 0 < e.1) (λ (e : ℕ × ℕ). s < e.1) (λ e lt. omega arith) top.held full.1)
      ])

  -- their documents were seen
  pub scored-search : SeenAfterSkips → (n k first end : ℕ) (lists : List (List Posting)) (weights : List ℕ) (held now : List (ℕ × ℕ)) → first ≡ 32 * from → end ≡ 32 * to → IsSearch n lists weights k old held
      → IsTopSeen (seen_with (is_settled old) first end) n lists weights k now → IsSearch n lists weights k new now
  scored-search law n k first end lists weights held now start stop search top = record {
    top = law n lists weights k (seen_with (is_settled old) first end) (is_settled new) now top
        (λ d is. elim (or_cases (is_settled old d) (is_inside first end d) is) as (λ _. is_settled new d ≡ true) [
          | inl before ↦ still-settled d before
          | inr inside ↦ (let both = inside-parts first end d inside in eq-eqb (get_or new (d / 32) 0) 0 (are.settled (d / 32) (omega arith) (omega arith)))
        ])
        (λ d not is.
        let parts = or_parts (is_settled old d) (is_inside first end d) not in
        let both = newly-settled d parts.0 is in
        absurd (false≢true (sym parts.1 ∙ inside-yes first end d (omega arith) (omega arith))));
    bounded = still-bounded n k lists weights held search;
  }

-- no document in intervals that are not settled is held
pub none-held : SeenIsHeld → (n k from to first end : ℕ) (lists : List (List Posting)) (weights bounds : List ℕ) (held : List (ℕ × ℕ)) → first ≡ 32 * from → end ≡ 32 * to → IsSearch n lists weights k bounds held
    → ((j : ℕ) → from ≤ j → j < to → get_or bounds j 0 ≢ 0) → AreOutside first end held
none-held law n k from to first end lists weights bounds held start stop search some i e within =
    let d : ℕ = (get_or held i e).0 in
    elim (cases_lt d first) as (λ _. (d < first) ⊎ (end ≤ d)) [
      | inl before ↦ inl before
      | inr after ↦ elim (cases_lt d end) as (λ _. (d < first) ⊎ (end ≤ d)) [
        | inr behind ↦ inr behind
        | inl inside ↦ (
            let not : is_settled bounds d ≡ false = ne_eqb (get_or bounds (d / 32) 0) 0 (some (d / 32) (omega arith) (omega arith)) in
            let there : Contains (map (λ (e : ℕ × ℕ). e.0) held) d = (i, omega (arith, length-map held (λ (e : ℕ × ℕ). e.0)), get_or-map (λ (e : ℕ × ℕ). e.0) held i e d within) in
            absurd (law n d lists weights k (is_settled bounds) held search.top not there))
      ]
    ]

-- documents of intervals that are not settled were not seen
pub not-seen : (from to first end : ℕ) (bounds : List ℕ) → first ≡ 32 * from → end ≡ 32 * to → ((j : ℕ) → from ≤ j → j < to → get_or bounds j 0 ≢ 0) → (d : ℕ) → first ≤ d → d < end → is_settled bounds d ≡ false
not-seen from to first end bounds start stop some d after before = ne_eqb (get_or bounds (d / 32) 0) 0 (some (d / 32) (omega arith) (omega arith))

-- a search is one of the same lists, of as many of as many documents
pub search-moved : (n m k j : ℕ) (lists others : List (List Posting)) (weights bounds : List ℕ) (held : List (ℕ × ℕ)) → n ≡ m → k ≡ j → lists ≡ others → IsSearch n lists weights k bounds held → IsSearch m others weights j bounds held
search-moved n m k j lists others weights bounds held same_n same_k same search =
    subst (λ (n : ℕ). IsSearch n others weights j bounds held) same_n (subst (λ (k : ℕ). IsSearch n others weights k bounds held) same_k (subst (λ (ls : List (List Posting)). IsSearch n ls weights k bounds held) same search))

pub query-moved : (n m : ℕ) (lists others : List (List Posting)) (weights : List ℕ) → n ≡ m → lists ≡ others → IsQuery n lists weights → IsQuery m others weights
query-moved n m lists others weights same_n same query = subst (λ (n : ℕ). IsQuery n others weights) same_n (subst (λ (ls : List (List Posting)). IsQuery n ls weights) same query)
