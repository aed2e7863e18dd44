-- Lemmas on documents that were seen or lie in a window.
use Rattle.std.proofs.Common.{◌≡◌, refl, sym, ap, inl, inr, ◌⊎◌, ◌∙◌, subst, ℕ, ◌+◌, ◌<◌, ◌≤◌, ◌≢◌, Bool, true, false, leb, ltb, List, ◌∷◌, map, length, get_or, arith}
use Rattle.std.specs.Prelude.{◌||◌, ◌&&◌, Contains}
use Rattle.std.specs.List.{All, list_any}
use Rattle.std.proofs.lemmas.Bool.{cases_lt, false_from_ne_true, lt-ltb, le-ltb, le-leb, lt-leb, or_from, or_right, and_from, and_left, and_right, and_parts, leb-true, ltb-true}
use Rattle.std.proofs.lemmas.List.{get_or-map, length-map}
use Rattle.std.proofs.lemmas.List.Elements.{All-contains, All-cons, All-weaker}
use Rattle.collection_model.specs.Collection.{Posting}
use Rattle.scan_plans.specs.AnyOrder.{IsOutranked}
use Rattle.scan_plans.specs.IsTop.{Before}
use Rattle.scan_plans.specs.Matches.{has_doc}
use Rattle.scan_plans.specs.Ranking.{IsFirstK}
use Rattle.interval_max.specs.Search.{AreOutside, is_inside, seen_with}

pub inside-yes : (first end d : ℕ) → first ≤ d → d < end → is_inside first end d ≡ true
inside-yes first end d from lt = and_from (leb first d) (ltb d end) (le-leb first d from) (lt-ltb d end lt)

pub inside-before : (first end d : ℕ) → d < first → is_inside first end d ≡ false
inside-before first end d lt = and_left (leb first d) (ltb d end) (lt-leb first d lt)

pub inside-behind : (first end d : ℕ) → end ≤ d → is_inside first end d ≡ false
inside-behind first end d le = and_right (leb first d) (ltb d end) (le-ltb d end le)

pub inside-parts : (first end d : ℕ) → is_inside first end d ≡ true → (first ≤ d) × (d < end)
inside-parts first end d is = let both = and_parts (leb first d) (ltb d end) is in (leb-true first d both.0, ltb-true d end both.1)

-- a window that is one longer has no other document more
pub inside-same : (first i d : ℕ) → d ≢ first + i → is_inside first (first + (i + 1)) d ≡ is_inside first (first + i) d
inside-same first i d other = elim (cases_lt d (first + i)) as (λ _. is_inside first (first + (i + 1)) d ≡ is_inside first (first + i) d) [
  | inl lt ↦ ap (λ (b : Bool). leb first d && b) (lt-ltb d (first + (i + 1)) (omega arith) ∙ sym (lt-ltb d (first + i) lt))
  | inr ge ↦ ap (λ (b : Bool). leb first d && b) (le-ltb d (first + (i + 1)) (omega arith) ∙ sym (le-ltb d (first + i) ge))
]

module _ (seen : ℕ → Bool) (first i : ℕ) where
  pub seen-here : seen (first + i) ≡ false → seen_with seen first (first + i) (first + i) ≡ false
  seen-here not = or_from (seen (first + i)) (is_inside first (first + i) (first + i)) not (inside-behind first (first + i) (first + i) (omega arith))

  pub seen-now : seen_with seen first (first + (i + 1)) (first + i) ≡ true
  seen-now = or_right (seen (first + i)) (is_inside first (first + (i + 1)) (first + i)) (inside-yes first (first + (i + 1)) (first + i) (omega arith) (omega arith))

  pub seen-other : (d : ℕ) → d ≢ first + i → seen_with seen first (first + (i + 1)) d ≡ seen_with seen first (first + i) d
  seen-other d other = ap (λ (b : Bool). seen d || b) (inside-same first i d other)

  -- what was seen still is
  pub seen-more : (d : ℕ) → seen_with seen first (first + i) d ≡ true → seen_with seen first (first + (i + 1)) d ≡ true
  seen-more d is = elim (cases_lt d (first + i)) as (λ _. seen_with seen first (first + (i + 1)) d ≡ true) [
    | inl lt ↦ (let other : d ≢ first + i = λ e. omega arith in seen-other d other ∙ is)
    | inr ge ↦ elim (cases_lt (first + i) d) as (λ _. seen_with seen first (first + (i + 1)) d ≡ true) [
      | inl gt ↦ (let other : d ≢ first + i = λ e. omega arith in seen-other d other ∙ is)
      | inr le ↦ (let same : first + i ≡ d = omega arith in subst (λ (d : ℕ). seen_with seen first (first + (i + 1)) d ≡ true) same seen-now)
    ]
  ]

-- an empty window adds none
pub seen-none : (seen : ℕ → Bool) (first d : ℕ) → seen_with seen first (first + 0) d ≡ true → seen d ≡ true
seen-none seen first d is =
    let none : is_inside first (first + 0) d ≡ false = elim (cases_lt d first) as (λ _. is_inside first (first + 0) d ≡ false) [ inl lt ↦ inside-before first (first + 0) d lt | inr ge ↦ inside-behind first (first + 0) d (omega arith) ] in
    sym (or-nothing (seen d) (is_inside first (first + 0) d) none) ∙ is
  where
    or-nothing : (a b : Bool) → b ≡ false → (a || b) ≡ a
    or-nothing true b not = refl
    or-nothing false b not = not

-- a document that no pair is is not among theirs
pub not-among : (held : List (ℕ × ℕ)) (d : ℕ) → All (λ (e : ℕ × ℕ). e.0 ≢ d) held → ¬ Contains (map (λ (e : ℕ × ℕ). e.0) held) d
not-among held d apart c =
    let count = length-map held (λ (e : ℕ × ℕ). e.0) in
    let k : ℕ = c.0 in
    let inside : k < length held = omega (arith, c.1) in
    apart k (0, 0) inside (sym (get_or-map (λ (e : ℕ × ℕ). e.0) held k (0, 0) d inside) ∙ c.2)

-- pairs outside a window stay outside where it begins a document later
pub outside-later : (first i end : ℕ) (held : List (ℕ × ℕ)) → All (λ (e : ℕ × ℕ). (e.0 < first + i) ⊎ (end ≤ e.0)) held → All (λ (e : ℕ × ℕ). (e.0 < first + (i + 1)) ⊎ (end ≤ e.0)) held
outside-later first i end held out k d within = elim (out k d within) as (λ _. ((get_or held k d).0 < first + (i + 1)) ⊎ (end ≤ (get_or held k d).0)) [
  | inl lt ↦ inl (omega arith)
  | inr le ↦ inr le
]

-- what holds of a pair and of those held holds of the first k of them
pub first-all : (P : ℕ × ℕ → Type 0) (k : ℕ) (e : ℕ × ℕ) (held new : List (ℕ × ℕ)) → P e → All P held → IsFirstK k (e ∷ held) new → All P new
first-all P k e held new here all first = All-weaker (Contains (e ∷ held)) P (λ x c. All-contains P (e ∷ held) x (All-cons P e held here all) c) new first.of_them

-- a pair that is outside of a window is none of its documents
pub outside-apart : (first end d : ℕ) (held : List (ℕ × ℕ)) → AreOutside first end held → first ≤ d → d < end → All (λ (e : ℕ × ℕ). e.0 ≢ d) held
outside-apart first end d held out from lt k x within same = elim (out k x within) [
  | inl before ↦ absurd (omega arith)
  | inr behind ↦ absurd (omega arith)
]

-- a document that no list can have is in none
pub absent : (lists : List (List Posting)) (d : ℕ) → (list_any (has_doc d) lists ≡ true → ⊥) → list_any (has_doc d) lists ≡ false
absent lists d not = false_from_ne_true (list_any (has_doc d) lists) not

-- a score below all k held is outranked
pub lower-outranked : (k d s : ℕ) (held : List (ℕ × ℕ)) → length held ≡ k → All (λ (e : ℕ × ℕ). s < e.1) held → IsOutranked k held (d, s)
lower-outranked k d s held full lower = (full, All-weaker (λ (e : ℕ × ℕ). s < e.1) (λ (e : ℕ × ℕ). Before e (d, s)) (λ e lt. inl lt) held lower)
