-- Lemmas on the first of pairs.
use Rattle.std.proofs.Common.{◌≡◌, refl, sym, ap, inl, inr, ◌⊎◌, ◌∙◌, subst, ℕ, zero, suc, ◌+◌, ◌<◌}
use Rattle.std.proofs.Common.{List, [], ◌∷◌, ◌++◌, length, get_or, map, take, min, arith}
use Rattle.std.specs.Prelude.{Contains}
use Rattle.std.proofs.Math.Seq.{take-suc}
use Rattle.std.proofs.lemmas.List.{length-take-le, length_push, get_or-take, get_or_default}
use Rattle.std.proofs.lemmas.List.Elements.{All-contains, All-weaker, Contains-push}
use Rattle.std.proofs.lemmas.List.Elements.{Contains-append_left, Contains-append_cases}
use Rattle.scan_plans.specs.AnyOrder.{AreDifferent, FirstAfterOffer}
use Rattle.scan_plans.specs.Ranking.{IsFirstK}
use Rattle.pefidx_c.specs.JoinedTop.{AreOnce}

abbrev pub Pair : Type 0
Pair = ℕ × ℕ

-- ---- what a list has
pub split : {X : Type 0} (y : X) (xs : List X) (x : X) → Contains (y ∷ xs) x → (y ≡ x) ⊎ Contains xs x
split y xs x (zero, w, e) = inl e
split y xs x (suc k, w, e) = inr (k, omega arith, e)

pub later : {X : Type 0} (y : X) (xs : List X) (x : X) → Contains xs x → Contains (y ∷ xs) x
later y xs x h = let w = h.1 in (suc h.0, omega arith, h.2)

pub mapped : {X Y : Type 0} (f : X → Y) (xs : List X) (y : Y) → Contains (map f xs) y
    → (x : X) × Contains xs x × (f x ≡ y)
mapped f [] y c = let w = c.1 in absurd (omega arith)
mapped f (x ∷ xs) y (zero, w, e) = (x, (0, omega arith, refl), e)
mapped f (x ∷ xs) y (suc k, w, e) =
    let h = mapped f xs y (k, omega arith, e) in
    (h.0, later x xs h.0 h.1, h.2)

to-end : (e : Pair) (xs : List Pair) (x : Pair) → Contains (e ∷ xs) x → Contains (xs ++ e ∷ []) x
to-end e xs x c =
    elim (split e xs x c) as (λ _. Contains (xs ++ e ∷ []) x) [
      | inl same ↦ subst (Contains (xs ++ e ∷ [])) same (Contains-push xs e)
      | inr inside ↦ Contains-append_left xs (e ∷ []) x inside
    ]

from-end : (e : Pair) (xs : List Pair) (x : Pair) → Contains (xs ++ e ∷ []) x → Contains (e ∷ xs) x
from-end e xs x c =
    elim (Contains-append_cases xs (e ∷ []) x c) as (λ _. Contains (e ∷ xs) x) [
      | inl inside ↦ later e xs x inside
      | inr (zero, w, same) ↦ (0, omega arith, same)
      | inr (suc k, w, same) ↦ absurd (omega arith)
    ]

-- ---- the first k
-- the last may stand first
first-moved : (k : ℕ) (e : Pair) (xs held : List Pair) → IsFirstK k (e ∷ xs) held
    → IsFirstK k (xs ++ e ∷ []) held
first-moved k e xs held first = record {
  ordered = first.ordered;
  of_them = All-weaker (Contains (e ∷ xs)) (Contains (xs ++ e ∷ [])) (λ x c. to-end e xs x c) held
      first.of_them;
  count = (let l = length_push xs e in let h = first.count in omega arith);
  others_after = λ x c absent. first.others_after x (from-end e xs x c) absent;
}

-- of no more than there are
pub first-of-all : (k most : ℕ) (pairs held : List Pair) → most ≡ min (length pairs) k
    → IsFirstK most pairs held → IsFirstK k pairs held
first-of-all k most pairs held is first = record {
  ordered = first.ordered;
  of_them = first.of_them;
  count = (let h = first.count in omega arith);
  others_after = first.others_after;
}

-- ---- pairs of different documents
-- a pair that comes before another has another document
earlier : (n i : ℕ) (pairs : List Pair) (d e : Pair) → AreOnce n pairs → i < length pairs
    → Contains (take i pairs) e → e.0 ≡ (get_or pairs i d).0 → ⊥
earlier n i pairs d e once within c same =
    let long = length-take-le i pairs (omega (arith, within)) in
    let less : c.0 < i = let w = c.1 in omega (arith, w, long) in
    let here : get_or pairs c.0 e ≡ e = sym (get_or-take i pairs c.0 e less) ∙ c.2 in
    once.once c.0 i e less within
    (ap (λ (z : Pair). z.0) here ∙ same
    ∙ ap (λ (z : Pair). z.0) (get_or_default pairs i d e within))

pub is-new : (n k i : ℕ) (pairs held : List Pair) (d : Pair) → AreOnce n pairs → i < length pairs
    → IsFirstK k (take i pairs) held
    → ¬ Contains (map (λ (e : Pair). e.0) held) (get_or pairs i d).0
is-new n k i pairs held d once within first c =
    let of = mapped (λ (e : Pair). e.0) held (get_or pairs i d).0 c in
    earlier n i pairs d of.0 once within
    (All-contains (Contains (take i pairs)) held of.0 first.of_them of.1) of.2

-- one pair more
pub first-more : (n k i : ℕ) (pairs held new : List Pair) (d : Pair) → FirstAfterOffer
    → AreOnce n pairs → i < length pairs → IsFirstK k (take i pairs) held
    → IsFirstK k (get_or pairs i d ∷ held) new → IsFirstK k (take (i + 1) pairs) new
first-more n k i pairs held new d grows once within so_far first =
    let e : Pair = get_or pairs i d in
    let long = length-take-le i pairs (omega (arith, within)) in
    let apart : AreDifferent (take i pairs) = λ a b x lt inside same.
    let la : a < i = omega (arith, lt, inside, long) in
    let lb : b < i = omega (arith, inside, long) in
    once.once a b x lt (omega (arith, lb, within))
    (ap (λ (z : Pair). z.0) (sym (get_or-take i pairs a x la) ∙ same
    ∙ get_or-take i pairs b x lb)) in
    let absent : ¬ Contains (take i pairs) e = λ c. earlier n i pairs d e once within c refl in
    subst (λ l. IsFirstK k l new)
    (sym (take-suc pairs i d within)
    ∙ ap (λ j. take j pairs) (let one : suc i ≡ i + 1 = omega arith in one))
    (first-moved k e (take i pairs) new
    (grows k e (take i pairs) held new apart so_far absent first))
