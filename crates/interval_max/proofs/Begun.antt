-- Lemmas on a search that begins, and on one that has ended.
use Rattle.std.proofs.Common.{◌≡◌, refl, inl, inr, ◌⊎◌, ℕ, suc, ◌+◌, ◌*◌, ◌/◌, ◌^◌, ◌<◌, ◌≤◌, false, List, [], ◌∷◌, map, length, get_or, add-mul, mul-le-mul_left, arith}
use Rattle.std.specs.List.{All, list_any, sum, zip}
use Rattle.std.proofs.lemmas.Bool.{cases_Bool, eqb-true, eq-eqb}
use Rattle.std.proofs.lemmas.List.{length-map}
use Rattle.std.proofs.lemmas.List.Sums.{sum_by-cons}
use Rattle.collection_model.specs.Collection.{Posting}
use Rattle.cursor_api.specs.NextGeq.{IsCursorList}
use Rattle.scan_plans.specs.Matches.{AreBelow, has_doc, freq_of_doc, score}
use Rattle.scan_plans.specs.IsTop.{IsTop}
use Rattle.scan_plans.specs.AnyOrder.{IsOutranked, SeenNone, SeenAfterSkips, SeenAll}
use Rattle.scan_plans.specs.Skips.{HasOnlyBelow}
use Rattle.scan_plans.specs.TopQuery.{IsTopQuery}
use Rattle.interval_max.specs.Intervals.{interval_of}
use Rattle.interval_max.specs.Search.{IsQuery, IsSearch, is_settled}
use Rattle.interval_max.proofs.Raised.{freq-le, freq-below}
use Rattle.interval_max.proofs.Scores.{score-found}
use Rattle.interval_max.proofs.Whole.{in-le}

-- what the plans of `top` ask is what a search asks
pub query-of : {X : Type 0} (list : X → List Posting) (place : X → ℕ) (n : ℕ) (cs : List X) (weights : List ℕ) → IsTopQuery list place n cs weights → n < 2 ^ 32 → IsQuery n (map list cs) weights
query-of list place n cs weights query narrow = record {
  narrow = narrow;
  below = query.in_range;
  each = omega (arith, query.each, length-map cs list);
  some = query.some;
  light = query.light;
}

module _ (n : ℕ) (lists : List (List Posting)) (weights : List ℕ) (k : ℕ) (bounds : List ℕ) where
  -- nothing is held, and the bounds are above the scores
  pub search-begun : SeenNone → SeenAfterSkips → HasOnlyBelow → AreBelow n lists → length weights ≡ length lists → All (λ w. 1 ≤ w) weights → All IsCursorList lists → ((d : ℕ) → d < n → score lists weights d ≤ get_or bounds (interval_of d) 0) → IsSearch n lists weights k bounds []
  search-begun none skipped only below each some good le = record {
    top = skipped n lists weights k (λ d. false) (is_settled bounds) [] (none n lists weights k (λ d. false) (λ d. refl)) (λ d is. cc)
        (λ d not settled. elim (cases_Bool (list_any (has_doc d) lists)) as (λ _. (list_any (has_doc d) lists ≡ false) ⊎ IsOutranked k [] (d, score lists weights d)) [
          | inl has ↦ (
              let above = (score-found lists weights d each some good).1 has in
              let high = le d (only n lists d below has) in
              let zero = eqb-true (get_or bounds (interval_of d) 0) 0 settled in
              absurd (omega arith))
          | inr absent ↦ inl absent
        ]);
    bounded = λ d has above. le d (only n lists d below has);
  }

  -- every interval is settled
  pub search-ended : SeenAll → (held : List (ℕ × ℕ)) → ((v : ℕ) → v < n / 32 + 1 → get_or bounds v 0 ≡ 0) → IsSearch n lists weights k bounds held → IsTop n lists weights k held
  search-ended all held settled search = all n lists weights k (is_settled bounds) held search.top (λ d inside has. eq-eqb (get_or bounds (interval_of d) 0) 0 (settled (interval_of d) (omega arith)))

-- no score is high
score-below : (lists : List (List Posting)) (weights : List ℕ) (d : ℕ) → All IsCursorList lists → score lists weights d ≤ sum weights * 4294967295
score-below [] weights d good = omega arith
score-below (l ∷ lists) [] d good = omega arith
score-below (l ∷ lists) (w ∷ weights) d good =
    let f : List Posting × ℕ → ℕ = λ e. e.1 * freq_of_doc d e.0 in
    let here : freq_of_doc d l ≤ 4294967295 = omega (arith, freq-le d l, in-le l (d / 32), freq-below l (good 0 [] (omega arith))) in
    let product : w * freq_of_doc d l ≤ w * 4294967295 = mul-le-mul_left w here in
    let more = score-below lists weights d (λ k e within. good (suc k) e (omega arith)) in
    omega (arith, sum_by-cons f (l, w) (zip lists weights), sum_by-cons (λ (n : ℕ). n) w weights, add-mul w (sum weights) 4294967295)

pub scores-light : (n k : ℕ) (lists : List (List Posting)) (weights : List ℕ) (r : List (ℕ × ℕ)) → sum weights < 2 ^ 26 → All IsCursorList lists → IsTop n lists weights k r → All (λ (e : ℕ × ℕ). e.1 < 2 ^ 58) r
scores-light n k lists weights r light good top i e within = let is = top.scored i e within in let low = score-below lists weights (get_or r i e).0 good in omega arith
