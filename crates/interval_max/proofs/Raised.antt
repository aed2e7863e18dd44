-- Lemmas on bounds of scores to which a list adds.
use Rattle.std.proofs.Common.{◌≡◌, sym, ap, inl, inr, ◌∙◌, subst, ℕ, ◌+◌, ◌*◌, ◌/◌, ◌<◌, ◌≤◌, ◌≢◌, Bool, true, cond, eqb, List, [], ◌∷◌, map, take, length, get_or, mul-add, mul-le-mul, mul-le-mul_left, Some, arith}
use Rattle.std.specs.Prelude.{AllPairs}
use Rattle.std.specs.List.{find, sum_by, zip}
use Rattle.std.specs.Option.{option_map, unwrap_or}
use Rattle.std.proofs.lemmas.Bool.{cases_Bool, cases_eq, eqb-true, ne_eqb}
use Rattle.std.proofs.lemmas.List.{get_or-map, length-map}
use Rattle.std.proofs.lemmas.List.Sums.{sum_by_more, sum_by-le-sum_by}
use Rattle.std.proofs.lemmas.Slice.Zip.{length-zip, get_or-zip}
use Rattle.collection_model.specs.Collection.{Posting, freqs_of, greatest_freq}
use Rattle.cursor_api.specs.NextGeq.{IsCursorList}
use Rattle.scan_plans.specs.Matches.{freq_of_doc, score}
use Rattle.interval_max.specs.Intervals.{greatest_in, interval_of}
use Rattle.interval_max.specs.Bytes.{rounded_up, step_of}
use Rattle.interval_max.specs.Maxima.{bound_of}
use Rattle.interval_max.specs.Bounded.{IsBoundOf, interval_score}
use Rattle.interval_max.specs.Peaks.{peak_at}
use Rattle.interval_max.specs.declared.maxima.Bounds.{Bounds}
use Rattle.interval_max.specs.declared.peaks.Peak.{Peak}
use Rattle.interval_max.proofs.Greatest.{given, greatest-below, most-cons}
use Rattle.interval_max.proofs.Pairs.{eqb-same, times-cond}
use Rattle.interval_max.proofs.Rounded.{ceil-reaches, peaks-more, peaks-none_there}
use Rattle.interval_max.proofs.Steps.{no_peak}

-- so many times what the first peaks and one more tell
pub peak-times : (peaks : List Peak) (j v times : ℕ) → AllPairs (λ (a b : Peak). a.interval < b.interval) peaks → j < length peaks
    → times * peak_at (take (j + 1) peaks) v ≡ times * peak_at (take j peaks) v + cond (eqb (get_or peaks j no_peak).interval v) (times * (get_or peaks j no_peak).greatest) 0
peak-times peaks j v times rising within =
    let p : Peak = get_or peaks j no_peak in
    let b : Bool = eqb p.interval v in
    let front : ℕ = peak_at (take j peaks) v in
    let plus : peak_at (take (j + 1) peaks) v ≡ front + cond b p.greatest 0 = elim (cases_eq p.interval v) as (λ _. peak_at (take (j + 1) peaks) v ≡ front + cond b p.greatest 0) [
      | inl here ↦ (let none : front ≡ 0 = subst (λ (v : ℕ). peak_at (take j peaks) v ≡ 0) here (peaks-none_there peaks j rising within) in omega (arith, peaks-more peaks j v rising within))
      | inr other ↦ (let none : cond b p.greatest 0 ≡ 0 = ap (λ (b : Bool). cond b p.greatest 0) (ne_eqb p.interval v other) in omega (arith, peaks-more peaks j v rising within))
    ] in
    ap (λ (n : ℕ). times * n) plus ∙ mul-add times front (cond b p.greatest 0) ∙ ap (λ (n : ℕ). times * front + n) (times-cond times p.greatest b)

-- a bound is a number of 32 bits
pub bound-le : (b : Bounds) (v : ℕ) → bound_of b v ≤ 4294967295
bound-le b v = mul-le-mul (b.bytes v) b.small

-- and at least what it bounds
pub bound-reaches : (list : List Posting) (b : Bounds) (v : ℕ) → IsBoundOf list b → b.step ≢ 0 → greatest_in list v ≤ bound_of b v
bound-reaches list b v is known = let reach : greatest_in list v ≤ rounded_up list v = ceil-reaches (greatest_in list v) (step_of list) (omega arith) in let same = is known v in omega arith

-- the frequency of a document is at most the greatest in its interval
pub freq-le : (d : ℕ) (list : List Posting) → freq_of_doc d list ≤ greatest_in list (d / 32)
freq-le d [] = omega arith
freq-le d (p ∷ list) =
    let adds = most-cons (λ (p : Posting). p.freq) (λ (p : Posting). eqb (interval_of p.doc) (d / 32)) p list in
    elim (cases_Bool (eqb p.doc d)) as (λ _. freq_of_doc d (p ∷ list) ≤ greatest_in (p ∷ list) (d / 32)) [
      | inl here ↦ (
          let found : freq_of_doc d (p ∷ list) ≡ p.freq = ap (λ (b : Bool). unwrap_or (option_map (λ (p : Posting). p.freq) (cond b (Some p) (find (λ (p : Posting). eqb p.doc d) list))) 0) here in
          let same : p.doc ≡ d = eqb-true p.doc d here in
          let passes : eqb (interval_of p.doc) (d / 32) ≡ true = eqb-same (interval_of p.doc) (d / 32) (omega arith) in
          let counts : given (λ (p : Posting). p.freq) (λ (p : Posting). eqb (interval_of p.doc) (d / 32)) p ≡ p.freq = ap (λ (b : Bool). cond b p.freq 0) passes in
          omega arith)
      | inr other ↦ (
          let found : freq_of_doc d (p ∷ list) ≡ freq_of_doc d list = ap (λ (b : Bool). unwrap_or (option_map (λ (p : Posting). p.freq) (cond b (Some p) (find (λ (p : Posting). eqb p.doc d) list))) 0) other in
          omega (arith, freq-le d list))
    ]

-- the score of a document is at most that of its interval
pub score-le : (lists : List (List Posting)) (weights : List ℕ) (d : ℕ) → score lists weights d ≤ interval_score lists weights (d / 32)
score-le lists weights d = sum_by-le-sum_by (λ (e : List Posting × ℕ). e.1 * freq_of_doc d e.0) (λ (e : List Posting × ℕ). e.1 * greatest_in e.0 (d / 32)) (zip lists weights) (λ e. mul-le-mul_left e.1 (freq-le d e.0))

-- no frequency of a list has more than 32 bits
pub freq-below : (list : List Posting) → IsCursorList list → greatest_freq list ≤ 4294967295
freq-below list good = greatest-below (freqs_of list) 4294967295 (λ k within. let low = good.fit k 0 within in omega arith)

module _ {X : Type 0} (list : X → List Posting) (v : ℕ) where
  -- one list more
  pub interval-step : (cs : List X) (lists : List (List Posting)) (weights : List ℕ) (i : ℕ) (item : X) (old new : ℕ) → map list cs ≡ lists → i < length cs → i < length weights
      → sum_by (λ e. e.1 * greatest_in e.0 v) (take i (zip lists weights)) ≤ old → old + get_or weights i 0 * greatest_in (list (get_or cs i item)) v ≤ new
      → sum_by (λ e. e.1 * greatest_in e.0 v) (take (i + 1) (zip lists weights)) ≤ new
  interval-step cs lists weights i item old new same within weighed so_far adds =
      let f : List Posting × ℕ → ℕ = λ e. e.1 * greatest_in e.0 v in
      let count = ap length same in
      let many = length-map cs list in
      let read : get_or lists i [] ≡ list (get_or cs i item) = ap (λ (ls : List (List Posting)). get_or ls i []) (sym same) ∙ get_or-map list cs i item [] within in
      let pair : f (get_or (zip lists weights) i ([], 0)) ≡ get_or weights i 0 * greatest_in (list (get_or cs i item)) v = ap f (get_or-zip lists weights i ([], 0) (omega arith) weighed) ∙ ap (λ (l : List Posting). get_or weights i 0 * greatest_in l v) read in
      let more = sum_by_more f (zip lists weights) i ([], 0) (omega (arith, length-zip lists weights)) in
      omega arith
