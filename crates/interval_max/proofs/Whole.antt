-- Lemmas on the peaks of a whole list.
use Rattle.std.proofs.Common.{◌≡◌, sym, ap, ◌∙◌, subst, ℕ, ◌*◌, ◌<◌, ◌≤◌, ◌++◌, eqb, List, take, length, get_or, arith}
use Rattle.std.proofs.Math.Seq.{take-append_seam}
use Rattle.std.specs.Int.{div_ceil}
use Rattle.std.proofs.lemmas.List.{take_all}
use Rattle.collection_model.specs.Collection.{Posting, greatest_freq}
use Rattle.interval_max.specs.Intervals.{interval_of, greatest_in}
use Rattle.interval_max.specs.Bytes.{step_of}
use Rattle.interval_max.specs.Peaks.{peak_at, ArePeaksTo}
use Rattle.interval_max.specs.declared.peaks.Peak.{Peak}
use Rattle.interval_max.proofs.Greatest.{most-some, most-le}
use Rattle.interval_max.proofs.Pairs.{eqb-same}
use Rattle.interval_max.proofs.Rounded.{ceil-le, ceil-reaches}

-- the greatest frequency in an interval is at most that of the list
pub in-le : (list : List Posting) (v : ℕ) → greatest_in list v ≤ greatest_freq list
in-le list v = most-le (λ (p : Posting). p.freq) (λ (p : Posting). eqb (interval_of p.doc) v) list

-- 255 steps reach it
pub steps-reach : (list : List Posting) → greatest_freq list ≤ 255 * step_of list
steps-reach list = let h = ceil-reaches (greatest_freq list) 255 (omega arith) in omega arith

pub byte-fits : (list : List Posting) (g : ℕ) → g ≤ greatest_freq list → div_ceil g (step_of list) ≤ 255
byte-fits list g le = let h = steps-reach list in ceil-le g (step_of list) 255 (omega arith) (omega arith)

module _ (list : List Posting) (peaks : List Peak) (are : ArePeaksTo list (length list) peaks) where
  pub whole-peaks : (v : ℕ) → peak_at peaks v ≡ greatest_in list v
  whole-peaks v = are.peaks_are.each v ∙ ap (λ (l : List Posting). greatest_in l v) (take_all (length list) list (omega arith))

  -- no peak is higher
  pub peak-le : (k : ℕ) (d : Peak) → k < length peaks → (get_or peaks k d).greatest ≤ greatest_freq list
  peak-le k d within =
      let p : Peak = get_or peaks k d in
      let some : p.greatest ≤ peak_at peaks p.interval = most-some (λ (q : Peak). q.greatest) (λ (q : Peak). eqb q.interval p.interval) peaks k d within (eqb-same p.interval p.interval (omega arith)) in
      let all = in-le list p.interval in
      omega (arith, whole-peaks p.interval)

-- they are those that a slice of more peaks begins with
pub given-peaks : (list : List Posting) (n count len : ℕ) (new rest now : List Peak) → length list ≡ n → now ≡ take len (new ++ rest) → length new ≡ len → ArePeaksTo list n (take count new) → ArePeaksTo list (length list) (take count now)
given-peaks list n count len new rest now long is whole are =
    let same : now ≡ new = is ∙ ap (λ (m : ℕ). take m (new ++ rest)) (sym whole) ∙ take-append_seam new rest in
    subst (λ (m : ℕ). ArePeaksTo list m (take count now)) (sym long) (subst (λ (ps : List Peak). ArePeaksTo list n (take count ps)) (sym same) are)
