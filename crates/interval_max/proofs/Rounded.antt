-- Lemmas on numbers rounded up to whole steps.
use Rattle.std.proofs.Common.{◌≡◌, sym, ap, inl, inr, ◌∙◌, subst, ℕ, ◌+◌, ◌*◌, ◌<◌, ◌≤◌, ◌≢◌, max, Bool, true, false, cond, eqb, List, take, length, get_or, add-mul, one-mul, arith}
use Rattle.std.specs.Prelude.{AllPairs}
use Rattle.std.specs.Int.{div_ceil}
use Rattle.std.proofs.Math.Nat.{zero-div, zero-mod, mul-le-mul_right}
use Rattle.std.proofs.lemmas.Bool.{cases_lt, cases_eq, ne_eqb}
use Rattle.std.proofs.lemmas.Grind.{div_ceil_times}
use Rattle.std.proofs.lemmas.List.{take_more, get_or-take, get_or_default, length-take-le}
use Rattle.interval_max.specs.Peaks.{peak_at}
use Rattle.interval_max.specs.declared.peaks.Peak.{Peak}
use Rattle.interval_max.proofs.Greatest.{most-push, most-none}
use Rattle.interval_max.proofs.Pairs.{eqb-same}
use Rattle.interval_max.proofs.Steps.{no_peak}

pub ceil-zero : (s : ℕ) → div_ceil 0 s ≡ 0
ceil-zero s = omega (arith, zero-div s, zero-mod s)

-- what so many steps reach takes no more of them
pub ceil-le : (g s n : ℕ) → 1 ≤ s → g ≤ n * s → div_ceil g s ≤ n
ceil-le g s n some le = elim (cases_lt n (div_ceil g s)) as (λ _. div_ceil g s ≤ n) [
  | inl more ↦ (
      let next : n + 1 ≤ div_ceil g s = omega arith in
      let product : (n + 1) * s ≤ div_ceil g s * s = mul-le-mul_right s next in
      let above : div_ceil g s * s < g + s = (div_ceil_times g s (omega arith)).1 in
      absurd (omega (arith, add-mul n 1 s, one-mul s)))
  | inr ge ↦ ge
]

-- as many steps as are needed reach it
pub ceil-reaches : (g s : ℕ) → 1 ≤ s → g ≤ div_ceil g s * s
ceil-reaches g s some = (div_ceil_times g s (omega arith)).0

-- what the first peaks and one more tell
pub peaks-more : (peaks : List Peak) (j v : ℕ) → AllPairs (λ (a b : Peak). a.interval < b.interval) peaks → j < length peaks → peak_at (take (j + 1) peaks) v ≡ max (peak_at (take j peaks) v) (cond (eqb (get_or peaks j no_peak).interval v) (get_or peaks j no_peak).greatest 0)
peaks-more peaks j v rising within =
    ap (λ (ps : List Peak). peak_at ps v) (take_more peaks j no_peak within)
    ∙ most-push (λ (p : Peak). p.greatest) (λ (p : Peak). eqb p.interval v) (take j peaks) (get_or peaks j no_peak)

-- the first peaks tell nothing of the interval of the next
pub peaks-none_there : (peaks : List Peak) (j : ℕ) → AllPairs (λ (a b : Peak). a.interval < b.interval) peaks → j < length peaks → peak_at (take j peaks) (get_or peaks j no_peak).interval ≡ 0
peaks-none_there peaks j rising within =
    let u : ℕ = (get_or peaks j no_peak).interval in
    let count = length-take-le j peaks (omega arith) in
    most-none (λ (p : Peak). p.greatest) (λ (p : Peak). eqb p.interval u) (take j peaks)
    (λ k d lt.
    let read = get_or-take j peaks k no_peak (omega arith) in
    let r = rising k j no_peak (omega arith) within in
    let e : eqb (get_or (take j peaks) k no_peak).interval u ≡ false = ne_eqb (get_or (take j peaks) k no_peak).interval u (λ same. omega (arith, ap (λ (p : Peak). p.interval) read)) in
    ap (λ (p : Peak). eqb p.interval u) (get_or_default (take j peaks) k d no_peak lt) ∙ e)

-- the bytes of the first peaks and one more: that of its interval is new
pub byte-there : (peaks : List Peak) (j step v : ℕ) → AllPairs (λ (a b : Peak). a.interval < b.interval) peaks → j < length peaks → (get_or peaks j no_peak).interval ≡ v → div_ceil (peak_at (take (j + 1) peaks) v) step ≡ div_ceil (get_or peaks j no_peak).greatest step
byte-there peaks j step v rising within here =
    let p : Peak = get_or peaks j no_peak in
    let none : peak_at (take j peaks) v ≡ 0 = subst (λ (v : ℕ). peak_at (take j peaks) v ≡ 0) here (peaks-none_there peaks j rising within) in
    let is : eqb p.interval v ≡ true = subst (λ (v : ℕ). eqb p.interval v ≡ true) here (eqb-same p.interval p.interval (omega arith)) in
    let one : cond (eqb p.interval v) p.greatest 0 ≡ p.greatest = ap (λ (b : Bool). cond b p.greatest 0) is in
    let all : peak_at (take (j + 1) peaks) v ≡ p.greatest = omega (arith, peaks-more peaks j v rising within) in
    ap (λ (n : ℕ). div_ceil n step) all

-- and the others are as they were
pub byte-elsewhere : (peaks : List Peak) (j step v : ℕ) → AllPairs (λ (a b : Peak). a.interval < b.interval) peaks → j < length peaks → (get_or peaks j no_peak).interval ≢ v → div_ceil (peak_at (take (j + 1) peaks) v) step ≡ div_ceil (peak_at (take j peaks) v) step
byte-elsewhere peaks j step v rising within other =
    let p : Peak = get_or peaks j no_peak in
    let not : cond (eqb p.interval v) p.greatest 0 ≡ 0 = ap (λ (b : Bool). cond b p.greatest 0) (ne_eqb p.interval v other) in
    let all : peak_at (take (j + 1) peaks) v ≡ peak_at (take j peaks) v = omega (arith, peaks-more peaks j v rising within) in
    ap (λ (n : ℕ). div_ceil n step) all

-- a byte that is added to those of the first peaks
pub byte-added : (peaks : List Peak) (j step v u byte old new : ℕ) → AllPairs (λ (a b : Peak). a.interval < b.interval) peaks → j < length peaks → u ≡ (get_or peaks j no_peak).interval → byte ≡ div_ceil (get_or peaks j no_peak).greatest step
    → old ≡ div_ceil (peak_at (take j peaks) v) step → new ≡ old + cond (eqb u v) byte 0 → new ≡ div_ceil (peak_at (take (j + 1) peaks) v) step
byte-added peaks j step v u byte old new rising within here is so_far adds = elim (cases_eq u v) as (λ _. new ≡ div_ceil (peak_at (take (j + 1) peaks) v) step) [
  | inl same ↦ (
      let at : (get_or peaks j no_peak).interval ≡ v = sym here ∙ same in
      let none : peak_at (take j peaks) v ≡ 0 = subst (λ (v : ℕ). peak_at (take j peaks) v ≡ 0) at (peaks-none_there peaks j rising within) in
      let before : div_ceil (peak_at (take j peaks) v) step ≡ 0 = ap (λ (n : ℕ). div_ceil n step) none ∙ ceil-zero step in
      let one : cond (eqb u v) byte 0 ≡ byte = ap (λ (b : Bool). cond b byte 0) (eqb-same u v same) in
      let all : div_ceil (peak_at (take (j + 1) peaks) v) step ≡ div_ceil (get_or peaks j no_peak).greatest step = byte-there peaks j step v rising within at in
      omega arith)
  | inr other ↦ (
      let none : cond (eqb u v) byte 0 ≡ 0 = ap (λ (b : Bool). cond b byte 0) (ne_eqb u v other) in
      let all : div_ceil (peak_at (take (j + 1) peaks) v) step ≡ div_ceil (peak_at (take j peaks) v) step = byte-elsewhere peaks j step v rising within (λ e. other (here ∙ e)) in
      omega arith)
]
