-- How many pairs peaks take.
use Rattle.std.proofs.Common.{◌≡◌, ap, ℕ, ◌+◌, ◌-◌, ◌/◌, ◌<◌, ◌≤◌, List, [], ◌∷◌, drop, length, get_or, arith}
use Rattle.std.specs.Prelude.{AllPairs}
use Rattle.std.proofs.lemmas.List.{drop_more, get_or_default}
use Rattle.interval_max.specs.declared.peaks.Peak.{Peak}
use Rattle.interval_max.proofs.Steps.{no_peak}

-- how many pairs these peaks take behind an interval
abbrev pub pairs_for : ℕ → List Peak → ℕ
pairs_for next [] = 0
pairs_for next (p ∷ peaks) = (p.interval - next) / 256 + 1 + pairs_for (p.interval + 1) peaks

module _ (peaks : List Peak) (k next : ℕ) where
  pub pairs-more : k < length peaks → pairs_for next (drop k peaks) ≡ ((get_or peaks k no_peak).interval - next) / 256 + 1 + pairs_for ((get_or peaks k no_peak).interval + 1) (drop (k + 1) peaks)
  pairs-more within = ap (pairs_for next) (drop_more peaks k no_peak within)

-- the peaks behind one lie behind its interval
pub low-more : (peaks : List Peak) (k : ℕ) → AllPairs (λ (a b : Peak). a.interval < b.interval) peaks → (i : ℕ) (d : Peak) → k + 1 ≤ i → i < length peaks → (get_or peaks k no_peak).interval + 1 ≤ (get_or peaks i d).interval
low-more peaks k rising i d after within =
    let r = rising k i no_peak (omega (arith, after)) within in
    let e = ap (λ (q : Peak). q.interval) (get_or_default peaks i no_peak d within) in
    omega (arith, r, e)
