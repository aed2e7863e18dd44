use Rattle.std.proofs.Common.{◌≡◌, subst, ℕ, zero, suc, ◌+◌, ◌-◌, ◌*◌, ◌≤◌, ◌<◌, inl, inr, min, List, [], ◌∷◌, arith}
use Rattle.std.proofs.lemmas.Bool.{cases_lt}
use Rattle.part_cost.specs.Partition.{IsPartitionFrom, WithinLimitFrom, cost_from}
use Rattle.partition_path.specs.Tables.{Table, IsReached, IsSettled, cost_to, unreached}
use Rattle.part_cost.proofs.Partitions.{ends-within}

module _ (limit : ℕ) (cost : ℕ → ℕ → ℕ) (n : ℕ) (t : Table) (monotone : (h i j k : ℕ) → h ≤ i → i < j → j ≤ k → k ≤ n → cost i j ≤ cost h k) where
  -- each allowed part from a place is settled
  abbrev pub AllSettled : ℕ → Type 0
  AllSettled r = (e : ℕ) → r < e → e ≤ n → IsSettled limit cost t r e

  -- Where all parts are settled, the route to the last place, if one is known, costs at most 103/100 of what is spent up to a place and of each allowed rest from there on.
  pub near-rest : ((r : ℕ) → r < n → IsReached t r → AllSettled r) → (fuel r spent : ℕ) (others : List ℕ) → n ≤ r + fuel → r ≤ n → 100 * cost_to t r ≤ 103 * spent
      → IsPartitionFrom r n others → WithinLimitFrom limit cost r others → 100 * min unreached (cost_to t n) ≤ 103 * (spent + cost_from cost r others)
  near-rest done fuel r spent [] f l cheap part within =
      let last : 100 * cost_to t n ≤ 103 * spent = subst (λ (x : ℕ). 100 * cost_to t x ≤ 103 * spent) part cheap in
      omega (arith, last)
  near-rest done zero r spent (e ∷ others) f l cheap part within = absurd (omega (arith, f, part.0, ends-within e n others part.1))
  near-rest done (suc fuel) r spent (e ∷ others) f l cheap part within =
      let inside = ends-within e n others part.1 in
      elim (cases_lt (cost_to t r) unreached) [
        | inr over ↦ omega (arith, over, cheap)
        | inl reached ↦ elim (done r (omega (arith, part.0, inside)) reached e part.0 inside within.0) [
          | inl answered ↦
              let rest = near-rest done fuel e (spent + cost r e) others (omega (arith, f, part.0)) inside (omega (arith, answered, cheap)) part.1 within.1 in
              omega (arith, rest)
          | inr later ↦
              let s = later.start in
              let less = monotone r s e e (omega (arith, later.after)) later.before (omega arith) inside in
              let rest = near-rest done fuel s (spent + cost r e - cost s e) (e ∷ others) (omega (arith, f, later.after)) (omega (arith, later.before, inside)) (omega (arith, later.cheap, cheap, less)) (later.before, part.1) (omega (arith, less, within.0), within.1) in
              omega (arith, rest, less)
        ]
      ]

-- Parts of one number each are allowed, and together cost at most the limit for each number.
pub singles : (limit : ℕ) (cost : ℕ → ℕ → ℕ) (n : ℕ) → ((i : ℕ) → i < n → cost i (i + 1) ≤ limit) → (few i : ℕ) → i + few ≡ n
    → (ends : List ℕ) × IsPartitionFrom i n ends × WithinLimitFrom limit cost i ends × (cost_from cost i ends ≤ limit * few)
singles limit cost n one zero i at = let reached : i ≡ n = omega (arith, at) in ([], reached, tt, omega arith)
singles limit cost n one (suc few) i at =
    let rest = singles limit cost n one few (i + 1) (omega (arith, at)) in
    let first = one i (omega (arith, at)) in
    let step : i < i + 1 = omega arith in
    ((i + 1) ∷ rest.0, (step, rest.1), (first, rest.2), omega (arith, first, rest.3))
