-- Lemmas on parts that are put behind others.
use Rattle.std.proofs.Common.{◌≡◌, refl, sym, subst, ap, ◌∙◌, ℕ, suc, ◌+◌, ◌-◌, ◌*◌, ◌<◌, ◌≤◌, List, [], ◌∷◌, ◌++◌, drop, length, get_or, arith}
use Rattle.std.proofs.Common.{drop-cons, append_assoc}
use Rattle.std.proofs.lemmas.Nat.{mul-le}
use Rattle.part_cost.proofs.Partitions.{ends-within}
use Rattle.part_cost.specs.Partition.{IsAllowed, IsPartitionFrom, WithinLimitFrom, cost_from}

partition-more : (i start e : ℕ) (ends : List ℕ) → IsPartitionFrom i start ends → start < e → IsPartitionFrom i e (ends ++ e ∷ [])
partition-more i start e [] part below = (omega (arith, part, below), refl)
partition-more i start e (f ∷ ends) part below = (part.0, partition-more f start e ends part.1 below)

within-more : (limit : ℕ) (cost : ℕ → ℕ → ℕ) (i start e : ℕ) (ends : List ℕ) → IsPartitionFrom i start ends → WithinLimitFrom limit cost i ends → cost start e ≤ limit → WithinLimitFrom limit cost i (ends ++ e ∷ [])
within-more limit cost i start e [] part within allowed = (subst (λ (x : ℕ). cost x e ≤ limit) (sym part) allowed, tt)
within-more limit cost i start e (f ∷ ends) part within allowed = (within.0, within-more limit cost f start e ends part.1 within.1 allowed)

-- an allowed part behind an allowed partition
pub allowed-more : (limit : ℕ) (cost : ℕ → ℕ → ℕ) (start e : ℕ) (ends more : List ℕ) → IsAllowed limit cost start ends → start < e → cost start e ≤ limit → more ≡ ends ++ e ∷ [] → IsAllowed limit cost e more
allowed-more limit cost start e ends more a below allowed is =
    subst (λ (x : List ℕ). IsAllowed limit cost e x) (sym is)
    (record { partition = partition-more 0 start e ends a.partition below; within = within-more limit cost 0 start e ends a.partition a.within allowed })

-- parts from a place on: the next end is behind it, and the others are parts from there
pub next-part : (start n : ℕ) (ends : List ℕ) (k : ℕ) → k < length ends → IsPartitionFrom start n (drop k ends) → (start < get_or ends k 0) × (get_or ends k 0 ≤ n) × IsPartitionFrom (get_or ends k 0) n (drop (suc k) ends)
next-part start n ends k l h =
    let prefix : drop k ends ≡ get_or ends k 0 ∷ drop (suc k) ends = drop-cons ends k 0 l in
    let parts : IsPartitionFrom start n (get_or ends k 0 ∷ drop (suc k) ends) = subst (λ (x : List ℕ). IsPartitionFrom start n x) prefix h in
    (parts.0, ends-within (get_or ends k 0) n (drop (suc k) ends) parts.1, parts.1)

-- What is left of allowed parts: what is taken and the rest from a place on are the ends, and the rest is allowed.
pub record AreKept (limit : ℕ) (cost : ℕ → ℕ → ℕ) (ends taken rest : List ℕ) (start : ℕ) : Type 0 where
  pub within : WithinLimitFrom limit cost start rest
  pub all : taken ++ rest ≡ ends

-- one more of them is taken
pub kept-more : (limit : ℕ) (cost : ℕ → ℕ → ℕ) (ends taken more : List ℕ) (k start end : ℕ) → k < length ends → AreKept limit cost ends taken (drop k ends) start → (cost start (get_or ends k 0) ≤ limit → end ≡ get_or ends k 0) → more ≡ taken ++ end ∷ []
    → (end ≡ get_or ends k 0) × AreKept limit cost ends more (drop (suc k) ends) end
kept-more limit cost ends taken more k start end l kept whole is =
    let prefix : drop k ends ≡ get_or ends k 0 ∷ drop (suc k) ends = drop-cons ends k 0 l in
    let within : WithinLimitFrom limit cost start (get_or ends k 0 ∷ drop (suc k) ends) = subst (λ (x : List ℕ). WithinLimitFrom limit cost start x) prefix kept.within in
    let at : end ≡ get_or ends k 0 = whole within.0 in
    let all : taken ++ get_or ends k 0 ∷ drop (suc k) ends ≡ ends = subst (λ (x : List ℕ). taken ++ x ≡ ends) prefix kept.all in (
      at,
      record {
        within = subst (λ (x : ℕ). WithinLimitFrom limit cost x (drop (suc k) ends)) (sym at) within.1;
        all = ap (λ (x : List ℕ). x ++ drop (suc k) ends) is ∙ append_assoc taken (end ∷ []) (drop (suc k) ends) ∙ ap (λ (x : ℕ). taken ++ x ∷ drop (suc k) ends) at ∙ all;
      },
    )

-- allowed parts cost the limit each at most
pub few-bits : (limit : ℕ) (cost : ℕ → ℕ → ℕ) (i n : ℕ) (ends : List ℕ) → IsPartitionFrom i n ends → WithinLimitFrom limit cost i ends → cost_from cost i ends ≤ limit * (n - i)
few-bits limit cost i n [] part within = omega arith
few-bits limit cost i n (e ∷ ends) part within =
    let rest = few-bits limit cost e n ends part.1 within.1 in
    let inside = ends-within e n ends part.1 in
    let one = mul-le limit (1 + (n - e)) limit (n - i) (omega arith) (omega (arith, part.0, inside)) in
    omega (arith, rest, within.0, one)
