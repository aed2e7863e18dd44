use Rattle.std.proofs.Common.{◌≡◌, sym, subst, ℕ, ◌+◌, ◌-◌, ◌≤◌, ◌<◌, List, [], ◌∷◌, ◌++◌, length, reverse, arith}
use Rattle.std.proofs.lemmas.List.{reverse-append}
use Rattle.part_cost.specs.Partition.{IsPartitionFrom, WithinLimitFrom, IsAllowed, cost_from, partition_cost}
use Rattle.partition_path.specs.Tables.{Table, IsReached, AreLinked, AreRoutes, cost_to, start_to}
use Rattle.partition_path.specs.Chains.{IsChain}

-- what the parts from place p to the last place are, that a chain of starts gives
record Traced (limit : ℕ) (cost : ℕ → ℕ → ℕ) (n : ℕ) (t : Table) (p : ℕ) (ends : List ℕ) : Type 0 where
  reached : IsReached t p
  partition : IsPartitionFrom p n ends
  within : WithinLimitFrom limit cost p ends
  sum : cost_from cost p ends + cost_to t p ≤ cost_to t n

module _ (limit : ℕ) (cost : ℕ → ℕ → ℕ) (n : ℕ) (t : Table) (routes : AreRoutes limit cost n n t) (end : IsReached t n) where
  start-reached : (j : ℕ) → 0 < j → j ≤ n → IsReached t j → IsReached t (start_to t j)
  start-reached j some l r =
      let last = routes.last j some l r in
      omega (arith, r, routes.rising (start_to t j) j (omega (arith, last.before)) l)

  -- each known route comes from a place before it
  pub linked : AreLinked t
  linked j some within reached =
      let l : j ≤ n = omega (arith, within, routes.places) in
      ((routes.last j some l reached).before, start-reached j some l reached)

  traced : (p : ℕ) (ends : List ℕ) → IsChain t p n ends → Traced limit cost n t p ends
  traced p [] h =
      record {
        reached = subst (λ (x : ℕ). IsReached t x) (sym h) end;
        partition = h;
        within = tt;
        sum = subst (λ (x : ℕ). 0 + cost_to t x ≤ cost_to t n) (sym h) (omega arith);
      }
  traced p (e ∷ ends) h =
      let rest = traced e ends h.3 in
      let last = routes.last e h.1 h.2 rest.reached in
      subst (λ (x : ℕ). Traced limit cost n t x (e ∷ ends)) h.0 (
      record {
        reached = start-reached e h.1 h.2 rest.reached;
        partition = (last.before, rest.partition);
        within = (last.allowed, rest.within);
        sum = omega (arith, rest.sum, last.sum);
      }
      )

  -- the whole chain is an allowed partition
  pub allowed : (ends : List ℕ) → IsChain t 0 n ends → IsAllowed limit cost n ends
  allowed ends h = let all = traced 0 ends h in record { partition = all.partition; within = all.within }

  -- that costs no more than the last place
  pub total : (ends : List ℕ) → IsChain t 0 n ends → partition_cost cost ends ≤ cost_to t n
  total ends h = let all = traced 0 ends h in omega (arith, all.sum, routes.origin)

-- one more part in front of a chain that was found from its end
pub chain-more : (t : Table) (i end n : ℕ) (ends more : List ℕ) → IsChain t end n (reverse ends) → 0 < end → end ≤ n → i ≡ start_to t end → more ≡ ends ++ end ∷ [] → IsChain t i n (reverse more)
chain-more t i end n ends more h some within start e =
    let turned : reverse more ≡ end ∷ reverse ends = rw e (reverse-append ends (end ∷ [])) in
    rw turned (sym start, some, within, h)

-- a chain to the last place, by the length of the tables
pub to-last : (t : Table) (length n : ℕ) (ends : List ℕ) → length ≡ n + 1 → IsChain t 0 (length - 1) ends → IsChain t 0 n ends
to-last t length n ends e h = let same : length - 1 ≡ n = omega arith in subst (λ (x : ℕ). IsChain t 0 x ends) same h
