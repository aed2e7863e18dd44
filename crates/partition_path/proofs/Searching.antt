-- Lemmas on the search from all places in order.
use Rattle.std.proofs.Common.{◌≡◌, sym, subst, ap, ℕ, ◌+◌, ◌-◌, ◌*◌, ◌^◌, ◌≤◌, ◌<◌, inl, inr, min, List, length, arith}
use Rattle.std.specs.List.{All, sum}
use Rattle.std.proofs.lemmas.Bool.{cases_lt}
use Rattle.std.proofs.lemmas.Nat.{mul-le}
use Rattle.std.proofs.lemmas.List.Elements.{All-from_get_or}
use Rattle.std.proofs.lemmas.List.Sums.{sum_by-le}
use Rattle.std.proofs.Math.Nat.{eq-or-lt_of_le}
use Rattle.part_cost.specs.Partition.{IsAllowed, partition_cost}
use Rattle.partition_path.specs.Tables.{Table, IsReached, AreRoutes, AreTried, IsSettled, StandCheap, cost_to, unreached}
use Rattle.partition_path.proofs.Near.{near-rest, singles}
use Rattle.partition_path.proofs.Offering.{same-cost, tried-none, later-routes}
use Rattle.partition_path.proofs.Windowing.{stand-cheaper}

-- All parts that start before place i are settled, with so many looks from each place.
pub record Searched (limit : ℕ) (cost : ℕ → ℕ → ℕ) (bounds : List ℕ) (looks n i before after : ℕ) (t : Table) (stands : List ℕ) : Type 0 where
  pub routes : AreRoutes limit cost n i t
  pub done : (r : ℕ) → r < i → IsReached t r → (e : ℕ) → r < e → e ≤ n → IsSettled limit cost t r e
  pub stand : StandCheap bounds n (cost_to t i) t stands
  pub counted : before ≤ after
  pub risen : after ≤ before + sum stands + (length bounds + looks) * i

-- a part that is settled stays so where places become cheaper, but for its start
settled-more : (limit : ℕ) (cost : ℕ → ℕ → ℕ) (t new : Table) (r e : ℕ) → ((j : ℕ) → cost_to new j ≤ cost_to t j) → cost_to new r ≡ cost_to t r → IsSettled limit cost t r e → IsSettled limit cost new r e
settled-more limit cost t new r e cheaper same settled allowed = elim (settled allowed) [
  | inl answered ↦ inl (omega (arith, answered, cheaper e, same))
  | inr later ↦ inr (record { start = later.start; after = later.after; before = later.before; cheap = omega (arith, later.cheap, cheaper later.start, same) })
]

module _ (limit : ℕ) (cost : ℕ → ℕ → ℕ) (bounds : List ℕ) (looks n i before middle : ℕ) (t : Table) (stands : List ℕ) (s : Searched limit cost bounds looks n i before middle t stands) (below : i < n) where
  -- one more place is done
  pub searched-next : (after : ℕ) (new : Table) (more : List ℕ) → AreTried limit cost n i t new → ((e : ℕ) → i < e → e ≤ n → IsSettled limit cost new i e) → StandCheap bounds n (cost_to t i) new more → middle ≤ after → after + sum stands ≤ middle + sum more + length bounds + looks → Searched limit cost bounds looks n (i + 1) before after new more
  searched-next after new more x here_done stand counted bounded =
      let here = same-cost t new i (x.same i (omega arith)) in
      let up = x.routes.rising i (i + 1) (omega arith) (omega (arith, below)) in
      record {
        routes = x.routes;
        done = λ r l reached e a w.
            let le : r ≤ i = omega (arith, l) in
            elim (eq-or-lt_of_le le) [
              | inl at ↦ subst (λ (y : ℕ). y < e → IsSettled limit cost new y e) (sym at) (λ b. here_done e b w) a
              | inr earlier ↦
                  let same = same-cost t new r (x.same r le) in
                  settled-more limit cost t new r e x.cheaper same (s.done r earlier (omega (arith, same, reached)) e a w)
            ];
        stand = stand-cheaper (cost_to new (i + 1)) new (omega (arith, here, up)) (λ j. omega arith) stand;
        counted = omega (arith, s.counted, counted);
        risen = omega (arith, s.risen, bounded);
      }

  -- where the next place costs no more: a longer part can begin there
  pub searched-passed : ((h i j k : ℕ) → h ≤ i → i < j → j ≤ k → k ≤ n → cost i j ≤ cost h k) → cost_to t (i + 1) ≤ cost_to t i → Searched limit cost bounds looks n (i + 1) before middle t stands
  searched-passed monotone flat = searched-next middle t stands (tried-none (later-routes s.routes)) passed s.stand (omega arith) (omega arith)
    where
      passed : (e : ℕ) → i < e → e ≤ n → IsSettled limit cost t i e
      passed e a w allowed = elim (cases_lt (i + 1) e) [
        | inl behind ↦ inr (record { start = i + 1; after = omega arith; before = behind; cheap = omega (arith, flat, monotone i (i + 1) e e (omega arith) behind (omega arith) w) })
        | inr at ↦ let next : e ≡ i + 1 = omega (arith, at, a) in inl (subst (λ (x : ℕ). 100 * cost_to t x ≤ 100 * cost_to t i + 103 * cost i x) (sym next) (omega (arith, flat)))
      ]

module _ (limit : ℕ) (cost : ℕ → ℕ → ℕ) (bounds : List ℕ) (looks n i before after : ℕ) (t : Table) (stands : List ℕ) (searched : Searched limit cost bounds looks n i before after t stands) (all : i ≡ n) where
  all-searched : Searched limit cost bounds looks n n before after t stands
  all-searched = subst (λ (x : ℕ). Searched limit cost bounds looks n x before after t stands) all searched

  module _ (monotone : (h i j k : ℕ) → h ≤ i → i < j → j ≤ k → k ≤ n → cost i j ≤ cost h k) (small : limit < 2 ^ 31) (few : n < 2 ^ 32) (single : (i : ℕ) → i < n → cost i (i + 1) ≤ limit) where
    near : (others : List ℕ) → IsAllowed limit cost n others → 100 * min unreached (cost_to t n) ≤ 103 * partition_cost cost others
    near others a =
        let found = near-rest limit cost n t monotone all-searched.done n 0 0 others (omega arith) (omega arith) (omega (arith, all-searched.routes.origin)) a.partition a.within in
        omega (arith, found)

    -- a route to the last place is known
    pub last-reached : IsReached t n
    last-reached =
        let one = singles limit cost n single n 0 (omega arith) in
        let most = mul-le limit n (2 ^ 31 - 1) (2 ^ 32 - 1) (omega (arith, small)) (omega (arith, few)) in
        omega (arith, near one.0 (record { partition = one.1; within = one.2 }), one.3, most)

    -- it costs at most 103/100 of each allowed partition
    pub last-near : (others : List ℕ) → IsAllowed limit cost n others → 100 * cost_to t n ≤ 103 * partition_cost cost others
    last-near others a = omega (arith, near others a, last-reached)

  -- two costs at most for each window and number, and one for each look
  pub few-costs : after ≤ before + (2 * length bounds + looks) * n
  few-costs =
      let each : All (λ p. p ≤ n) stands = All-from_get_or (λ p. p ≤ n) stands 0 (λ k l. all-searched.stand.within k (omega (arith, l, all-searched.stand.count))) in
      let most : sum stands ≤ length stands * n = sum_by-le (λ x. x) n stands each in
      let count : length stands * n ≡ length bounds * n = ap (λ (x : ℕ). x * n) all-searched.stand.count in
      omega (arith, all-searched.risen, most, count)
