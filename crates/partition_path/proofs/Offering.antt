-- Lemmas on tables in which a route is offered.
use Rattle.std.proofs.Common.{◌≡◌, refl, sym, ◌∙◌, ap, subst, ℕ, ◌+◌, ◌≤◌, ◌<◌, ◌⊎◌, inl, inr, arith}
use Rattle.std.proofs.lemmas.Bool.{cases_lt}
use Rattle.std.proofs.Math.Nat.{mul-le-mul_left}
use Rattle.partition_path.specs.declared.routes.Route.{Route}
use Rattle.partition_path.specs.Tables.{Table, IsSameAt, IsReached, HasLastPart, AreRoutes, IsOffered, AreTried, cost_to, start_to}

pub same-cost : (old new : Table) (j : ℕ) → IsSameAt old new j → cost_to new j ≡ cost_to old j
same-cost old new j e = ap (λ (r : Route). r.cost) e

pub same-start : (old new : Table) (j : ℕ) → IsSameAt old new j → start_to new j ≡ start_to old j
same-start old new j e = ap (λ (r : Route). r.start) e

module _ (start end total : ℕ) (old new : Table) (o : IsOffered start end total old new) where
  -- each route is kept or taken
  kept-or-taken : (j : ℕ) → IsSameAt old new j ⊎ ((o.cheap_to < j) × (j ≤ end))
  kept-or-taken j =
      elim (cases_lt o.cheap_to j) [
        | inl behind ↦ elim (cases_lt end j) [
          | inl past ↦ inl (o.kept j (inr past))
          | inr inside ↦ inr (behind, inside)
        ]
        | inr before ↦ inl (o.kept j (inl before))
      ]

  taken-cost : (j : ℕ) → o.cheap_to < j → j ≤ end → cost_to new j ≡ total
  taken-cost j behind inside = ap (λ (r : Route). r.cost) (o.taken j behind inside).1

  taken-start : (j : ℕ) → o.cheap_to < j → j ≤ end → start_to new j ≡ start
  taken-start j behind inside = ap (λ (r : Route). r.start) (o.taken j behind inside).1

  -- no place becomes dearer
  pub offered-cheaper : (j : ℕ) → cost_to new j ≤ cost_to old j
  offered-cheaper j =
      elim (kept-or-taken j) [
        | inl kept ↦ omega (arith, same-cost old new j kept)
        | inr taken ↦ omega (arith, taken-cost j taken.0 taken.1, (o.taken j taken.0 taken.1).0)
      ]

  -- and the end costs no more than the total
  pub offered-end : cost_to new end ≤ total
  offered-end =
      elim (cases_lt o.cheap_to end) [
        | inl behind ↦ omega (arith, taken-cost end behind (omega arith))
        | inr at ↦
            let same : o.cheap_to ≡ end = omega (arith, at, o.within) in
            let kept = same-cost old new end (o.kept end (inl at)) in
            omega (arith, kept, subst (λ (x : ℕ). cost_to old x ≤ total) same o.cheap)
      ]

  -- Places still cost no more than those behind them.
  offered-rising : (n : ℕ) → ((j k : ℕ) → j ≤ k → k ≤ n → cost_to old j ≤ cost_to old k) → (j k : ℕ) → j ≤ k → k ≤ n → cost_to new j ≤ cost_to new k
  offered-rising n rising j k l w =
      elim (kept-or-taken j) [
        | inl first ↦ elim (kept-or-taken k) [
          | inl second ↦ omega (arith, same-cost old new j first, same-cost old new k second, rising j k l w)
          | inr second ↦ elim (cases_lt o.cheap_to j) [
            | inl behind ↦ omega (arith, taken-cost j behind (omega (arith, l, second.1)), taken-cost k second.0 second.1)
            | inr before ↦ omega (arith, same-cost old new j first, taken-cost k second.0 second.1, rising j o.cheap_to before (omega (arith, second.0, w)), o.cheap)
          ]
        ]
        | inr first ↦ elim (kept-or-taken k) [
          | inl second ↦ omega (arith, taken-cost j first.0 first.1, same-cost old new k second, rising j k l w, (o.taken j first.0 first.1).0)
          | inr second ↦ omega (arith, taken-cost j first.0 first.1, taken-cost k second.0 second.1)
        ]
      ]

later-part : (limit : ℕ) (cost : ℕ → ℕ → ℕ) (i : ℕ) (t : Table) (j : ℕ) → HasLastPart limit cost i t j → HasLastPart limit cost (i + 1) t j
later-part limit cost i t j h = record { earlier = omega (arith, h.earlier); before = h.before; sum = h.sum; allowed = h.allowed }

-- what starts before a place starts before the next
pub later-routes : {limit : ℕ} {cost : ℕ → ℕ → ℕ} {n i : ℕ} {t : Table} → AreRoutes limit cost n i t → AreRoutes limit cost n (i + 1) t
later-routes {limit} {cost} {n} {i} {t} routes =
    record {
      places = routes.places;
      origin = routes.origin;
      rising = routes.rising;
      last = λ j some l r. later-part limit cost i t j (routes.last j some l r);
      small = routes.small;
    }

pub tried-none : {limit : ℕ} {cost : ℕ → ℕ → ℕ} {n i : ℕ} {t : Table} → AreRoutes limit cost n (i + 1) t → AreTried limit cost n i t t
tried-none routes = record { routes = routes; same = λ j l. refl; cheaper = λ j. omega arith }

pub tried-more : {limit : ℕ} {cost : ℕ → ℕ → ℕ} {n i : ℕ} {old middle new : Table} → AreTried limit cost n i old middle → AreTried limit cost n i middle new → AreTried limit cost n i old new
tried-more a b =
    record {
      routes = b.routes;
      same = λ j l. b.same j l ∙ a.same j l;
      cheaper = λ j. let first = a.cheaper j in let second = b.cheaper j in omega (arith, first, second);
    }

module _ (limit : ℕ) (cost : ℕ → ℕ → ℕ) (n i : ℕ) (old new : Table) (routes : AreRoutes limit cost n (i + 1) old) (reached : IsReached old i) (end total : ℕ) (behind : i < end) (within : end ≤ n) (allowed : cost i end ≤ limit) (sum : total ≡ cost_to old i + cost i end) (monotone : (h i j k : ℕ) → h ≤ i → i < j → j ≤ k → k ≤ n → cost i j ≤ cost h k) (o : IsOffered i end total old new) where
  before-same : (j : ℕ) → j ≤ i → IsSameAt old new j
  before-same j l = o.kept j (inl (omega (arith, l, o.after)))

  last-kept : (j : ℕ) → IsSameAt old new j → HasLastPart limit cost (i + 1) old j → HasLastPart limit cost (i + 1) new j
  last-kept j same h =
      let start = same-start old new j same in
      let at_start : cost_to new (start_to old j) ≡ cost_to old (start_to old j) = same-cost old new (start_to old j) (before-same (start_to old j) (omega (arith, h.earlier))) in
      let f : (start_to new j < i + 1) × (start_to new j < j) × (cost_to new (start_to new j) + cost (start_to new j) j ≤ cost_to new j) × (cost (start_to new j) j ≤ limit) = subst (λ (s : ℕ). (s < i + 1) × (s < j) × (cost_to new s + cost s j ≤ cost_to new j) × (cost s j ≤ limit)) (sym start) (h.earlier, h.before, omega (arith, h.sum, at_start, same-cost old new j same), h.allowed) in
      record { earlier = f.0; before = f.1; sum = f.2; allowed = f.3 }

  last-taken : (j : ℕ) → o.cheap_to < j → j ≤ end → HasLastPart limit cost (i + 1) new j
  last-taken j after inside =
      let start = taken-start i end total old new o j after inside in
      let price = taken-cost i end total old new o j after inside in
      let here = same-cost old new i (before-same i (omega arith)) in
      let some : i < j = omega (arith, after, o.after) in
      let less = monotone i i j end (omega arith) some inside within in
      let f : (start_to new j < i + 1) × (start_to new j < j) × (cost_to new (start_to new j) + cost (start_to new j) j ≤ cost_to new j) × (cost (start_to new j) j ≤ limit) = subst (λ (s : ℕ). (s < i + 1) × (s < j) × (cost_to new s + cost s j ≤ cost_to new j) × (cost s j ≤ limit)) (sym start) (omega arith, some, omega (arith, less, here, price, sum), omega (arith, less, allowed)) in
      record { earlier = f.0; before = f.1; sum = f.2; allowed = f.3 }

  -- The routes with a part from place i are routes, and only places behind it become cheaper.
  pub offered-tried : AreTried limit cost n i old new
  offered-tried =
      record {
        routes = record {
          places = omega (arith, o.places, routes.places);
          origin = omega (arith, same-cost old new 0 (before-same 0 (omega arith)), routes.origin);
          rising = offered-rising i end total old new o n routes.rising;
          last = λ j some l r.
              elim (kept-or-taken i end total old new o j) [
                | inl same ↦ last-kept j same (routes.last j some l (omega (arith, same-cost old new j same, r)))
                | inr taken ↦ last-taken j taken.0 taken.1
              ];
          small = λ j l r.
              elim (kept-or-taken i end total old new o j) [
                | inl same ↦ omega (arith, same-cost old new j same, routes.small j l (omega (arith, same-cost old new j same, r)))
                | inr taken ↦
                    let price = taken-cost i end total old new o j taken.0 taken.1 in
                    let first = routes.small i (omega (arith, behind, within)) reached in
                    let more : i + 1 ≤ j = omega (arith, taken.0, o.after) in
                    let grown = mul-le-mul_left limit more in
                    omega (arith, price, first, grown, allowed, sum)
              ];
        };
        same = before-same;
        cheaper = offered-cheaper i end total old new o;
      }
