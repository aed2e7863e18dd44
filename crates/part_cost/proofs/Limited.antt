-- That the limit costs little: any part can be cut into allowed ones for little more than it costs.
use Rattle.std.proofs.Common.{◌≡◌, subst, ℕ, zero, suc, ◌+◌, ◌-◌, ◌*◌, ◌^◌, ◌<◌, ◌≤◌, ◌⊎◌, inl, inr, List, [], ◌∷◌, length, arith}
use Rattle.std.specs.List.{All}
use Rattle.std.proofs.lemmas.Nat.{mul-le}
use Rattle.std.proofs.lemmas.Bool.{cases_lt, cases_eq}
use Rattle.collection_model.specs.FormatNumbers.{part_charge}
use Rattle.part_cost.specs.Payload.{widest_low}
use Rattle.part_cost.specs.Span.{payload_of_part, cost_of_part}
use Rattle.part_cost.specs.Partition.{IsPartitionFrom, IsPartition, cost_from, partition_cost, WithinLimitFrom, IsAllowed}
use Rattle.part_cost.specs.Laws.{PayloadsGrow, PartPayloadsAdd, EachIsAllowed, LimitCostsLittle, NearIsNearOfAll, CheapIsNearOfAll}
use Rattle.part_cost.proofs.Partitions.{ends-within}
use Rattle.part_cost.proofs.Parts.{parts-grow, single-is-allowed}
use Rattle.part_cost.proofs.Sums.{parts-add}

module _ (charge limit room : ℕ) (xs : List ℕ) (above : limit + 1 ≡ charge + room) (grow : PayloadsGrow xs) (add : PartPayloadsAdd xs) (single : EachIsAllowed charge limit xs) where
  -- the longest allowed part from place a that ends at or before place b: it ends there, or with one number more it has a great payload
  record Longest (a b : ℕ) : Type 0 where
    end : ℕ
    some : a < end
    within : end ≤ b
    allowed : cost_of_part charge xs a end ≤ limit
    longest : (end ≡ b) ⊎ (room ≤ payload_of_part xs a (end + 1))

  longest-from : (a b end d : ℕ) → end + d ≡ b → a < end → cost_of_part charge xs a end ≤ limit → Longest a b
  longest-from a b end zero e some allowed = record { end = end; some = some; within = omega (arith, e); allowed = allowed; longest = inl (omega (arith, e)) }
  longest-from a b end (suc d) e some allowed =
      elim (cases_lt limit (cost_of_part charge xs a (end + 1))) [
        | inl over ↦ record { end = end; some = some; within = omega (arith, e); allowed = allowed; longest = inr (omega (arith, over, above)) }
        | inr fits ↦ longest-from a b (end + 1) d (omega (arith, e)) (omega arith) fits
      ]

  longest : (a b : ℕ) → a < b → b ≤ length xs → Longest a b
  longest a b some fit = longest-from a b (a + 1) (b - (a + 1)) (omega arith) (omega arith) (single a (omega arith))

  -- Allowed parts from place a on, to the last place, where those from place b on are given: up to b they cost little more than one part.
  record Cut (a b : ℕ) (rest : List ℕ) : Type 0 where
    ends : List ℕ
    partition : IsPartitionFrom a (length xs) ends
    within : WithinLimitFrom limit (cost_of_part charge xs) a ends
    little : room * cost_from (cost_of_part charge xs) a ends ≤ (room + 2 * charge) * payload_of_part xs a b + room * charge + room * cost_from (cost_of_part charge xs) b rest

  module _ (b : ℕ) (rest : List ℕ) (partition : IsPartitionFrom b (length xs) rest) (within : WithinLimitFrom limit (cost_of_part charge xs) b rest) (fit : b ≤ length xs) where
    -- one part
    one-part : (a : ℕ) → a < b → cost_of_part charge xs a b ≤ limit → Cut a b rest
    one-part a some allowed = record { ends = b ∷ rest; partition = (some, partition); within = (allowed, within); little = omega arith }

    -- two parts, the first with a great payload once a number is added
    two-parts : (a c : ℕ) → a < c → c < b → room ≤ payload_of_part xs a (c + 1) → cost_of_part charge xs a c ≤ limit → cost_of_part charge xs c b ≤ limit → Cut a b rest
    two-parts a c ac cb great first second =
        let whole = grow a a (c + 1) b (omega arith) (omega arith) (omega arith) fit in
        let both = add a c b ac cb fit in
        let charges = mul-le (2 * charge) room (2 * charge) (payload_of_part xs a b) (omega arith) (omega (arith, great, whole)) in
        let payloads = mul-le room (payload_of_part xs a c + payload_of_part xs c b) room (payload_of_part xs a b) (omega arith) both in
        record {
          ends = c ∷ b ∷ rest;
          partition = (ac, (cb, partition));
          within = (first, (second, within));
          little = omega (arith, charges, payloads);
        }

    -- two parts and what follows them
    more-parts : (a c e : ℕ) → a < c → c < e → e < b → room ≤ payload_of_part xs a (c + 1) → cost_of_part charge xs a c ≤ limit → cost_of_part charge xs c e ≤ limit → Cut e b rest → Cut a b rest
    more-parts a c e ac ce eb great first second cut =
        let whole = grow a a (c + 1) e (omega arith) (omega arith) (omega arith) (omega (arith, fit)) in
        let both = add a c e ac ce (omega (arith, fit)) in
        let all = add a e b (omega arith) eb fit in
        let charges = mul-le (2 * charge) room (2 * charge) (payload_of_part xs a e) (omega arith) (omega (arith, great, whole)) in
        let payloads = mul-le room (payload_of_part xs a c + payload_of_part xs c e) room (payload_of_part xs a e) (omega arith) both in
        let sums = mul-le (room + 2 * charge) (payload_of_part xs a e + payload_of_part xs e b) (room + 2 * charge) (payload_of_part xs a b) (omega arith) all in
        record {
          ends = c ∷ e ∷ cut.ends;
          partition = (ac, (ce, cut.partition));
          within = (first, (second, cut.within));
          little = omega (arith, charges, payloads, sums, cut.little);
        }

    -- any part, cut into the longest allowed ones
    cut-part : (fuel a : ℕ) → b ≤ a + fuel → a < b → Cut a b rest
    cut-part zero a f some = absurd (omega (arith, f))
    cut-part (suc fuel) a f some =
        let first = longest a b some fit in
        elim first.longest [
          | inl last ↦ one-part a some (subst (λ (x : ℕ). cost_of_part charge xs a x ≤ limit) last first.allowed)
          | inr great ↦ elim (cases_lt first.end b) [
            | inr over ↦ one-part a some (let last : first.end ≡ b = omega (arith, over, first.within) in subst (λ (x : ℕ). cost_of_part charge xs a x ≤ limit) last first.allowed)
            | inl before ↦
                let second = longest first.end b before fit in
                elim (cases_lt second.end b) [
                  | inr over ↦ two-parts a first.end first.some before great first.allowed
                      (let last : second.end ≡ b = omega (arith, over, second.within) in subst (λ (x : ℕ). cost_of_part charge xs first.end x ≤ limit) last second.allowed)
                  | inl behind ↦ more-parts a first.end second.end first.some second.some behind great first.allowed second.allowed
                      (cut-part fuel second.end (omega (arith, f, first.some, second.some)) behind)
                ]
          ]
        ]

  -- allowed parts that cost little more than any parts from a place on
  record CutAll (i : ℕ) (ends : List ℕ) : Type 0 where
    others : List ℕ
    partition : IsPartitionFrom i (length xs) others
    within : WithinLimitFrom limit (cost_of_part charge xs) i others
    little : room * cost_from (cost_of_part charge xs) i others ≤ (room + 2 * charge) * cost_from (cost_of_part charge xs) i ends

  cut-all : (i : ℕ) (ends : List ℕ) → IsPartitionFrom i (length xs) ends → CutAll i ends
  cut-all i [] h = record { others = []; partition = h; within = tt; little = omega arith }
  cut-all i (end ∷ ends) h =
      let rest = cut-all end ends h.1 in
      let cut = cut-part end rest.others rest.partition rest.within (ends-within end (length xs) ends h.1) (end - i) i (omega (arith, h.0)) h.0 in
      record { others = cut.ends; partition = cut.partition; within = cut.within; little = omega (arith, rest.little, cut.little) }

-- nothing is cut into nothing
empty-cut : (charge limit : ℕ) (xs ends : List ℕ) → length xs ≡ 0 → IsPartition (length xs) ends
    → (others : List ℕ) × IsAllowed limit (cost_of_part charge xs) (length xs) others
    × ((limit + 1 - charge) * partition_cost (cost_of_part charge xs) others ≤ (limit + 1 + charge) * partition_cost (cost_of_part charge xs) ends)
empty-cut charge limit xs ends none h =
    let reached : 0 ≡ length xs = omega (arith, none) in
    ([], record { partition = reached; within = tt }, omega arith)

pub limit-costs-little : LimitCostsLittle
limit-costs-little charge limit xs up single ends h =
    elim (cases_eq (length xs) 0) [
      | inl none ↦ empty-cut charge limit xs ends none h
      | inr some ↦
          let first = single 0 (omega (arith, some)) in
          let above : limit + 1 ≡ charge + (limit + 1 - charge) = omega (arith, first) in
          let cut = cut-all charge limit (limit + 1 - charge) xs above (parts-grow xs up).0 (parts-add xs up) single 0 ends h in
          let wide : limit + 1 - charge + 2 * charge ≡ limit + 1 + charge = omega (arith, first) in (
            cut.others,
            record { partition = cut.partition; within = cut.within },
            subst (λ (x : ℕ). (limit + 1 - charge) * partition_cost (cost_of_part charge xs) cut.others ≤ x * partition_cost (cost_of_part charge xs) ends) wide cut.little,
          )
    ]

-- by how much a format's limit and the approximation together
near-of-all : (w v near others any : ℕ) → 0 < w → 1030 * v ≤ 1100 * w → 100 * near ≤ 103 * others → w * others ≤ v * any → 10 * near ≤ 11 * any
near-of-all w v near others any some ratio first second =
    elim (cases_lt (11 * any) (10 * near)) [
      | inr le ↦ le
      | inl lt ↦
          let a = mul-le w (100 * near) w (103 * others) (omega arith) first in
          let b = mul-le (1030 * v) any (1100 * w) any ratio (omega arith) in
          let c = mul-le w (11 * any + 1) w (10 * near) (omega arith) (omega (arith, lt)) in
          absurd (omega (arith, a, b, c, second, some))
    ]

pub cheap-is-near-of-all : CheapIsNearOfAll
cheap-is-near-of-all format room xs up below bits cheap others h =
    let wide : All (λ x. x < 2 ^ widest_low) xs = (λ k d lt. omega (arith, below k d lt, room.sums)) in
    let single = single-is-allowed (part_charge format) format.limit room.single xs up wide in
    let cut = limit-costs-little (part_charge format) format.limit xs up single others h in
    let costs = cost_of_part (part_charge format) xs in
    near-of-all (format.limit + 1 - part_charge format) (format.limit + 1 + part_charge format) bits (partition_cost costs cut.0) (partition_cost costs others)
    (omega (arith, room.single)) room.little (cheap cut.0 cut.1) cut.2

pub near-is-near-of-all : NearIsNearOfAll
near-is-near-of-all format room xs up below ends near = cheap-is-near-of-all format room xs up below (partition_cost (cost_of_part (part_charge format) xs) ends) near.near
