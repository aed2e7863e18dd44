-- Lemmas on the least cost of the parts from a place on.
use Rattle.std.proofs.Common.{◌≡◌, refl, sym, subst, ℕ, zero, suc, ◌+◌, ◌-◌, ◌*◌, ◌^◌, ◌<◌, ◌≤◌, inl, inr, Bool, true, false, not, IsTrue, List, [], ◌∷◌, get_or, arith}
use Rattle.std.proofs.lemmas.Bool.{cases_lt}
use Rattle.std.proofs.lemmas.Nat.{mul-le}
use Rattle.part_cost.specs.Partition.{IsCheapest, IsCheapestOfAll, cost_from}
use Rattle.part_cost.proofs.Partitions.{ends-within}
use Rattle.partition_path.specs.Rests.{AreParts, IsCheapestRest}

module _ (limited : Bool) (limit : ℕ) (cost : ℕ → ℕ → ℕ) (n : ℕ) where
  -- from the end on there are no parts
  pub rest-none : (i least : ℕ) → i ≡ n → least ≡ 0 → IsCheapestRest limited limit cost n i least
  rest-none i least end none = record {
    reached = ([], record { partition = end; within = λ t. tt }, sym none);
    none_less = λ ends parts. omega (arith, none);
  }

  -- a first part that ends here may be taken
  abbrev pub MayEnd : ℕ → ℕ → Type 0
  MayEnd i j = IsTrue limited → cost i j ≤ limit

  -- the least cost of the parts from place i on whose first ends before a place
  pub record IsLeastTo (rests : List ℕ) (i end least : ℕ) : Type 0 where
    pub reached : (j : ℕ) × (i < j) × (j < end) × MayEnd i j × (cost i j + get_or rests j 0 ≡ least)
    pub none_less : (j : ℕ) → i < j → j < end → MayEnd i j → least ≤ cost i j + get_or rests j 0

  pub least-first : (rests : List ℕ) (i end least : ℕ) → cost i (i + 1) ≤ limit → end ≡ i + 2 → least ≡ cost i (i + 1) + get_or rests (i + 1) 0 → IsLeastTo rests i end least
  least-first rests i end least one at is = record {
    reached = (i + 1, omega arith, omega (arith, at), (λ t. one), sym is);
    none_less = λ j l b m. let same : j ≡ i + 1 = omega (arith, at) in subst (λ (x : ℕ). least ≤ cost i x + get_or rests x 0) (sym same) (omega (arith, is));
  }

  pub least-kept : (rests : List ℕ) (i end least : ℕ) → IsLeastTo rests i end least → (MayEnd i end → least ≤ cost i end + get_or rests end 0) → IsLeastTo rests i (end + 1) least
  least-kept rests i end least h over =
      record {
        reached = (h.reached.0, h.reached.1, omega (arith, h.reached.2), h.reached.3, h.reached.4);
        none_less = λ j l b m. elim (cases_lt j end) [
          | inl before ↦ h.none_less j l before m
          | inr at ↦ let same : j ≡ end = omega (arith, at, b) in subst (λ (x : ℕ). MayEnd i x → least ≤ cost i x + get_or rests x 0) (sym same) over m
        ];
      }

  pub least-taken : (rests : List ℕ) (i end least : ℕ) → i < end → IsLeastTo rests i end least → MayEnd i end → cost i end + get_or rests end 0 ≤ least → IsLeastTo rests i (end + 1) (cost i end + get_or rests end 0)
  least-taken rests i end least some h may less =
      record {
        reached = (end, some, omega arith, may, refl);
        none_less = λ j l b m. elim (cases_lt j end) [
          | inl before ↦ omega (arith, h.none_less j l before m, less)
          | inr at ↦ let same : j ≡ end = omega (arith, at, b) in subst (λ (x : ℕ). cost i end + get_or rests end 0 ≤ cost i x + get_or rests x 0) (sym same) (omega arith)
        ];
      }

  -- behind a first part that may not end, where costs grow, none may
  pub least-behind : (rests : List ℕ) (i end least : ℕ) → i < end → end ≤ n → (MayEnd i end → ⊥) → ((j : ℕ) → end ≤ j → j ≤ n → cost i end ≤ cost i j)
      → IsLeastTo rests i end least → IsLeastTo rests i (n + 1) least
  least-behind rests i end least some fit over grow h =
      record {
        reached = (h.reached.0, h.reached.1, omega (arith, h.reached.2, fit), h.reached.3, h.reached.4);
        none_less = λ j l b m. elim (cases_lt j end) [
          | inl before ↦ h.none_less j l before m
          | inr behind ↦ absurd (over (λ t. omega (arith, m t, grow j (omega (arith, behind)) (omega (arith, b)))))
        ];
      }

  -- where all first parts are tried, and the rest behind each is known, so is that from place i on
  module _ (rests : List ℕ) (i least : ℕ) (some : i < n) (known : (j : ℕ) → i < j → j ≤ n → IsCheapestRest limited limit cost n j (get_or rests j 0)) (h : IsLeastTo rests i (n + 1) least) where
    reached-rest : (ends : List ℕ) × AreParts limited limit cost n i ends × (cost_from cost i ends ≡ least)
    reached-rest =
        let r = h.reached in
        let rest = known r.0 r.1 (omega (arith, r.2)) in
        let b = rest.reached in
        (r.0 ∷ b.0, record { partition = (r.1, b.1.partition); within = λ t. (r.3 t, b.1.within t) }, omega (arith, b.2, r.4))

    none-less : (ends : List ℕ) → AreParts limited limit cost n i ends → least ≤ cost_from cost i ends
    none-less [] parts = absurd (omega (arith, some, parts.partition))
    none-less (end ∷ ends) parts =
        let fit = ends-within end n ends parts.partition.1 in
        let first = h.none_less end parts.partition.0 (omega (arith, fit)) (λ t. (parts.within t).0) in
        let rest = (known end parts.partition.0 fit).none_less ends (record { partition = parts.partition.1; within = λ t. (parts.within t).1 }) in
        omega (arith, first, rest)

    pub cheapest-rest : IsCheapestRest limited limit cost n i least
    cheapest-rest = record { reached = reached-rest; none_less = none-less }

  -- parts of one number each cost at most the limit each
  record Singles (i d : ℕ) : Type 0 where
    ends : List ℕ
    parts : AreParts limited limit cost n i ends
    small : cost_from cost i ends ≤ limit * d

  module _ (single : (i : ℕ) → i < n → cost i (i + 1) ≤ limit) where
    singles : (i d : ℕ) → i + d ≡ n → Singles i d
    singles i zero e = record { ends = []; parts = record { partition = omega (arith, e); within = λ t. tt }; small = omega arith }
    singles i (suc d) e =
        let rest = singles (i + 1) d (omega (arith, e)) in
        let one = single i (omega (arith, e)) in
        record {
          ends = (i + 1) ∷ rest.ends;
          parts = record { partition = (omega arith, rest.parts.partition); within = λ t. (one, rest.parts.within t) };
          small = omega (arith, one, rest.small);
        }

    -- so the least cost is no large number
    pub rest-small : (i least : ℕ) → i ≤ n → IsCheapestRest limited limit cost n i least → least ≤ limit * (n - i)
    rest-small i least fit h =
        let s = singles i (n - i) (omega (arith, fit)) in
        omega (arith, h.none_less s.ends s.parts, s.small)

    -- with one number more it is still none
    pub room-for-rest : (i first rest : ℕ) → limit < 2 ^ 32 → n < 2 ^ 32 → i < n → first ≤ limit → IsCheapestRest limited limit cost n (i + 1) rest → first + rest < 2 ^ 64
    room-for-rest i first rest low few some one h =
        let small = rest-small (i + 1) rest (omega (arith, some)) h in
        let all = mul-le limit (n - i) limit n (omega arith) (omega arith) in
        let wide = mul-le limit n (2 ^ 32) (2 ^ 32 - 1) (omega (arith, low)) (omega (arith, few)) in
        let split : limit * (n - (i + 1)) + limit ≡ limit * (n - i) = (let d : n - i ≡ n - (i + 1) + 1 = omega (arith, some) in rw d (omega arith)) in
        omega (arith, small, one, all, wide, split)

-- from the first place on, these are the allowed partitions, or all
pub cheapest-allowed : (limited : Bool) (limit : ℕ) (cost : ℕ → ℕ → ℕ) (n least : ℕ) → IsTrue limited → IsCheapestRest limited limit cost n 0 least → IsCheapest limit cost n least
cheapest-allowed limited limit cost n least t h = record {
  reached = let r = h.reached in (r.0, record { partition = r.1.partition; within = r.1.within t }, r.2);
  none_less = λ ends a. h.none_less ends (record { partition = a.partition; within = λ u. a.within });
}

pub cheapest-of-all : (limited : Bool) (limit : ℕ) (cost : ℕ → ℕ → ℕ) (n least : ℕ) → IsTrue (not limited) → IsCheapestRest limited limit cost n 0 least → IsCheapestOfAll cost n least
cheapest-of-all true limit cost n least t h = absurd cc
cheapest-of-all false limit cost n least t h = record {
  reached = let r = h.reached in (r.0, r.1.partition, r.2);
  none_less = λ ends p. h.none_less ends (record { partition = p; within = λ u. absurd cc });
}

-- all rests from a place on are known
abbrev pub AreKnown : (limited : Bool) (limit : ℕ) (cost : ℕ → ℕ → ℕ) (n from : ℕ) → List ℕ → Type 0
AreKnown limited limit cost n from rests = (j : ℕ) → from ≤ j → j ≤ n → IsCheapestRest limited limit cost n j (get_or rests j 0)
