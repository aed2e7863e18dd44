-- Where each number alone is allowed, there is a least cost of allowed partitions, and one of all.
use Rattle.std.proofs.Common.{◌≡◌, refl, sym, subst, ℕ, zero, suc, ◌+◌, ◌-◌, ◌<◌, ◌≤◌, ◌⊎◌, inl, inr, Bool, true, false, IsTrue, List, [], ◌∷◌, arith}
use Rattle.std.proofs.lemmas.Bool.{cases_lt}
use Rattle.part_cost.specs.Partition.{IsCheapest, IsCheapestOfAll, cost_from}
use Rattle.part_cost.proofs.Partitions.{ends-within}
use Rattle.partition_path.specs.Rests.{AreParts, IsCheapestRest}

-- a first part may be taken or not
may-or-not : (limited : Bool) (limit part : ℕ) → (IsTrue limited → part ≤ limit) ⊎ ((IsTrue limited → part ≤ limit) → ⊥)
may-or-not false limit part = inl (λ t. absurd cc)
may-or-not true limit part = elim (cases_lt limit part) [ inl above ↦ inr (λ m. omega (arith, m refl, above)) | inr fit ↦ inl (λ t. omega (arith, fit)) ]

module _ (limited : Bool) (limit : ℕ) (cost : ℕ → ℕ → ℕ) (n : ℕ) (single : (i : ℕ) → i < n → cost i (i + 1) ≤ limit) where
  abbrev Parts : ℕ → List ℕ → Type 0
  Parts i ends = AreParts limited limit cost n i ends

  abbrev Rest : ℕ → Type 0
  Rest i = (least : ℕ) × IsCheapestRest limited limit cost n i least

  -- the least cost of the parts from place i on of which the first ends before a place
  record Least (i end : ℕ) : Type 0 where
    least : ℕ
    reached : (ends : List ℕ) × Parts i ends × (cost_from cost i ends ≡ least)
    none_less : (j : ℕ) (ends : List ℕ) → j < end → Parts i (j ∷ ends) → least ≤ cost_from cost i (j ∷ ends)

  -- that part, and the least behind it
  with-rest : (i j : ℕ) → i < j → (IsTrue limited → cost i j ≤ limit) → (r : Rest j) → (ends : List ℕ) × Parts i ends × (cost_from cost i ends ≡ cost i j + r.0)
  with-rest i j some may r =
      let b = r.1.reached in
      (j ∷ b.0, record { partition = (some, b.1.partition); within = λ t. (may t, b.1.within t) }, omega (arith, b.2))

  over-rest : (i j : ℕ) (r : Rest j) (ends : List ℕ) → Parts i (j ∷ ends) → cost i j + r.0 ≤ cost_from cost i (j ∷ ends)
  over-rest i j r ends p = omega (arith, r.1.none_less ends (record { partition = p.partition.1; within = λ t. (p.within t).1 }))

  over-at : (i end j : ℕ) (r : Rest end) (ends : List ℕ) → j ≡ end → Parts i (j ∷ ends) → cost i end + r.0 ≤ cost_from cost i (j ∷ ends)
  over-at i end j r ends same p = let P : ℕ → Type 0 = λ x. Parts i (x ∷ ends) → cost i end + r.0 ≤ cost_from cost i (x ∷ ends) in subst P (sym same) (over-rest i end r ends) p

  first : (i : ℕ) → i < n → Rest (i + 1) → Least i (i + 2)
  first i some r = record {
    least = cost i (i + 1) + r.0;
    reached = with-rest i (i + 1) (omega arith) (λ t. single i some) r;
    none_less = λ j ends b p. over-at i (i + 1) j r ends (omega (arith, b, p.partition.0)) p;
  }

  more : (i end : ℕ) → i < end → Rest end → Least i end → Least i (end + 1)
  more i end some r l = elim (may-or-not limited limit (cost i end)) [
    | inl may ↦ elim (cases_lt l.least (cost i end + r.0)) [
      | inl less ↦ record {
        least = l.least;
        reached = l.reached;
        none_less = λ j ends b p. elim (cases_lt j end) [
          | inl before ↦ l.none_less j ends before p
          | inr at ↦ omega (arith, over-at i end j r ends (omega (arith, at, b)) p, less)
        ];
      }
      | inr greater ↦ record {
        least = cost i end + r.0;
        reached = with-rest i end some may r;
        none_less = λ j ends b p. elim (cases_lt j end) [
          | inl before ↦ omega (arith, l.none_less j ends before p, greater)
          | inr at ↦ over-at i end j r ends (omega (arith, at, b)) p
        ];
      }
    ]
    | inr over ↦ record {
      least = l.least;
      reached = l.reached;
      none_less = λ j ends b p. elim (cases_lt j end) [
        | inl before ↦ l.none_less j ends before p
        | inr at ↦ let M : ℕ → Type 0 = λ x. IsTrue limited → cost i x ≤ limit in absurd (over (subst M (omega (arith, at, b)) (λ t. (p.within t).0)))
      ];
    }
  ]

  up-to : (i k : ℕ) → i + 1 + k ≤ n → ((j : ℕ) → i < j → j ≤ n → Rest j) → Least i (i + 2 + k)
  up-to i zero fit known = subst (Least i) (omega arith) (first i (omega (arith, fit)) (known (i + 1) (omega arith) (omega (arith, fit))))
  up-to i (suc k) fit known = subst (Least i) (omega arith) (more i (i + 2 + k) (omega arith) (known (i + 2 + k) (omega arith) (omega (arith, fit))) (up-to i k (omega (arith, fit)) known))

  none-less : (i end : ℕ) (l : Least i end) → i < n → n < end → (ends : List ℕ) → Parts i ends → l.least ≤ cost_from cost i ends
  none-less i end l some all [] p = absurd (omega (arith, some, p.partition))
  none-less i end l some all (j ∷ ends) p = l.none_less j ends (omega (arith, ends-within j n ends p.partition.1, all)) p

  none-left : (i : ℕ) → n ≤ i → i ≤ n → Rest i
  none-left i all fit = (
    0,
    record {
      reached = ([], record { partition = omega (arith, all, fit); within = λ t. tt }, refl);
      none_less = λ ends p. omega arith;
    },
  )

  rests : (d i : ℕ) → n ≤ i + d → i ≤ n → Rest i
  rests zero i all fit = none-left i (omega (arith, all)) fit
  rests (suc d) i all fit = elim (cases_lt i n) [
    | inl some ↦
        let l = up-to i (n - (i + 1)) (omega (arith, some)) (λ j b e. rests d j (omega (arith, all, b)) e) in
        (l.least, record { reached = l.reached; none_less = none-less i (i + 2 + (n - (i + 1))) l some (omega (arith, some)) })
    | inr end ↦ none-left i (omega (arith, end)) fit
  ]

pub least-allowed : (limit : ℕ) (cost : ℕ → ℕ → ℕ) (n : ℕ) → ((i : ℕ) → i < n → cost i (i + 1) ≤ limit) → (least : ℕ) × IsCheapest limit cost n least
least-allowed limit cost n single =
    let h = rests true limit cost n single n 0 (omega arith) (omega arith) in
    let r = h.1.reached in (
      h.0,
      record {
        reached = (r.0, record { partition = r.1.partition; within = r.1.within refl }, r.2);
        none_less = λ ends a. h.1.none_less ends (record { partition = a.partition; within = λ t. a.within });
      },
    )

pub least-of-all : (limit : ℕ) (cost : ℕ → ℕ → ℕ) (n : ℕ) → ((i : ℕ) → i < n → cost i (i + 1) ≤ limit) → (least : ℕ) × IsCheapestOfAll cost n least
least-of-all limit cost n single =
    let h = rests false limit cost n single n 0 (omega arith) (omega arith) in
    let r = h.1.reached in (
      h.0,
      record {
        reached = (r.0, r.1.partition, r.2);
        none_less = λ ends p. h.1.none_less ends (record { partition = p; within = λ t. absurd cc });
      },
    )
