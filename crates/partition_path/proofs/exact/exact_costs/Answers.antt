use Rattle.std.proofs.Common.{◌≡◌, ◌∙◌, refl, sym, subst, ap, ℕ, Bool, ◌≤◌, ◌<◌, ◌+◌, ◌-◌, inl, inr, List, [], ◌∷◌, length, get_or, get_or-set_same, get_or-set_other, replicate, arith}
use Rattle.std.specs.Prelude.{slice_set}
use Rattle.std.proofs.lemmas.Bool.{cases_eq}
use Rattle.std.proofs.lemmas.List.{length-set, get_or-replicate}
use Rattle.part_cost.specs.Formats.{numbers_of}
use Rattle.partition_path.specs.Rests.{IsCheapestRest, cost_within}
use Rattle.partition_path.proofs.WholeCosts.{whole-is}
use Rattle.partition_path.proofs.LeastRests.{rest-none, cheapest-allowed, cheapest-of-all}
use Rattle.partition_path.proofs.exact.exact_costs.Given as given
use Rattle.partition_path.proofs.exact.exact_costs.Goals as goal
use Rattle.partition_path.proofs.exact.exact_costs.Goals.{After-index}

-- the first number, whatever stands for none
first : {x : ℕ} (xs : List ℕ) → 0 < length xs → x ≡ get_or xs 0 x → get_or xs 0 0 ≡ x
first [] some e = absurd (omega arith)
first (y ∷ xs) some e = sym e

-- a least cost by another name
known-as : (limited : Bool) (limit : ℕ) (cost : ℕ → ℕ → ℕ) (n i : ℕ) {x y : ℕ} → x ≡ y → IsCheapestRest limited limit cost n i x → IsCheapestRest limited limit cost n i y
known-as limited limit cost n i e h = subst (λ (x : ℕ). IsCheapestRest limited limit cost n i x) e h

-- with the least cost from place i on
known-set : (limited : Bool) (limit : ℕ) (cost : ℕ → ℕ → ℕ) (n : ℕ) (rests : List ℕ) (i j least : ℕ) → i < length rests → IsCheapestRest limited limit cost n i least
    → ((j ≡ i → ⊥) → IsCheapestRest limited limit cost n j (get_or rests j 0)) → IsCheapestRest limited limit cost n j (get_or (slice_set rests i least) j 0)
known-set limited limit cost n rests i j least within here there =
    elim (cases_eq j i) [
      | inl at ↦ subst (λ (x : ℕ). IsCheapestRest limited limit cost n x (get_or (slice_set rests i least) x 0)) (sym at)
          (known-as limited limit cost n i (sym (get_or-set_same rests i least 0 within)) here)
      | inr other ↦ known-as limited limit cost n j (sym (get_or-set_other rests i j least 0 other)) (there other)
    ]

pub costs_from-from-requires-clause-rests : goal.costs_from-from-requires-clause-rests
costs_from-from-requires-clause-rests g c j l b =
    known-as _ _ _ _ j (ap (λ (rs : List ℕ). get_or rs j 0) (sym c.deref.ensures.value)) (c.loop-taken.invariant.1 j (omega (arith, l, c.len-count.ensures, c.loop-taken-test.true)) b)

pub loop-taken-preserved : goal.loop-taken-preserved
loop-taken-preserved g c =
    let rests : List ℕ = c.loop-taken.rests.items in
    let h = c.loop-taken.invariant in
    let i : ℕ = c.len-count.result - 1 - c.loop-taken.taken in
    let least : ℕ = c.costs_from-from.result.least in
    let within : i < length rests = omega (arith, c.len-count.ensures, c.loop-taken-test.true, h.0) in
    let more : g.C.SpanCost.count c.args.cost.now - i ≡ c.loop-taken.taken + 1 = omega (arith, c.len-count.ensures, c.loop-taken-test.true) in
    let counted = c.costs_from-from.ensures.counted in
    let most : c.costs_from-from.new.steps ≤ c.loop-taken.steps + (c.loop-taken.taken + 1) = omega (arith, counted.1, more) in (
      length-set rests i least ∙ h.0,
      (λ j l b. known-set _ _ _ _ rests i j least within c.costs_from-from.ensures.cheapest (λ other. h.1 j (omega (arith, l, other, c.len-count.ensures, c.loop-taken-test.true)) b)),
      omega (arith, h.2, most),
      omega (arith, h.3, counted.0),
      (λ t b above. omega (arith, h.4 t b above, c.costs_from-from.ensures.none_behind t b above)),
      (λ none. absurd (omega (arith, none))),
      (λ some. let at : g.C.SpanCost.count c.args.cost.now - (c.loop-taken.taken + 1) ≡ i = omega (arith, c.len-count.ensures, c.loop-taken-test.true) in
          subst (λ (x : ℕ). c.costs_from-from.result.whole ≡ cost_within c.args.limited (numbers_of (g.C.SpanCost.format_of c.args.cost.now)).limit (g.C.SpanCost.cost_of c.args.cost.now x (g.C.SpanCost.count c.args.cost.now))) (sym at) c.costs_from-from.ensures.whole),
    )

pub loop-taken-init : goal.loop-taken-init
loop-taken-init g c =
    let zero : (j : ℕ) → j ≤ g.C.SpanCost.count c.args.cost.now → get_or c.in_ok-rests.rests.items j 0 ≡ 0 =
    (λ j b.
    let all : c.in_ok-rests.rests.items ≡ replicate (c.len-count.result + 1) 0 = c.in_ok-rests.ensures.items_if_clones_equal (λ y h. h) in
    ap (λ (xs : List ℕ). get_or xs j 0) all ∙ get_or-replicate {A = ℕ} (c.len-count.result + 1) j 0 0 (omega (arith, b, c.len-count.ensures))) in (
      omega (arith, c.in_ok-rests.ensures.len, c.len-count.ensures),
      (λ j l b. rest-none _ _ _ _ j (get_or c.in_ok-rests.rests.items j 0) (omega (arith, l, b)) (zero j b)),
      omega arith,
      omega arith,
      (λ t b above. omega arith),
      (λ none. refl),
      (λ some. absurd (omega (arith, some))),
    )

-- the least cost from place 0 on is known
known : (g : given.Over) (c : After-index g) → IsCheapestRest c.args.limited (numbers_of (g.C.SpanCost.format_of c.args.cost.now)).limit (g.C.SpanCost.cost_of c.args.cost.now) (g.C.SpanCost.count c.args.cost.now) 0 c.index.result.now
known g c =
    known-as _ _ _ _ 0 (first c.loop-taken.rests.items (omega (arith, c.loop-taken.invariant.0)) c.index.ensures)
    (c.loop-taken.invariant.1 0 (omega (arith, c.loop-taken-test.false, c.len-count.ensures, c.loop-taken.auto.taken-end)) (omega arith))

pub returns-clause-allowed : goal.returns-clause-allowed
returns-clause-allowed g c t = cheapest-allowed _ _ _ _ c.index.result.now t (known g (goal.at.returns-clause-allowed g c).After-index)

pub returns-clause-of_all : goal.returns-clause-of_all
returns-clause-of_all g c t = cheapest-of-all _ _ _ _ c.index.result.now t (known g (goal.at.returns-clause-of_all g c).After-index)

pub returns-clause-whole : goal.returns-clause-whole
returns-clause-whole g c =
    let n = g.C.SpanCost.count c.args.cost.now in
    let cost = g.C.SpanCost.cost_of c.args.cost.now in
    let limit : ℕ = (numbers_of (g.C.SpanCost.format_of c.args.cost.now)).limit in
    let all : c.loop-taken.taken ≡ n = omega (arith, c.loop-taken-test.false, c.len-count.ensures, c.loop-taken.auto.taken-end) in
    let first : n - c.loop-taken.taken ≡ 0 = omega (arith, all) in
    whole-is c.args.limited limit cost n c.loop-taken.whole
    (λ none. c.loop-taken.invariant.5 (omega (arith, all, none)))
    (λ some. subst (λ (x : ℕ). c.loop-taken.whole ≡ cost_within c.args.limited limit (cost x n)) first (c.loop-taken.invariant.6 (omega (arith, all, some))))
