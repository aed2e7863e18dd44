use Rattle.std.proofs.Common.{◌≡◌, ◌∙◌, sym, subst, ap, ℕ, ◌≤◌, ◌<◌, ◌+◌, ◌-◌, ◌^◌, inl, inr, IsTrue, get_or, rules, arith}
use Rattle.std.proofs.lemmas.Bool.{cases_lt}
use Rattle.part_cost.specs.Formats.{numbers_of}
use Rattle.partition_path.specs.Rests.{LongPartsAreAbove}
use Rattle.partition_path.proofs.WholeCosts.{taken-within, none-above}
use Rattle.partition_path.proofs.LeastRests.{IsLeastTo, MayEnd, least-first, least-kept, least-taken, least-behind, cheapest-rest, room-for-rest}
use Rattle.partition_path.proofs.exact.costs_from.Goals.{else-limited-via-then-limited+else-part-limit, else-limited-via-else-limited}
use Rattle.partition_path.proofs.exact.costs_from.Given as given
use Rattle.partition_path.proofs.exact.costs_from.Goals as goal
use Rattle.partition_path.proofs.exact.costs_from.Goals.{After-cost-last, After-limit-limit}

-- where the last part that was taken is within the limit, and longer ones are not, no more than b costs were counted
counted-by : (limit : ℕ) (cost : ℕ → ℕ → ℕ) (n i b end before after : ℕ) → LongPartsAreAbove limit cost n b → i + 2 ≤ end → end ≤ n + 1
    → cost i (end - 1) ≤ limit → after + 1 + i ≡ before + end → after ≤ before + b
counted-by limit cost n i b end before after above some fit within counted = elim (cases_lt (i + b) (end - 1)) [
  | inl longer ↦ absurd (omega (arith, above i (end - 1) longer (omega (arith, fit)), within))
  | inr short ↦ omega (arith, short, counted, some)
]

-- a part of one number and the rest behind it have room
room : (g : given.Over) (c : After-cost-last g) → c.cost-last.result + get_or c.args.rests.now (c.args.i + 1) 0 < 2 ^ 64
room g c =
    let format = g.C.SpanCost.format_of c.args.cost.now in
    let laws = g.met.C.SpanCost in
    let one = laws.one_within_limit c.args.cost.now c.args.i c.requires.within in
    room-for-rest c.args.limited (numbers_of format).limit (g.C.SpanCost.cost_of c.args.cost.now) (g.C.SpanCost.count c.args.cost.now) (laws.one_within_limit c.args.cost.now) c.args.i c.cost-last.result (get_or c.args.rests.now (c.args.i + 1) 0)
    (c.formats_have_room.ensures format).small (laws.few c.args.cost.now) c.requires.within (omega (arith, c.cost-last.ensures.value, one)) (c.requires.rests (c.args.i + 1) (omega arith) (omega (arith, c.requires.within)))

pub overflow_add-least-2 : goal.overflow_add-least-2
overflow_add-least-2 g c = omega (arith, room g (goal.at.overflow_add-least-2 g c).After-cost-last)

pub loop-end-init : goal.loop-end-init
loop-end-init g c =
    let one = g.met.C.SpanCost.one_within_limit c.args.cost.now c.args.i c.requires.within in (
      least-first c.args.limited (numbers_of (g.C.SpanCost.format_of c.args.cost.now)).limit (g.C.SpanCost.cost_of c.args.cost.now) (g.C.SpanCost.count c.args.cost.now) c.args.rests.now c.args.i (c.args.i + 2) (c.cost-last.result + get_or c.args.rests.now (c.args.i + 1) 0) one (omega arith) (omega (arith, c.cost-last.ensures.value)),
      omega (arith, c.cost-last.ensures.step),
      omega (arith, room g (goal.at.loop-end-init g c).After-cost-last),
      (λ t. let e : c.args.i + 2 - 1 ≡ c.args.i + 1 = omega arith in subst (λ (x : ℕ). g.C.SpanCost.cost_of c.args.cost.now c.args.i x ≤ (numbers_of (g.C.SpanCost.format_of c.args.cost.now)).limit) (sym e) one),
      (let e : c.args.i + 2 - 1 ≡ c.args.i + 1 = omega arith in subst (λ (x : ℕ). c.cost-last.result ≡ g.C.SpanCost.cost_of c.args.cost.now c.args.i x) (sym e) c.cost-last.ensures.value),
    )

-- the limit of the costs' format
limit-is : (g : given.Over) (c : After-limit-limit g) → c.limit-limit.result ≡ (numbers_of (g.C.SpanCost.format_of c.args.cost.now)).limit
limit-is g c = c.limit-limit.ensures ∙ ap (λ f. (numbers_of f).limit) c.format.ensures

pub loop-end-preserved : goal.loop-end-preserved
loop-end-preserved g c =
    let limit : ℕ = (numbers_of (g.C.SpanCost.format_of c.args.cost.now)).limit in
    let cost = g.C.SpanCost.cost_of c.args.cost.now in
    let n = g.C.SpanCost.count c.args.cost.now in
    let rests = c.args.rests.now in
    let i = c.args.i in
    let end = c.loop-end.end in
    let least = c.loop-end.least in
    let h = c.loop-end.invariant in
    let counted : c.cost-part.new.steps + 1 + i ≡ c.args.steps.now + (end + 1) = omega (arith, h.1, c.cost-part.ensures.step) in
    let may : MayEnd c.args.limited limit cost n i end = elim c.else-limited.branch [
      | else-limited-via-then-limited+else-part-limit w ↦ λ t. omega (arith, w.if-part-limit.false, c.cost-part.ensures.value, limit-is g (goal.at.loop-end-preserved g c).After-limit-limit)
      | else-limited-via-else-limited w ↦ λ t. absurd (search (t, w.if-limited.false, rules))
    ] in
    let last : IsTrue c.args.limited → cost i (end + 1 - 1) ≤ limit = (λ t. let e : end + 1 - 1 ≡ end = omega arith in subst (λ (x : ℕ). cost i x ≤ limit) (sym e) (may t)) in
    let taken : c.cost-part.result ≡ cost i (end + 1 - 1) = (let e : end + 1 - 1 ≡ end = omega arith in subst (λ (x : ℕ). c.cost-part.result ≡ cost i x) (sym e) c.cost-part.ensures.value) in
    let sum : ℕ = cost i end + get_or rests end 0 in
    elim (cases_lt least sum) [
      | inl more ↦
          let is : c.min-least.result ≡ least = omega (arith, c.min-least.ensures, c.saturating_add.ensures, c.cost-part.ensures.value, h.2, more) in
          rw is (least-kept c.args.limited limit cost n rests i end least h.0 (λ m. omega (arith, more)), counted, h.2, last, taken)
      | inr less ↦
          let is : c.min-least.result ≡ sum = omega (arith, c.min-least.ensures, c.saturating_add.ensures, c.cost-part.ensures.value, h.2, less) in
          rw is (least-taken c.args.limited limit cost n rests i end least (omega (arith, c.loop-end.auto.end)) h.0 may less, counted, omega (arith, less, h.2), last, taken)
    ]

pub returns-clause-cheapest : goal.returns-clause-cheapest
returns-clause-cheapest g c =
    let last : c.loop-end.end ≡ g.C.SpanCost.count c.args.cost.now + 1 = omega (arith, c.loop-end-test.false, c.loop-end.auto.end-end, c.len-end-end.ensures, c.requires.within) in
    let all = subst (λ (x : ℕ). IsLeastTo c.args.limited (numbers_of (g.C.SpanCost.format_of c.args.cost.now)).limit (g.C.SpanCost.cost_of c.args.cost.now) (g.C.SpanCost.count c.args.cost.now) c.args.rests.now c.args.i x c.loop-end.least) last c.loop-end.invariant.0 in
    cheapest-rest _ _ _ _ c.args.rests.now c.args.i c.loop-end.least c.requires.within c.requires.rests all

pub returns-then-part-limit-clause-cheapest : goal.returns-then-part-limit-clause-cheapest
returns-then-part-limit-clause-cheapest g c =
    let end = c.loop-end.end in
    let some : c.args.i < end = omega (arith, c.loop-end.auto.end) in
    let fit : end ≤ g.C.SpanCost.count c.args.cost.now = omega (arith, c.loop-end-test.true, c.loop-end.auto.end-end, c.len-end-end.ensures) in
    let over : MayEnd c.args.limited (numbers_of (g.C.SpanCost.format_of c.args.cost.now)).limit (g.C.SpanCost.cost_of c.args.cost.now) (g.C.SpanCost.count c.args.cost.now) c.args.i end → ⊥ =
    λ m. omega (arith, m (search (c.if-limited.true, rules)), c.if-part-limit.true, c.cost-part.ensures.value, limit-is g (goal.at.returns-then-part-limit-clause-cheapest g c).After-limit-limit) in
    let all = least-behind _ _ _ _ c.args.rests.now c.args.i end c.loop-end.least some fit over (λ j l b. g.met.C.SpanCost.monotone c.args.cost.now c.args.i c.args.i end j (omega arith) some l b) c.loop-end.invariant.0 in
    cheapest-rest _ _ _ _ c.args.rests.now c.args.i c.loop-end.least c.requires.within c.requires.rests all

pub returns-clause-none_behind : goal.returns-clause-none_behind
returns-clause-none_behind g c t b above = omega (
  arith,
  counted-by _ _ _ c.args.i b c.loop-end.end c.args.steps.now c.loop-end.steps above (omega (arith, c.loop-end.auto.end))
      (omega (arith, c.loop-end-test.false, c.loop-end.auto.end-end, c.len-end-end.ensures, c.requires.within)) (c.loop-end.invariant.3 t) c.loop-end.invariant.1,
)

pub returns-then-part-limit-clause-none_behind : goal.returns-then-part-limit-clause-none_behind
returns-then-part-limit-clause-none_behind g c t b above =
    omega (
      arith,
      counted-by _ _ _ c.args.i b c.loop-end.end c.args.steps.now c.loop-end.steps above (omega (arith, c.loop-end.auto.end))
          (omega (arith, c.loop-end-test.true, c.loop-end.auto.end-end, c.len-end-end.ensures)) (c.loop-end.invariant.3 t) c.loop-end.invariant.1,
      c.cost-part.ensures.step,
    )

pub returns-clause-whole : goal.returns-clause-whole
returns-clause-whole g c =
    let cost = g.C.SpanCost.cost_of c.args.cost.now in
    let n = g.C.SpanCost.count c.args.cost.now in
    let at : c.loop-end.end - 1 ≡ n = omega (arith, c.loop-end-test.false, c.loop-end.auto.end-end, c.len-end-end.ensures, c.requires.within) in
    let limit : ℕ = (numbers_of (g.C.SpanCost.format_of c.args.cost.now)).limit in
    taken-within c.args.limited limit (cost c.args.i n) c.loop-end.last
    (subst (λ (x : ℕ). c.loop-end.last ≡ cost c.args.i x) at c.loop-end.invariant.4)
    (λ t. subst (λ (x : ℕ). cost c.args.i x ≤ limit) at (c.loop-end.invariant.3 t))

pub returns-then-part-limit-clause-whole : goal.returns-then-part-limit-clause-whole
returns-then-part-limit-clause-whole g c =
    let end = c.loop-end.end in
    let n = g.C.SpanCost.count c.args.cost.now in
    let some : c.args.i < end = omega (arith, c.loop-end.auto.end) in
    let fit : end ≤ n = omega (arith, c.loop-end-test.true, c.loop-end.auto.end-end, c.len-end-end.ensures) in
    let grow = g.met.C.SpanCost.monotone c.args.cost.now c.args.i c.args.i end n (omega arith) some fit (omega arith) in
    none-above c.args.limited _ _ (search (c.if-limited.true, rules))
    (omega (arith, grow, c.if-part-limit.true, c.cost-part.ensures.value, limit-is g (goal.at.returns-then-part-limit-clause-whole g c).After-limit-limit))
