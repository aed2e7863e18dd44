use Rattle.std.proofs.Common.{◌≡◌, ◌∙◌, ◌-◌, ◌<◌, ◌≤◌, inl, inr, length, get_or, arith}
use Rattle.std.proofs.lemmas.Bool.{cases_lt}
use Rattle.std.proofs.lemmas.List.{get_or_read, length-set}
use Rattle.part_cost.specs.Formats.{numbers_of}
use Rattle.partition_path.specs.Joints.{IsAllowedCut}
use Rattle.partition_path.proofs.Shifting.{cut-at, shifted-at}
use Rattle.partition_path.proofs.joints.shift_ends.Given as given
use Rattle.partition_path.proofs.joints.shift_ends.Goals as goal
use Rattle.partition_path.proofs.joints.shift_ends.Goals.{After-index-in-loop-k}

-- the end is one of the list, and so is that before it
below : (g : given.Over) (c : After-index-in-loop-k g) → c.loop-k.k < length c.loop-k.ends.items
below g c = omega (arith, c.loop-k-test.true, c.len-k-end.ensures, c.loop-k.auto.k-end, c.loop-k.invariant.2)

cut-is : (g : given.Over) (c : After-index-in-loop-k g) → c.index.result.now ≡ get_or c.loop-k.ends.items (c.loop-k.k - 1) 0
cut-is g c = get_or_read c.loop-k.ends.items (c.loop-k.k - 1) c.index.result.now (omega (arith, below g c)) c.index.ensures 0

end-is : (g : given.Over) (c : After-index-in-loop-k g) → c.index-in-loop-k.result.now ≡ get_or c.loop-k.ends.items c.loop-k.k 0
end-is g c = get_or_read c.loop-k.ends.items c.loop-k.k c.index-in-loop-k.result.now (below g c) c.index-in-loop-k.ensures 0

-- which is an allowed cut
allowed : (g : given.Over) (c : After-index-in-loop-k g)
    → IsAllowedCut (numbers_of (g.C.SpanCost.format_of c.args.cost.now)).limit (g.C.SpanCost.cost_of c.args.cost.now) c.loop-k.start c.index-in-loop-k.result.now c.index.result.now × (c.index-in-loop-k.result.now ≤ g.C.SpanCost.count c.args.cost.now)
allowed g c =
    cut-at (numbers_of (g.C.SpanCost.format_of c.args.cost.now)).limit (g.C.SpanCost.cost_of c.args.cost.now) (g.C.SpanCost.count c.args.cost.now) c.loop-k.ends.items c.loop-k.k c.loop-k.start c.index.result.now c.index-in-loop-k.result.now c.loop-k.invariant.3 (below g c) c.loop-k.invariant.0 c.loop-k.invariant.4 (cut-is g c) (end-is g c)

pub shifted-cut-requires-clause-within : goal.shifted-cut-requires-clause-within
shifted-cut-requires-clause-within g c = (allowed g (goal.at.shifted-cut-requires-clause-within g c).After-index-in-loop-k).1

pub shifted-cut-requires-clause-cut : goal.shifted-cut-requires-clause-cut
shifted-cut-requires-clause-cut g c = (allowed g (goal.at.shifted-cut-requires-clause-cut g c).After-index-in-loop-k).0

pub loop-k-preserved : goal.loop-k-preserved
loop-k-preserved g c =
    let ends = c.loop-k.ends.items in
    let k = c.loop-k.k in
    let said = c.shifted-cut.ensures in
    let inside = below g (goal.at.loop-k-preserved g c).After-index-in-loop-k in
    let more = shifted-at _ _ _ ends k c.loop-k.start c.index.result.now c.index-in-loop-k.result.now c.shifted-cut.result c.loop-k.invariant.3 inside c.loop-k.invariant.0 c.loop-k.invariant.4
    (cut-is g (goal.at.loop-k-preserved g c).After-index-in-loop-k) (end-is g (goal.at.loop-k-preserved g c).After-index-in-loop-k) said.cut said.cheaper in
    (more.0, omega (arith, more.1, c.loop-k.invariant.1), length-set ends (k - 1) c.shifted-cut.result ∙ c.loop-k.invariant.2, omega arith, more.2, omega (arith, said.bounded, c.loop-k.invariant.5), omega (arith, said.counted, c.loop-k.invariant.6), (λ l. omega (arith, inside, length-set ends (k - 1) c.shifted-cut.result)))

pub returns-clause-bounded : goal.returns-clause-bounded
returns-clause-bounded g c =
    elim (cases_lt 1 c.loop-k.k) [
      | inl some ↦ omega (arith, c.loop-k.invariant.5, c.loop-k.invariant.7 some, c.loop-k.invariant.2)
      | inr none ↦ omega (arith, c.loop-k.invariant.5, none)
    ]
