use Rattle.std.proofs.Common.{suc, ◌<◌, ◌≤◌, inl, inr, drop, length, get_or, arith}
use Rattle.part_cost.specs.Formats.{numbers_of}
use Rattle.part_cost.specs.Partition.{IsPartitionFrom}
use Rattle.partition_path.proofs.Pieces.{allowed-more, kept-more, next-part}
use Rattle.partition_path.proofs.allowed.allowed_ends.Given as given
use Rattle.partition_path.proofs.allowed.allowed_ends.Goals as goal
use Rattle.partition_path.proofs.allowed.allowed_ends.Goals.{In-loop-k}

-- the next end is behind the place, and the rest are parts from there
next : (g : given.Over) (c : In-loop-k g) → (c.loop-k.start < get_or c.args.ends.now c.loop-k.k 0) × (get_or c.args.ends.now c.loop-k.k 0 ≤ g.C.SpanCost.count c.args.cost.now) × IsPartitionFrom (get_or c.args.ends.now c.loop-k.k 0) (g.C.SpanCost.count c.args.cost.now) (drop (suc c.loop-k.k) c.args.ends.now)
next g c = next-part c.loop-k.start (g.C.SpanCost.count c.args.cost.now) c.args.ends.now c.loop-k.k (omega (arith, c.loop-k-test.true, c.loop-k.auto.k-end)) c.loop-k.invariant.1

pub long_allowed-end-requires-clause-within : goal.long_allowed-end-requires-clause-within
long_allowed-end-requires-clause-within g c = (next g (goal.at.long_allowed-end-requires-clause-within g c).In-loop-k).1

pub returns-in_err-push-clause-bounded : goal.returns-in_err-push-clause-bounded
returns-in_err-push-clause-bounded g c =
    omega (arith, c.long_allowed-end.ensures.counted.1, c.long_allowed-end.ensures.part, c.loop-start.invariant.3, (next g (goal.at.returns-in_err-push-clause-bounded g c).In-loop-k).1)

pub loop-start-preserved : goal.loop-start-preserved
loop-start-preserved g c =
    let limit = (numbers_of (g.C.SpanCost.format_of c.args.cost.now)).limit in
    let cost = g.C.SpanCost.cost_of c.args.cost.now in
    let said = c.long_allowed-end.ensures in
    let below : c.loop-k.k < length c.args.ends.now = omega (arith, c.loop-k-test.true, c.loop-k.auto.k-end) in
    let before : c.loop-start.start < get_or c.args.ends.now c.loop-k.k 0 = omega (arith, c.loop-start-test.true) in (
      allowed-more (numbers_of (g.C.SpanCost.format_of c.args.cost.now)).limit (g.C.SpanCost.cost_of c.args.cost.now) c.loop-start.start c.long_allowed-end.result c.loop-start.allowed.items c.push.new.self.items c.loop-start.invariant.0 said.part.0 said.allowed c.in_ok-push.ensures.items,
      said.part.1,
      omega (arith, said.counted.0, c.loop-start.invariant.2),
      omega (arith, said.counted.1, said.part.0, c.loop-start.invariant.3),
      λ w. elim (c.loop-start.invariant.4 w) [
        | inl before_it ↦ inr (kept-more limit cost c.args.ends.now c.loop-start.allowed.items c.push.new.self.items c.loop-k.k c.loop-start.start c.long_allowed-end.result below before_it.1 said.whole c.in_ok-push.ensures.items)
        | inr done ↦ absurd (omega (arith, done.0, before))
      ],
    )

pub loop-start-init : goal.loop-start-init
loop-start-init g c =
    let n = next g (goal.at.loop-start-init g c).In-loop-k in (
      c.loop-k.invariant.0,
      omega (arith, n.0),
      c.loop-k.invariant.2,
      c.loop-k.invariant.3,
      λ w. inl (n.0, c.loop-k.invariant.4 w),
    )
