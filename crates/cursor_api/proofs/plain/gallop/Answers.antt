use Rattle.std.proofs.Common.{◌≡◌, ℕ, ◌<◌, ◌≤◌, ◌+◌, ◌-◌, ◌*◌, ap, ltb, List, length, get_or, arith, rules, tests}
use Rattle.std.specs.List.{between}
use Rattle.std.proofs.lemmas.List.Sorted.{IsPartitionPoint-from_clause}
use Rattle.cursor_api.proofs.Places.{part-is_parted, part-finds}
use Rattle.cursor_api.proofs.plain.gallop.Goals as goal
use Rattle.cursor_api.proofs.plain.gallop.Goals.{then-loop-low-test+else-docs-low, else-loop-low-test}

pub returns : goal.returns
returns c =
    let docs : List ℕ = c.args.docs.now in
    let low : ℕ = c.loop-low.low in
    let high : ℕ = low + c.min.result in
    let d : ℕ = c.args.d in
    let least = c.min.ensures in
    let point = IsPartitionPoint-from_clause (λ y. ltb y d) (between low high docs) c.partition_point.result c.partition_point.ensures.partitioned (part-is_parted docs low high d c.requires.rising (omega arith)) (λ a r f k. search (rules, tests)) in
    let last : high < length docs → (low < high) × (d ≤ get_or docs (high - 1) 0) = elim c.loop-low-test.branch as (λ _. high < length docs → (low < high) × (d ≤ get_or docs (high - 1) 0)) [
      | then-loop-low-test+else-docs-low w ↦ λ inside. let e : high - 1 ≡ 2 * low = omega arith in (omega arith, omega (arith, w.if-docs-low.false, ap (λ i. get_or docs i 0) e))
      | else-loop-low-test w ↦ λ inside. absurd (omega (arith, w.loop-low-test.false))
    ] in
    part-finds docs low high d c.partition_point.result (omega arith) (omega arith) point c.partition_point.ensures.bound c.loop-low.invariant.passed last
