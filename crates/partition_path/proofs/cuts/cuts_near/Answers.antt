use Rattle.std.proofs.Common.{◌≡◌, sym, subst, ℕ, ◌-◌, ◌*◌, ◌^◌, ◌<◌, ◌≤◌, List, arith}
use Rattle.std.proofs.lemmas.Grind.{common_steps}
use Rattle.std.proofs.lemmas.Nat.{mul-le}
use Rattle.part_cost.specs.Formats.{numbers_of}
use Rattle.part_cost.specs.Partition.{partition_cost}
use Rattle.partition_path.proofs.Pieces.{few-bits}
use Rattle.partition_path.proofs.Shifting.{few-parts, limit-is-small}
use Rattle.partition_path.proofs.cuts.cuts_near.Goals as goal

pub total_cost-total-requires-clause-room : goal.total_cost-total-requires-clause-room
total_cost-total-requires-clause-room g c =
    let format = g.C.SpanCost.format_of c.args.cost.now in
    let n = g.C.SpanCost.count c.args.cost.now in
    let cost = g.C.SpanCost.cost_of c.args.cost.now in
    let allowed = c.shift_ends.ensures.allowed in
    let few = g.met.C.SpanCost.few c.args.cost.now in
    let all : n - 0 ≡ n = omega arith in
    let bits : partition_cost cost c.shift_ends.new.ends.items ≤ (numbers_of format).limit * n = subst (λ (x : ℕ). partition_cost cost c.shift_ends.new.ends.items ≤ (numbers_of format).limit * x) all (few-bits (numbers_of format).limit cost 0 n c.shift_ends.new.ends.items allowed.partition allowed.within) in
    let most = mul-le (numbers_of format).limit n 6144 (2 ^ 32 - 1) (limit-is-small format) (omega (arith, few)) in
    let room : partition_cost cost c.shift_ends.new.ends.items < 2 ^ 64 = omega (arith, bits, most) in
    let same : c.deref.result.now ≡ c.shift_ends.new.ends.items = grind (arith, common_steps) in
    subst (λ (x : List ℕ). partition_cost cost x < 2 ^ 64) (sym same) room

pub returns-clause-bounded : goal.returns-clause-bounded
returns-clause-bounded g c =
    let format = g.C.SpanCost.format_of c.args.cost.now in
    let n = g.C.SpanCost.count c.args.cost.now in
    let shifted = c.shift_ends.ensures in
    let few = few-parts (numbers_of format).limit (g.C.SpanCost.cost_of c.args.cost.now) n 0 c.shift_ends.new.ends.items shifted.allowed.partition in
    omega (arith, few, shifted.bounded, shifted.count, c.total_cost-total.ensures.counted)
