use Rattle.std.proofs.Common.{◌≡◌, ℕ, ◌<◌, subst, arith}
use Rattle.collection_model.specs.FormatNumbers.{part_charge}
use Rattle.part_cost.specs.Formats.{numbers_of}
use Rattle.part_cost.specs.declared.formats.Format.{Format}
use Rattle.partition_path.proofs.SinglePart.{single-near}
use Rattle.partition_path.proofs.whole.cost_as_one_part.Goals as goal

pub returns-then-total-charge-clause-near : goal.returns-then-total-charge-clause-near
returns-then-total-charge-clause-near g c =
    let format = g.C.SpanCost.format_of c.args.cost.now in
    let cost = g.C.SpanCost.cost_of c.args.cost.now in
    let n = g.C.SpanCost.count c.args.cost.now in
    let charge = part_charge (numbers_of format) in
    let some : 0 < n = omega (arith, c.if-count-eq0.false, c.len-count.ensures) in
    let asked : c.charge.result ≡ charge = subst (λ (f : Format). c.charge.result ≡ part_charge (numbers_of f)) c.format.ensures c.charge.ensures in
    let priced : c.cost-total.result ≡ cost 0 n = subst (λ (x : ℕ). c.cost-total.result ≡ cost 0 x) c.len-count.ensures c.cost-total.ensures.value in
    single-near (numbers_of format).limit charge cost n (g.met.C.SpanCost.at_least_charge c.args.cost.now) some (omega (arith, priced, asked, c.if-total-charge.true)) (omega (arith, (c.formats_have_room.ensures format).little))
