use Rattle.std.proofs.Common.{◌≡◌, ◌∙◌, ap, ℕ, ◌*◌, ◌≤◌, ◌<◌, ◌⊎◌, inr, List, [], ◌∷◌, length, arith}
use Rattle.std.proofs.lemmas.Result.{IfOk-weaker}
use Rattle.collection_model.specs.FormatNumbers.{part_charge}
use Rattle.part_cost.specs.Formats.{numbers_of}
use Rattle.part_cost.specs.Span.{cost_of_part, payload_of_part}
use Rattle.part_cost.specs.declared.formats.Format.{Format}
use Rattle.partition_path.specs.FoundCuts.{AreBelowWhole, FoundCuts, IsWhole}
use Rattle.partition_path.proofs.SinglePart.{whole-near}
use Rattle.partition_path.proofs.cuts.list_partition_or_whole.Goals as goal

pub returns-then-whole-charge-clause-either : goal.returns-then-whole-charge-clause-either
returns-then-whole-charge-clause-either g c =
    let xs : List ℕ = c.args.values.now in
    let format = numbers_of c.args.format in
    let list = c.new-cost.result in
    let count : c.len-count.result ≡ length xs = c.len-count.ensures ∙ ap (λ (v : List ℕ). length v) c.new-cost.ensures.values in
    let some : 0 < length xs = omega (arith, c.if-count-eq0.false, count) in
    let priced : c.cost-one_part.result ≡ cost_of_part (part_charge format) xs 0 (length xs) =
    c.cost-one_part.ensures.value ∙ ap (λ (f : Format). cost_of_part (part_charge (numbers_of f)) list.values.now 0 c.len-count.result) c.new-cost.ensures.format
    ∙ ap (λ (v : List ℕ). cost_of_part (part_charge format) v 0 c.len-count.result) c.new-cost.ensures.values ∙ ap (λ (n : ℕ). cost_of_part (part_charge format) xs 0 n) count in
    let cheap : payload_of_part xs 0 (length xs) ≤ 2 * part_charge format = omega (arith, c.if-whole-charge.true, priced, c.charge.ensures, c.charge-2.ensures) in
    IfOk-weaker c.of_one_part.result (λ cuts. cuts.ends ≡ length list.values.now ∷ []) (λ cuts. AreBelowWhole format xs cuts.ends ⊎ IsWhole format xs cuts.ends)
    (λ (cuts : FoundCuts) is. inr (whole-near format xs cuts.ends some cheap (is ∙ ap (λ (v : List ℕ). length v ∷ []) c.new-cost.ensures.values))) c.of_one_part.ensures.ends
