use Rattle.std.proofs.Common.{◌∙◌, ap, ◌+◌, ◌*◌, arith}
use Rattle.collection_model.specs.FormatNumbers.{part_charge}
use Rattle.part_cost.specs.Formats.{numbers_of}
use Rattle.index_printing.proofs.PartCosts.{parts-at_most, costs-are}
use Rattle.index_printing.proofs.generated_text.cost_of_lists.Goals as goal

pub overflow_add-parts : goal.overflow_add-parts
overflow_add-parts c =
    let counts = c.part_counts-counts.ensures in
    omega (arith, parts-at_most c.args.index.now, c.lists_cost_their_words.ensures, c.requires.few, counts.ones, counts.bitmaps)

pub overflow_add-parts-2 : goal.overflow_add-parts-2
overflow_add-parts-2 c =
    let counts = c.part_counts-counts.ensures in
    omega (arith, parts-at_most c.args.index.now, c.lists_cost_their_words.ensures, c.requires.few, counts.ones, counts.bitmaps, counts.efs)

pub overflow_mul-result : goal.overflow_mul-result
overflow_mul-result c =
    let charge = c.charge.ensures ∙ ap (λ f. part_charge (numbers_of f)) c.format.ensures in
    let counts = c.part_counts-counts.ensures in
    let is = costs-are c.args.index.now _ _ _ _ charge counts.ones counts.bitmaps counts.efs in
    omega (arith, is, c.lists_cost_their_words.ensures, c.requires.few)

pub overflow_add-result : goal.overflow_add-result
overflow_add-result c =
    let charge = c.charge.ensures ∙ ap (λ f. part_charge (numbers_of f)) c.format.ensures in
    let counts = c.part_counts-counts.ensures in
    let is = costs-are c.args.index.now _ _ _ _ charge counts.ones counts.bitmaps counts.efs in
    omega (arith, is, counts.bits, c.lists_cost_their_words.ensures, c.requires.few)

pub returns : goal.returns
returns c =
    let charge = c.charge.ensures ∙ ap (λ f. part_charge (numbers_of f)) c.format.ensures in
    let counts = c.part_counts-counts.ensures in
    let is = costs-are c.args.index.now _ _ _ _ charge counts.ones counts.bitmaps counts.efs in
    ap (λ n. n + c.charge.result * (c.part_counts-counts.result.ones_parts + c.part_counts-counts.result.bitmap_parts + c.part_counts-counts.result.ef_parts)) counts.bits ∙ is
