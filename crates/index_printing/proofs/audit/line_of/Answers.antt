use Rattle.std.proofs.Common.{sym, subst, ℕ, ◌<◌, List}
use Rattle.std.specs.List.{All}
use Rattle.std.specs.List.Sorted.{IsStrictlyIncreasing}
use Rattle.part_cost.specs.declared.formats.Format.{Format}
use Rattle.part_cost.specs.Formats.{numbers_of}
use Rattle.index_printing.proofs.Auditing.{sequence-fits}
use Rattle.index_printing.proofs.audit.line_of.Goals as goal

pub new-costs-requires-clause-rising : goal.new-costs-requires-clause-rising
new-costs-requires-clause-rising g c =
    let i = c.args.index.now in
    let fit = sequence-fits i (c.formats_have_room.ensures i.format) c.sequences_of_a_list_rise.ensures c.stands_for_a_collection.ensures.well_formed c.args.sequence.term c.requires.within c.args.sequence.which in
    subst IsStrictlyIncreasing (sym c.requires.values) fit.rising

pub new-costs-requires-clause-below : goal.new-costs-requires-clause-below
new-costs-requires-clause-below g c =
    let i = c.args.index.now in
    let fit = sequence-fits i (c.formats_have_room.ensures i.format) c.sequences_of_a_list_rise.ensures c.stands_for_a_collection.ensures.well_formed c.args.sequence.term c.requires.within c.args.sequence.which in
    let P : Format → List ℕ → Type 0 = λ f xs. All (λ x. x < (numbers_of f).most_sum) xs in
    subst (λ f. P f c.args.sequence.values.now) (sym c.format-format.ensures) (subst (P i.format) (sym c.requires.values) fit.below)
