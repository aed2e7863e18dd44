use Rattle.std.proofs.Common.{◌≡◌, sym, ap, subst, rules, arith, ℕ, List, [], ◌∷◌, length, Result, Err}
use Rattle.std.proofs.lemmas.Result.{err_from_is_err_and}
use Rattle.part_cost.specs.declared.kinds.Which.TheVariants.{Docs, Freqs}
use Rattle.part_cost.specs.Formats.{numbers_of}
use Rattle.io_traits.specs.declared.fail.IoFail.{IoFail}
use Rattle.io_traits.specs.declared.fail.IoFail.TheVariants.{NoMemory}
use Rattle.index_file.specs.IndexView.{cut_list_at}
use Rattle.command_model.specs.AuditText.{cut_sequence}
use Rattle.index_printing.specs.PrintAudit.{PrintsLines}
use Rattle.index_printing.proofs.Auditing.{sequence-has, values-count, none-made, first-refused, second-printed}
use Rattle.index_printing.proofs.audit.print_lines.Goals as goal

pub returns-in_err-docs : goal.returns-in_err-docs
returns-in_err-docs g c =
    let i = c.args.index.now in
    let cut = cut_list_at i c.args.term in
    let has = sequence-has i (c.formats_have_room.ensures i.format) c.sequences_of_a_list_rise.ensures c.single_is_allowed.ensures.allowed c.least_stored.ensures c.stands_for_a_collection.ensures.well_formed c.args.term c.requires.within in
    let is : c.from_residual.result ≡ Err NoMemory = search rules in
    let P : Result (Unit {0}) IoFail → Type 0 = λ r. PrintsLines (numbers_of i.format) (cut_sequence c.args.term Docs cut ∷ cut_sequence c.args.term Freqs cut ∷ [])
    (g.O.Sink.state c.args.out.now) (g.O.Sink.state c.args.out.now) c.args.steps.now c.args.steps.now r in
    subst P (sym is) (none-made (numbers_of i.format) (cut_sequence c.args.term Docs cut) (cut_sequence c.args.term Freqs cut) _ _ (has Docs) (has Freqs))

pub returns-in_err-print_line : goal.returns-in_err-print_line
returns-in_err-print_line g c =
    let i = c.args.index.now in
    let cut = cut_list_at i c.args.term in
    let has = sequence-has i (c.formats_have_room.ensures i.format) c.sequences_of_a_list_rise.ensures c.single_is_allowed.ensures.allowed c.least_stored.ensures c.stands_for_a_collection.ensures.well_formed c.args.term c.requires.within in
    let p = err_from_is_err_and c.from_residual-in_err-print_line.result c.from_residual-in_err-print_line.ensures.1 in
    rw (p.1, p.2) (first-refused (numbers_of i.format) (cut_sequence c.args.term Docs cut) (cut_sequence c.args.term Freqs cut) _ _ _ _ _ (has Freqs) c.in_err-print_line.ensures)

pub print_line-requires-2-clause-short : goal.print_line-requires-2-clause-short
print_line-requires-2-clause-short g c =
    let sums : ◌≡◌ {A = List ℕ} c.deref-2.result.now (cut_sequence c.args.term Freqs (cut_list_at c.args.index.now c.args.term)).values = search rules in
    omega (arith, ap length sums, values-count c.args.term Freqs (cut_list_at c.args.index.now c.args.term), c.requires.short)

pub returns : goal.returns
returns g c =
    let i = c.args.index.now in
    let cut = cut_list_at i c.args.term in
    second-printed (numbers_of i.format) (cut_sequence c.args.term Docs cut) (cut_sequence c.args.term Freqs cut) _ _ _ _ _ _ c.print_line-2.result c.in_ok-print_line.ensures c.print_line-2.ensures
