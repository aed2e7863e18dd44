use Rattle.std.proofs.Common.{◌≡◌, sym, subst, rules, ℕ, ◌+◌, ◌*◌, ◌≤◌, List, [], ◌∷◌, length, string_bytes, Result, Err}
use Rattle.part_cost.specs.Formats.{numbers_of}
use Rattle.io_traits.specs.declared.fail.IoFail.{IoFail}
use Rattle.io_traits.specs.declared.fail.IoFail.TheVariants.{NoMemory}
use Rattle.io_traits.specs.Helpers.{WritesAll}
use Rattle.index_file.specs.IndexView.{cut_list_at}
use Rattle.command_model.specs.AuditText.{IsAuditLine, cut_sequence}
use Rattle.index_printing.specs.PrintAudit.{PrintsLines}
use Rattle.index_printing.proofs.Auditing.{sequence-has, line-printed, line-unmade}
use Rattle.index_printing.proofs.PrintedLine.{printed-or-not}
use Rattle.index_printing.proofs.audit.print_line.Goals as goal

pub returns-in_err-line : goal.returns-in_err-line
returns-in_err-line g c =
    let i = c.args.index.now in
    let s = cut_sequence c.args.sequence.term c.args.sequence.which (cut_list_at i c.args.sequence.term) in
    let is : c.from_residual.result ≡ Err NoMemory = search rules in
    let have = sequence-has i (c.formats_have_room.ensures i.format) c.sequences_of_a_list_rise.ensures c.single_is_allowed.ensures.allowed c.least_stored.ensures c.stands_for_a_collection.ensures.well_formed c.args.sequence.term c.requires.within c.args.sequence.which in
    let P : Result (Unit {0}) IoFail → Type 0 = λ r. PrintsLines (numbers_of i.format) (s ∷ []) (g.O.Sink.state c.args.out.now) (g.O.Sink.state c.args.out.now) c.args.steps.now c.line_of.new.steps r in
    subst P (sym is) (line-unmade (numbers_of i.format) s c.args.sequence.values.now _ _ _ c.requires.values have c.line_of.ensures.bounded)

pub returns : goal.returns
returns g c =
    let i = c.args.index.now in
    let s = cut_sequence c.args.sequence.term c.args.sequence.which (cut_list_at i c.args.sequence.term) in
    let made : IsAuditLine (numbers_of i.format) s (string_bytes c.in_ok-line.line) = search rules in
    let counted : c.args.steps.now + 2 * length c.args.sequence.values.now ≤ c.line_of.new.steps = search rules in
    let P : List ℕ → Type 0 = λ line. WritesAll (g.O.Sink.state c.args.out.now) (g.O.Sink.state c.write_all_own.new.sink) line c.write_all_own.result in
    line-printed (numbers_of i.format) s c.args.sequence.values.now (string_bytes c.in_ok-line.line) _ _ _ _ c.write_all_own.result c.requires.values made
    (printed-or-not (string_bytes c.in_ok-line.line) _ _ _ (subst P c.as_bytes.ensures.value c.write_all_own.ensures)) counted c.line_of.ensures.bounded
