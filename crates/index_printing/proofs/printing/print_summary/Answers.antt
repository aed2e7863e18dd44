use Rattle.std.proofs.Common.{◌≡◌, sym, subst, rules, List, ℕ, Result, Err}
use Rattle.io_traits.specs.declared.fail.IoFail.{IoFail}
use Rattle.io_traits.specs.declared.fail.IoFail.TheVariants.{NoMemory}
use Rattle.io_traits.specs.Helpers.{WritesAll}
use Rattle.command_model.specs.SummaryLine.{summary_line}
use Rattle.index_printing.specs.PrintLine.{PrintsLine}
use Rattle.index_printing.proofs.PrintedLine.{not-made, printed-or-not}
use Rattle.index_printing.proofs.printing.print_summary.Goals as goal

pub returns-in_err-line : goal.returns-in_err-line
returns-in_err-line g c =
    let is : c.from_residual.result ≡ Err NoMemory = search rules in
    let P : Result (Unit {0}) IoFail → Type 0 = λ r. PrintsLine (summary_line c.args.index.now) (g.O.Sink.state c.args.out.now) (g.O.Sink.state c.args.out.now) r in
    subst P (sym is) (not-made (summary_line c.args.index.now) _)

pub returns : goal.returns
returns g c =
    let made : ◌≡◌ {A = List ℕ} c.as_bytes.result.now (summary_line c.args.index.now) = search rules in
    let P : List ℕ → Type 0 = λ line. WritesAll (g.O.Sink.state c.args.out.now) (g.O.Sink.state c.write_all_own.new.sink) line c.write_all_own.result in
    printed-or-not (summary_line c.args.index.now) _ _ _ (subst P made c.write_all_own.ensures)
