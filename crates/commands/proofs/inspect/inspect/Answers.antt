use Rattle.std.proofs.Common.{refl, inl}
use Rattle.commands.proofs.Names.{outside, PrintsText, IndexAt, Text, loaded_as, promised, stops, text_printed, prints, handed_on, IsInspection}
use Rattle.command_model.specs.SummaryLine.{summary_line}
use Rattle.commands.proofs.inspect.inspect.Goals as goal

pub returns-in_err-opened-clause-leaves : goal.returns-in_err-opened-clause-leaves
returns-in_err-opened-clause-leaves g c = λ i e e' n.
    stops (IndexAt c.args.index.now) Text (PrintsText (IsInspection c.args.index.now (g.D.Depot.state c.args.depot.now))) _ _ refl refl c.in_err-opened.field-0.0 c.from_residual.result
    (handed_on c.from_residual.result c.from_residual.ensures.1) c.in_err-opened.ensures.refused (inl refl) (λ other does. record { does = does; costs = refl })

pub returns-clause-leaves : goal.returns-clause-leaves
returns-clause-leaves g c = λ i e e' n.
    let index = c.index-index.result in
    let w = loaded_as c.args.index.now _ _ c.in_ok-opened.opened index c.in_ok-opened.ensures.loaded c.index-index.ensures in
    let old = outside (g.D.Depot.state c.args.depot.now) i (g.O.Sink.state c.args.out.now) e n in
    let new = outside (g.D.Depot.state c.load_index.new.depot) i (g.O.Sink.state c.print_summary.new.out) e' n in
    promised old new _ _ c.after_printing.ensures (λ does. record { does = does; costs = refl })
    (text_printed (IndexAt c.args.index.now) (PrintsText (IsInspection c.args.index.now (g.D.Depot.state c.args.depot.now))) _ _ w.read i _ _ e e' n n (summary_line index) c.print_summary.result c.print_summary.ensures
    (prints (IsInspection c.args.index.now (g.D.Depot.state c.args.depot.now)) (summary_line index) (index, w.found, refl) old new c.print_summary.result c.print_summary.ensures))
