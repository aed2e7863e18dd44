use Rattle.std.proofs.Common.{arith, refl, inl, inr}
use Rattle.commands.proofs.Names.{outside, IndexAt, Text, loaded_as, promised, stops, text_printed, prints, handed_on, no_print_refuses, where_done, PrintsFoundAudit}
use Rattle.command_model.specs.AuditText.{IsAuditText}
use Rattle.commands.proofs.audit.audit.Goals as goal

pub returns-in_err-opened-clause-leaves : goal.returns-in_err-opened-clause-leaves
returns-in_err-opened-clause-leaves g c = λ i e e'.
    stops (IndexAt c.args.index.now) Text (PrintsFoundAudit c.args.index.now) _ _ refl refl c.in_err-opened.field-0.0 c.from_residual.result
    (handed_on c.from_residual.result c.from_residual.ensures.1) c.in_err-opened.ensures.refused (inl (record { no_memory = refl; out = refl; costs = refl }))
    (λ other does. record { does = does; refused = λ h. refl })

pub returns-clause-leaves : goal.returns-clause-leaves
returns-clause-leaves g c = λ i e e'.
    let index = c.index-index.result in
    let w = loaded_as c.args.index.now _ _ c.in_ok-opened.opened index c.in_ok-opened.ensures.loaded c.index-index.ensures in
    let p = c.print_audit.ensures in
    let old = outside (g.D.Depot.state c.args.depot.now) i (g.O.Sink.state c.args.out.now) e c.args.steps.now in
    let new = outside (g.D.Depot.state c.load_index.new.depot) i (g.O.Sink.state c.print_audit.new.out) e' c.print_audit.new.steps in
    promised old new _ _ c.after_printing.ensures (λ does. record { does = does; refused = λ h. no_print_refuses c.print_audit.result h })
    (text_printed (IndexAt c.args.index.now) (PrintsFoundAudit c.args.index.now) _ _ w.read i _ _ e e' _ _ p.text c.print_audit.result p.prints
    (inr (index, grind (arith, w.found, prints (IsAuditText index) p.text p.audit old new c.print_audit.result p.prints, where_done c.print_audit.result p.counted, p.bounded))))
