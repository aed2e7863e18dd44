use Rattle.index_printing.specs.PrintAudit.{IsAudited}
use Rattle.index_printing.proofs.audit.print_audit.Given as goal

abbrev pub invariant-loop-term : goal.invariant-loop-term
invariant-loop-term g l = IsAudited l.index l.term (g.O.Sink.state l.fn.out) (g.O.Sink.state l.out) l.fn.steps l.steps l.tally.shown l.tally.longer
