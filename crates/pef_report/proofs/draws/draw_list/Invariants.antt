use Rattle.std.proofs.Common.{◌-◌}
use Rattle.pef_report.proofs.Drawing.{IsDrawing}
use Rattle.pef_report.proofs.draws.draw_list.Given as goal

abbrev pub invariant-loop-document : goal.invariant-loop-document
invariant-loop-document l = IsDrawing l.gap l.state l.n l.docs.items l.freqs.items l.draws.state l.document

abbrev pub decreases-loop-document : goal.decreases-loop-document
decreases-loop-document l = l.n - l.document
