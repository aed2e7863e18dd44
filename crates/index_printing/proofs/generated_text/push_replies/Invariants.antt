use Rattle.std.proofs.Common.{replicate}
use Rattle.index_printing.proofs.AskedLines.{GetsReplies}
use Rattle.index_printing.proofs.generated_text.push_replies.Given as goal

abbrev pub invariant-loop-plan : goal.invariant-loop-plan
invariant-loop-plan l = GetsReplies l.index.collection (replicate l.plan-index l.line) l.fn.text.items l.text.items
