use Rattle.std.proofs.Common.{◌≡◌, ◌++◌, length, decimal}
use Rattle.std.specs.List.{flat_map}
use Rattle.query_text.specs.Texts.{listed}
use Rattle.query_text.proofs.replies.list_reply.Given as goal

abbrev pub invariant-loop-rest : goal.invariant-loop-rest
invariant-loop-rest l = l.text.items ++ flat_map listed l.rest ≡ decimal (length l.fn.docs) ++ flat_map listed l.fn.docs

abbrev pub decreases-loop-rest : goal.decreases-loop-rest
decreases-loop-rest l = length l.rest
