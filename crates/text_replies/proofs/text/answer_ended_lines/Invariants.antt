use Rattle.std.proofs.Common.{◌≡◌, ℕ, ◌+◌, List, length, Ok}
use Rattle.text_replies.specs.AnswersEnded.{HasRead}
use Rattle.text_replies.specs.Unended.{AnswersBytes}
use Rattle.text_replies.proofs.text.answer_ended_lines.Given as goal

abbrev pub invariant-pieces : goal.invariant-pieces
invariant-pieces g l =
    (bytes : List ℕ)
    × HasRead bytes (g.I.Source.state l.fn.input) (g.I.Source.state l.input)
    × (length bytes + l.rest ≡ l.limit)
    × AnswersBytes (g.L.TermLists.collection l.lists) bytes l.held.line.items (g.O.Sink.state l.fn.out) (g.O.Sink.state l.out) (Ok tt)

abbrev pub decreases-pieces : goal.decreases-pieces
decreases-pieces g l = l.rest
