use Rattle.std.proofs.Common.{◌≡◌, ℕ, List, ◌++◌, length, Ok}
use Rattle.io_traits.specs.SinkState.{SinkState}
use Rattle.text_replies.specs.Unended.{AnswersBytes}
use Rattle.text_replies.proofs.lines.answer_piece.Given as goal

abbrev pub invariant-loop-at : goal.invariant-loop-at
invariant-loop-at g l =
    (done : List ℕ) × (l.piece ≡ done ++ l.rest)
    × ((read : List ℕ) (start : SinkState) → AnswersBytes (g.L.TermLists.collection l.lists) read l.fn.held.line.items start (g.O.Sink.state l.fn.out) (Ok tt)
    → AnswersBytes (g.L.TermLists.collection l.lists) (read ++ done) l.held.line.items start (g.O.Sink.state l.out) (Ok tt))

abbrev pub decreases-loop-at : goal.decreases-loop-at
decreases-loop-at g l = length l.rest
