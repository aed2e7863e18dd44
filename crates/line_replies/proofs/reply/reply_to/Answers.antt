use Rattle.std.proofs.Common.{◌∙◌, ap}
use Rattle.query_text.specs.Texts.{bad_text}
use Rattle.line_replies.proofs.Parsed.{reply-asked, reply-refused, room-asked, room-same}
use Rattle.line_replies.proofs.Parsed.{none-bad, none-bad_unread, any-bad}
use Rattle.line_replies.proofs.reply.reply_to.Goals as goal

pub returns-in_ok-answer-in-Ok-clause-reply : goal.returns-in_ok-answer-in-Ok-clause-reply
returns-in_ok-answer-in-Ok-clause-reply g c =
    reply-asked (g.L.TermLists.collection c.args.lists.now) c.args.line.now _ c.in-Ok.query c.terms.result c.terms.ensures c.in-Ok.ensures.asked c.in_ok-answer-in-Ok.ensures.text

pub returns-in-Err-Bad-clause-reply : goal.returns-in-Err-Bad-clause-reply
returns-in-Err-Bad-clause-reply g c =
    reply-refused (g.L.TermLists.collection c.args.lists.now) c.args.line.now c.bad_reply.result.now c.in-Err-Bad.bad c.terms.result c.terms.ensures (rw c.in-Err-Bad.field-0-is at c.in-Err-Bad.ensures.asked)
    (c.bad_reply.ensures ∙ ap bad_text c.in-Err-Bad.bad-is)

pub returns-in_err-answer-in-Ok-clause-bad : goal.returns-in_err-answer-in-Ok-clause-bad
returns-in_err-answer-in-Ok-clause-bad g c = none-bad c.in-Ok.query _ c.terms.result _ c.args.line.now c.terms.ensures c.in-Ok.ensures.asked

pub returns-in_ok-answer-in-Ok-clause-bad : goal.returns-in_ok-answer-in-Ok-clause-bad
returns-in_ok-answer-in-Ok-clause-bad g c = none-bad c.in-Ok.query _ c.terms.result _ c.args.line.now c.terms.ensures c.in-Ok.ensures.asked

pub returns-in-Err-Bad-clause-bad : goal.returns-in-Err-Bad-clause-bad
returns-in-Err-Bad-clause-bad g c = any-bad _ _ (λ bad. tt)

pub returns-in-Err-NoMemory-clause-bad : goal.returns-in-Err-NoMemory-clause-bad
returns-in-Err-NoMemory-clause-bad g c =
    none-bad_unread _ c.terms.result _ c.args.line.now c.terms.ensures (rw c.in-Err-NoMemory.field-0-is at c.in-Err-NoMemory.ensures.asked)

pub returns-in_err-answer-in-Ok-clause-room : goal.returns-in_err-answer-in-Ok-clause-room
returns-in_err-answer-in-Ok-clause-room g c =
    room-asked _ _ c.in-Ok.query c.terms.result _ c.args.line.now c.terms.ensures
    c.in-Ok.ensures.asked c.in_err-answer-in-Ok.ensures.room

pub returns-in_ok-answer-in-Ok-clause-room : goal.returns-in_ok-answer-in-Ok-clause-room
returns-in_ok-answer-in-Ok-clause-room g c =
    room-asked _ _ c.in-Ok.query c.terms.result _ c.args.line.now c.terms.ensures
    c.in-Ok.ensures.asked c.in_ok-answer-in-Ok.ensures.room

pub returns-in-Err-Bad-clause-room : goal.returns-in-Err-Bad-clause-room
returns-in-Err-Bad-clause-room g c = room-same _ _

pub returns-in-Err-NoMemory-clause-room : goal.returns-in-Err-NoMemory-clause-room
returns-in-Err-NoMemory-clause-room g c = room-same _ _
