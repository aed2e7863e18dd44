use Rattle.std.proofs.Common.{sym, subst, List, ℕ}
use Rattle.command_model.specs.Replies.{IsReply}
use Rattle.text_replies.proofs.Answered.{answered-written, answered-refused}
use Rattle.text_replies.proofs.lines.answer_line.Goals as goal

pub returns-in-Ok : goal.returns-in-Ok
returns-in-Ok g c =
    let P : List ℕ → Type 0 = λ text. IsReply (g.L.TermLists.collection c.args.lists.now) c.args.line.now text in
    answered-written _ _ _ _ _ _ (subst P (sym c.deref.ensures.value) c.in-Ok.ensures.reply) c.write_all_own.ensures

pub returns-in-Err : goal.returns-in-Err
returns-in-Err g c = answered-refused _ _ _
