use Rattle.std.proofs.Common.{sym, subst}
use Rattle.std.specs.Prelude.{IfOk}
use Rattle.query_text.specs.declared.query.Query.{Query}
use Rattle.command_model.specs.Replies.{IsAnswer}
use Rattle.line_replies.proofs.reply.answer.Goals as goal

pub returns-in-Top-clause-text : goal.returns-in-Top-clause-text
returns-in-Top-clause-text g c = subst (λ (q : Query). IfOk c.top_answer.result (λ text. IsAnswer (g.L.TermLists.collection c.args.lists.now) q text.items)) (sym c.in-Top.is) c.top_answer.ensures.text
