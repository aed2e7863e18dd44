use Rattle.std.proofs.Common.{◌≡◌, ◌∙◌, ap, subst, ℕ, List, map}
use Rattle.std.specs.Prelude.{IfOk}
use Rattle.collection_model.specs.Collection.{Posting, Collection}
use Rattle.query_text.specs.Texts.{list_text}
use Rattle.scan_plans.specs.Matches.{in_all}
use Rattle.command_model.specs.Replies.{lists_of}
use Rattle.line_replies.proofs.CursorLists.{cursors-below}
use Rattle.line_replies.proofs.reply.and_answer.Goals as goal

pub returns-clause-text : goal.returns-clause-text
returns-clause-text g c =
    let asked : Collection = g.L.TermLists.collection c.args.lists.now in
    let made = c.in_ok-set_cursors.ensures.lists in
    let lent = c.as_mut_slice.ensures.value in
    let below = cursors-below g.L.Cursor.DocCursor.list asked c.args.terms.now c.set_cursors.new.cursors.items c.as_mut_slice.result.now (g.met.L.TermLists.in_range c.args.lists.now) c.requires.named made lent in
    let lists : map g.L.Cursor.DocCursor.list c.as_mut_slice.result.now ≡ lists_of asked c.args.terms.now = ap (map g.L.Cursor.DocCursor.list) lent ∙ made in
    let docs = c.as_slice.ensures.value ∙ c.in_ok-docs.ensures asked.documents below ∙ ap (λ (ls : List (List Posting)). in_all asked.documents ls) lists in
    subst (λ (ds : List ℕ). IfOk c.list_reply.result (λ text. text.items ≡ list_text ds)) docs c.list_reply.ensures
