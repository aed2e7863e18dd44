use Rattle.std.proofs.Common.{sym, ap, subst, ◌∙◌, ◌<◌, List, length}
use Rattle.std.specs.List.{All}
use Rattle.collection_model.specs.Collection.{Posting, docs_of}
use Rattle.cursor_api.specs.NextGeq.{IsCursorList}
use Rattle.worked_plans.specs.TwoLists.{long-below, long-is, same-length}
use Rattle.worked_plans.proofs.ListBlocks.{lent-list}
use Rattle.worked_plans.proofs.blocks.long_cursor.Goals as goal

pub new-requires-clause-same_length : goal.new-requires-clause-same_length
new-requires-clause-same_length c = ap length c.requires.docs ∙ same-length c.args.n c.requires.some ∙ sym (ap length c.requires.freqs)

pub new-requires-clause-list : goal.new-requires-clause-list
new-requires-clause-list c =
    subst IsCursorList (sym (lent-list c.args.n c.args.docs.now c.args.freqs.now c.requires.docs c.requires.freqs)) (long-is c.args.n c.requires.some c.requires.few)

pub returns-clause-below : goal.returns-clause-below
returns-clause-below c =
    let is = c.new.ensures.list ∙ lent-list c.args.n c.args.docs.now c.args.freqs.now c.requires.docs c.requires.freqs in
    subst (λ (l : List Posting). All (λ d. d < c.args.n) (docs_of l)) (sym is) (long-below c.args.n c.requires.some)
