use Rattle.std.proofs.Common.{ap, ◌∙◌}
use Rattle.collection_model.specs.Collection.{list_of}
use Rattle.index_file.specs.IndexView.{IndexView}
use Rattle.line_replies.proofs.blockwise.SideListsTermLists.put_cursor.Goals as goal

pub returns-clause-list : goal.returns-clause-list
returns-clause-list c = c.cursor.ensures.list ∙ ap (λ (i : IndexView). list_of i.collection c.args.term) c.index.ensures
