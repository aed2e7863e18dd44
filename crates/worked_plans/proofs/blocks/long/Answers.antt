use Rattle.std.proofs.Common.{sym, subst, ◌<◌, List}
use Rattle.std.specs.List.{All}
use Rattle.collection_model.specs.Collection.{Posting, docs_of}
use Rattle.worked_plans.proofs.blocks.long.Goals as goal

pub returns-clause-below : goal.returns-clause-below
returns-clause-below c = subst (λ (l : List Posting). All (λ d. d < c.args.source.now.n) (docs_of l)) (sym c.new.ensures.list) c.long_cursor.ensures.below
