use Rattle.std.proofs.Common.{◌∙◌, ap, length}
use Rattle.std.specs.Prelude.{sum_by}
use Rattle.index_file.proofs.ListStarts.{of-index}
use Rattle.index_file.proofs.index.Index.postings.Goals as goal

pub all_postings-requires-clause-starts : goal.all_postings-requires-clause-starts
all_postings-requires-clause-starts c is = of-index c.self.inside.words.now c.self.inside.starts.now c.args.self.now c.format.result c.self.invariant.3 c.self.view_is c.format.ensures is

pub returns : goal.returns
returns c = c.all_postings.ensures ∙ ap (λ i. sum_by length i.collection.lists) c.self.view_is
