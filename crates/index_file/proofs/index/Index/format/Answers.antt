use Rattle.std.proofs.Common.{ap, ◌∙◌}
use Rattle.index_file.specs.IndexView.{index_stated}
use Rattle.index_file.proofs.index.Index.format.Goals as goal

pub returns : goal.returns
unfolding index_stated
returns c = c.format_of.ensures ∙ ap (λ i. i.format) c.self.view_is
