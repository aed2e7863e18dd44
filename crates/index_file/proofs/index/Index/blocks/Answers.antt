use Rattle.std.proofs.Common.{ap, ◌∙◌, length}
use Rattle.index_file.proofs.index.Index.blocks.Goals as goal

pub returns : goal.returns
returns c = c.parts.ensures ∙ ap (λ v. length v.ends) c.list.ensures.docs
