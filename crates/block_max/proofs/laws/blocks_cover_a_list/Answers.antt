use Rattle.block_max.proofs.Behind.{all-below, no-block}
use Rattle.block_max.specs.Cut.{cut-blocks}
use Rattle.block_max.proofs.laws.blocks_cover_a_list.Goals as goal

pub returns-clause-cut : goal.returns-clause-cut
returns-clause-cut c = cut-blocks

pub returns-clause-behind : goal.returns-clause-behind
returns-clause-behind c = λ list blocks d are. (all-below list blocks d are, no-block list blocks d are)
