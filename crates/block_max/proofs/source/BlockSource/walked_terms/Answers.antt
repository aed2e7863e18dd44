use Rattle.std.proofs.Common.{[], ap, arith}
use Rattle.std.proofs.lemmas.List.{get_or_past}
use Rattle.block_max.specs.Blocks.{BlockList}
use Rattle.block_max.proofs.source.BlockSource.walked_terms.Goals as goal

pub returns-clause-rest : goal.returns-clause-rest
returns-clause-rest g c t le =
    ap (λ (b : BlockList). b.ends) (get_or_past (g.Self.BlockSource.lists c.args.self.now) t (record { list = []; ends = [] }) (omega (arith, le, c.terms.ensures)))
