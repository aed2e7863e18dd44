use Rattle.std.proofs.Common.{refl}
use Rattle.topk_pruning.proofs.Bars.{bars-at}
use Rattle.topk_pruning.proofs.Tops.{essential-spared}
use Rattle.topk_pruning.proofs.essential.essential_now.Goals as goal

pub returns : goal.returns
returns c =
    let top = c.args.top.now in
    essential-spared c.args.terms.now c.bar.result c.essential_terms.result top.floor top.k top.held c.essential_terms.ensures
    (bars-at c.bar.result top.floor top.floor top.k top.k top.held refl refl c.bar.ensures)
