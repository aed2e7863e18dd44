use Rattle.std.proofs.Common.{sym, subst, ◌<◌}
use Rattle.std.specs.List.{All}
use Rattle.topk_pruning.specs.Held.{RankingFrom}
use Rattle.topk_pruning.proofs.Bars.{later-is_new}
use Rattle.topk_pruning.proofs.shortlist.Shortlist.offer.Goals as goal

pub offer-requires-clause-new : goal.offer-requires-clause-new
offer-requires-clause-new c = later-is_new c.args.doc c.self.inside.top.held (subst (λ (r : RankingFrom). All (λ e. e.0 < c.args.doc) r.held) (sym c.self.view_is) c.requires.above)
