use Rattle.std.proofs.Common.{sym, subst, ℕ, List}
use Rattle.scan_plans.specs.IsTop.{IsTop}
use Rattle.pefidx_c.specs.Asked.{collection_in, lists_of}
use Rattle.pefidx_c.proofs.StatedMaxima.{opened-maxima}
use Rattle.pefidx_c.proofs.ranking.pefidx_top.Goals as goal

pub returns-in-Ok-clause-given : goal.returns-in-Ok-clause-given
returns-in-Ok-clause-given c = λ asked done.
    let is = subst (λ x. IsTop x.documents (lists_of x c.args.terms.now) c.args.weights.now c.args.k c.in-Ok.found.items) c.index_of-index.ensures.collection c.in-Ok.ensures in
    let top = subst (λ (r : List (ℕ × ℕ)). IsTop (collection_in c.args.words.now).documents (lists_of (collection_in c.args.words.now) c.args.terms.now) c.args.weights.now c.args.k r) (sym c.as_slice.ensures.value) is in
    (c.as_slice.result.now, top, c.give_best.ensures.status, c.give_best.ensures.room, c.give_best.ensures.count)

pub best_by-requires-clause-maxima : goal.best_by-requires-clause-maxima
best_by-requires-clause-maxima c = opened-maxima c.args.words.now c.args.maxima.now c.index_of-index.result c.index_of-index.ensures.stated c.requires.maxima
