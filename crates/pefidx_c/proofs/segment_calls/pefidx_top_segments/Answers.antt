use Rattle.std.proofs.Common.{sym, subst, ℕ, List, length}
use Rattle.collection_model.specs.Collection.{Collection}
use Rattle.scan_plans.specs.IsTop.{IsTop}
use Rattle.pefidx_c.specs.Asked.{lists_of}
use Rattle.pefidx_c.specs.Kept.{AreMaxima}
use Rattle.pefidx_c.specs.Segments.{joined_in}
use Rattle.pefidx_c.proofs.segment_calls.pefidx_top_segments.Goals as goal

pub best_of_joined-requires-clause-maxima : goal.best_of_joined-requires-clause-maxima
best_of_joined-requires-clause-maxima c =
    subst (λ (x : Collection). AreMaxima (length c.args.words.now) x c.args.maxima.now) (sym c.in-Ok.ensures) c.requires.maxima

pub returns-in-Ok-best_of_joined-clause-given : goal.returns-in-Ok-best_of_joined-clause-given
returns-in-Ok-best_of_joined-clause-given c = λ done asked.
    let whole : Collection = joined_in c.args.words.now c.args.segments.now in
    let is = subst (λ x. IsTop x.documents (lists_of x c.args.terms.now) c.args.weights.now c.args.k c.in-Ok-best_of_joined.found.items) c.in-Ok.ensures c.in-Ok-best_of_joined.ensures in
    let top = subst (λ (r : List (ℕ × ℕ)). IsTop whole.documents (lists_of whole c.args.terms.now) c.args.weights.now c.args.k r) (sym c.as_slice.ensures.value) is in
    (c.as_slice.result.now, top, c.give_best.ensures.status, c.give_best.ensures.room, c.give_best.ensures.count)
