use Rattle.std.proofs.Common.{◌≡◌, refl, subst, sym}
use Rattle.std.specs.Prelude.{IfOk, None}
use Rattle.collection_model.specs.Collection.{Collection}
use Rattle.index_reading.specs.JoinedSegments as read
use Rattle.scan_plans.specs.IsTop.{IsTop}
use Rattle.segments.specs.Joined.{joined_wide}
use Rattle.pefidx_c.specs.Asked.{lists_of, top_refusal}
use Rattle.pefidx_c.proofs.StatedMaxima.{lent-maxima}
use Rattle.pefidx_c.proofs.segment_calls.best_of_joined.Goals as goal

-- by a plan without maxima
pub best_of-requires : goal.best_of-requires
best_of-requires c = record {
  good = (c.args.plan, subst (λ (x : Collection). top_refusal x c.args.plan c.args.asked.terms.now c.args.asked.weights.now ≡ None) (sym c.over-lists.ensures) c.requires.good);
}

pub returns-then-not-takes_maxima : goal.returns-then-not-takes_maxima
returns-then-not-takes_maxima c =
    subst (λ (x : Collection). IfOk c.best_of.result (λ r. IsTop x.documents (lists_of x c.args.asked.terms.now) c.args.asked.weights.now c.args.k r.items)) c.over-lists.ensures c.best_of.ensures

-- by intervals
pub over-by_intervals-requires : goal.over-by_intervals-requires
over-by_intervals-requires c =
    let whole : Collection = joined_wide (read.collections_in c.args.joined.segments.items) in
    lent-maxima c.args.words c.args.words whole whole c.args.maxima.now c.new.result.bytes.now (c.takes_maxima.ensures c.if-not-takes_maxima.false) c.requires.maxima refl refl c.new.ensures

pub best_of-requires-2 : goal.best_of-requires-2
best_of-requires-2 c = record {
  good = (c.args.plan, subst (λ (x : Collection). top_refusal x c.args.plan c.args.asked.terms.now c.args.asked.weights.now ≡ None) (sym c.over-by_intervals.ensures) c.requires.good);
}

pub returns : goal.returns
returns c =
    subst (λ (x : Collection). IfOk c.best_of-2.result (λ r. IsTop x.documents (lists_of x c.args.asked.terms.now) c.args.asked.weights.now c.args.k r.items)) c.over-by_intervals.ensures c.best_of-2.ensures
