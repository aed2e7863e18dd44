use Rattle.std.proofs.Common.{◌≡◌, refl, subst, sym}
use Rattle.std.specs.Prelude.{IfOk, None}
use Rattle.collection_model.specs.Collection.{Collection}
use Rattle.index_file.specs.IndexView.{word_count}
use Rattle.scan_plans.specs.IsTop.{IsTop}
use Rattle.pefidx_c.specs.Asked.{lists_of, top_refusal}
use Rattle.pefidx_c.proofs.StatedMaxima.{lent-maxima}
use Rattle.pefidx_c.proofs.ranking.best_by.Goals as goal

-- by a plan without maxima
pub best_of-requires : goal.best_of-requires
best_of-requires c = record {
  good = (c.args.plan, subst (λ (x : Collection). top_refusal x c.args.plan c.args.asked.terms.now c.args.asked.weights.now ≡ None) (sym c.new-lists.ensures.collection) c.requires.good);
}

pub returns-then-not-takes_maxima : goal.returns-then-not-takes_maxima
returns-then-not-takes_maxima c =
    subst (λ (x : Collection). IfOk c.best_of.result (λ r. IsTop x.documents (lists_of x c.args.asked.terms.now) c.args.asked.weights.now c.args.k r.items)) c.new-lists.ensures.collection c.best_of.ensures

-- by intervals
pub new-by_intervals-requires : goal.new-by_intervals-requires
new-by_intervals-requires c =
    lent-maxima (word_count c.args.index.now) (word_count c.args.index.now) c.args.index.now.collection c.args.index.now.collection c.args.maxima.now c.new.result.bytes.now
    (c.takes_maxima.ensures c.if-not-takes_maxima.false) c.requires.maxima refl refl c.new.ensures

pub best_of-requires-2 : goal.best_of-requires-2
best_of-requires-2 c = record {
  good = (c.args.plan, subst (λ (x : Collection). top_refusal x c.args.plan c.args.asked.terms.now c.args.asked.weights.now ≡ None) (sym c.new-by_intervals.ensures) c.requires.good);
}

pub returns : goal.returns
returns c =
    subst (λ (x : Collection). IfOk c.best_of-2.result (λ r. IsTop x.documents (lists_of x c.args.asked.terms.now) c.args.asked.weights.now c.args.k r.items)) c.new-by_intervals.ensures c.best_of-2.ensures
