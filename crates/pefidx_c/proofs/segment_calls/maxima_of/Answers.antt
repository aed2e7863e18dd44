use Rattle.std.proofs.Common.{subst, length}
use Rattle.std.specs.Prelude.{IfOk}
use Rattle.collection_model.specs.Collection.{Collection}
use Rattle.index_intervals.specs.LongLists.{AreIndexMaxima}
use Rattle.pefidx_c.proofs.segment_calls.maxima_of.Goals as goal

pub returns : goal.returns
returns c =
    subst (λ (x : Collection). IfOk c.of_lists.result (λ m. AreIndexMaxima (length c.args.words.now) x m.bytes.items)) c.in_ok-joined.ensures c.of_lists.ensures
