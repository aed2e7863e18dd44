use Rattle.std.proofs.Common.{◌*◌, ◌∙◌, ap}
use Rattle.index_reading.proofs.Bounds.{collection-bound}
use Rattle.index_reading.proofs.joined.Segment.bound_of_all.Goals as goal

pub returns : goal.returns
returns c =
    collection-bound _ c.args.self.now.index.collection (c.from.result * 4294967296) c.stands_for_a_collection.ensures.well_formed
    (ap (λ n. n * 4294967296) (c.from.ensures ∙ c.documents.ensures))
