use Rattle.std.proofs.Common.{◌*◌, ap, ◌∙◌, length, refl}
use Rattle.collection_model.specs.Collection.{greatest_freq}
use Rattle.index_reading.proofs.Bounds.{list-bound}
use Rattle.index_reading.proofs.joined.Segment.bound.Goals as goal

pub returns : goal.returns
returns c =
    let same = c.cursor-cursor.ensures.list in
    list-bound _ c.from.result c.from-2.result (c.from.result * c.from-2.result) (c.from.ensures ∙ c.len.ensures ∙ ap length same) (c.from-2.ensures ∙ c.max_freq.ensures ∙ ap greatest_freq same) refl
