use Rattle.part_cost.specs.Formats.{numbers_of}
use Rattle.segments.proofs.InRange.{well-in-range}
use Rattle.pefidx_c.proofs.cursors.documents_are_below.Goals as goal

pub returns : goal.returns
returns c = well-in-range (numbers_of c.args.index.now.format) c.args.index.now.collection c.stands_for_a_collection.ensures.well_formed
