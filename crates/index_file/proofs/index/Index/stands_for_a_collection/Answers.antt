use Rattle.index_file.proofs.FileKinds.{spells-view}
use Rattle.index_file.proofs.index.Index.stands_for_a_collection.Goals as goal

pub returns : goal.returns
returns c =
    let now = c.args.self.now in
    let spells = spells-view c.self.inside.words.now c.self.inside.starts.now now c.self.invariant.0 c.self.view_is in
    record { well_formed = spells.well_formed; partitions = spells.partitions }
