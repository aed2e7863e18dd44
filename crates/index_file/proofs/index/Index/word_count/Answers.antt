use Rattle.std.proofs.Common.{length, ap}
use Rattle.index_file.proofs.FileKinds.{spells-view}
use Rattle.index_file.proofs.index.Index.word_count.Goals as goal

pub returns : goal.returns
returns c =
    let spells = spells-view c.self.inside.words.now c.self.inside.starts.now c.args.self.now c.self.invariant.0 c.self.view_is in
    ap length spells.spelled
