use Rattle.std.proofs.lemmas.Result.{IfOk-at_ok}
use Rattle.part_cost.specs.Formats.{numbers_of}
use Rattle.index_file.specs.FileWords.{Spells}
use Rattle.worked_files.proofs.parts.has_blocks.Goals as goal

pub known-requires-clause-index : goal.known-requires-clause-index
known-requires-clause-index g c =
    let v = c.expect-index.result in
    let spells : Spells (numbers_of v.format) c.args.words.now v.collection v.parts =
    IfOk-at_ok (λ i. Spells (numbers_of i.format) c.args.words.now i.collection i.parts) c.expect-index.ensures c.view.ensures.ok in
    (v.format, (v.collection, v.parts, spells))
