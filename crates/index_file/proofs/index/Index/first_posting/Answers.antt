use Rattle.std.proofs.Common.{sym, subst, arith}
use Rattle.part_cost.specs.Formats.{numbers_of}
use Rattle.index_file.specs.FileWords.{Spells}
use Rattle.index_file.proofs.FileKinds.{spells-view, framed}
use Rattle.index_file.proofs.ListStarts.{of-index}
use Rattle.index_file.proofs.index.Index.first_posting.Goals as goal

pub posting_from-requires-clause-index : goal.posting_from-requires-clause-index
posting_from-requires-clause-index c =
    let now = c.args.self.now in
    (now.collection, now.parts, subst (λ v. Spells (numbers_of v) c.self.inside.words.now now.collection now.parts) (sym c.format.ensures) (spells-view c.self.inside.words.now c.self.inside.starts.now now c.self.invariant.0 c.self.view_is))

pub posting_from-requires-clause-within : goal.posting_from-requires-clause-within
posting_from-requires-clause-within c =
    let now = c.args.self.now in
    let spells = spells-view c.self.inside.words.now c.self.inside.starts.now now c.self.invariant.0 c.self.view_is in
    omega (arith, c.requires.within, (framed c.file_laws.ensures.takes now.format c.self.inside.words.now now.collection now.parts spells).terms)

pub returns : goal.returns
returns c =
    let now = c.args.self.now in
    let spells = spells-view c.self.inside.words.now c.self.inside.starts.now now c.self.invariant.0 c.self.view_is in
    c.posting_from.ensures now.collection now.parts (subst (λ v. Spells (numbers_of v) c.self.inside.words.now now.collection now.parts) (sym c.format.ensures) spells)

pub posting_from-requires-clause-starts : goal.posting_from-requires-clause-starts
posting_from-requires-clause-starts c is = of-index c.self.inside.words.now c.self.inside.starts.now c.args.self.now c.format.result c.self.invariant.3 c.self.view_is c.format.ensures is
