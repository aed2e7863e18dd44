use Rattle.std.proofs.Common.{sym, subst, arith}
use Rattle.part_cost.specs.Formats.{numbers_of}
use Rattle.index_file.specs.FileWords.{Spells}
use Rattle.index_file.proofs.FileKinds.{spells-view, framed}
use Rattle.index_file.proofs.ListStarts.{of-index}
use Rattle.index_file.proofs.index.Index.cursor.Goals as goal

pub cursor_at-requires-clause-index : goal.cursor_at-requires-clause-index
cursor_at-requires-clause-index c =
    let now = c.args.self.now in
    (now.collection, now.parts, subst (λ v. Spells (numbers_of v) c.self.inside.words.now now.collection now.parts) (sym c.format.ensures) (spells-view c.self.inside.words.now c.self.inside.starts.now now c.self.invariant.0 c.self.view_is))

pub cursor_at-requires-clause-within : goal.cursor_at-requires-clause-within
cursor_at-requires-clause-within c =
    let now = c.args.self.now in
    let spells = spells-view c.self.inside.words.now c.self.inside.starts.now now c.self.invariant.0 c.self.view_is in
    omega (arith, c.requires.within, (framed c.file_laws.ensures.takes now.format c.self.inside.words.now now.collection now.parts spells).terms)

pub returns-clause-list : goal.returns-clause-list
returns-clause-list c =
    let now = c.args.self.now in
    let spells = spells-view c.self.inside.words.now c.self.inside.starts.now now c.self.invariant.0 c.self.view_is in
    c.cursor_at.ensures.list now.collection now.parts (subst (λ v. Spells (numbers_of v) c.self.inside.words.now now.collection now.parts) (sym c.format.ensures) spells)

pub cursor_at-requires-clause-starts : goal.cursor_at-requires-clause-starts
cursor_at-requires-clause-starts c is = of-index c.self.inside.words.now c.self.inside.starts.now c.args.self.now c.format.result c.self.invariant.3 c.self.view_is c.format.ensures is
