use Rattle.std.proofs.Common.{subst}
use Rattle.part_cost.specs.declared.formats.Format.TheVariants.{Three}
use Rattle.part_cost.specs.Formats.{numbers_of}
use Rattle.index_file.specs.FileWords.{Spells}
use Rattle.index_file.specs.IndexView.{index_stated}
use Rattle.index_file.proofs.Both.{file-passes}
use Rattle.index_file.proofs.FileKinds.{to-packed}
use Rattle.index_file.proofs.ListsInTurn.{kept-here, next-here, apart-here}
use Rattle.index_file.proofs.walk.read_here.Goals as goal

pub packed_read_between-requires-clause-passes : goal.packed_read_between-requires-clause-passes
packed_read_between-requires-clause-passes c =
    let words = c.args.words.now in
    let i = index_stated c.args.words.now in
    let kept = kept-here words c.args.format c.args.directory.now c.args.numbers.now c.args.run c.in-Some.field-0 c.in-Some.is c.requires.numbers in
    let s : Spells (numbers_of Three) c.args.words.now (index_stated c.args.words.now).collection (index_stated c.args.words.now).parts =
    subst (λ v. Spells (numbers_of v) words i.collection i.parts) kept.0 c.requires.index.spells in
    file-passes c.file_laws.ensures words i.collection i.parts (to-packed words i.collection i.parts s)

pub packed_read_between-requires-clause-apart : goal.packed_read_between-requires-clause-apart
packed_read_between-requires-clause-apart c =
    let words = c.args.words.now in
    let kept = kept-here words c.args.format c.args.directory.now c.args.numbers.now c.args.run c.in-Some.field-0 c.in-Some.is c.requires.numbers in
    let next = next-here c.args.directory.now c.args.terms c.args.run c.in-Some.field-0 c.in-Some.is c.requires.next c.requires.within in
    apart-here c.file_laws.ensures c.args.format kept.0 words c.args.terms c.requires.index c.args.numbers.now c.args.run kept.2 next c.requires.within (c.requires.stands.some c.requires.within)

pub plain_read-requires-clause-plain : goal.plain_read-requires-clause-plain
plain_read-requires-clause-plain c = c.requires.numbers.plain c.in-None.is
