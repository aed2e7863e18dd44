use Rattle.std.proofs.Common.{[], subst, arith, rules}
use Rattle.std.proofs.lemmas.List.{get_or_past}
use Rattle.part_cost.specs.declared.formats.Format.TheVariants.{Three}
use Rattle.part_cost.specs.Formats.{numbers_of}
use Rattle.index_file.specs.FileWords.{Spells}
use Rattle.index_file.specs.CutLists.{with_parts}
use Rattle.index_file.specs.IndexView.{index_stated}
use Rattle.index_file.proofs.FileKinds.{framed, to-packed}
use Rattle.index_file.proofs.PackedPieces.{packed-laid}
use Rattle.index_file.proofs.PackedIndex.{packable}
use Rattle.index_file.proofs.MeasuredFiles.{empty-lists, no-bits}
use Rattle.index_file.proofs.totals.walked_terms.Goals as goal

pub is_without_bits-requires : goal.is_without_bits-requires
is_without_bits-requires c =
    let i = index_stated c.args.words.now in
    record { some = omega (arith, (framed c.file_laws.ensures.takes c.args.format c.args.words.now i.collection i.parts c.requires.index).some) }

pub returns-then-is_without_bits-clause-rest : goal.returns-then-is_without_bits-clause-rest
returns-then-is_without_bits-clause-rest c =
    let words = c.args.words.now in
    let i = index_stated c.args.words.now in
    let none = c.is_without_bits.ensures.0 c.if-is_without_bits.true in
    let s : Spells (numbers_of Three) c.args.words.now (index_stated c.args.words.now).collection (index_stated c.args.words.now).parts =
    subst (λ v. Spells (numbers_of v) words i.collection i.parts) none.0 c.requires.index in
    let p = to-packed words i.collection i.parts s in
    let laid = packed-laid c.file_laws.ensures.takes words i.collection.documents (with_parts i.collection.lists i.parts) i.collection.sizes (packable words i.collection i.parts p) p.spelled in
    λ t le. empty-lists i.collection.documents 0 i.collection.lists i.parts p.partitions (omega (arith, laid.bits, none.1)) t

pub frame_of-requires : goal.frame_of-requires
frame_of-requires c =
    let i = index_stated c.args.words.now in
    omega (arith, (framed c.file_laws.ensures.takes c.args.format c.args.words.now i.collection i.parts c.requires.index).some)

pub overflow_cast-result : goal.overflow_cast-result
overflow_cast-result c =
    let i = index_stated c.args.words.now in
    omega (arith, (framed c.file_laws.ensures.takes c.args.format c.args.words.now i.collection i.parts c.requires.index).few_terms, c.frame_of.ensures.terms)

pub returns-clause-rest : goal.returns-clause-rest
returns-clause-rest c =
    let i = index_stated c.args.words.now in
    λ t le. get_or_past i.collection.lists t [] (omega (arith, le, (framed c.file_laws.ensures.takes c.args.format c.args.words.now i.collection i.parts c.requires.index).terms, c.frame_of.ensures.terms))

pub returns-clause-none : goal.returns-clause-none
returns-clause-none c is none =
    let words = c.args.words.now in
    let i = index_stated c.args.words.now in
    let s : Spells (numbers_of Three) c.args.words.now (index_stated c.args.words.now).collection (index_stated c.args.words.now).parts =
    subst (λ v. Spells (numbers_of v) words i.collection i.parts) is c.requires.index in
    let p = to-packed words i.collection i.parts s in
    let laid = packed-laid c.file_laws.ensures.takes words i.collection.documents (with_parts i.collection.lists i.parts) i.collection.sizes (packable words i.collection i.parts p) p.spelled in
    let without = c.is_without_bits.ensures.1 (is, omega (arith, laid.bits, no-bits i.collection.documents 0 i.collection.lists i.parts none)) in
    absurd (search (without, c.if-is_without_bits.false, rules))
