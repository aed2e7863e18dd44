use Rattle.std.proofs.Common.{◌≡◌, ◌+◌, subst, rules, arith}
use Rattle.index_file.specs.IndexView.{index_stated}
use Rattle.index_file.specs.ListWalk.{AreEmpty}
use Rattle.index_file.proofs.FileKinds.{framed}
use Rattle.index_file.proofs.ListsInTurn.{end-kept, end-next, no-bits, start-kept}
use Rattle.index_file.proofs.walk.go_to_first.Goals as goal

pub is_without_bits-requires : goal.is_without_bits-requires
is_without_bits-requires c =
    let h = c.requires.index in
    let i = index_stated c.args.words.now in
    record { some = omega (arith, (framed c.file_laws.ensures.takes c.args.format c.args.words.now i.collection i.parts h.spells).some) }

pub returns-then-is_without_bits-clause-numbers : goal.returns-then-is_without_bits-clause-numbers
returns-then-is_without_bits-clause-numbers c =
    let none = c.is_without_bits.ensures.0 c.if-is_without_bits.true in
    end-kept c.file_laws.ensures c.args.format none.0 c.args.words.now c.args.terms c.requires.index none.1 c.args.directory.now c.requires.packed c.requires.plain _ (search rules) (search rules)

pub returns-then-is_without_bits-clause-next : goal.returns-then-is_without_bits-clause-next
returns-then-is_without_bits-clause-next c = end-next c.args.directory.now c.args.terms (record { first = c.args.terms; at = 0; count = 1; marks = 0 }) (omega arith)

pub returns-then-is_without_bits-clause-empty : goal.returns-then-is_without_bits-clause-empty
returns-then-is_without_bits-clause-empty c =
    let none = c.is_without_bits.ensures.0 c.if-is_without_bits.true in
    subst (AreEmpty (index_stated c.args.words.now).collection 0) (let e : c.args.terms ≡ c.args.terms + 0 = omega arith in e)
    (no-bits c.file_laws.ensures c.args.format none.0 c.args.words.now c.args.terms c.requires.index none.1)

pub go_to_list-requires-clause-numbers : goal.go_to_list-requires-clause-numbers
go_to_list-requires-clause-numbers c =
    start-kept c.file_laws.ensures c.args.format c.args.words.now c.args.terms c.requires.index c.args.directory.now c.requires.packed c.requires.plain _ c.requires.room c.requires.start
