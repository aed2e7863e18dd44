use Rattle.std.proofs.Common.{◌+◌, ◌-◌, refl, ◌∙◌, arith}
use Rattle.collection_model.specs.Collection.{list_of}
use Rattle.index_file.specs.PackedWords.{first_list_bit}
use Rattle.index_file.proofs.PackedStarts.{stored-at, held-at, list-at}
use Rattle.index_file.proofs.PackedChecks.{AreBetween, are-between, not-both}
use Rattle.index_file.proofs.packed_checking.check_packed_list.Given as given
use Rattle.index_file.proofs.packed_checking.check_packed_list.Goals as goal
use Rattle.index_file.proofs.packed_checking.check_packed_list.Goals.{After-one_list_at_place}

-- where the bits of the list stand
between : (g : given.Over) (c : After-one_list_at_place g) → AreBetween c.args.words.now c.args.t c.args.number c.args.next
between g c =
    let a = c.args in
    are-between c.one_list_at_place.ensures.values a.words.now c.requires.frame c.requires.starts a.t a.number a.next c.requires.within c.requires.number c.requires.next

pub overflow_add-from : goal.overflow_add-from
overflow_add-from g c =
    let b = between g (goal.at.overflow_add-from g c).After-one_list_at_place in
    omega (arith, b.few, c.requires.frame.bits, c.requires.frame.terms, c.requires.within)

pub overflow_sub-from : goal.overflow_sub-from
overflow_sub-from g c =
    let b = between g (goal.at.overflow_sub-from g c).After-one_list_at_place in
    omega (arith, b.reached)

pub overflow_add-to : goal.overflow_add-to
overflow_add-to g c =
    let b = between g (goal.at.overflow_add-to g c).After-one_list_at_place in
    omega (arith, b.next_few, c.requires.frame.bits, c.requires.frame.terms, c.requires.within)

pub overflow_sub-to : goal.overflow_sub-to
overflow_sub-to g c = omega arith

pub overflow_sub-to-2 : goal.overflow_sub-to-2
overflow_sub-to-2 g c =
    let b = between g (goal.at.overflow_sub-to-2 g c).After-one_list_at_place in
    omega (arith, b.reached, b.less)

pub overflow_cast-frame : goal.overflow_cast-frame
overflow_cast-frame g c = omega (arith, c.requires.frame.documents, c.requires.numbers.documents)

pub check_list_into-requires-clause-ordered : goal.check_list_into-requires-clause-ordered
check_list_into-requires-clause-ordered g c =
    let b = between g (goal.at.check_list_into-requires-clause-ordered g c).After-one_list_at_place in
    omega (arith, b.ordered)

pub check_list_into-requires-clause-range : goal.check_list_into-requires-clause-range
check_list_into-requires-clause-range g c =
    let b = between g (goal.at.check_list_into-requires-clause-range g c).After-one_list_at_place in
    omega (arith, b.within)

pub returns-then-check_list_into-clause-ok : goal.returns-then-check_list_into-clause-ok
returns-then-check_list_into-clause-ok g c =
    let a = c.args in
    let b = between g (goal.at.returns-then-check_list_into-clause-ok g c).After-one_list_at_place in
    stored-at a.words.now a.t a.frame.documents (first_list_bit + a.number - a.t) (first_list_bit + a.next - 1 - a.t) c.requires.numbers.documents b.from b.to (c.check_list_into.ensures.list.0 c.if-check_list_into.true)

pub returns-else-check_list_into-clause-err : goal.returns-else-check_list_into-clause-err
returns-else-check_list_into-clause-err g c =
    let a = c.args in
    let b = between g (goal.at.returns-else-check_list_into-clause-err g c).After-one_list_at_place in (
      λ h. not-both c.check_list_into.result
          (c.check_list_into.ensures.list.1 (held-at a.words.now a.t a.frame.documents (first_list_bit + a.number - a.t) (first_list_bit + a.next - 1 - a.t) c.requires.numbers.documents b.from b.to h))
          c.if-check_list_into.false,
      refl,
    )

-- the list that was given is the one that stands there
pub returns-then-check_list_into-clause-took : goal.returns-then-check_list_into-clause-took
returns-then-check_list_into-clause-took g c = λ col are took.
    let a = c.args in
    let b = between g (goal.at.returns-then-check_list_into-clause-took g c).After-one_list_at_place in
    let at = list-at a.words.now a.t a.frame.documents (first_list_bit + a.number - a.t) (first_list_bit + a.next - 1 - a.t) (list_of col a.t) c.requires.numbers.documents b.from b.to (are.lists a.t c.requires.within) in
    c.check_list_into.ensures.took c.if-check_list_into.true col at.0 at.1 took (c.requires.numbers.documents ∙ are.documents) at.2
