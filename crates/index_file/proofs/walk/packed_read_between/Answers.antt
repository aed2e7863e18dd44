use Rattle.std.proofs.Common.{◌≡◌, ◌+◌, ◌-◌, sym, ap, subst, ◌∙◌, arith}
use Rattle.packed_list.specs.ListStated.{list_at, IsRead}
use Rattle.index_file.specs.PackedAt.{packed_documents, start_stated}
use Rattle.index_file.specs.PackedView.{packed_list_stated}
use Rattle.index_file.specs.PackedWords.{first_list_bit}
use Rattle.index_file.proofs.PackedStarts.{held-at}
use Rattle.index_file.proofs.PackedLists.{some-stated}
use Rattle.index_file.proofs.PackedChecks.{AreBetween, are-between}
use Rattle.index_file.proofs.walk.packed_read_between.Goals as goal
use Rattle.index_file.proofs.walk.packed_read_between.Goals.{After-file_laws, After-read_list}

-- where the bits of the list stand
between : (c : After-file_laws) → AreBetween c.args.words.now c.args.t c.args.number c.args.next
between c = are-between c.file_laws.ensures.values c.args.words.now c.requires.passes.frame c.requires.passes.starts c.args.t c.args.number c.args.next c.requires.within c.requires.number c.requires.next

pub overflow_add-from : goal.overflow_add-from
overflow_add-from c =
    let b = between (goal.at.overflow_add-from c).After-file_laws in
    omega (arith, b.few, c.requires.passes.frame.bits, c.requires.passes.frame.terms, c.requires.within)

pub overflow_sub-from : goal.overflow_sub-from
overflow_sub-from c =
    let b = between (goal.at.overflow_sub-from c).After-file_laws in
    omega (arith, b.reached)

pub overflow_add-to : goal.overflow_add-to
overflow_add-to c =
    let b = between (goal.at.overflow_add-to c).After-file_laws in
    omega (arith, b.next_few, c.requires.passes.frame.bits, c.requires.passes.frame.terms, c.requires.within)

pub overflow_sub-to-2 : goal.overflow_sub-to-2
overflow_sub-to-2 c =
    let b = between (goal.at.overflow_sub-to-2 c).After-file_laws in
    omega (arith, b.reached, b.less)

pub read_list-requires-clause-some : goal.read_list-requires-clause-some
read_list-requires-clause-some c =
    let b = between (goal.at.read_list-requires-clause-some c).After-file_laws in
    omega (arith, b.reached, b.less, c.requires.apart)

pub read_list-requires-clause-range : goal.read_list-requires-clause-range
read_list-requires-clause-range c =
    let b = between (goal.at.read_list-requires-clause-range c).After-file_laws in
    omega (arith, b.within)

pub read_list-requires-clause-list : goal.read_list-requires-clause-list
read_list-requires-clause-list c =
    let a = c.args in
    let b = between (goal.at.read_list-requires-clause-list c).After-file_laws in
    held-at a.words.now a.t c.packed_frame_of-documents.result.documents (first_list_bit + a.number - a.t) (first_list_bit + a.next - 1 - a.t) c.packed_frame_of-documents.ensures.documents b.from b.to
    (c.requires.passes.lists a.t c.requires.within)

-- what is viewed is the list stated
viewed : (c : After-read_list) → list_at c.packed_frame_of-documents.result.documents c.args.words.now (first_list_bit + c.args.number - c.args.t) ≡ packed_list_stated c.args.words.now c.args.t
viewed c =
    let words = c.args.words.now in
    let b = are-between c.file_laws.ensures.values words c.requires.passes.frame c.requires.passes.starts c.args.t c.args.number c.args.next c.requires.within c.requires.number c.requires.next in
    let apart : start_stated c.args.words.now c.args.t ≡ start_stated c.args.words.now (c.args.t + 1) → ⊥ = λ e. omega (arith, e, b.from, b.to, b.reached, b.less, c.requires.apart) in
    ap (λ k. list_at k words (first_list_bit + c.args.number - c.args.t)) c.packed_frame_of-documents.ensures.documents ∙ ap (list_at (packed_documents words) words) b.from ∙ sym (some-stated words c.args.t apart)

pub returns : goal.returns
returns c = subst (IsRead c.read_list.result) (viewed (goal.at.returns c).After-read_list) c.read_list.ensures
