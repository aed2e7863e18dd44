use Rattle.std.proofs.Common.{◌≡◌, ◌+◌, sym, ◌∙◌, ap, arith}
use Rattle.packed_list.specs.ListStated.{ListStated, list_at}
use Rattle.index_file.specs.PackedWords.{first_list_bit}
use Rattle.index_file.specs.PackedAt.{packed_documents}
use Rattle.index_file.specs.PackedView.{packed_list_stated}
use Rattle.index_file.proofs.PackedStarts.{held-at}
use Rattle.index_file.proofs.PackedLists.{empty-stated, some-stated, lie-between}
use Rattle.index_file.proofs.packed_views.packed_list_views.Goals as goal

pub packed_frame_of-frame-requires : goal.packed_frame_of-frame-requires
packed_frame_of-frame-requires c = omega (arith, c.requires.passes.frame.some)

pub overflow_add-range : goal.overflow_add-range
overflow_add-range c =
    let b = lie-between c.one_list_at_place.ensures.values c.args.words.now c.requires.passes c.args.t c.requires.within in
    omega (arith, b.ordered, b.few, c.range_of_list-range.ensures.from, c.requires.passes.frame.bits)

pub overflow_add-range-2 : goal.overflow_add-range-2
overflow_add-range-2 c =
    let b = lie-between c.one_list_at_place.ensures.values c.args.words.now c.requires.passes c.args.t c.requires.within in
    omega (arith, b.few, c.range_of_list-range.ensures.to, c.requires.passes.frame.bits)

pub overflow_cast-frame : goal.overflow_cast-frame
overflow_cast-frame c = omega (arith, c.packed_frame_of-frame.ensures.documents, c.requires.passes.frame.documents)

pub view_list-requires-clause-some : goal.view_list-requires-clause-some
view_list-requires-clause-some c =
    let b = lie-between c.one_list_at_place.ensures.values c.args.words.now c.requires.passes c.args.t c.requires.within in
    omega (arith, b.ordered, c.range_of_list-range.ensures.from, c.range_of_list-range.ensures.to, c.if-range.false)

pub view_list-requires-clause-range : goal.view_list-requires-clause-range
view_list-requires-clause-range c =
    let b = lie-between c.one_list_at_place.ensures.values c.args.words.now c.requires.passes c.args.t c.requires.within in
    omega (arith, b.within, c.range_of_list-range.ensures.to)

pub view_list-requires-clause-list : goal.view_list-requires-clause-list
view_list-requires-clause-list c =
    held-at c.args.words.now c.args.t c.packed_frame_of-frame.result.documents (first_list_bit + c.range_of_list-range.result.from) (first_list_bit + c.range_of_list-range.result.to) c.packed_frame_of-frame.ensures.documents
    (ap (λ k. first_list_bit + k) c.range_of_list-range.ensures.from) (ap (λ k. first_list_bit + k) c.range_of_list-range.ensures.to) (c.requires.passes.lists c.args.t c.requires.within)

pub returns-then-range-clause-docs : goal.returns-then-range-clause-docs
returns-then-range-clause-docs c =
    let is = empty-stated c.args.words.now c.args.t (sym c.range_of_list-range.ensures.from ∙ c.if-range.true ∙ c.range_of_list-range.ensures.to) in
    c.without_values.ensures ∙ ap (λ (s : ListStated). s.docs) (sym is)

pub returns-then-range-clause-freqs : goal.returns-then-range-clause-freqs
returns-then-range-clause-freqs c =
    let is = empty-stated c.args.words.now c.args.t (sym c.range_of_list-range.ensures.from ∙ c.if-range.true ∙ c.range_of_list-range.ensures.to) in
    c.read.ensures ∙ c.without_values-then-range.ensures ∙ ap (λ (s : ListStated). s.freqs) (sym is)

pub returns-then-range-clause-greatest : goal.returns-then-range-clause-greatest
returns-then-range-clause-greatest c =
    let is = empty-stated c.args.words.now c.args.t (sym c.range_of_list-range.ensures.from ∙ c.if-range.true ∙ c.range_of_list-range.ensures.to) in
    ap (λ (s : ListStated). s.most) (sym is)

-- what is viewed is the list stated
viewed : (c : goal.After-view_list)
    → list_at c.packed_frame_of-frame.result.documents c.args.words.now (first_list_bit + c.range_of_list-range.result.from) ≡ packed_list_stated c.args.words.now c.args.t
viewed c =
    ap (λ n. list_at n c.args.words.now (first_list_bit + c.range_of_list-range.result.from)) c.packed_frame_of-frame.ensures.documents
    ∙ ap (λ k. list_at (packed_documents c.args.words.now) c.args.words.now (first_list_bit + k)) c.range_of_list-range.ensures.from
    ∙ sym (some-stated c.args.words.now c.args.t (λ e. c.if-range.false (c.range_of_list-range.ensures.from ∙ e ∙ sym c.range_of_list-range.ensures.to)))

pub returns-clause-docs : goal.returns-clause-docs
returns-clause-docs c = c.view_list.ensures.docs ∙ ap (λ (s : ListStated). s.docs) (viewed c)

pub returns-clause-freqs : goal.returns-clause-freqs
returns-clause-freqs c = c.view_list.ensures.freqs ∙ ap (λ (s : ListStated). s.freqs) (viewed c)

pub returns-clause-greatest : goal.returns-clause-greatest
returns-clause-greatest c = c.view_list.ensures.greatest ∙ ap (λ (s : ListStated). s.most) (viewed c)
