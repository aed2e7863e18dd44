use Rattle.std.proofs.Common.{◌≡◌, ◌∙◌, ◌+◌, suc, sym, ap, length, arith}
use Rattle.index_file.specs.Builder.{cut_list, with_list, with_empty_lists}
use Rattle.index_file.proofs.AddedBoth.{either-way}
use Rattle.index_file.proofs.EmptyLists.{count-empty, empty-same, none-added, none-tested, tail-after}
use Rattle.index_file.proofs.packed_tail.PackedTail.append.Goals as goal

pub invariant_of-self : goal.invariant_of-self
invariant_of-self c =
    let s = c.self.inside in
    record {
      format = c.self.invariant.format;
      few = omega (arith, c.requires.room, ap (λ b. length b.directory) c.self.view_is, count-empty s.lists s.tail c.self.invariant.format);
    }

pub returns-then-is_empty-clause-ok : goal.returns-then-is_empty-clause-ok
returns-then-is_empty-clause-ok c =
    let s = c.self.inside in
    let cut = cut_list c.args.docs.now c.args.freqs.now c.args.doc_ends.now c.args.sum_ends.now in
    let next : c.self.inside.tail + 1 ≡ suc c.self.inside.tail = omega arith in
    let none = none-tested (length c.args.docs.now) (sym c.if-is_empty.true ∙ c.is_empty.ensures) in
    ap (with_empty_lists s.lists) next
    ∙ none-added (with_empty_lists s.lists s.tail) c.args.docs.now c.args.freqs.now c.args.doc_ends.now c.args.sum_ends.now ((empty-same s.lists s.tail).0 ∙ c.self.invariant.format) none
    ∙ ap (λ b. with_list b cut) c.self.view_is

pub invariant_of-self-2 : goal.invariant_of-self-2
invariant_of-self-2 c =
    let s = c.self.inside in
    let cut = cut_list c.args.docs.now c.args.freqs.now c.args.doc_ends.now c.args.sum_ends.now in
    let is : c.append_empty.new.self ≡ with_empty_lists c.self.inside.lists c.self.inside.tail = c.in_ok-append_empty.ensures.ok in
    tail-after c.append_empty.new.self c.append.new.self cut (ap (λ b. b.format) is ∙ (empty-same s.lists s.tail).0 ∙ c.self.invariant.format)
    (omega (arith, ap (λ b. length b.directory) is, ap (λ b. length b.directory) c.self.view_is, c.requires.room))
    (either-way c.append.result c.append.ensures.ok c.append.ensures.err)
