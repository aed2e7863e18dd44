use Rattle.std.proofs.Common.{◌∙◌, sym, ap, length, arith}
use Rattle.index_file.specs.Builder.{with_empty_lists}
use Rattle.index_file.proofs.EmptyLists.{count-empty, empty-again}
use Rattle.index_file.proofs.packed_tail.PackedTail.append_empty.Goals as goal

pub invariant_of-self : goal.invariant_of-self
invariant_of-self c =
    let s = c.self.inside in
    record {
      format = c.self.invariant.format;
      few = omega (arith, c.requires.room, ap (λ b. length b.directory) c.self.view_is, count-empty s.lists s.tail c.self.invariant.format);
    }

pub returns : goal.returns
returns c =
    let s = c.self.inside in
    sym (empty-again s.lists s.tail c.args.count) ∙ ap (λ b. with_empty_lists b c.args.count) c.self.view_is
