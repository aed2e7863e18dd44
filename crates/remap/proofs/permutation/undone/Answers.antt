use Rattle.std.proofs.Common.{arith}
use Rattle.remap.proofs.Arranged.{undoing-new_ids}
use Rattle.remap.proofs.permutation.undone.Goals as goal

pub returns-clause-new_ids : goal.returns-clause-new_ids
returns-clause-new_ids c =
    let before = c.loop-d.invariant in
    undoing-new_ids c.args.ids.now c.loop-d.back.items c.requires.new_ids (record { count = before.count; back_again = λ d within. before.back_again d (omega arith) })
