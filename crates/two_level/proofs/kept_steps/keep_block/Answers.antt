use Rattle.std.proofs.Common.{◌≡◌, ◌+◌, ℕ, List, length, ap, ◌∙◌, sym, arith}
use Rattle.std.specs.Prelude.{slice_range}
use Rattle.collection_model.specs.Sequences.{steps_from}
use Rattle.two_level.specs.LongSteps.{count_reaching}
use Rattle.two_level.proofs.LongSteps.{steps-range}
use Rattle.two_level.proofs.kept_steps.keep_block.Goals as goal

pub returns-clause-kept : goal.returns-clause-kept
returns-clause-kept c xs h is t =
    let given : List ℕ = c.read_block-last.new.block in
    let room : length given ≡ length c.args.block.now = c.read_block-last.ensures.room in
    let all = c.read_block-last.ensures.values xs h ∙ ap (λ n. slice_range xs c.args.next.place (c.args.next.place + n)) (sym room) in
    let steps = steps-range xs given c.args.next.place c.args.next.past (omega (arith, c.requires.within, h.within)) all is ∙ ap (λ n. slice_range (steps_from 0 xs) c.args.next.place (c.args.next.place + n)) room in
    omega (arith, c.keep_steps.ensures.kept t, ap (count_reaching t) steps)
