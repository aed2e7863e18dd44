use Rattle.std.proofs.Common.{◌≡◌, ℕ, ◌+◌, ◌-◌, ◌<◌, length, slice_index, drop, take, ap, ◌∙◌, arith}
use Rattle.std.specs.Prelude.{slice_range}
use Rattle.std.proofs.lemmas.List.{length-append, length-take-le, length-drop}
use Rattle.collection_model.specs.Sequences.{steps_from}
use Rattle.part_cost.specs.Span.{past}
use Rattle.two_level.specs.LongSteps.{count_reaching}
use Rattle.two_level.proofs.Steps.{last-here}
use Rattle.two_level.proofs.LongSteps.{count-more}
use Rattle.two_level.proofs.kept_steps.keep_part.Goals as goal
use Rattle.two_level.proofs.kept_steps.keep_part.Goals.{After-min-room}

-- so much of the block is filled
size : (c : After-min-room) → length (take c.min-room.result c.read.block) ≡ c.min-room.result
size c = length-take-le c.min-room.result c.read.block (omega (arith, c.min-room.ensures, c.read.invariant.room))

pub value_after-value-requires-clause-values : goal.value_after-value-requires-clause-values
value_after-value-requires-clause-values c =
    let h = c.requires.values in
    (h.0, h.1, last-here h.0 c.read.place c.min-room.result _ c.keep_block-last.result (size (goal.at.value_after-value-requires-clause-values c).After-min-room) (omega (arith, c.min-room.ensures, c.read-test.true)) (c.keep_block-last.ensures.last h.0 h.1))

pub read-preserved-then-place-to : goal.read-preserved-then-place-to
read-preserved-then-place-to c =
    let so_far = c.read.invariant in
    let room : ℕ = c.min-room.result in
    let some : 0 < room = omega (arith, c.min-room.ensures, c.read-test.true) in
    record {
      after = omega (arith, so_far.after);
      within = omega (arith, c.min-room.ensures, c.read-test.true);
      room = omega (arith, length-append c.keep_block-last.new.block (drop room c.read.block), length-drop room c.read.block, c.keep_block-last.ensures.room, size (goal.at.read-preserved-then-place-to c).After-min-room, so_far.room, c.min-room.ensures);
      same_kept = c.keep_block-last.ensures.same_kept ∙ so_far.same_kept;
      value =
          λ lt xs h.
          c.value_after-value.ensures xs h ∙ ap (slice_index xs) (let e : c.read.place + room - 1 + 1 ≡ c.read.place + room = omega (arith, some) in e);
      past_is = λ xs h up. c.keep_block-last.ensures.last xs h ∙ ap (λ n. past xs (c.read.place + n)) (size (goal.at.read-preserved-then-place-to c).After-min-room);
      longest =
          λ xs h up.
          count-more (steps_from 0 xs) c.args.held.now.part.from c.read.place _ room c.args.kept.now c.read.kept c.keep_block-last.new.kept so_far.after (size (goal.at.read-preserved-then-place-to c).After-min-room) so_far.same_kept (so_far.longest xs h up) (c.keep_block-last.ensures.kept xs h (so_far.past_is xs h up));
    }

pub read-preserved : goal.read-preserved
read-preserved c =
    let so_far = c.read.invariant in
    record {
      after = omega (arith, so_far.after);
      within = omega (arith, c.min-room.ensures, c.read-test.true);
      room = omega (arith, length-append c.keep_block-last.new.block (drop c.min-room.result c.read.block), length-drop c.min-room.result c.read.block, c.keep_block-last.ensures.room, size (goal.at.read-preserved c).After-min-room, so_far.room, c.min-room.ensures);
      same_kept = c.keep_block-last.ensures.same_kept ∙ so_far.same_kept;
      value = λ lt xs h. absurd (omega (arith, lt, c.if-place-to.false));
      past_is = λ xs h up. c.keep_block-last.ensures.last xs h ∙ ap (λ n. past xs (c.read.place + n)) (size (goal.at.read-preserved c).After-min-room);
      longest =
          λ xs h up.
          count-more (steps_from 0 xs) c.args.held.now.part.from c.read.place _ c.min-room.result c.args.kept.now c.read.kept c.keep_block-last.new.kept so_far.after (size (goal.at.read-preserved c).After-min-room) so_far.same_kept (so_far.longest xs h up) (c.keep_block-last.ensures.kept xs h (so_far.past_is xs h up));
    }

pub returns-clause-kept : goal.returns-clause-kept
returns-clause-kept c xs h up t =
    let end : c.read.place ≡ c.args.held.now.part.to = omega (arith, c.read.invariant.within, c.read-test.false) in
    omega (arith, c.read.invariant.longest xs h up t, ap (λ n. count_reaching t (slice_range (steps_from 0 xs) c.args.held.now.part.from n)) end)
