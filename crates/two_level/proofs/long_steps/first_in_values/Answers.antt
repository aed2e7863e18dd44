use Rattle.std.proofs.Common.{◌≡◌, ℕ, ◌+◌, ◌-◌, ◌<◌, length, slice_index, drop, take, ap, ◌∙◌, arith}
use Rattle.std.proofs.lemmas.List.{length-append, length-take-le, length-drop}
use Rattle.part_cost.specs.Span.{past}
use Rattle.two_level.proofs.Steps.{last-here}
use Rattle.two_level.proofs.LongSteps.{first-behind, first-before, first-next}
use Rattle.two_level.proofs.long_steps.first_in_values.Goals as goal
use Rattle.two_level.proofs.long_steps.first_in_values.Goals.{After-min-room}

-- so much of the block is filled
size : (c : After-min-room) → length (take c.min-room.result c.read.block) ≡ c.min-room.result
size c = length-take-le c.min-room.result c.read.block (omega (arith, c.min-room.ensures, c.read.invariant.room))

pub returns-then-count-room : goal.returns-then-count-room
returns-then-count-room c xs h up =
    let first = c.first_in_block-count.ensures.first xs h (c.read.invariant.past_is xs h up) in
    first-before xs c.args.from _ c.args.held.now.part.to c.args.least (c.read.place + c.first_in_block-count.result.0) (first-behind xs c.args.from c.read.place _ c.args.least (c.read.place + c.first_in_block-count.result.0) (c.read.invariant.none xs h up) first)
    (omega (arith, size (goal.at.returns-then-count-room c).After-min-room, c.if-count-room.true)) (omega (arith, size (goal.at.returns-then-count-room c).After-min-room, c.min-room.ensures, c.read-test.true))

pub value_after-value-requires-clause-values : goal.value_after-value-requires-clause-values
value_after-value-requires-clause-values c =
    let h = c.requires.values in
    (h.0, h.1, last-here h.0 c.read.place c.min-room.result _ c.first_in_block-count.result.1 (size (goal.at.value_after-value-requires-clause-values c).After-min-room) (omega (arith, c.min-room.ensures, c.read-test.true)) (c.first_in_block-count.ensures.last h.0 h.1))

pub read-preserved-then-place-to : goal.read-preserved-then-place-to
read-preserved-then-place-to c =
    let room : ℕ = c.min-room.result in
    let some : 0 < room = omega (arith, c.min-room.ensures, c.read-test.true) in
    record {
      after = omega (arith, c.read.invariant.after);
      within = omega (arith, c.min-room.ensures, c.read-test.true);
      room = omega (arith, length-append c.first_in_block-count.new.block (drop room c.read.block), length-drop room c.read.block, c.first_in_block-count.ensures.room, size (goal.at.read-preserved-then-place-to c).After-min-room, c.read.invariant.room, c.min-room.ensures);
      value =
          λ lt xs h.
          c.value_after-value.ensures xs h ∙ ap (slice_index xs) (let e : c.read.place + room - 1 + 1 ≡ c.read.place + room = omega (arith, some) in e);
      past_is = λ xs h up. c.first_in_block-count.ensures.last xs h ∙ ap (λ n. past xs (c.read.place + n)) (size (goal.at.read-preserved-then-place-to c).After-min-room);
      none =
          λ xs h up.
          first-next xs c.args.from c.read.place _ room c.first_in_block-count.result.0 c.args.least (c.read.invariant.none xs h up) (c.first_in_block-count.ensures.first xs h (c.read.invariant.past_is xs h up)) (size (goal.at.read-preserved-then-place-to c).After-min-room)
          (omega (arith, c.first_in_block-count.ensures.count, size (goal.at.read-preserved-then-place-to c).After-min-room, c.if-count-room.false));
    }

pub read-preserved : goal.read-preserved
read-preserved c =
    record {
      after = omega (arith, c.read.invariant.after);
      within = omega (arith, c.min-room.ensures, c.read-test.true);
      room = omega (arith, length-append c.first_in_block-count.new.block (drop c.min-room.result c.read.block), length-drop c.min-room.result c.read.block, c.first_in_block-count.ensures.room, size (goal.at.read-preserved c).After-min-room, c.read.invariant.room, c.min-room.ensures);
      value = λ lt xs h. absurd (omega (arith, lt, c.if-place-to.false));
      past_is = λ xs h up. c.first_in_block-count.ensures.last xs h ∙ ap (λ n. past xs (c.read.place + n)) (size (goal.at.read-preserved c).After-min-room);
      none =
          λ xs h up.
          first-next xs c.args.from c.read.place _ c.min-room.result c.first_in_block-count.result.0 c.args.least (c.read.invariant.none xs h up) (c.first_in_block-count.ensures.first xs h (c.read.invariant.past_is xs h up)) (size (goal.at.read-preserved c).After-min-room)
          (omega (arith, c.first_in_block-count.ensures.count, size (goal.at.read-preserved c).After-min-room, c.if-count-room.false));
    }
