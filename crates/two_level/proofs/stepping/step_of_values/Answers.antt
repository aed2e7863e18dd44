use Rattle.std.proofs.Common.{◌≡◌, ℕ, List, ◌+◌, ◌-◌, ◌<◌, length, slice_index, drop, take, ap, sym, ◌∙◌, subst, arith}
use Rattle.std.proofs.lemmas.List.{length-append, length-take-le, length-drop}
use Rattle.std.specs.List.Sorted.{IsStrictlyIncreasing}
use Rattle.part_directory.specs.HeldParts.{HoldsValues}
use Rattle.two_level.proofs.Steps.{StepsRead, steps-next, last-here, steps-all}
use Rattle.two_level.proofs.stepping.step_of_values.Goals as goal
use Rattle.two_level.proofs.stepping.step_of_values.Goals.{After-min-room, After-max-most}

-- so much of the block is filled
size : (c : After-min-room) → length (take c.min-room.result c.read.block) ≡ c.min-room.result
size c = length-take-le c.min-room.result c.read.block (omega (arith, c.min-room.ensures, c.read.invariant.room))

pub value_after-value-requires-clause-values : goal.value_after-value-requires-clause-values
value_after-value-requires-clause-values c =
    let h = c.requires.values in
    (h.0, h.1, last-here h.0 c.read.place c.min-room.result _ c.step_of_block-step.result.1 (size (goal.at.value_after-value-requires-clause-values c).After-min-room) (omega (arith, c.min-room.ensures, c.read-test.true)) (c.step_of_block-step.ensures.last h.0 h.1))

-- the greatest step with those of the block
more : (c : After-max-most) → (xs : List ℕ) → HoldsValues c.args.held.now xs → IsStrictlyIncreasing xs → StepsRead xs c.args.from (c.read.place + c.min-room.result) c.args.to (c.step_of_block-step.result.1 + 1) c.max-most.result
more c xs h up =
    let is = c.read.invariant.steps xs h up in
    subst (λ n. StepsRead xs c.args.from (c.read.place + c.min-room.result) c.args.to (c.step_of_block-step.result.1 + 1) n) (sym c.max-most.ensures)
    (steps-next xs c.args.from c.read.place c.args.to c.min-room.result _ c.read.past c.read.most c.step_of_block-step.result.0 c.step_of_block-step.result.1 is (omega (arith, c.min-room.ensures, c.read-test.true)) (omega (arith, c.requires.within, h.within))
    (size (goal.at.After-max-most c).After-min-room) (c.step_of_block-step.ensures.step xs h is.before_is) (c.step_of_block-step.ensures.last xs h))

pub read-preserved-then-place-to : goal.read-preserved-then-place-to
read-preserved-then-place-to c =
    let room : ℕ = c.min-room.result in
    let some : 0 < room = omega (arith, c.min-room.ensures, c.read-test.true) in
    record {
      after = omega (arith, c.read.invariant.after);
      within = omega (arith, c.min-room.ensures, c.read-test.true);
      room = omega (arith, length-append c.step_of_block-step.new.block (drop room c.read.block), length-drop room c.read.block, c.step_of_block-step.ensures.room, size (goal.at.read-preserved-then-place-to c).After-min-room, c.read.invariant.room, c.min-room.ensures);
      value =
          λ lt xs h.
          c.value_after-value.ensures xs h ∙ ap (slice_index xs) (let e : c.read.place + room - 1 + 1 ≡ c.read.place + room = omega (arith, some) in e);
      steps = more (goal.at.read-preserved-then-place-to c).After-max-most;
    }

pub read-preserved : goal.read-preserved
read-preserved c =
    let room : ℕ = c.min-room.result in
    record {
      after = omega (arith, c.read.invariant.after);
      within = omega (arith, c.min-room.ensures, c.read-test.true);
      room = omega (arith, length-append c.step_of_block-step.new.block (drop room c.read.block), length-drop room c.read.block, c.step_of_block-step.ensures.room, size (goal.at.read-preserved c).After-min-room, c.read.invariant.room, c.min-room.ensures);
      value = λ lt xs h. absurd (omega (arith, lt, c.if-place-to.false));
      steps = more (goal.at.read-preserved c).After-max-most;
    }

pub returns : goal.returns
returns c xs h up =
    steps-all xs c.args.from c.read.place c.args.to c.read.past c.read.most (c.read.invariant.steps xs h up) (omega (arith, c.read.invariant.within, c.read-test.false))
