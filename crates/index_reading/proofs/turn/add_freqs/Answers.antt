use Rattle.std.proofs.Common.{◌<◌, sym, ap, ◌∙◌, length, arith}
use Rattle.collection_model.specs.Sequences.{steps_from}
use Rattle.collection_model.proofs.Sequences.{steps-length}
use Rattle.index_reading.proofs.InTurn.{step-one, step-read}
use Rattle.index_reading.proofs.ReadBack.{size-behind, sizes-behind}
use Rattle.index_reading.proofs.turn.add_freqs.Goals as goal

pub loop-preserved : goal.loop-preserved
loop-preserved c =
    let lt : c.loop.counter < length c.args.sums.now.values = omega (arith, c.loop-test.true, c.requires.room) in
    size-behind c.args.freqs.now.items (steps_from 0 c.args.sums.now.values) _ _ c.loop.counter 1 c.loop.invariant c.in_ok-push.ensures.items (step-one c.args.sums.now.values c.loop.counter lt c.requires.not_zero (sym c.requires.most ∙ c.if-most-eq1.true))
    (omega (arith, lt, steps-length 0 c.args.sums.now.values))

pub returns-then-most-eq1 : goal.returns-then-most-eq1
returns-then-most-eq1 c =
    sizes-behind c.args.freqs.now.items (steps_from 0 c.args.sums.now.values) _ c.loop.counter c.loop.invariant (omega (arith, c.loop-test.false, c.requires.room, steps-length 0 c.args.sums.now.values))

pub overflow_add-next : goal.overflow_add-next
overflow_add-next c =
    let xs = c.args.sums.now.values in
    let step = step-read xs c.values_into.new.to c.loop-k.k c.loop-k.past c.values_into.ensures (omega (arith, c.requires.few, c.requires.room)) (omega (arith, c.loop-k-test.true, ap length c.values_into.ensures)) c.requires.not_zero c.requires.fit c.loop-k.invariant.before in
    omega (arith, step.small)

pub overflow_sub-next : goal.overflow_sub-next
overflow_sub-next c =
    let xs = c.args.sums.now.values in
    let step = step-read xs c.values_into.new.to c.loop-k.k c.loop-k.past c.values_into.ensures (omega (arith, c.requires.few, c.requires.room)) (omega (arith, c.loop-k-test.true, ap length c.values_into.ensures)) c.requires.not_zero c.requires.fit c.loop-k.invariant.before in
    omega (arith, step.forward)

pub overflow_cast-next : goal.overflow_cast-next
overflow_cast-next c =
    let xs = c.args.sums.now.values in
    let step = step-read xs c.values_into.new.to c.loop-k.k c.loop-k.past c.values_into.ensures (omega (arith, c.requires.few, c.requires.room)) (omega (arith, c.loop-k-test.true, ap length c.values_into.ensures)) c.requires.not_zero c.requires.fit c.loop-k.invariant.before in
    omega (arith, step.fits)

pub loop-k-preserved : goal.loop-k-preserved
loop-k-preserved c =
    let xs = c.args.sums.now.values in
    let lt : c.loop-k.k < length xs = omega (arith, c.loop-k-test.true, ap length c.values_into.ensures) in
    let step = step-read xs c.values_into.new.to c.loop-k.k c.loop-k.past c.values_into.ensures (omega (arith, c.requires.few, c.requires.room)) lt c.requires.not_zero c.requires.fit c.loop-k.invariant.before in
    record {
      read = size-behind c.args.freqs.now.items (steps_from 0 xs) _ _ c.loop-k.k _ c.loop-k.invariant.read c.in_ok-push-2.ensures.items step.is (omega (arith, lt, steps-length 0 xs));
      before = step.next;
    }

pub returns : goal.returns
returns c =
    sizes-behind c.args.freqs.now.items (steps_from 0 c.args.sums.now.values) _ c.loop-k.k c.loop-k.invariant.read (omega (arith, c.loop-k-test.false, ap length c.values_into.ensures, steps-length 0 c.args.sums.now.values))
