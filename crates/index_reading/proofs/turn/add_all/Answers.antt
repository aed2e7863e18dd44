use Rattle.std.proofs.Common.{get_or, ap, arith}
use Rattle.index_reading.specs.declared.part.Part.{Part}
use Rattle.index_reading.proofs.InTurn.{reading-next, part-few, placed-set}
use Rattle.index_reading.proofs.turn.add_all.Goals as goal

pub add_next-requires-clause-few : goal.add_next-requires-clause-few
add_next-requires-clause-few c =
    let p : Part = get_or c.loop-i.parts c.loop-i.i c.index-parts-i.result in
    part-few c.args.parts.now c.loop-i.parts c.args.term c.loop-i.i p c.requires.few c.loop-i.invariant.placed (omega (arith, c.loop-i-test.true, c.loop-i.auto.parts)) (ap (get_or c.loop-i.parts c.loop-i.i) c.index-parts-i.is)

pub returns-in_err-add_next-clause-placed : goal.returns-in_err-add_next-clause-placed
returns-in_err-add_next-clause-placed c =
    let p : Part = get_or c.loop-i.parts c.loop-i.i c.index-parts-i.result in
    placed-set c.args.parts.now c.loop-i.parts c.loop-i.i p c.add_next.new.self c.loop-i.invariant.placed (ap (get_or c.loop-i.parts c.loop-i.i) c.index-parts-i.is) c.add_next.ensures.first c.add_next.ensures.collection

pub loop-i-preserved : goal.loop-i-preserved
loop-i-preserved c =
    let p : Part = get_or c.loop-i.parts c.loop-i.i c.index-parts-i.result in
    reading-next c.args.parts.now c.loop-i.parts c.args.term c.loop-i.i _ _ _ _ p c.add_next.new.self c.loop-i.invariant (omega (arith, c.loop-i-test.true, c.loop-i.auto.parts)) (ap (get_or c.loop-i.parts c.loop-i.i) c.index-parts-i.is)
    c.add_next.ensures.first c.add_next.ensures.collection c.in_ok-add_next.ensures.next c.in_ok-add_next.ensures.added
