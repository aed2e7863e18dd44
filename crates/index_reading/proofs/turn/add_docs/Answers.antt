use Rattle.std.proofs.Common.{◌+◌, ◌<◌, ap, length, map, arith}
use Rattle.std.proofs.lemmas.List.{length-map}
use Rattle.index_reading.proofs.InTurn.{doc-fits}
use Rattle.index_reading.proofs.ReadBack.{size-behind}
use Rattle.index_reading.proofs.turn.add_docs.Goals as goal

pub overflow_cast-given : goal.overflow_cast-given
overflow_cast-given c =
    let fits = doc-fits c.args.first c.args.view.now.values c.values_into.new.to c.loop-j.j c.requires.few c.values_into.ensures (omega (arith, c.loop-j-test.true, ap length c.values_into.ensures)) in
    omega (arith, fits.0)

pub overflow_add-first : goal.overflow_add-first
overflow_add-first c =
    let fits = doc-fits c.args.first c.args.view.now.values c.values_into.new.to c.loop-j.j c.requires.few c.values_into.ensures (omega (arith, c.loop-j-test.true, ap length c.values_into.ensures)) in
    omega (arith, fits.0)

pub loop-j-preserved : goal.loop-j-preserved
loop-j-preserved c =
    let values = c.args.view.now.values in
    let lt : c.loop-j.j < length values = omega (arith, c.loop-j-test.true, ap length c.values_into.ensures) in
    let fits = doc-fits c.args.first values c.values_into.new.to c.loop-j.j c.requires.few c.values_into.ensures lt in
    size-behind c.args.docs.now.items (map (λ d. c.args.first + d) values) _ _ c.loop-j.j _ c.loop-j.invariant c.in_ok-push.ensures.items fits.1 (omega (arith, lt, length-map values (λ d. c.args.first + d)))
