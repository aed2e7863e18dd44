use Rattle.std.proofs.Common.{◌+◌, ◌-◌, ◌≤◌, length, take, drop, arith}
use Rattle.std.proofs.lemmas.List.{length-take, length-drop}
use Rattle.std.proofs.lemmas.Result.{IfOk-at_ok}
use Rattle.io_traits.proofs.Loading.{read_prefix, read_on, put_prefix}
use Rattle.io_traits.proofs.load.fill_piece.Goals as goal

pub loop-held-preserved : goal.loop-held-preserved
loop-held-preserved g c =
    let held = c.loop-held.held in
    let count = c.in_ok-count.count in
    let was = c.loop-held.piece in
    let came : count ≤ length (take (length was - held) (drop held was)) = IfOk-at_ok _ c.in_ok-count.was c.read.ensures.within in
    let fits : held + count ≤ length was = omega (arith, came, length-take (length was - held) (drop held was), length-drop held was) in
    record {
      within = omega arith;
      room = omega arith;
      read = read_prefix _ _ _ _ _ (read_on (g.D.Depot.state c.args.depot.now) (g.D.Depot.state c.loop-held.depot) (g.D.Depot.state c.read.new.self) c.args.slot (take held was) _ c.read.new.buf _ count c.loop-held.invariant.read c.read.ensures c.in_ok-count.was)
          (put_prefix held (length was - held) count was c.read.new.buf (omega arith) (omega (arith, came, c.read.auto.buf)));
    }
