use Rattle.std.proofs.Common.{arith}
use Rattle.std.proofs.lemmas.Result.{err_from_is_err_and}
use Rattle.remap.proofs.MapRead.{start-refused, no-piece, ids-refused, read-new_ids, map-read}
use Rattle.remap.proofs.reading.read_map.Goals as goal

pub returns-in_err-start : goal.returns-in_err-start
returns-in_err-start g c =
    let p = err_from_is_err_and c.from_residual.result c.from_residual.ensures.1 in
    rw (p.1, p.2) (start-refused c.args.name.now c.args.n _ _ c.in_err-start.field-0.0 (omega arith) c.in_err-start.ensures)

pub returns-in_err-held : goal.returns-in_err-held
returns-in_err-held g c =
    let p = err_from_is_err_and c.from_residual-in_err-held.result c.from_residual-in_err-held.ensures.1 in
    rw (p.1, p.2) (no-piece c.args.name.now c.args.n _ _ (omega arith) c.in_ok-start.ensures)

pub returns-in_err-ids : goal.returns-in_err-ids
returns-in_err-ids g c =
    let p = err_from_is_err_and c.from_residual-in_err-ids.result c.from_residual-in_err-ids.ensures.1 in
    rw (p.1, p.2) (ids-refused c.args.name.now c.in_ok-held.held c.read_ids.new.held c.args.n _ _ _ c.in_err-ids.field-0.0 (omega arith) c.in_ok-held.ensures c.in_ok-start.ensures c.in_err-ids.ensures)

pub returns : goal.returns
returns g c =
    rw c.new-2.ensures (map-read c.args.name.now c.in_ok-held.held c.read_ids.new.held c.in_ok-ids.ids.items c.args.n _ _ _ (omega arith) c.in_ok-held.ensures c.in_ok-start.ensures c.in_ok-ids.ensures)

pub new-requires-2-clause-new_ids : goal.new-requires-2-clause-new_ids
new-requires-2-clause-new_ids g c = read-new_ids c.args.n c.in_ok-held.held c.read_ids.new.held c.in_ok-ids.ids.items _ _ c.in_ok-ids.ensures
