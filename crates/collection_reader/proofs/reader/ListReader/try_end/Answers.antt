use Rattle.std.proofs.lemmas.Result.{err_from_is_err_and}
use Rattle.collection_reader.proofs.TriesEnd.{look_refused, end_read}
use Rattle.collection_reader.proofs.reader.ListReader.try_end.Goals as goal

pub returns-in_err-has_byte : goal.returns-in_err-has_byte
returns-in_err-has_byte g c =
    let p = err_from_is_err_and c.from_residual.result c.from_residual.ensures.1 in
    rw (p.1, p.2, ← c.self.view_is) (look_refused _ c.has_byte.new.held c.args.sizes.now.items _ _ c.in_err-has_byte.field-0.0 c.in_err-has_byte.ensures)

pub returns : goal.returns
returns g c =
    let look = rw c.if-branch.false at c.in_ok-has_byte.ensures in
    rw (← c.self.view_is) (end_read _ c.has_byte.new.held c.read_sizes.new.held c.read_sizes.new.sizes.items _ _ _ c.read_sizes.result look c.read_sizes.ensures)
