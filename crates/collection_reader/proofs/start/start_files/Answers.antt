use Rattle.std.proofs.lemmas.Result.{err_from_is_err_and}
use Rattle.collection_reader.proofs.Starts.{docs_refused, freqs_refused, all_started}
use Rattle.collection_reader.proofs.start.start_files.Goals as goal

pub returns-in_err-start_file : goal.returns-in_err-start_file
returns-in_err-start_file g c =
    let p = err_from_is_err_and c.from_residual.result c.from_residual.ensures.1 in
    let base = c.args.base.now in
    rw (p.1, p.2) (docs_refused base _ _ c.in_err-start_file.field-0.0 c.in_err-start_file.ensures)

pub returns-in_err-start_file-2 : goal.returns-in_err-start_file-2
returns-in_err-start_file-2 g c =
    let p = err_from_is_err_and c.from_residual-in_err-start_file-2.result c.from_residual-in_err-start_file-2.ensures.1 in
    let base = c.args.base.now in
    rw (p.1, p.2) (freqs_refused base _ _ _ c.in_err-start_file-2.field-0.0 c.in_ok-start_file.ensures c.in_err-start_file-2.ensures)

pub returns : goal.returns
returns g c = all_started c.args.base.now _ _ _ _ c.start_file-3.result c.in_ok-start_file.ensures c.in_ok-start_file-2.ensures c.start_file-3.ensures
