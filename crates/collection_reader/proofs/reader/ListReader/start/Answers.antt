use Rattle.std.proofs.lemmas.Result.{err_from_is_err_and}
use Rattle.part_cost.specs.Formats.{numbers_of}
use Rattle.collection_reader.proofs.Starts.{reading_refused, head_refused}
use Rattle.collection_reader.proofs.reader.ListReader.start.Goals as goal

pub returns-in_err-start_files : goal.returns-in_err-start_files
returns-in_err-start_files g c =
    let p = err_from_is_err_and c.from_residual.result c.from_residual.ensures.1 in
    rw (p.1, p.2) (reading_refused (numbers_of c.args.format) c.args.base.now _ _ c.in_err-start_files.field-0.0 c.in_err-start_files.ensures)

pub returns-in_err-documents : goal.returns-in_err-documents
returns-in_err-documents g c =
    let p = err_from_is_err_and c.from_residual-in_err-documents.result c.from_residual-in_err-documents.ensures.1 in
    rw (p.1, p.2) (head_refused (numbers_of c.args.format) c.args.base.now c.read_head.new.held _ _ _ c.in_err-documents.field-0.0 c.in_ok-start_files.ensures (rw c.in_ok-docs.ensures at c.in_err-documents.ensures))
