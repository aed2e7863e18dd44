use Rattle.std.proofs.lemmas.Result.{err_from_is_err_and}
use Rattle.part_cost.specs.Formats.{numbers_of}
use Rattle.collection_reader.proofs.Heads.{head_cut, number_cut}
use Rattle.collection_reader.proofs.sequences.read_head.Goals as goal

pub returns-in_err-read_number : goal.returns-in_err-read_number
returns-in_err-read_number g c =
    let p = err_from_is_err_and c.from_residual.result c.from_residual.ensures.1 in
    rw (p.1, p.2) (head_cut (numbers_of c.args.format) c.args.held.now c.read_number.new.held _ _ c.in_err-read_number.field-0.0 c.in_err-read_number.ensures)

pub returns-in_err-documents : goal.returns-in_err-documents
returns-in_err-documents g c =
    let p = err_from_is_err_and c.from_residual-in_err-documents.result c.from_residual-in_err-documents.ensures.1 in
    let first = rw c.if-branch-ne1.false at c.in_ok-read_number.ensures in
    rw (p.1, p.2) (number_cut (numbers_of c.args.format) c.args.held.now c.read_number.new.held c.read_number-2.new.held _ _ _ c.in_err-documents.field-0.0 first c.in_err-documents.ensures)
