use Rattle.std.proofs.lemmas.Result.{err_from_is_err_and}
use Rattle.collection_model.specs.Bytes.{word_bytes}
use Rattle.word_files.proofs.WrittenFile.{room-refused, create-refused, write-refused, finished}
use Rattle.word_files.proofs.writing.write_words.Goals as goal

pub returns-in_err-piece : goal.returns-in_err-piece
returns-in_err-piece g c =
    let p = err_from_is_err_and c.from_residual.result c.from_residual.ensures.1 in
    rw (p.1, p.2, c.in_err-piece.ensures.refused) (room-refused (word_bytes c.args.words.now) c.args.name.now _)

pub returns-in_err-create : goal.returns-in_err-create
returns-in_err-create g c =
    let p = err_from_is_err_and c.from_residual-in_err-create.result c.from_residual-in_err-create.ensures.1 in
    rw (p.1, p.2) (create-refused (word_bytes c.args.words.now) c.args.name.now _ _ _ c.in_err-create.ensures)

pub returns-in_err-write_pieces : goal.returns-in_err-write_pieces
returns-in_err-write_pieces g c =
    let p = err_from_is_err_and c.from_residual-in_err-write_pieces.result c.from_residual-in_err-write_pieces.ensures.1 in
    rw (p.1, p.2) (write-refused (word_bytes c.args.words.now) c.args.name.now _ _ _ _ c.in_ok-create.ensures c.in_err-write_pieces.ensures)

pub returns : goal.returns
returns g c = finished (word_bytes c.args.words.now) c.args.name.now _ _ _ _ _ c.in_ok-create.ensures c.in_ok-write_pieces.ensures c.finish.ensures
