use Rattle.std.proofs.Common.{[], ◌∙◌, ap, take}
use Rattle.std.proofs.lemmas.Result.{err_from_is_err_and}
use Rattle.collection_model.specs.Bytes.{le32}
use Rattle.word_files.proofs.Given.{held-refused}
use Rattle.word_files.proofs.piece.PieceWriter.give.Goals as goal

pub returns-in_err-at : goal.returns-in_err-at
returns-in_err-at g c =
    let p = err_from_is_err_and c.from_residual.result c.from_residual.ensures.1 in
    rw (p.1, p.2) (held-refused (le32 c.args.number) c.args.self.now _ [] _ _ _ (ap (take c.self.inside.held) c.deref.ensures.value ∙ c.self.view_is) c.in_err-at.ensures.refused)
