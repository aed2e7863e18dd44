use Rattle.commands.proofs.CollectionRead.{collection_laws}
use Rattle.commands.proofs.WordsMade.{build_refused, build_ended}
use Rattle.commands.proofs.build.build.Goals as goal

pub returns-in_err-words : goal.returns-in_err-words
returns-in_err-words g c = λ i o e e'.
    build_refused c.args.index.format c.args.base.now c.args.index.name.now (collection_laws c.files_have_one_first_fault.ensures c.spelled_files_have_no_fault.ensures c.args.index.format c.args.base.now)
    _ _ i o e e' _ _ c.from_residual.result (rw c.in_err-words.was at c.build_words.ensures) c.from_residual.ensures.1

pub returns : goal.returns
returns g c = λ i o e e'.
    build_ended c.args.index.format c.args.base.now c.args.index.name.now (collection_laws c.files_have_one_first_fault.ensures c.spelled_files_have_no_fault.ensures c.args.index.format c.args.base.now)
    _ _ i o e e' _ _ _ c.in_ok-words.words.items c.write_words-written.result c.after_writing.result (rw c.in_ok-words.was at c.build_words.ensures)
    (rw c.deref.ensures.value at c.words_fit.ensures) (rw c.deref-2.ensures.value at c.write_words-written.ensures) c.after_writing.ensures
