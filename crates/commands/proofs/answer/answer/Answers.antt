use Rattle.commands.proofs.Names.{answer_format}
use Rattle.commands.proofs.CollectionRead.{collection_laws, files_made}
use Rattle.commands.proofs.WordsMade.{are_index, answer_refused, answer_ended}
use Rattle.commands.proofs.answer.answer.Goals as goal

pub returns-in_err-words-clause-leaves : goal.returns-in_err-words-clause-leaves
returns-in_err-words-clause-leaves g c = λ e e'.
    answer_refused c.args.base.now _ _ _ _ (collection_laws c.files_have_one_first_fault.ensures c.spelled_files_have_no_fault.ensures answer_format c.args.base.now)
    _ _ e e' c.from_residual.result (rw c.in_err-words.was at c.build_words.ensures) c.from_residual.ensures.1

pub known-index-requires-clause-index : goal.known-index-requires-clause-index
known-index-requires-clause-index g c = rw c.deref.ensures.value (are_index (files_made answer_format c.args.base.now _ _ _ _ c.in_ok-words.words.items (rw c.in_ok-words.was at c.build_words.ensures)))

pub returns-clause-leaves : goal.returns-clause-leaves
returns-clause-leaves g c = λ e e'.
    answer_ended c.args.base.now _ _ _ _ (collection_laws c.files_have_one_first_fault.ensures c.spelled_files_have_no_fault.ensures answer_format c.args.base.now)
    _ _ e e' c.one_index.ensures _ _ c.in_ok-words.words.items c.known-index.result c.answer_text-answered.result c.after_answering.result (rw c.in_ok-words.was at c.build_words.ensures)
    (rw c.deref.ensures.value at c.known-index.ensures.spells) c.answer_text-answered.ensures c.after_answering.ensures
