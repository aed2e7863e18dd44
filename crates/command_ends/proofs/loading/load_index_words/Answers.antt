use Rattle.command_ends.proofs.IndexRead.{index_unloaded}
use Rattle.outcomes.proofs.Told.{handed_on, told_ok, told_err}
use Rattle.command_ends.proofs.loading.load_index_words.Goals as goal

pub returns-in_err-words-clause-refused : goal.returns-in_err-words-clause-refused
returns-in_err-words-clause-refused g c =
    let a = told_err c.load_words.result c.map_err.result _ c.in_err-words.field-0.0 c.map_err.ensures.cases c.in_err-words.was in
    rw (handed_on c.from_residual.result c.from_residual.ensures.1, a.2) (index_unloaded c.words_and_bytes_undo_each_other.ensures.read c.one_broken_check.ensures c.args.name.now _ _ a.0 (rw a.1 at c.load_words.ensures.loads))

pub returns-clause-words : goal.returns-clause-words
returns-clause-words g c =
    let was = told_ok c.load_words.result c.map_err.result _ c.in_ok-words.words c.map_err.ensures.cases c.in_ok-words.was in
    rw was at c.load_words.ensures.loads
