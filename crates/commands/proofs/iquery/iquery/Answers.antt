use Rattle.std.proofs.Common.{subst, sym, ℕ, List}
use Rattle.index_file.specs.IndexView.{word_count}
use Rattle.index_intervals.specs.LongLists.{AreIndexMaxima}
use Rattle.commands.proofs.Names.{IndexAt, loaded_as, NoMemory}
use Rattle.commands.proofs.FilesRead.{wanted}
use Rattle.commands.proofs.RepliesMade.{replies_made, replies_stopped}
use Rattle.commands.proofs.iquery.iquery.Goals as goal

pub new-lists-requires-2 : goal.new-lists-requires-2
new-lists-requires-2 g c = subst (λ (bytes : List ℕ). AreIndexMaxima (word_count c.index-index.result) c.index-index.result.collection bytes) (sym c.view.ensures) c.in_ok-maxima.ensures

pub returns-in_err-opened-clause-leaves : goal.returns-in_err-opened-clause-leaves
returns-in_err-opened-clause-leaves g c = λ e e' n.
    replies_stopped (IndexAt c.args.index.now) e e' n c.in_err-opened.field-0.0 c.from_residual-in_err-opened.result c.from_residual-in_err-opened.ensures.1
    (c.in_err-opened.ensures.refused c.args.index.now _ _ c.in_ok-words.ensures.words)

pub returns-in_err-words-clause-leaves : goal.returns-in_err-words-clause-leaves
returns-in_err-words-clause-leaves g c = λ e e' n.
    replies_stopped (IndexAt c.args.index.now) e e' n c.in_err-words.field-0.0 c.from_residual.result c.from_residual.ensures.1 c.in_err-words.ensures.refused

pub returns-in_err-maxima-clause-leaves : goal.returns-in_err-maxima-clause-leaves
returns-in_err-maxima-clause-leaves g c = λ e e' n.
    replies_stopped (IndexAt c.args.index.now) e e' n NoMemory c.from_residual-in_err-maxima.result c.from_residual-in_err-maxima.ensures.1 (wanted (IndexAt c.args.index.now) (c.in_ok-opened.ensures.loaded c.args.index.now _ _ c.in_ok-words.ensures.words).read)

pub returns-clause-leaves : goal.returns-clause-leaves
returns-clause-leaves g c = λ e e' n.
    let index = c.index-index.result in
    let w = loaded_as c.args.index.now _ _ c.in_ok-opened.opened index (c.in_ok-opened.ensures.loaded c.args.index.now _ _ c.in_ok-words.ensures.words) c.index-index.ensures in
    replies_made (IndexAt c.args.index.now) e e' n w.read index.collection (index.format, index.parts, w.found) c.answer_by_intervals-answered.result (rw c.new-lists-2.ensures at c.answer_by_intervals-answered.ensures)
    c.after_answering.result c.after_answering.ensures

-- the lists were given as the file was checked
pub of-requires : goal.of-requires
of-requires g c = record { given = rw c.index-index.ensures (λ packed. c.in_ok-opened.ensures.took packed (c.new-lists.ensures c.in_ok-opened.opened.collection)) }

-- the index stands there
pub returns-clause-unaccepted : goal.returns-clause-unaccepted
returns-clause-unaccepted g c never =
    let opened = c.in_ok-opened.opened in
    let loaded = c.in_ok-opened.ensures.loaded c.args.index.now _ _ c.in_ok-words.ensures.words in
    absurd (never (opened.collection, (opened.format, opened.parts, loaded.found)))
