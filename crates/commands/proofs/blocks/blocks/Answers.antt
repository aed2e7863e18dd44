use Rattle.commands.proofs.Names.{IndexAt, loaded_as, NoMemory}
use Rattle.commands.proofs.FilesMade.{blocks_ended, blocks_stopped}
use Rattle.commands.proofs.FilesRead.{wanted}
use Rattle.commands.proofs.blocks.blocks.Goals as goal

pub returns-in_err-opened : goal.returns-in_err-opened
returns-in_err-opened g c = λ i o e e' n. blocks_stopped c.args.index.now c.args.side.now _ _ i o e e' n c.in_err-opened.field-0.0 c.from_residual.result c.from_residual.ensures.1 c.in_err-opened.ensures.refused

pub returns-in_err-greatest : goal.returns-in_err-greatest
returns-in_err-greatest g c = λ i o e e' n.
    blocks_stopped c.args.index.now c.args.side.now _ _ i o e e' n NoMemory c.from_residual-in_err-greatest.result c.from_residual-in_err-greatest.ensures.1 (wanted (IndexAt c.args.index.now) c.in_ok-opened.ensures.loaded.read)

pub returns : goal.returns
returns g c = λ i o e e' n.
    blocks_ended c.args.index.now c.args.side.now _ _ i o e e' n (loaded_as c.args.index.now _ _ c.in_ok-opened.opened c.index-index.result c.in_ok-opened.ensures.loaded c.index-index.ensures)
    c.in_ok-greatest.greatest.items c.write_words-written.result c.after_writing.result c.in_ok-greatest.ensures (rw c.deref.ensures.value at c.words_fit.ensures)
    (rw c.deref-2.ensures.value at c.write_words-written.ensures) c.after_writing.ensures
