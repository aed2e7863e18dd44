use Rattle.commands.proofs.Names.{IndexAt, SideAt, loaded_as, NoMemory}
use Rattle.commands.proofs.FilesRead.{wanted}
use Rattle.commands.proofs.RepliesMade.{replies_made, replies_stopped}
use Rattle.commands.proofs.SideFound.{side_laws}
use Rattle.commands.proofs.SideRead.{as_unread, both_found, side_read, side_unread}
use Rattle.commands.proofs.bquery.bquery.Goals as goal

pub returns-in_err-opened-clause-leaves : goal.returns-in_err-opened-clause-leaves
returns-in_err-opened-clause-leaves g c = λ e e' n.
    let laws = side_laws c.words_and_bytes_undo_each_other.ensures.read c.one_broken_check.ensures c.one_index.ensures c.one_side_fault.ensures c.side_files_fit.ensures c.args.index.now c.args.side.now in
    replies_stopped (SideAt c.args.index.now c.args.side.now) e e' n c.in_err-opened.field-0.0 c.from_residual.result c.from_residual.ensures.1
    (as_unread c.args.index.now c.args.side.now laws c.in_err-opened.ensures.refused)

pub returns-in_err-starts-clause-leaves : goal.returns-in_err-starts-clause-leaves
returns-in_err-starts-clause-leaves g c = λ e e' n.
    let laws = side_laws c.words_and_bytes_undo_each_other.ensures.read c.one_broken_check.ensures c.one_index.ensures c.one_side_fault.ensures c.side_files_fit.ensures c.args.index.now c.args.side.now in
    replies_stopped (SideAt c.args.index.now c.args.side.now) e e' n NoMemory c.from_residual-in_err-starts.result c.from_residual-in_err-starts.ensures.1
    (as_unread c.args.index.now c.args.side.now laws (wanted (IndexAt c.args.index.now) c.in_ok-opened.ensures.loaded.read))

pub returns-in_err-greatest-clause-leaves : goal.returns-in_err-greatest-clause-leaves
returns-in_err-greatest-clause-leaves g c = λ e e' n.
    let laws = side_laws c.words_and_bytes_undo_each_other.ensures.read c.one_broken_check.ensures c.one_index.ensures c.one_side_fault.ensures c.side_files_fit.ensures c.args.index.now c.args.side.now in
    let w = loaded_as c.args.index.now _ _ c.in_ok-opened.opened c.index-index.result c.in_ok-opened.ensures.loaded c.index-index.ensures in
    replies_stopped (SideAt c.args.index.now c.args.side.now) e e' n c.in_err-greatest.field-0.0 c.from_residual-in_err-greatest.result c.from_residual-in_err-greatest.ensures.1
    (side_unread c.args.index.now c.args.side.now laws w _ c.in_err-greatest.field-0.0 (rw c.new-blocks.ensures.lists at c.in_err-greatest.ensures.refused))

pub returns-clause-leaves : goal.returns-clause-leaves
returns-clause-leaves g c = λ e e' n.
    let laws = side_laws c.words_and_bytes_undo_each_other.ensures.read c.one_broken_check.ensures c.one_index.ensures c.one_side_fault.ensures c.side_files_fit.ensures c.args.index.now c.args.side.now in
    let index = c.index-index.result in
    let w = loaded_as c.args.index.now _ _ c.in_ok-opened.opened index c.in_ok-opened.ensures.loaded c.index-index.ensures in
    let side = rw c.new-blocks.ensures.lists at c.in_ok-greatest.ensures.loaded in
    replies_made (SideAt c.args.index.now c.args.side.now) e e' n (side_read c.args.index.now c.args.side.now laws w _ side)
    index.collection (both_found c.args.index.now c.args.side.now laws w _ side) c.answer_by_blocks-answered.result (rw (c.new-lists.ensures, c.new-blocks.ensures.index) at c.answer_by_blocks-answered.ensures)
    c.after_answering.result c.after_answering.ensures
