use Rattle.commands.proofs.Names.{spelled, IndexAt, loaded_as, NoMemory}
use Rattle.commands.proofs.FilesMade.{export_ended, export_stopped}
use Rattle.commands.proofs.FilesRead.{wanted}
use Rattle.commands.proofs.export.export.Goals as goal

pub returns-in_err-opened : goal.returns-in_err-opened
returns-in_err-opened g c = λ i o e e' s. export_stopped c.args.index.now c.args.base.now _ _ i o e e' s c.in_err-opened.field-0.0 c.from_residual.result c.from_residual.ensures.1 c.in_err-opened.ensures.refused

pub returns-in_err-names : goal.returns-in_err-names
returns-in_err-names g c = λ i o e e' s.
    export_stopped c.args.index.now c.args.base.now _ _ i o e e' s NoMemory c.from_residual-in_err-names.result c.from_residual-in_err-names.ensures.1 (wanted (IndexAt c.args.index.now) c.in_ok-opened.ensures.loaded.read)

pub returns-in_err-writer : goal.returns-in_err-writer
returns-in_err-writer g c = λ i o e e' s.
    export_stopped c.args.index.now c.args.base.now _ _ i o e e' s NoMemory c.from_residual-in_err-writer.result c.from_residual-in_err-writer.ensures.1 (wanted (IndexAt c.args.index.now) c.in_ok-opened.ensures.loaded.read)

pub write_collection-written-requires-clause-apart : goal.write_collection-written-requires-clause-apart
write_collection-written-requires-clause-apart g c = c.in_ok-names.ensures.apart (spelled c.index-index.result.collection)

pub returns : goal.returns
returns g c = λ i o e e' s.
    export_ended c.args.index.now c.args.base.now _ _ i o e e' s (loaded_as c.args.index.now _ _ c.in_ok-opened.opened c.index-index.result c.in_ok-opened.ensures.loaded c.index-index.ensures)
    c.write_collection-written.result c.after_writing_files.result (c.in_ok-names.ensures.under (spelled c.index-index.result.collection)) c.write_collection-written.ensures
    c.after_writing_files.ensures
