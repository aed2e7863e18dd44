use Rattle.std.proofs.Common.{arith, refl, inl, inr}
use Rattle.std.proofs.lemmas.Result.{err_from_is_err_and}
use Rattle.io_traits.specs.declared.fail.Slot.TheVariants.{Docs, Freqs, Sizes}
use Rattle.remapped_files.specs.NamedFiles.{files_named}
use Rattle.remapped_files.proofs.FilesInTurn.{none-written, one-written, named-refused, files-written}
use Rattle.remapped_files.proofs.writing.write_files.Goals as goal

pub returns-in_err-write_named : goal.returns-in_err-write_named
returns-in_err-write_named g c =
    let p = err_from_is_err_and c.from_residual.result c.from_residual.ensures.1 in
    let files = files_named c.args.names.now (g.S.GivesFiles.files c.args.source.now) in
    rw (p.1, p.2) (named-refused files Docs _ _ _ c.in_err-write_named.field-0.0 c.requires.apart (inl refl) (omega arith) (none-written files _) c.in_err-write_named.ensures.writes)

pub returns-in_err-write_named-2 : goal.returns-in_err-write_named-2
returns-in_err-write_named-2 g c =
    let p = err_from_is_err_and c.from_residual-in_err-write_named-2.result c.from_residual-in_err-write_named-2.ensures.1 in
    let files = files_named c.args.names.now (g.S.GivesFiles.files c.args.source.now) in
    let docs = one-written files 0 _ _ _ c.requires.apart (omega arith) (none-written files _) c.in_ok-write_named.ensures.writes.writes in
    rw (p.1, p.2) (named-refused files Freqs _ _ _ c.in_err-write_named-2.field-0.0 c.requires.apart (inr (inl refl)) (omega arith) docs c.in_err-write_named-2.ensures.writes)

pub returns-in_err-write_named-3 : goal.returns-in_err-write_named-3
returns-in_err-write_named-3 g c =
    let p = err_from_is_err_and c.from_residual-in_err-write_named-3.result c.from_residual-in_err-write_named-3.ensures.1 in
    let files = files_named c.args.names.now (g.S.GivesFiles.files c.args.source.now) in
    let docs = one-written files 0 _ _ _ c.requires.apart (omega arith) (none-written files _) c.in_ok-write_named.ensures.writes.writes in
    let freqs = one-written files 1 _ _ _ c.requires.apart (omega arith) docs c.in_ok-write_named-2.ensures.writes.writes in
    rw (p.1, p.2) (named-refused files Sizes _ _ _ c.in_err-write_named-3.field-0.0 c.requires.apart (inr (inr refl)) (omega arith) freqs c.in_err-write_named-3.ensures.writes)

pub returns : goal.returns
returns g c =
    let files = files_named c.args.names.now (g.S.GivesFiles.files c.args.source.now) in
    let docs = one-written files 0 _ _ _ c.requires.apart (omega arith) (none-written files _) c.in_ok-write_named.ensures.writes.writes in
    let freqs = one-written files 1 _ _ _ c.requires.apart (omega arith) docs c.in_ok-write_named-2.ensures.writes.writes in
    let sizes = one-written files 2 _ _ _ c.requires.apart (omega arith) freqs c.in_ok-write_named-3.ensures.writes.writes in
    files-written files _ _ (omega arith) sizes
