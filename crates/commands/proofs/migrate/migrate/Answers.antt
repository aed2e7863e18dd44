use Rattle.std.proofs.Common.{sym, refl, inl, Err}
use Rattle.commands.proofs.Names.{Index, IndexAt, File, only_read, loaded_as, stops, handed_on, MakesIndex, migrate_format, TooLarge}
use Rattle.commands.proofs.WordsMade.{rewrite_unmade, rewrite_ended}
use Rattle.commands.proofs.migrate.migrate.Goals as goal

pub returns-in_err-opened : goal.returns-in_err-opened
returns-in_err-opened g c = λ i o e e'.
    let w = c.in_err-opened.ensures.refused in
    stops (IndexAt c.args.files.from.now) (File Index) (MakesIndex (IndexAt c.args.files.from.now) (migrate_format c.args.files.kind) c.args.files.to.now) _ _ refl refl c.in_err-opened.field-0.0 c.from_residual.result
    (handed_on c.from_residual.result c.from_residual.ensures.1) w (inl (only_read _ _ w.still.reads))
    (λ other does. record { does = does; opens = λ is. absurd (other is); unaccepted = λ denied. refl; refused = λ h. inl refl })

pub returns-in_err-migrated : goal.returns-in_err-migrated
returns-in_err-migrated g c = λ i o e e'.
    let index = c.index-index.result in
    let w = loaded_as c.args.files.from.now _ _ c.in_ok-opened.opened index c.in_ok-opened.ensures.loaded c.index-index.ensures in
    rw (sym c.migrate_format.ensures) (rewrite_unmade (IndexAt c.args.files.from.now) _ c.args.files.to.now index.collection (index.format, index.parts, w.found) w.read i o e e' _ _
    (w.starts (Err (TooLarge Index))) c.migrated_words.result c.from_residual-in_err-migrated.result c.migrated_words.ensures.too_large c.in_err-migrated.was c.from_residual-in_err-migrated.ensures.1)

pub returns : goal.returns
returns g c = λ i o e e'.
    let index = c.index-index.result in
    let w = loaded_as c.args.files.from.now _ _ c.in_ok-opened.opened index c.in_ok-opened.ensures.loaded c.index-index.ensures in
    rw (sym c.migrate_format.ensures) (rewrite_ended (IndexAt c.args.files.from.now) _ c.args.files.to.now index.collection (index.format, index.parts, w.found) w.read i o e e' _ _
    c.in_ok-migrated.migrated.items c.write_words-written.result c.after_writing.result c.in_ok-migrated.ensures.words
    (rw c.deref.ensures.value at c.words_fit.ensures) (rw c.deref-2.ensures.value at c.write_words-written.ensures) c.after_writing.ensures)
