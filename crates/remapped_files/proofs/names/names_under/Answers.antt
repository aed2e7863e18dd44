use Rattle.std.proofs.Common.{rules, ◌≡◌, ◌++◌, sym, subst}
use Rattle.std.specs.Prelude.{codes, string_bytes}
use Rattle.command_model.specs.FilesWritten.{AreApart}
use Rattle.remapped_files.proofs.FilesInTurn.{apart-under}
use Rattle.remapped_files.proofs.Named.{named-under}
use Rattle.remapped_files.proofs.names.names_under.Goals as goal

pub returns-clause-apart : goal.returns-clause-apart
returns-clause-apart c = λ files.
    let base = c.args.base.now in
    let docs : string_bytes c.in_ok-format.field-0 ≡ base ++ codes ".docs" = search rules in
    let freqs : string_bytes c.in_ok-format-2.field-0 ≡ base ++ codes ".freqs" = search rules in
    let sizes : string_bytes c.in_ok-format-3.field-0 ≡ base ++ codes ".sizes" = search rules in
    subst AreApart (sym (named-under (record { docs = c.in_ok-format.field-0; freqs = c.in_ok-format-2.field-0; sizes = c.in_ok-format-3.field-0 }) base files docs freqs sizes)) (apart-under base files)
