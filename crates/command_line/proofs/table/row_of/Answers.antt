use Rattle.std.proofs.Common.{rules, tests, ◌≡◌, ◌∙◌, ap, option_map, Bool, Bor}
use Rattle.std.proofs.lemmas.Iterator.{YieldsList-from_slice}
use Rattle.std.proofs.lemmas.Iterator.Search.{find_from_yields_List}
use Rattle.std.specs.Prelude.{bytes_eq, find}
use Rattle.clap.proofs.WalkLemmas.{find-map}
use Rattle.command_line.specs.declared.table.Row as words
use Rattle.command_line.specs.Table.{Row, seen}
use Rattle.command_line.proofs.table.row_of.Goals as goal

pub returns : goal.returns
returns c =
    let named : Row → Bool = λ row. bytes_eq row.name c.args.name.now in
    let found : option_map (λ (row : Bor words.Row). row.now) c.find.result ≡ find (λ row. named (seen row)) c.rows.result =
    find_from_yields_List (λ row. named (seen row)) _ _ c.find.result c.find.ensures.ran (YieldsList-from_slice c.rows.result cc) (λ x b q k. search (rules, tests)) in
    ap (option_map seen) (c.copied.ensures ∙ found) ∙ find-map named seen c.rows.result ∙ ap (find named) c.rows.ensures
