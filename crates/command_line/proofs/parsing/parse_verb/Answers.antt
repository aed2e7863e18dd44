use Rattle.std.proofs.Common.{rules, ◌≡◌}
use Rattle.std.specs.Prelude.{Some}
use Rattle.std.proofs.lemmas.Bool.{leb-true}
use Rattle.command_line.specs.Table.{row_of, seen}
use Rattle.command_line.proofs.Found.{has_texts}
use Rattle.command_line.proofs.parsing.parse_verb.Goals as goal

pub parse_row-requires : goal.parse_row-requires
parse_row-requires c =
    let known : row_of c.args.verb.now ≡ Some (seen c.in-Some.row) = search rules in
    leb-true 1 c.in-Some.row.fewest (has_texts c.args.verb.now (seen c.in-Some.row) known)
