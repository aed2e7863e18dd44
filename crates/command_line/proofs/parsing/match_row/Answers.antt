use Rattle.std.proofs.Common.{ap, ◌∙◌, ◌≤◌, length, rules, ◌≡◌, arith}
use Rattle.std.proofs.lemmas.List.{length-map}
use Rattle.std.specs.Prelude.{string_bytes}
use Rattle.std.proofs.lemmas.Result.{IfErr-weaker}
use Rattle.clap.specs.Lexer.{usize_max}
use Rattle.clap.specs.Words.{takes, app_of}
use Rattle.command_line.specs.Command.{texts}
use Rattle.command_line.specs.Table.{seen}
use Rattle.command_line.specs.Private.CommandLine.{app_with}
use Rattle.command_line.proofs.Level.{simple}
use Rattle.command_line.proofs.WordsRead.{row_read}
use Rattle.command_line.proofs.parsing.match_row.Goals as goal
use Rattle.command_line.proofs.parsing.match_row.Goals.{After-try_get_matches_from}

app : (c : After-try_get_matches_from) → app_of c.in_ok-command_line.field-0 ≡ app_with c.args.row.choice
app c = search rules

few : (c : After-try_get_matches_from) → length (texts c.args.words.now) ≤ usize_max
few c = omega (arith, length-map c.args.words.now string_bytes)

pub returns-clause-found : goal.returns-clause-found
returns-clause-found c = grind (arith, app c, simple c.args.row.choice, row_read (seen c.args.row) (texts c.args.words.now) c.requires.some (few c) c.requires.command)

pub returns-clause-error : goal.returns-clause-error
returns-clause-error c =
    let reads = row_read (seen c.args.row) (texts c.args.words.now) c.requires.some (few c) c.requires.command in
    IfErr-weaker c.try_get_matches_from.result _ _ (λ e h. h (ap (λ a. takes a (texts c.args.words.now)) (app c) ∙ reads.0)) c.try_get_matches_from.ensures.passes
