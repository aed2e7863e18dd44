use Rattle.std.proofs.Common.{◌≡◌, sym, Err, rules}
use Rattle.pef_top.proofs.Names.{command_of, texts, stop_of_words}
use Rattle.command_line.specs.declared.words.Command as words
use Rattle.pef_top.proofs.Stopped.{stopped}
use Rattle.pef_top.proofs.top.perform.Goals as goal

pub returns-in_err-command-clause-leaves : goal.returns-in_err-command-clause-leaves
returns-in_err-command-clause-leaves g c = λ e e'.
    let command = command_of (texts c.args.words.now) in
    let is : c.from_residual.result ≡ Err (stop_of_words c.in_err-command.field-0.0) = search rules in
    rw is (stopped _ _ _ e e' _ command c.in_err-command.field-0.0 c.in_err-command.ensures.error)

pub returns-clause-leaves : goal.returns-clause-leaves
returns-clause-leaves g c = λ e e'. rw (sym c.in_ok-command.ensures.command) (c.carry_out.ensures.leaves e e')
