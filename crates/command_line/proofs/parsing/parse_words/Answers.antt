use Rattle.std.proofs.Common.{◌∙◌, ◌∷◌, sym, ap, subst, string_bytes}
use Rattle.std.proofs.lemmas.List.{take_rest}
use Rattle.command_line.specs.Command.{command_of, texts}
use Rattle.command_line.specs.Private.CommandLine.{Gives}
use Rattle.command_line.proofs.Found.{named}
use Rattle.command_line.proofs.parsing.parse_words.Goals as goal
use Rattle.command_line.proofs.parsing.parse_words.Goals.{After-parse_verb}

given : (c : After-parse_verb) → Gives (command_of (texts c.args.words.now)) c.parse_verb.result
given c =
    subst (λ ws. Gives (command_of ws) c.parse_verb.result)
    (ap (λ ws. string_bytes c._name-item.result ∷ c.as_str.result.now ∷ texts ws) (take_rest c.args.words.now 2)
    ∙ sym (named c.args.words.now c._name-item.result c.verb-item.result c.as_str.result.now c.in-len2-up.len_at_least c._name-item.is c.verb-item.is c.as_str.ensures.value))
    (c.parse_verb.ensures (string_bytes c._name-item.result))

pub returns-in-len2-up-clause-command : goal.returns-in-len2-up-clause-command
returns-in-len2-up-clause-command c = (given c).0

pub returns-in-len2-up-clause-error : goal.returns-in-len2-up-clause-error
returns-in-len2-up-clause-error c = (given c).1
