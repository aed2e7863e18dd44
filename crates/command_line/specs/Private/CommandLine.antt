use Rattle.std.specs.Prelude.{◌≡◌, take, List, [], ◌∷◌, true, codes, Option, Some, None, option_and_then, IfErr, IfOk, Result}
use Rattle.clap.specs.Lexer.{usize_max}
use Rattle.clap.specs.Words.{App, Row as Found, Rule, Text, all_of, first_of, new_rule}
use Rattle.clap.specs.Simple.{new_shape}
use Rattle.clap.specs.declared.builder.action.ArgAction.TheVariants.{Set}
use Rattle.clap.specs.declared.error.kind.ErrorKind.{ErrorKind}
use Rattle.clap.specs.declared.error.kind.ErrorKind.TheVariants.{OutOfMemory}
use Rattle.command_line.specs.declared.error.WordsError.{WordsError}
use Rattle.command_line.specs.declared.error.WordsError.TheVariants as refused
use Rattle.command_line.specs.declared.table.Choice.{Choice}
use Rattle.command_line.specs.declared.words.Command as words
use Rattle.command_line.specs.Asked.{asked}
use Rattle.command_line.specs.Table.{Row, name_of, default_of}
use Rattle.command_line.specs.Command.{Command, by_row, command_with, texts_before}
use Rattle.command_line.specs.WordsErrors.{error_of_words}

-- what words give: the command that they ask for, or why there is none
abbrev pub Gives : Option Command → Result words.Command WordsError → Type 0
Gives wanted result = IfOk result (λ command. Some (asked command) ≡ wanted)
    × IfErr result (λ error. error ≡ error_of_words wanted)

-- the texts behind a verb, in one positional
abbrev pub texts_rule : Rule
texts_rule = record (new_rule (codes "texts")) {
  required = true;
  action = Some Set;
  range = Some (record {
    start_inclusive = 1;
    end_inclusive = usize_max;
  });
}

-- an option, with its default
abbrev pub option_rule : Choice → Rule
option_rule choice =
    record (new_rule (name_of choice)) {
      long = Some (name_of choice);
      defaults = default_of choice ∷ [];
    }

-- an option or none
abbrev pub option_rules : Option Choice → List Rule
option_rules None = []
option_rules (Some choice) = option_rule choice ∷ []

-- the command line behind a verb: texts, and then an option or none
abbrev pub app_with : Option Choice → App
app_with choice = record {
  top = record (new_shape (codes "pefidx")) {
    no_binary_name = true;
    rules = texts_rule ∷ option_rules choice;
  };
  subs = [];
}

-- the value of an option among the matches
abbrev pub value_found : Option Choice → List Found → Option Text
value_found None found = Some []
value_found (Some choice) found = first_of (name_of choice) found

-- The matches of words that are a command of a row have its texts, and a value of its option with
-- which they are that command.
pub record IsRead (row : Row) (words : List Text) (found : List Found) : Type 0 where
  pub texts_are : all_of (codes "texts") found ≡ Some (take (texts_before words) words)
  pub asks : option_and_then (command_with row.verb (take (texts_before words) words))
      (value_found row.choice found) ≡ by_row row words

-- why words gave no command, by the kind of error that refused them
abbrev pub error_of_kind : ErrorKind → WordsError
error_of_kind OutOfMemory = refused.NoMemory
error_of_kind kind = refused.Usage
