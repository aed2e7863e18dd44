use Rattle.std.specs.Prelude.{Option, Some, None}
use Rattle.command_line.specs.declared.error.WordsError.{WordsError}
use Rattle.command_line.specs.declared.error.WordsError.TheVariants.{Usage, NoMemory}
use Rattle.command_line.specs.Command.{Command}

-- why words gave no command: those that are none are usage, and for others memory was refused
abbrev pub error_of_words : Option Command → WordsError
error_of_words None = Usage
error_of_words (Some command) = NoMemory
