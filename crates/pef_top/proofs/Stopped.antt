-- What a run leaves that did not come to its command: its words are none, or memory was refused.
use Rattle.std.proofs.Common.{arith, ◌≡◌, refl, ℕ, Option, Some, None, Err}
use Rattle.pef_top.proofs.Names.{SourceState, SinkState, DepotState, Command, Build, Query, outside, NoMemory, Does, Leaves, stop_of_words, Performs, product_of, source_of, Starts}
use Rattle.command_line.specs.declared.error.WordsError.{WordsError}
use Rattle.command_line.specs.WordsErrors.{error_of_words}
use Rattle.command_ends.proofs.SourceRead.{promised, uncalled}
use Rattle.pef_top.proofs.Made.{Makes}
use Rattle.pef_top.proofs.RunEnds.{no_command}

module _ (d : DepotState) (i : SourceState) (o e e' : SinkState) (s : ℕ) where
  -- what each command makes where memory was refused before anything was made
  made : (command : Command) → Makes command d (outside d i o e s) (outside d i o e' s) (Err NoMemory)
  made (Query index plan) = grind arith
  made command = grind arith

  -- and what it promises then
  performs : (command : Command) → Does (source_of command) (product_of command) (Makes command d) (outside d i o e s) (outside d i o e' s) (Err NoMemory)
      → Performs (Some command) (outside d i o e s) (outside d i o e' s) (Err NoMemory)
  performs (Build base index format) does = grind arith
  performs command does = grind arith

  at_once : (command : Option Command) → Leaves (Performs command) (Starts command) (outside d i o e s) (outside d i o e' s) (Err (stop_of_words (error_of_words command)))
  at_once None = no_command d i o e e' s
  at_once (Some command) =
      promised (outside d i o e s) (outside d i o e' s) (Err NoMemory) (Err NoMemory) refl (performs command)
      (uncalled (source_of command) (product_of command) (Makes command d) d i o e e' s (made command))

  -- Words that are none, and want of memory, change nothing outside.
  pub stopped : (command : Option Command) (error : WordsError) → error ≡ error_of_words command
      → Leaves (Performs command) (Starts command) (outside d i o e s) (outside d i o e' s) (Err (stop_of_words error))
  stopped command error is = rw is (at_once command)
