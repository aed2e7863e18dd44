use Rattle.std.specs.Prelude.{◌≡◌, ℕ, ◌<◌, ◌≤◌, ◌⊎◌, IsTrue, List, [], ◌++◌, length, take, Result, OnOk, IsErrOf}
use Rattle.collection_model.specs.Collection.{Collection}
use Rattle.io_traits.specs.Calls.{Rose}
use Rattle.io_traits.specs.SourceState.{SourceState}
use Rattle.io_traits.specs.SinkState.{SinkState}
use Rattle.query_text.specs.Lines.{text_lines, ended_lines}
use Rattle.text_replies.specs.declared.text.RunFault.{RunFault}
use Rattle.text_replies.specs.declared.text.RunFault.TheVariants.{Read, Write, TooLarge, NoMemory}
use Rattle.command_model.specs.GotReplies.{TextIsTold, GotReplies, GotPrefixOfReplies}

-- All lines of the input are answered, or those that ended within what was read, or a prefix of the
-- replies was written.
pub record AnswersText (c : Collection) (limit : ℕ) (input_old input_new : SourceState)
    (out_old out_new : SinkState) (result : Result (Unit {0}) RunFault) : Type 0 where
  pub all : TextIsTold input_old out_old
      → OnOk result (GotReplies c (text_lines input_old.left) out_old out_new)
  pub to_end : IsTrue input_old.tells
      → OnOk result ((input_new.left ≡ []) × (length input_old.left ≤ limit))
  pub read : TextIsTold input_old out_old → IsErrOf result Read →
      (bytes : List ℕ) × (input_old.left ≡ bytes ++ input_new.left) × (length bytes ≤ limit)
      × GotReplies c (ended_lines bytes) out_old out_new
  pub read_only_where_it_rose : IsErrOf result Read → Rose input_old.faults input_new.faults
  pub write : TextIsTold input_old out_old → IsErrOf result Write
      → GotPrefixOfReplies c (text_lines input_old.left) out_old out_new
  pub write_only_where_it_rose : IsErrOf result Write → Rose out_old.faults out_new.faults
  pub too_large : TextIsTold input_old out_old → IsErrOf result TooLarge
      → GotReplies c (ended_lines (take limit input_old.left)) out_old out_new
  pub longer : IsTrue input_old.tells → IsErrOf result TooLarge
      → (bytes : List ℕ) × (input_old.left ≡ bytes ++ input_new.left) × (limit < length bytes)
  pub no_memory : TextIsTold input_old out_old → IsErrOf result NoMemory
      → GotPrefixOfReplies c (text_lines input_old.left) out_old out_new
  -- What is left of the input is what was not read, and no line behind the limit is answered.
  pub taken : IsTrue input_old.tells → (bytes : List ℕ) × (input_old.left ≡ bytes ++ input_new.left)
  pub limited : TextIsTold input_old out_old
      → GotPrefixOfReplies c (text_lines (take limit input_old.left)) out_old out_new
  pub input_tells : input_new.tells ≡ input_old.tells
  pub out_tells : out_new.tells ≡ out_old.tells
  pub input_count : IsErrOf result Read ⊎ (input_new.faults ≡ input_old.faults)
  pub out_count : IsErrOf result Write ⊎ (out_new.faults ≡ out_old.faults)
  pub counts_never_fall : (input_old.faults ≤ input_new.faults) × (out_old.faults ≤ out_new.faults)
      × (out_old.refusals ≤ out_new.refusals)
