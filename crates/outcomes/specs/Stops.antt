-- Where a run stops by the refusal of a step.
use Rattle.std.specs.Prelude.{ℕ, Result, Ok, Err}
use Rattle.command_line.specs.declared.error.WordsError.{WordsError}
use Rattle.command_line.specs.declared.error.WordsError.TheVariants as words
use Rattle.io_traits.specs.declared.fail.IoFail.{IoFail}
use Rattle.io_traits.specs.declared.fail.IoFail.TheVariants as call
use Rattle.io_traits.specs.declared.fail.Slot.{Slot}
use Rattle.io_traits.specs.declared.fail.Slot.TheVariants.{Index}
use Rattle.sequence_words.specs.declared.check.Check.TheVariants.{K1}
use Rattle.index_file.specs.declared.builder.FinishError.{FinishError}
use Rattle.index_file.specs.declared.builder.FinishError.TheVariants as making
use Rattle.index_file.specs.declared.fault.OpenFault.{OpenFault}
use Rattle.index_building.specs.declared.build.BuildError.{BuildError}
use Rattle.index_building.specs.declared.build.BuildError.TheVariants as building
use Rattle.word_files.specs.declared.loading.LoadWordsError.{LoadWordsError}
use Rattle.word_files.specs.declared.loading.LoadWordsError.TheVariants as loading
use Rattle.text_replies.specs.declared.text.RunFault.{RunFault}
use Rattle.text_replies.specs.declared.text.RunFault.TheVariants as answering
use Rattle.remapped_files.specs.declared.image.ImageError.{ImageError}
use Rattle.remapped_files.specs.declared.image.ImageError.TheVariants as image
use Rattle.remapped_files.specs.declared.writing.FileFail.{FileFail}
use Rattle.outcomes.specs.declared.stop.Stop.{Stop}
use Rattle.outcomes.specs.declared.stop.Stop.TheVariants as stop
use Rattle.outcomes.specs.Outcome.{Outcome}

-- where a run stops whose words gave no command
abbrev pub stop_of_words : WordsError → Stop
stop_of_words words.Usage = stop.Usage
stop_of_words words.NoMemory = stop.NoMemory

-- where a run stops that could not build its words
abbrev pub stop_of_building : BuildError → Stop
stop_of_building (building.Broken fault) = stop.BrokenCollection fault
stop_of_building (building.Read slot) = stop.FileFault slot
stop_of_building (building.TooLarge count) = stop.TooLarge Index
stop_of_building building.NoMemory = stop.NoMemory

-- where a run stops that could not make its words
abbrev pub stop_of_making : FinishError → Stop
stop_of_making (making.TooLarge count) = stop.TooLarge Index
stop_of_making making.NoMemory = stop.NoMemory

-- where a run stops that could not load the words of the file of a slot: at `ragged` where they are
-- no whole words
abbrev pub stop_of_loading : Slot → Stop → LoadWordsError → Stop
stop_of_loading slot ragged loading.Ragged = ragged
stop_of_loading slot ragged loading.Read = stop.FileFault slot
stop_of_loading slot ragged loading.TooLarge = stop.TooLarge slot
stop_of_loading slot ragged loading.NoMemory = stop.NoMemory

-- the fault of an index that is no whole words
abbrev pub ragged_index : OpenFault
ragged_index = record { check = K1; term = 0; part = 0 }

-- where a run stops that could not load the words of its index
abbrev pub stop_of_index : LoadWordsError → Stop
stop_of_index error = stop_of_loading Index (stop.BrokenIndex ragged_index) error

-- where a run stops that had a call fail, or memory refused to it
abbrev pub stop_of_call : Stop → IoFail → Stop
stop_of_call failed call.Failed = failed
stop_of_call failed call.NoMemory = stop.NoMemory

-- where a run stops that could not write the file of a slot
abbrev pub stop_of_writing : Slot → IoFail → Stop
stop_of_writing slot = stop_of_call (stop.WriteFault slot)

-- where a run stops that could not answer its text
abbrev pub stop_of_answering : RunFault → Stop
stop_of_answering answering.Read = stop.InputFault
stop_of_answering answering.Write = stop.OutFault
stop_of_answering answering.TooLarge = stop.InputTooLarge
stop_of_answering answering.NoMemory = stop.NoMemory

-- where a run stops that could not print
abbrev pub stop_of_printing : IoFail → Stop
stop_of_printing = stop_of_call stop.OutFault

-- where a run stops that could not make the files of an image
abbrev pub stop_of_image : ImageError → Stop
stop_of_image (image.Broken fault) = stop.BrokenCollection fault
stop_of_image (image.BrokenMap fault) = stop.BrokenMap fault
stop_of_image (image.Read slot) = stop.FileFault slot
stop_of_image image.NoMemory = stop.NoMemory

-- where a run stops that could not write one of them
abbrev pub stop_of_file : FileFail → Stop
stop_of_file f = stop_of_writing f.slot f.fail

-- where a run stops whose index is a segment
abbrev pub at_segment : ℕ → Stop → Stop
at_segment s (stop.BrokenIndex fault) = stop.BrokenSegment fault s
at_segment s it = it

-- how a run ends whose last step gave this, and whose refusal stops it so
abbrev pub outcome_by : {E : Type 0} → (E → Stop) → Result (Unit {0}) E → Outcome
outcome_by stop_of (Ok u) = Ok u
outcome_by stop_of (Err e) = Err (stop_of e)
