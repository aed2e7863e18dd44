use Rattle.std.specs.Prelude.{ℕ, Bool, true, false, List, [], Option, Some, None, Result, Ok, Err}
use Rattle.outcomes.specs.declared.status.Status.{Status}
use Rattle.outcomes.specs.declared.status.Status.TheVariants as status
use Rattle.outcomes.specs.declared.stop.Stop.{Stop}
use Rattle.outcomes.specs.declared.stop.Stop.TheVariants.{Usage, BrokenCollection, BrokenIndex, BrokenSide, BrokenMap, BrokenSegment, UnfitSegment, FileFault, InputFault, WriteFault, OutFault, NoMemory, TooLarge, InputTooLarge}
use Rattle.outcomes.specs.Outside.{Count, OfFile, OfWriting, OfInput, OfOut}
use Rattle.outcomes.specs.ErrLines.{usage_line, fault_line, index_line, side_line, map_line, segment_line, unfit_line, file_line, input_line, write_line, out_line, memory_line, large_line, long_input_line}

-- how a run ended: all is done, or it stopped before, and why
abbrev pub Outcome : Type 0
Outcome = Result (Unit {0}) Stop

-- all is done
abbrev pub done : Outcome
done = Ok tt

-- the status of a run that ended so
abbrev pub status_of : Outcome → Status
status_of (Ok u) = status.Done
status_of (Err Usage) = status.Usage
status_of (Err (BrokenCollection fault)) = status.Collection
status_of (Err (BrokenIndex fault)) = status.Index
status_of (Err (BrokenSide fault)) = status.Side
status_of (Err (BrokenMap fault)) = status.Map
status_of (Err (BrokenSegment fault segment)) = status.Index
status_of (Err (UnfitSegment rule segment)) = status.Segments
status_of (Err (FileFault slot)) = status.Read
status_of (Err InputFault) = status.Read
status_of (Err (WriteFault slot)) = status.Write
status_of (Err OutFault) = status.Write
status_of (Err NoMemory) = status.NoMemory
status_of (Err (TooLarge slot)) = status.TooLarge
status_of (Err InputTooLarge) = status.TooLarge

-- its line on err, with the newline; none where all is done
abbrev pub line_of : Outcome → List ℕ
line_of (Ok u) = []
line_of (Err Usage) = usage_line
line_of (Err (BrokenCollection fault)) = fault_line fault
line_of (Err (BrokenIndex fault)) = index_line fault
line_of (Err (BrokenSide fault)) = side_line fault
line_of (Err (BrokenMap fault)) = map_line fault
line_of (Err (BrokenSegment fault segment)) = segment_line fault segment
line_of (Err (UnfitSegment rule segment)) = unfit_line rule segment
line_of (Err (FileFault slot)) = file_line slot
line_of (Err InputFault) = input_line
line_of (Err (WriteFault slot)) = write_line slot
line_of (Err OutFault) = out_line
line_of (Err NoMemory) = memory_line
line_of (Err (TooLarge slot)) = large_line slot
line_of (Err InputTooLarge) = long_input_line

-- whether it is a refusal that comes before a byte of the input is read, and before anything is
-- printed or written
abbrev pub is_refusal : Outcome → Bool
is_refusal (Ok u) = false
is_refusal (Err InputFault) = false
is_refusal (Err (WriteFault slot)) = false
is_refusal (Err OutFault) = false
is_refusal (Err NoMemory) = false
is_refusal (Err InputTooLarge) = false
is_refusal (Err stop) = true

-- of which count it is a fault
abbrev pub fault_of : Outcome → Option Count
fault_of (Err (FileFault slot)) = Some (OfFile slot)
fault_of (Err InputFault) = Some OfInput
fault_of (Err (WriteFault slot)) = Some OfWriting
fault_of (Err OutFault) = Some OfOut
fault_of outcome = None
