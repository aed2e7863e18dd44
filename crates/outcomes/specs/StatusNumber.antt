use Rattle.std.specs.Prelude.{ℕ}
use Rattle.outcomes.specs.declared.status.Status.{Status}
use Rattle.outcomes.specs.declared.status.Status.TheVariants.{Done, Usage, Collection, Index, Read, Write, NoMemory, TooLarge, Side, Map, Segments}

-- the number with which the process ends
abbrev pub status_number : Status → ℕ
status_number Done = 0
status_number Usage = 2
status_number Collection = 3
status_number Index = 4
status_number Read = 5
status_number Write = 6
status_number NoMemory = 7
status_number TooLarge = 8
status_number Side = 9
status_number Map = 10
status_number Segments = 11
