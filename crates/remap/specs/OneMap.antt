-- What is left of the map while it is read, and the refusal that comes of a call.
use Rattle.std.specs.Prelude.{ℕ, List}
use Rattle.io_traits.specs.declared.fail.IoFail.{IoFail}
use Rattle.io_traits.specs.declared.fail.IoFail.TheVariants.{Failed, NoMemory}
use Rattle.io_traits.specs.declared.fail.Slot.TheVariants.{Map}
use Rattle.io_traits.specs.DepotState.{DepotState}
use Rattle.held_pieces.specs.Pieces.{rest_of as rest_of_slot}
use Rattle.remap.specs.declared.fault.MapError.{MapError}
use Rattle.remap.specs.declared.fault.MapError.TheVariants.{Read}
use Rattle.remap.specs.declared.fault.MapError.TheVariants as map

-- what is left of the map: the bytes held, and then those that its slot has left
abbrev pub rest_of : List ℕ → DepotState → List ℕ
rest_of held depot = rest_of_slot held depot Map

-- the refusal that comes of a call that was refused
abbrev pub call_error : IoFail → MapError
call_error Failed = Read
call_error NoMemory = map.NoMemory
