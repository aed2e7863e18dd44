use Rattle.std.specs.Prelude.{◌≡◌, ◌≢◌, ℕ}
use Rattle.io_traits.specs.declared.fail.Slot.{Slot}
use Rattle.memory_io.specs.declared.calls.Op.{Op}
use Rattle.memory_io.specs.declared.calls.Op.TheVariants.{Start, Read, Create, Write, Finish}
use Rattle.memory_io.specs.declared.calls.Calls.{Calls}
use Rattle.io_traits.specs.Calls.{one_more}
use Rattle.io_traits.specs.PerSlot.{at_slot}

-- how often a kind of call was made
abbrev pub calls_of : Calls → Op → ℕ
calls_of calls (Start slot) = at_slot calls.starts slot
calls_of calls (Read slot) = at_slot calls.reads slot
calls_of calls Create = calls.creates
calls_of calls Write = calls.writes
calls_of calls Finish = calls.finishes

-- One more call of this kind was made, and none of another.
abbrev pub CountsCall : Op → Calls → Calls → Type 0
CountsCall op old new = (calls_of new op ≡ one_more (calls_of old op))
    × ((other : Op) → other ≢ op → calls_of new other ≡ calls_of old other)

-- Where the call was a start, its slot's starts are one more, and else all are as they were.
abbrev pub CountsStart : Op → Calls → Calls → Type 0
CountsStart (Start slot) old new =
    (at_slot new.starts slot ≡ one_more (at_slot old.starts slot))
    × ((other : Slot) → other ≢ slot → at_slot new.starts other ≡ at_slot old.starts other)
CountsStart (Read slot) old new = (other : Slot)
    → at_slot new.starts other ≡ at_slot old.starts other
CountsStart Create old new = (other : Slot) → at_slot new.starts other ≡ at_slot old.starts other
CountsStart Write old new = (other : Slot) → at_slot new.starts other ≡ at_slot old.starts other
CountsStart Finish old new = (other : Slot) → at_slot new.starts other ≡ at_slot old.starts other
