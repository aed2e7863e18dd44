use Rattle.std.specs.Borrow.{Lends, MutBor, Fml, RattleType}
use Rattle.io_traits.specs.declared.fail.Slot.{Slot}
use Rattle.io_traits.specs.declared.per_slot.PerSlot.{PerSlot}
use Rattle.io_traits.specs.contracts.per_slot.PerSlot.{the_row}
use Rattle.io_traits.specs.PerSlot.{with_slot}

-- The slot ends with the last value behind the reference, and the other slots keep theirs.
abbrev pub LendsSlot : (T : RattleType) → MutBor (PerSlot T.Denot) → Slot → MutBor T.Denot → Fml
LendsSlot T all slot lent = Lends (the_row T) T all lent (with_slot all.now slot)
