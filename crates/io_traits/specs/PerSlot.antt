use Rattle.io_traits.specs.declared.fail.Slot.{Slot}
use Rattle.io_traits.specs.declared.fail.Slot.TheVariants.{Docs, Freqs, Sizes, Index, Side, Map}
use Rattle.io_traits.specs.declared.per_slot.PerSlot.{PerSlot}

-- what stands at a slot
abbrev pub at_slot : {A : Type 0} → PerSlot A → Slot → A
at_slot all Docs = all.docs
at_slot all Freqs = all.freqs
at_slot all Sizes = all.sizes
at_slot all Index = all.index
at_slot all Side = all.side
at_slot all Map = all.map

-- the same with another value at a slot
abbrev pub with_slot : {A : Type 0} → PerSlot A → Slot → A → PerSlot A
with_slot all Docs value = record all { docs = value }
with_slot all Freqs value = record all { freqs = value }
with_slot all Sizes value = record all { sizes = value }
with_slot all Index value = record all { index = value }
with_slot all Side value = record all { side = value }
with_slot all Map value = record all { map = value }
