use Rattle.std.specs.Prelude.{◌≡◌, ◌≢◌, Err}
use Rattle.io_traits.specs.declared.fail.IoFail.TheVariants.{Failed}
use Rattle.io_traits.specs.declared.fail.Slot.{Slot}
use Rattle.memory_io.specs.declared.calls.Op.{Op}
use Rattle.memory_io.specs.declared.calls.Op.TheVariants.{Start, Read, Create, Write, Finish}
use Rattle.memory_io.specs.declared.failing_depot.MemDepot.{MemDepot}
use Rattle.io_traits.specs.Calls.{CountsFaults, one_more}
use Rattle.io_traits.specs.PerSlot.{at_slot}
use Rattle.memory_io.specs.InMemory.{DepotInMemory}
use Rattle.memory_io.specs.SteadyDepot.{steady_depot}
use Rattle.io_traits.specs.DepotState.{DepotState, SameStarts, CountsSlot, CountsWriting}

-- what is known of a depot in memory where some calls fail
abbrev pub mem_depot : MemDepot → DepotInMemory
mem_depot d =
    let steady = steady_depot d.depot in
    record steady {
      state = record steady.state {
        faults = λ slot. at_slot d.faults slot;
        writing_faults = d.writing_faults;
        create_faults = d.create_faults;
        finish_faults =
            d.finish_faults;
      };
      fails = d.fails.items;
    }

-- The counts of a call of this kind that failed.
abbrev pub CountsFault : Op → DepotState → DepotState → Type 0
CountsFault (Start slot) old new =
    CountsSlot {A = Unit {0}} old new slot (Err Failed)
    × ((new.starts slot).count ≡ one_more (old.starts slot).count)
    × ((new.starts slot).told ≡ (old.starts slot).told)
    × ((new.starts slot).names ≡ (old.starts slot).names)
    × ((other : Slot) → other ≢ slot → new.starts other ≡ old.starts other)
CountsFault (Read slot) old new = CountsSlot {A = Unit {0}} old new slot (Err Failed)
    × SameStarts old new
CountsFault Create old new =
    CountsWriting {A = Unit {0}} old new (Err Failed)
    × CountsFaults {A = Unit {0}} old.create_faults new.create_faults (Err Failed)
    × (new.finish_faults ≡ old.finish_faults)
CountsFault Write old new =
    CountsWriting {A = Unit {0}} old new (Err Failed) × (new.create_faults ≡ old.create_faults)
    × (new.finish_faults ≡ old.finish_faults)
CountsFault Finish old new =
    CountsWriting {A = Unit {0}} old new (Err Failed) × (new.create_faults ≡ old.create_faults)
    × CountsFaults {A = Unit {0}} old.finish_faults new.finish_faults (Err Failed)
