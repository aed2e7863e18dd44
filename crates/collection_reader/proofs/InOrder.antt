-- The files of a collection are started in their order, whatever comes of the reading.
use Rattle.std.proofs.Common.{◌≡◌, arith, inl, inr, ◌⊎◌, ◌<◌, List, ℕ, Result, Ok, Err}
use Rattle.std.proofs.lemmas.Bool.{cases_lt}
use Rattle.collection_model.specs.FormatNumbers.{FormatNumbers}
use Rattle.collection_model.specs.Collection.{Collection}
use Rattle.io_traits.specs.declared.fail.Slot.{Slot}
use Rattle.io_traits.specs.DepotState.{DepotState, WasStartedAs}
use Rattle.collection_reader.specs.declared.fault.CollError.{CollError}
use Rattle.collection_reader.specs.declared.fault.CollError.TheVariants.{Broken, Read, NoMemory}
use Rattle.collection_reader.specs.Starting.{IsCollectionSlot, turn, names_under, StopsAt, StartsInOrder, StartedInTurn}
use Rattle.collection_reader.specs.ReadCollection.{ReadsCollection}

stopped-in_turn : (base : List ℕ) (old new : DepotState) (slot earlier later : Slot) → StopsAt base old new slot → turn earlier < turn later
    → (new.starts later ≡ old.starts later) ⊎ WasStartedAs (names_under base earlier) earlier old new
stopped-in_turn base old new slot earlier later stops lt = elim (cases_lt (turn slot) (turn later)) [
  | inl behind ↦ inl (stops.starts_behind later behind)
  | inr before ↦ inr (stops.once_before earlier (omega (arith, before, lt)))
]

refused-in_turn : (base : List ℕ) (old new : DepotState) (e : CollError) → StartsInOrder base old new e → StartedInTurn (names_under base) IsCollectionSlot old new
refused-in_turn base old new (Broken fault) started earlier later is lt = inr (started.once earlier is)
refused-in_turn base old new (Read slot) (inl started) earlier later is lt = inr (started.once earlier is)
refused-in_turn base old new (Read slot) (inr stops) earlier later is lt = stopped-in_turn base old new slot earlier later stops.0 lt
refused-in_turn base old new NoMemory (inl started) earlier later is lt = inr (started.once earlier is)
refused-in_turn base old new NoMemory (inr stops) earlier later is lt = stopped-in_turn base old new stops.0 earlier later stops.1 lt

pub read-in_turn : (format : FormatNumbers) (base : List ℕ) (old new : DepotState) (result : Result Collection CollError) → ReadsCollection format old new base result
    → StartedInTurn (names_under base) IsCollectionSlot old new
read-in_turn format base old new (Ok c) reads earlier later is lt = inr (reads.started_once earlier is)
read-in_turn format base old new (Err e) reads earlier later is lt = refused-in_turn base old new e reads.in_order earlier later is lt
