-- What a command reads, and what is known of its run by that alone:
-- what it starts, what it refuses, and where.
use Rattle.std.specs.Prelude.{◌≡◌, ◌<◌, ◌⊎◌, ⊤, ℕ, IsTrue, List, [], length, Err}
use Rattle.collection_model.specs.FormatNumbers.{FormatNumbers}
use Rattle.collection_model.specs.Collection.{Collection}
use Rattle.io_traits.specs.declared.fail.Slot.{Slot}
use Rattle.io_traits.specs.declared.fail.Slot.TheVariants.{Index, Map}
use Rattle.io_traits.specs.DepotState.{DepotState, bytes_under}
use Rattle.collection_reader.specs.ReadCollection.{IsCollectionSlot}
use Rattle.collection_reader.specs.Starting.{names_under}
use Rattle.segments.specs.declared.pushed.Joining.{Joining}
use Rattle.command_model.specs.Found.{FindsCollection, HasFault, IsIndexSlot, most_bytes}
use Rattle.command_model.specs.FoundMap.{IsCollectionOrMap, names_with_map, FindsBothOf, HasMapFault, remap_numbers}
use Rattle.outcomes.specs.declared.stop.Stop.TheVariants.{BrokenCollection, BrokenIndex, BrokenSide, BrokenMap, BrokenSegment, FileFault, NoMemory, TooLarge, UnfitSegment}
use Rattle.outcomes.specs.Outcome.{Outcome}
use Rattle.command_ends.specs.FoundIndex.{FindsIndexOf, HasBroken}
use Rattle.command_ends.specs.FoundSide.{FindsWithSide, HasBrokenSide, IsIndexOrSide, IsSideSlot, names_with_side}
use Rattle.command_ends.specs.FoundSegments.{FindsJoined, IsRefusedAt}
use Rattle.command_ends.specs.SegmentStarts.{StartsEach}
use Rattle.command_ends.specs.Starts.{StartsOnly}

-- what a command reads: nothing, the files of a collection with the limits of a format,
-- an index, an index and its side file, a collection and an order of its documents,
-- or several indexes that are joined
pub data Source : Type 0 where
  Nothing : Source
  CollectionAt : (format : FormatNumbers) (base : List ℕ) → Source
  IndexAt : (name : List ℕ) → Source
  SideAt : (index side : List ℕ) → Source
  MapAt : (base map : List ℕ) → Source
  IndexesAt : (joining : Joining) (names : List (List ℕ)) → Source

-- the slots from which it is read
abbrev pub ReadsFrom : Source → Slot → Type 0
ReadsFrom Nothing = λ slot. ⊥
ReadsFrom (CollectionAt format base) = IsCollectionSlot
ReadsFrom (IndexAt name) = IsIndexSlot
ReadsFrom (SideAt index side) = IsIndexOrSide
ReadsFrom (MapAt base map) = IsCollectionOrMap
ReadsFrom (IndexesAt joining names) = IsIndexSlot

-- It is accepted, and this is its collection: the one that stands there, or of which an index does,
-- or the one to which indexes are joined.
abbrev pub Finds : Source → DepotState → Collection → Type 0
Finds Nothing depot c = ⊤
Finds (CollectionAt format base) depot c = FindsCollection format base depot c
Finds (IndexAt name) depot c = FindsIndexOf name depot c
Finds (SideAt index side) depot c = FindsWithSide index side depot c
Finds (MapAt base map) depot c = (ids : List ℕ) × FindsBothOf base map depot c ids
Finds (IndexesAt joining names) depot c = FindsJoined joining names depot c

-- It is accepted. Nothing always is.
abbrev pub Accepts : Source → DepotState → Type 0
Accepts Nothing depot = ⊤
Accepts source depot = (c : Collection) × Finds source depot c

-- It is accepted, and the depot tells its bytes.
abbrev pub Stands : Source → DepotState → Type 0
Stands Nothing depot = ⊤
Stands source depot = IsTrue depot.tells × Accepts source depot

-- A run may come to this slot: to the side file only where the index is accepted,
-- and to the map only where the collection is.
abbrev pub ComesTo : Source → DepotState → Slot → Type 0
ComesTo (SideAt index side) depot slot =
    IsIndexSlot slot ⊎ (IsSideSlot slot × Accepts (IndexAt index) depot)
ComesTo (MapAt base map) depot slot =
    IsCollectionSlot slot ⊎ ((slot ≡ Map) × Accepts (CollectionAt remap_numbers base) depot)
ComesTo source depot slot = ReadsFrom source slot

-- The file under the name has more bytes than the limit, as far as the depot tells.
abbrev pub IsLong : List ℕ → DepotState → Type 0
IsLong name depot = IsTrue depot.tells → most_bytes < length (bytes_under depot name)

-- It is to be refused so: for its first fault, or the first check that it breaks, or as too large;
-- a side file and a map only where what comes before is accepted,
-- and a segment only where those before it are.
abbrev pub IsRefusedAs : Source → DepotState → Outcome → Type 0
IsRefusedAs (CollectionAt format base) depot (Err (BrokenCollection fault)) =
    IsTrue depot.tells → HasFault format base depot fault
IsRefusedAs (IndexAt name) depot (Err (BrokenIndex fault)) =
    IsTrue depot.tells → HasBroken name depot fault
IsRefusedAs (IndexAt name) depot (Err (TooLarge slot)) = IsIndexSlot slot × IsLong name depot
IsRefusedAs (SideAt index side) depot (Err (BrokenIndex fault)) =
    IsTrue depot.tells → HasBroken index depot fault
IsRefusedAs (SideAt index side) depot (Err (BrokenSide fault)) =
    Accepts (IndexAt index) depot × (IsTrue depot.tells → HasBrokenSide index side depot fault)
IsRefusedAs (SideAt index side) depot (Err (TooLarge slot)) =
    (IsIndexSlot slot × IsLong index depot)
    ⊎ (IsSideSlot slot × Accepts (IndexAt index) depot × IsLong side depot)
IsRefusedAs (MapAt base map) depot (Err (BrokenCollection fault)) =
    IsTrue depot.tells → HasFault remap_numbers base depot fault
IsRefusedAs (MapAt base map) depot (Err (BrokenMap fault)) =
    Accepts (CollectionAt remap_numbers base) depot
    × (IsTrue depot.tells → HasMapFault base map depot fault)
IsRefusedAs (IndexesAt joining names) depot (Err (BrokenSegment fault segment)) =
    IsTrue depot.tells → IsRefusedAt joining names depot (Err (BrokenSegment fault segment))
IsRefusedAs (IndexesAt joining names) depot (Err (UnfitSegment rule segment)) =
    IsRefusedAt joining names depot (Err (UnfitSegment rule segment))
IsRefusedAs (IndexesAt joining names) depot (Err (TooLarge slot)) =
    IsIndexSlot slot × (IsTrue depot.tells → IsRefusedAt joining names depot (Err (TooLarge slot)))
IsRefusedAs source depot outcome = ⊥

-- A run ends at what it reads: it is refused, or a call on one of its files failed.
abbrev pub EndsAt : Source → DepotState → Outcome → Type 0
EndsAt source depot (Err (FileFault slot)) = ComesTo source depot slot
EndsAt source depot outcome = IsRefusedAs source depot outcome

-- A call on one of its files failed, or memory was refused.
abbrev pub StopsAt : Source → DepotState → Outcome → Type 0
StopsAt source depot outcome =
    ((slot : Slot) × ComesTo source depot slot × (outcome ≡ Err (FileFault slot)))
    ⊎ (outcome ≡ Err NoMemory)

-- It is refused exactly where it is to be, and so; a failed call or want of memory may come before.
pub record Refuses (source : Source) (depot : DepotState) (outcome : Outcome) : Type 0 where
  pub refused : IsTrue depot.tells → (this : Outcome) → IsRefusedAs source depot this →
      (outcome ≡ this) ⊎ StopsAt source depot outcome
  pub sound : Stands source depot → ¬ IsRefusedAs source depot outcome

-- the slots to which a run comes that ends so, where no call on a file failed and no memory was
-- refused: what comes behind a refused file is not started
abbrev pub StartedIn : Source → Outcome → Slot → Type 0
StartedIn (SideAt index side) (Err (BrokenIndex fault)) = IsIndexSlot
StartedIn (SideAt index side) (Err (TooLarge Index)) = IsIndexSlot
StartedIn (MapAt base map) (Err (BrokenCollection fault)) = IsCollectionSlot
StartedIn source outcome = ReadsFrom source

-- the names of its files, by the slots from which they are read;
-- several indexes are read from one slot
abbrev pub names_of : Source → Slot → List ℕ
names_of (CollectionAt format base) = names_under base
names_of (IndexAt name) = λ slot. name
names_of (SideAt index side) = names_with_side index side
names_of (MapAt base map) = names_with_map base map
names_of source = λ slot. []

-- What a run starts, and under which names: each file of several indexes in turn, and of any other
-- source each slot to which it comes once.
abbrev pub Starts : Source → Outcome → DepotState → DepotState → Type 0
Starts (IndexesAt joining names) outcome old new = StartsEach joining names outcome old new
Starts source outcome old new =
    StartsOnly (names_of source) (StartedIn source outcome) outcome old new
