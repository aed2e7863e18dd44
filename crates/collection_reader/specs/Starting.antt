use Rattle.std.specs.Prelude.{◌≡◌, ℕ, ◌<◌, ◌⊎◌, ◌++◌, IsTrue, List, [], codes}
use Rattle.io_traits.specs.declared.fail.Slot.{Slot}
use Rattle.io_traits.specs.declared.fail.Slot.TheVariants.{Docs, Freqs, Sizes, Index, Side, Map}
use Rattle.io_traits.specs.DepotState.{DepotState, StartedOnce, WasStartedAs}
use Rattle.collection_reader.specs.declared.fault.CollError.{CollError}
use Rattle.collection_reader.specs.declared.fault.CollError.TheVariants.{Broken, Read, NoMemory}

-- the three slots from which a collection is read
abbrev pub IsCollectionSlot : Slot → Type 0
IsCollectionSlot slot = (slot ≡ Docs) ⊎ (slot ≡ Freqs) ⊎ (slot ≡ Sizes)

-- The three slots of a collection are started.
pub record AreStarted (depot : DepotState) : Type 0 where
  pub docs : IsTrue (depot.started Docs)
  pub freqs : IsTrue (depot.started Freqs)
  pub sizes : IsTrue (depot.started Sizes)

-- the names of the files of a collection, by the slots from which they are read
abbrev pub names_under : List ℕ → Slot → List ℕ
names_under base Docs = base ++ codes ".docs"
names_under base Freqs = base ++ codes ".freqs"
names_under base Sizes = base ++ codes ".sizes"
names_under base slot = []

-- They were started, each exactly once and under its name.
pub record WereStarted (base : List ℕ) (old new : DepotState) : Type 0 where
  pub started : AreStarted new
  pub once : StartedOnce (names_under base) IsCollectionSlot old new

-- the order of the slots
abbrev pub turn : Slot → ℕ
turn Docs = 0
turn Freqs = 1
turn Sizes = 2
turn Index = 3
turn Side = 4
turn Map = 5

-- Of the slots in their order those before this one were started, each exactly once and under its
-- name, and those behind it are as they were.
pub record StopsAt (base : List ℕ) (old new : DepotState) (slot : Slot) : Type 0 where
  pub before : (earlier : Slot) → turn earlier < turn slot → IsTrue (new.started earlier)
  pub behind : (later : Slot) → turn slot < turn later
      → (new.started later ≡ old.started later)
      × (IsTrue old.tells → new.left later ≡ old.left later)
  pub counts_behind : (later : Slot) → turn slot < turn later → new.faults later ≡ old.faults later
  pub once_before : (earlier : Slot) → turn earlier < turn slot
      → WasStartedAs (names_under base earlier) earlier old new
  pub starts_behind : (later : Slot) → turn slot < turn later → new.starts later ≡ old.starts later

-- The three slots were started in their order, and a refusal came at the first that was not
-- started, or else with all three started.
abbrev pub StartsInOrder : List ℕ → DepotState → DepotState → CollError → Type 0
StartsInOrder base old new (Broken fault) = WereStarted base old new
StartsInOrder base old new (Read slot) = WereStarted base old new
    ⊎ (StopsAt base old new slot × WasStartedAs (names_under base slot) slot old new)
StartsInOrder base old new NoMemory = WereStarted base old new
    ⊎ ((slot : Slot) × StopsAt base old new slot)

-- Of two slots of these the later one was not started, or the earlier one was, exactly once and
-- under its name.
abbrev pub StartedInTurn : (Slot → List ℕ) → (Slot → Type 0) → DepotState → DepotState → Type 0
StartedInTurn names slots old new =
    (earlier later : Slot) → slots earlier → turn earlier < turn later
    → (new.starts later ≡ old.starts later) ⊎ WasStartedAs (names earlier) earlier old new
