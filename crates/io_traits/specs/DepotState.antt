use Rattle.std.specs.Prelude.{◌≡◌, ◌≢◌, ℕ, ◌≤◌, ◌<◌, Bool, false, IsTrue, List, [], length, take, Option, Some, unwrap_or, Result, IfOk, OnOk, OnErr, ◌++◌, ◌↔◌, ◌⊎◌}
use Rattle.io_traits.specs.declared.fail.IoFail.{IoFail}
use Rattle.io_traits.specs.declared.fail.Slot.{Slot}
use Rattle.io_traits.specs.Calls.{CountsFaults, CountsRefusals}
use Rattle.io_traits.specs.Starting.{Starting, StartedAs}

-- what is known of a depot
pub record DepotState : Type 0 where
  -- whether it tells its bytes
  pub tells : Bool
  -- the bytes under each name that it has, where it tells them
  pub file : List ℕ → Option (List ℕ)
  -- the bytes that each started slot has left, where it tells them
  pub left : Slot → List ℕ
  -- the name that is being written, where it tells it and one is created
  pub name : List ℕ
  -- which slots are started; every depot tells it
  pub started : Slot → Bool
  -- whether a name is created; every depot tells it
  pub created : Bool
  -- how often a start or a read of each slot failed
  pub faults : Slot → ℕ
  -- how often a create, a write or a finish failed
  pub writing_faults : ℕ
  -- how often a create failed
  pub create_faults : ℕ
  -- how often a finish failed
  pub finish_faults : ℕ
  -- how often a start of each slot was asked, and under which names
  pub starts : Slot → Starting
  -- how often a call was refused memory
  pub refusals : ℕ

-- All files have the bytes that they had.
abbrev pub SameFiles : DepotState → DepotState → Type 0
SameFiles old new = (name : List ℕ) → new.file name ≡ old.file name

-- All files but this one have the bytes that they had.
abbrev pub SameFilesBut : List ℕ → DepotState → DepotState → Type 0
SameFilesBut it old new = (name : List ℕ) → name ≢ it → new.file name ≡ old.file name

-- Each slot is started if it was, and has left what it had.
abbrev pub SameSlots : DepotState → DepotState → Type 0
SameSlots old new = (slot : Slot)
    → (new.started slot ≡ old.started slot) × (IsTrue old.tells → new.left slot ≡ old.left slot)

-- the same of the other slots
abbrev pub SameSlotsBut : Slot → DepotState → DepotState → Type 0
SameSlotsBut it old new = (slot : Slot) → slot ≢ it
    → (new.started slot ≡ old.started slot) × (IsTrue old.tells → new.left slot ≡ old.left slot)

-- What is being written stays as it was.
abbrev pub SameWriting : DepotState → DepotState → Type 0
SameWriting old new = (new.created ≡ old.created) × (IsTrue old.tells → new.name ≡ old.name)

-- No slot was started.
abbrev pub SameStarts : DepotState → DepotState → Type 0
SameStarts old new = (slot : Slot) → new.starts slot ≡ old.starts slot

-- A slot was started exactly once, under this name.
abbrev pub WasStartedAs : List ℕ → Slot → DepotState → DepotState → Type 0
WasStartedAs name slot old new = StartedAs name (old.starts slot) (new.starts slot)

-- Each of these slots was started exactly once, under its name.
abbrev pub StartedOnce : (Slot → List ℕ) → (Slot → Type 0) → DepotState → DepotState → Type 0
StartedOnce names slots old new = (slot : Slot) → slots slot
    → WasStartedAs (names slot) slot old new

-- No slot was started more than once, nor under another name than its own.
abbrev pub NoneStartedTwice : (Slot → List ℕ) → DepotState → DepotState → Type 0
NoneStartedTwice names old new = (slot : Slot)
    → (new.starts slot ≡ old.starts slot) ⊎ WasStartedAs (names slot) slot old new

-- Everything but the counts is as it was.
pub record SameButCounts (old new : DepotState) : Type 0 where
  pub files : IsTrue old.tells → SameFiles old new
  pub slots : SameSlots old new
  pub writing : SameWriting old new

-- The counts of a call on a slot: of those of faults only that slot's may rise.
pub record CountsSlot {A : Type 0} (old new : DepotState) (slot : Slot) (result : Result A IoFail)
    : Type 0 where
  pub this : CountsFaults (old.faults slot) (new.faults slot) result
  pub others : (other : Slot) → other ≢ slot → new.faults other ≡ old.faults other
  pub writing : new.writing_faults ≡ old.writing_faults
  pub create_count : new.create_faults ≡ old.create_faults
  pub finish_count : new.finish_faults ≡ old.finish_faults
  pub refusals : CountsRefusals old.refusals new.refusals result

-- The counts of a call that writes: of those of faults only the writing count may rise, and nothing
-- is started.
pub record CountsWriting {A : Type 0} (old new : DepotState) (result : Result A IoFail) : Type 0
  where
    pub this : CountsFaults old.writing_faults new.writing_faults result
    pub others : (slot : Slot) → new.faults slot ≡ old.faults slot
    pub starts : SameStarts old new
    pub refusals : CountsRefusals old.refusals new.refusals result

-- A start leaves in the slot all bytes under the name, none where there is no such file.
pub record Starts (old new : DepotState) (slot : Slot) (name : List ℕ)
    (result : Result (Unit {0}) IoFail) : Type 0 where
  pub tells : new.tells ≡ old.tells
  pub started : OnOk result (IsTrue (new.started slot))
  pub whole_file : IsTrue old.tells → OnOk result (new.left slot ≡ unwrap_or (old.file name) [])
  pub other_slots : SameSlotsBut slot old new
  pub files : IsTrue old.tells → SameFiles old new
  pub writing : SameWriting old new
  pub unchanged : OnErr result (SameButCounts old new)
  pub counts : CountsSlot old new slot result
  pub asked : WasStartedAs name slot old new
  pub other_starts : (other : Slot) → other ≢ slot → new.starts other ≡ old.starts other

-- A read from a started slot: its next bytes come into the front of the buffer.
pub record ReadsSlot (old new : DepotState) (slot : Slot) (before after : List ℕ)
    (result : Result ℕ IoFail) : Type 0 where
  pub tells : new.tells ≡ old.tells
  pub started : new.started slot ≡ old.started slot
  pub within : IfOk result (λ n. n ≤ length before)
  pub next_bytes : IsTrue old.tells
      → IfOk result (λ n. old.left slot ≡ take n after ++ new.left slot)
  pub at_end : IsTrue old.tells → 0 < length before
      → IfOk result (λ n. (n ≡ 0) ↔ (old.left slot ≡ []))
  pub other_slots : SameSlotsBut slot old new
  pub files : IsTrue old.tells → SameFiles old new
  pub writing : SameWriting old new
  pub unchanged : OnErr result (SameButCounts old new)
  pub counts : CountsSlot old new slot result
  pub starts : SameStarts old new

-- A create puts the empty file under the name, which is written from then on.
pub record Creates (old new : DepotState) (name : List ℕ) (result : Result (Unit {0}) IoFail)
    : Type 0 where
  pub tells : new.tells ≡ old.tells
  pub created : OnOk result (IsTrue new.created)
  pub named : IsTrue old.tells → OnOk result (new.name ≡ name)
  pub empty_file : IsTrue old.tells → OnOk result (new.file name ≡ Some [])
  pub other_files : IsTrue old.tells → SameFilesBut name old new
  pub slots : SameSlots old new
  pub unchanged : OnErr result (SameButCounts old new)
  pub counts : CountsWriting old new result
  pub create_count : CountsFaults old.create_faults new.create_faults result
  pub finish_count : new.finish_faults ≡ old.finish_faults

-- A write appends a prefix of the piece to the file that is written, at least one byte of a piece
-- that has any.
pub record WritesFile (old new : DepotState) (piece : List ℕ) (result : Result ℕ IoFail) : Type 0
  where
    pub tells : new.tells ≡ old.tells
    pub within : IfOk result (λ n. n ≤ length piece)
    pub not_nothing : 0 < length piece → IfOk result (λ n. 0 < n)
    pub appended : IsTrue old.tells
        → IfOk result (λ n. new.file old.name
        ≡ Some (unwrap_or (old.file old.name) [] ++ take n piece))
    pub other_files : IsTrue old.tells → SameFilesBut old.name old new
    pub slots : SameSlots old new
    pub writing : SameWriting old new
    pub unchanged : OnErr result (SameButCounts old new)
    pub counts : CountsWriting old new result
    pub create_count : new.create_faults ≡ old.create_faults
    pub finish_count : new.finish_faults ≡ old.finish_faults

-- A finish ends the writing.
pub record Finishes (old new : DepotState) (result : Result (Unit {0}) IoFail) : Type 0 where
  pub tells : new.tells ≡ old.tells
  pub ended : OnOk result (new.created ≡ false)
  pub files : IsTrue old.tells → SameFiles old new
  pub slots : SameSlots old new
  pub unchanged : OnErr result (SameButCounts old new)
  pub counts : CountsWriting old new result
  pub create_count : new.create_faults ≡ old.create_faults
  pub finish_count : CountsFaults old.finish_faults new.finish_faults result

-- the bytes under a name, none where there is no such file
abbrev pub bytes_under : DepotState → List ℕ → List ℕ
bytes_under depot name = unwrap_or (depot.file name) []

-- Calls that only start and read these slots were made.
pub record OnlyReads (touched : Slot → Type 0) (old new : DepotState) : Type 0 where
  pub tells : new.tells ≡ old.tells
  pub files : IsTrue old.tells → SameFiles old new
  pub writing : SameWriting old new
  pub writing_count : new.writing_faults ≡ old.writing_faults
  pub stay_started : (slot : Slot) → IsTrue (old.started slot) → IsTrue (new.started slot)
  pub other_slots : (slot : Slot) → ¬ touched slot
      → (new.started slot ≡ old.started slot) × (IsTrue old.tells → new.left slot ≡ old.left slot)
  pub never_fall : (slot : Slot) → old.faults slot ≤ new.faults slot
  pub other_counts : (slot : Slot) → ¬ touched slot → new.faults slot ≡ old.faults slot
  pub create_count : new.create_faults ≡ old.create_faults
  pub finish_count : new.finish_faults ≡ old.finish_faults
  pub starts_never_fall : (slot : Slot) → (old.starts slot).count ≤ (new.starts slot).count
  pub other_starts : (slot : Slot) → ¬ touched slot → new.starts slot ≡ old.starts slot
  pub refusals_never_fall : old.refusals ≤ new.refusals
