use Rattle.std.specs.Prelude.{◌≡◌, ℕ, Bool, ◌^◌, ◌<◌, ◌⊎◌, true, false, IsTrue, List, [], ◌++◌, length, Result, Ok, Err, IfOk, OnOk}
use Rattle.collection_model.specs.Bytes.{le32}
use Rattle.io_traits.specs.declared.fail.IoFail.{IoFail}
use Rattle.io_traits.specs.declared.fail.IoFail.TheVariants.{Failed, NoMemory}
use Rattle.io_traits.specs.declared.fail.Slot.{Slot}
use Rattle.io_traits.specs.Calls.{Rose}
use Rattle.io_traits.specs.DepotState.{DepotState, SameStarts, OnlyReads}
use Rattle.held_pieces.specs.Pieces.{rest_of}
use Rattle.collection_reader.specs.declared.fault.Rule.TheVariants.{C1}
use Rattle.collection_reader.specs.declared.fault.Fault.{Fault}
use Rattle.collection_reader.specs.declared.fault.CollError.{CollError}
use Rattle.collection_reader.specs.declared.fault.CollError.TheVariants.{Broken, Read}
use Rattle.collection_reader.specs.declared.fault.CollError.TheVariants as reading
use Rattle.collection_reader.specs.declared.position.Position.{Position}

-- the fault at a position where a number is needed and fewer than four bytes are left
abbrev pub cut_at : Position → Fault
cut_at at = record { rule = C1; file = at.file; term = at.term; place = at.place }

-- the refusal that comes of a call on a slot that was refused
abbrev pub call_error : Slot → IoFail → CollError
call_error slot Failed = Read slot
call_error slot NoMemory = reading.NoMemory

-- Only these slots are started or read. A read fault comes only where that slot's count rose, and a
-- count rises only there; that of refusals rises only at want of memory.
pub record StartsFrom {A : Type 0}
    (touched : Slot → Type 0) (old new : DepotState) (result : Result A CollError) : Type 0 where
  pub only : OnlyReads touched old new
  pub count_rises_only_there : (slot : Slot)
      → (result ≡ Err (Read slot)) ⊎ (new.faults slot ≡ old.faults slot)
  pub read_only_where_it_rose : (slot : Slot) → result ≡ Err (Read slot)
      → touched slot × Rose (old.faults slot) (new.faults slot)
  pub refusals_rise_only_there : (result ≡ Err reading.NoMemory) ⊎ (new.refusals ≡ old.refusals)

-- None is started, and only these slots are read; faults and want of memory are counted as under
-- `StartsFrom`.
pub record ReadsFrom {A : Type 0}
    (touched : Slot → Type 0) (old new : DepotState) (result : Result A CollError) : Type 0 where
  pub only : OnlyReads touched old new
  pub count_rises_only_there : (slot : Slot)
      → (result ≡ Err (Read slot)) ⊎ (new.faults slot ≡ old.faults slot)
  pub read_only_where_it_rose : (slot : Slot) → result ≡ Err (Read slot)
      → touched slot × Rose (old.faults slot) (new.faults slot)
  pub refusals_rise_only_there : (result ≡ Err reading.NoMemory) ⊎ (new.refusals ≡ old.refusals)
  pub starts : SameStarts old new

-- Whether a byte is left. What is left stays as it is.
pub record LooksAhead (slot : Slot) (held held_after : List ℕ) (old new : DepotState)
    (result : Result Bool CollError) : Type 0 where
  pub same_rest : IsTrue old.tells
      → OnOk result (rest_of held_after new slot ≡ rest_of held old slot)
  pub more : result ≡ Ok true → 0 < length held_after
  pub at_end : IsTrue old.tells → result ≡ Ok false → rest_of held old slot ≡ []
  pub no_fault : (fault : Fault) → result ≡ Err (Broken fault) → ⊥
  pub depot : ReadsFrom (λ s. s ≡ slot) old new result

-- The next number, or that fewer than four bytes are left.
pub record TakesNumber (at : Position) (held held_after : List ℕ) (old new : DepotState)
    (result : Result ℕ CollError) : Type 0 where
  pub fits : IfOk result (λ n. n < 2 ^ 32)
  pub number : IsTrue old.tells
      → IfOk result (λ n. rest_of held old at.file ≡ le32 n ++ rest_of held_after new at.file)
  pub cut : (fault : Fault) → result ≡ Err (Broken fault) → fault ≡ cut_at at
  pub too_short : IsTrue old.tells → (fault : Fault) → result ≡ Err (Broken fault)
      → length (rest_of held old at.file) < 4
  pub depot : ReadsFrom (λ s. s ≡ at.file) old new result
