-- Reading the numbers of the map, and what breaks there.
use Rattle.std.specs.Prelude.{◌≡◌, ◌≢◌, ◌⊎◌, ℕ, ◌^◌, ◌<◌, IsTrue, List, [], ◌++◌, length, Vec, Result, Ok, Err, IfOk, OnOk, AllPairs}
use Rattle.std.specs.List.{All}
use Rattle.std.specs.declared.alloc.Global.{Global}
use Rattle.collection_model.specs.Bytes.{le32, number_sequence}
use Rattle.io_traits.specs.declared.fail.Slot.TheVariants.{Map}
use Rattle.io_traits.specs.Calls.{Rose}
use Rattle.io_traits.specs.DepotState.{DepotState, SameStarts, OnlyReads}
use Rattle.remap.specs.declared.fault.MapRule.TheVariants.{M1}
use Rattle.remap.specs.declared.fault.MapFault.{MapFault}
use Rattle.remap.specs.declared.fault.MapError.{MapError}
use Rattle.remap.specs.declared.fault.MapError.TheVariants.{Broken, Read, NoMemory}
use Rattle.remap.specs.OneMap.{rest_of}
use Rattle.remap.specs.MapFaults.{IsMapFault}

-- the ids of a vector that was read
abbrev pub ids_of : Result (Vec ℕ Global) MapError → Result (List ℕ) MapError
ids_of (Ok ids) = Ok ids.items
ids_of (Err e) = Err e

-- Only the slot of the map is read. A read fault comes only where its count rose, and the count
-- rises only there; that of refusals rises only at want of memory.
pub record ReadsFrom {A : Type 0} (old new : DepotState) (result : Result A MapError) : Type 0 where
  pub only : OnlyReads (λ s. s ≡ Map) old new
  pub count_rises_only_there : (result ≡ Err Read) ⊎ (new.faults Map ≡ old.faults Map)
  pub read_only_where_it_rose : result ≡ Err Read → Rose (old.faults Map) (new.faults Map)
  pub refusals_rise_only_there : (result ≡ Err NoMemory) ⊎ (new.refusals ≡ old.refusals)
  pub starts : SameStarts old new

-- The next number is read, or fewer than four bytes are left.
pub record ReadsNumber (place : ℕ) (held held_after : List ℕ) (old new : DepotState)
    (result : Result ℕ MapError) : Type 0 where
  pub fits : IfOk result (λ n. n < 2 ^ 32)
  pub number : IsTrue old.tells
      → IfOk result (λ n. rest_of held old ≡ le32 n ++ rest_of held_after new)
  pub cut : (fault : MapFault) → result ≡ Err (Broken fault)
      → fault ≡ record { rule = M1; place = place }
  pub too_short : IsTrue old.tells → (fault : MapFault) → result ≡ Err (Broken fault)
      → length (rest_of held old) < 4
  pub depot : ReadsFrom old new result

-- The length is read, and is n; or it breaks a rule.
pub record ReadsLength (n : ℕ) (held held_after : List ℕ) (old new : DepotState)
    (result : Result (Unit {0}) MapError) : Type 0 where
  pub rest : IsTrue old.tells → OnOk result (rest_of held old ≡ le32 n ++ rest_of held_after new)
  pub first_fault : IsTrue old.tells → (fault : MapFault) → result ≡ Err (Broken fault)
      → IsMapFault n (rest_of held old) fault
  pub depot : ReadsFrom old new result

-- The ids of n documents are read to the end, or the first rule that breaks is found.
pub record ReadsIds (n : ℕ) (held held_after : List ℕ) (old new : DepotState)
    (result : Result (List ℕ) MapError) : Type 0 where
  pub count : IfOk result (λ ids. length ids ≡ n)
  pub below : IfOk result (λ ids. All (λ e. e < n) ids)
  pub apart : IfOk result (λ ids. AllPairs (λ a b. a ≢ b) ids)
  pub rest : IsTrue old.tells → IfOk result (λ ids. rest_of held old ≡ number_sequence ids)
  pub none_left : IsTrue old.tells → OnOk result (new.left Map ≡ [])
  pub first_fault : IsTrue old.tells → (fault : MapFault) → result ≡ Err (Broken fault)
      → IsMapFault n (rest_of held old) fault
  pub depot : ReadsFrom old new result
