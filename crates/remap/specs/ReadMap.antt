use Rattle.std.specs.Prelude.{◌≡◌, ◌≢◌, ◌⊎◌, ℕ, ◌<◌, ◌^◌, IsTrue, List, [], length, Result, Ok, Err, IfOk, OnOk}
use Rattle.collection_model.specs.Bytes.{number_sequence}
use Rattle.io_traits.specs.declared.fail.Slot.TheVariants.{Map}
use Rattle.io_traits.specs.Calls.{Rose}
use Rattle.io_traits.specs.DepotState.{DepotState, StartedOnce, OnlyReads, bytes_under}
use Rattle.remap.specs.declared.fault.MapFault.{MapFault}
use Rattle.remap.specs.declared.fault.MapError.{MapError}
use Rattle.remap.specs.declared.fault.MapError.TheVariants.{Broken, Read, NoMemory}
use Rattle.remap.specs.NewIds.{AreNewIds}
use Rattle.remap.specs.MapFaults.{IsMapFault}

-- What reading the new ids of n documents from the file under a name gives: the ids that the file
-- spells, or its first fault, or a failed call.
pub record ReadsMap (name : List ℕ) (n : ℕ) (old new : DepotState)
    (result : Result (List ℕ) MapError) : Type 0 where
  pub new_ids : IfOk result AreNewIds
  pub each : IfOk result (λ ids. length ids ≡ n)
  pub spelled_so : IsTrue old.tells
      → IfOk result (λ ids. bytes_under old name ≡ number_sequence ids)
  pub started : OnOk result (IsTrue (new.started Map))
  pub to_end : IsTrue old.tells → OnOk result (new.left Map ≡ [])
  -- It is broken exactly where it breaks a rule, and then for the first; a failed call or want of
  -- memory may come before.
  pub first_fault : IsTrue old.tells → (fault : MapFault) → result ≡ Err (Broken fault)
      → IsMapFault n (bytes_under old name) fault
  pub faulty_is_refused : IsTrue old.tells → (fault : MapFault)
      → IsMapFault n (bytes_under old name) fault → (ids : List ℕ) → result ≢ Ok ids
  pub no_fault : IsTrue old.tells → (ids : List ℕ) → AreNewIds ids → length ids ≡ n
      → bytes_under old name ≡ number_sequence ids → (fault : MapFault)
      → result ≢ Err (Broken fault)
  -- The first call that fails ends the reading; the slot of the map is started once, under the
  -- name, and read, and nothing else is called.
  pub read_only_where_it_rose : result ≡ Err Read → Rose (old.faults Map) (new.faults Map)
  pub count_rises_only_there : (result ≡ Err Read) ⊎ (new.faults Map ≡ old.faults Map)
  pub refusals_rise_only_there : (result ≡ Err NoMemory) ⊎ (new.refusals ≡ old.refusals)
  pub reads : OnlyReads (λ slot. slot ≡ Map) old new
  pub starts : StartedOnce (λ slot. name) (λ slot. slot ≡ Map) old new

-- Bytes that are no order of n documents have one first fault, and those of an order have none.
pub record OneMapFault : Type 0 where
  pub one : (n : ℕ) (bytes : List ℕ) (f g : MapFault) → IsMapFault n bytes f → IsMapFault n bytes g
      → f ≡ g
  pub none_in_order : (ids : List ℕ) (f : MapFault) → AreNewIds ids → length ids < 2 ^ 32
      → IsMapFault (length ids) (number_sequence ids) f → ⊥
