use Rattle.std.specs.Prelude.{◌≡◌, ℕ, ◌≤◌, ◌⊎◌, Bool, true, false, IsTrue, List, [], length, Result, Ok, Err, IfErr, OnOk, OnErr, Some}
use Rattle.collection_model.specs.Bytes.{number_sequence}
use Rattle.io_traits.specs.declared.fail.Slot.{Slot}
use Rattle.io_traits.specs.declared.fail.Slot.TheVariants.{Docs, Freqs, Sizes}
use Rattle.io_traits.specs.DepotState.{DepotState, StartedOnce, NoneStartedTwice, OnlyReads, WasStartedAs, bytes_under}
use Rattle.collection_reader.specs.declared.fault.Fault.{Fault}
use Rattle.collection_reader.specs.declared.fault.CollError.{CollError}
use Rattle.collection_reader.specs.declared.fault.CollError.TheVariants.{Broken, NoMemory}
use Rattle.collection_reader.specs.FirstFault.{end_fault}
use Rattle.collection_reader.specs.Starting.{IsCollectionSlot, AreStarted, StartsInOrder, names_under}
use Rattle.collection_reader.specs.ReadCollection.{files_at}
use Rattle.collection_reader.specs.Reading.{Reading, rests, IsListSlot, IsEndSlot, IsNextFault, GivesList, EndsLists}
use Rattle.collection_reader.specs.OneFile.{StartsFrom, ReadsFrom}

-- One file is started under this name.
pub record StartsFile (slot : Slot) (name : List ℕ) (old new : DepotState)
    (result : Result (Unit {0}) CollError) : Type 0 where
  pub started : OnOk result (IsTrue (new.started slot))
  pub whole_file : IsTrue old.tells → OnOk result (new.left slot ≡ bytes_under old name)
  pub no_fault : (fault : Fault) → result ≡ Err (Broken fault) → ⊥
  pub depot : StartsFrom (λ s. s ≡ slot) old new result
  pub started_once : (result ≡ Err NoMemory) ⊎ WasStartedAs name slot old new
  pub not_twice : (new.starts slot ≡ old.starts slot) ⊎ WasStartedAs name slot old new

-- The three files of a collection are started.
pub record StartsFiles (base : List ℕ) (old new : DepotState) (result : Result (Unit {0}) CollError)
    : Type 0 where
  pub started : OnOk result (AreStarted new)
  pub docs : IsTrue old.tells → OnOk result (new.left Docs ≡ (files_at old base).docs)
  pub freqs : IsTrue old.tells → OnOk result (new.left Freqs ≡ (files_at old base).freqs)
  pub sizes : IsTrue old.tells → OnOk result (new.left Sizes ≡ (files_at old base).sizes)
  pub no_fault : (fault : Fault) → result ≡ Err (Broken fault) → ⊥
  pub depot : StartsFrom IsCollectionSlot old new result
  pub in_order : IfErr result (StartsInOrder base old new)
  pub started_once : OnOk result (StartedOnce (names_under base) IsCollectionSlot old new)
  pub none_twice : NoneStartedTwice (names_under base) old new

-- The next list is tried, by a reader that keeps no refusal yet.
pub record TriesList (old new : Reading) (before after : DepotState) (docs freqs : List ℕ)
    (result : Result Bool CollError) : Type 0 where
  pub list : result ≡ Ok true → GivesList old new before after docs freqs
  pub ended : result ≡ Ok false → EndsLists old new before after
  pub none_lent : result ≡ Ok false → (docs ≡ []) × (freqs ≡ [])
  pub format : new.format ≡ old.format
  pub documents : new.documents ≡ old.documents
  pub refusal : new.refusal ≡ old.refusal
  pub first_fault : IsTrue before.tells → (fault : Fault) → result ≡ Err (Broken fault)
      → IsNextFault old.format old.documents old.lists (rests old before) fault
  pub depot : ReadsFrom IsCollectionSlot before after result
  pub unchanged : OnErr result ((new.phase ≡ old.phase) × (new.lists ≡ old.lists))
  pub fault_term : (fault : Fault) → result ≡ Err (Broken fault) → fault.term ≡ old.lists
  pub slots : OnlyReads IsListSlot before after

-- The end is tried, by a reader that keeps no refusal yet.
pub record TriesEnd (old new : Reading) (before after : DepotState) (sizes : List ℕ)
    (result : Result (Unit {0}) CollError) : Type 0 where
  pub count : OnOk result (length sizes ≡ old.documents)
  pub freqs_end : IsTrue before.tells → OnOk result ((rests old before).freqs ≡ [])
  pub sizes_end : IsTrue before.tells
      → OnOk result ((rests old before).sizes ≡ number_sequence sizes)
  pub docs_rest : IsTrue before.tells
      → OnOk result ((rests new after).docs ≡ (rests old before).docs)
  pub freqs_rest : IsTrue before.tells → OnOk result ((rests new after).freqs ≡ [])
  pub none_left : IsTrue before.tells → OnOk result ((rests new after).sizes ≡ [])
  pub format : new.format ≡ old.format
  pub documents : new.documents ≡ old.documents
  pub lists : new.lists ≡ old.lists
  pub refusal : new.refusal ≡ old.refusal
  pub first_fault : IsTrue before.tells → (fault : Fault) → result ≡ Err (Broken fault)
      → end_fault old.documents old.lists (rests old before).freqs (rests old before).sizes
      ≡ Some fault
  pub depot : ReadsFrom IsCollectionSlot before after result
  pub phase : new.phase ≡ old.phase
  pub fault_term : (fault : Fault) → result ≡ Err (Broken fault) → fault.term ≡ old.lists
  pub slots : OnlyReads IsEndSlot before after
