use Rattle.std.specs.Prelude.{◌≡◌, ℕ, true, false, IsTrue, List, [], Option, bytes_eq, find, option_map, unwrap_or, is_some}
use Rattle.io_traits.specs.declared.fail.Slot.{Slot}
use Rattle.io_traits.specs.DepotState.{DepotState}
use Rattle.io_traits.specs.PerSlot.{at_slot}
use Rattle.lent_files.specs.declared.depot.LentFile.{LentFile}
use Rattle.lent_files.specs.declared.depot.LentFiles.{LentFiles}

-- the bytes under a name in a list of files; at a name that stands there twice, those of the first
abbrev pub file_in : List LentFile → List ℕ → Option (List ℕ)
file_in files name = option_map (λ f. f.bytes.now) (find (λ f. bytes_eq f.name.now name) files)

-- what is known of a depot of lent files; it tells no names of starts
abbrev pub lent_state : LentFiles → DepotState
lent_state d = record {
  tells = true;
  file = file_in d.files.now;
  left = λ slot. unwrap_or (option_map (λ bytes. bytes.now) (at_slot d.opened slot)) [];
  name = [];
  started = λ slot. is_some (at_slot d.opened slot);
  created = d.created;
  faults = λ _. 0;
  writing_faults = d.writing_faults;
  create_faults = d.create_faults;
  finish_faults = d.finish_faults;
  starts = λ slot. record { count = at_slot d.starts slot; told = false; names = [] };
  refusals = 0;
}

-- a depot that has these files, where nothing was started or failed
pub record IsNewDepot (files : List LentFile) (state : DepotState) : Type 0 where
  pub tells : IsTrue state.tells
  pub has_files : (name : List ℕ) → state.file name ≡ file_in files name
  pub none_started : (slot : Slot) → state.started slot ≡ false
  pub none_created : state.created ≡ false
  pub no_writing_faults : state.writing_faults ≡ 0
  pub no_starts : (slot : Slot) → (state.starts slot).count ≡ 0
