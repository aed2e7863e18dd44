-- A reader keeps its first refusal.
use Rattle.std.proofs.Common.{◌≡◌, refl, List, [], ℕ, Ok, Err, Some, Result, true, false}
use Rattle.io_traits.specs.DepotState.{DepotState}
use Rattle.collection_reader.specs.declared.fault.CollError.{CollError}
use Rattle.collection_reader.specs.Reading.{Reading, ReadsList, ReadsSizes}
use Rattle.collection_reader.specs.OneReader.{TriesList, TriesEnd}

err-not-ok : {A : Type 0} (e : CollError) (x : A) → (let r : Result A CollError = Err e in r ≡ Ok x) → ⊥
err-not-ok e x h = cc

pub list_refused : (r tried : Reading) (a b : DepotState) (ds fs ds_after fs_after : List ℕ) (e : CollError) → ((kept : CollError) → r.refusal ≡ Some kept → ⊥)
    → TriesList r tried a b ds fs (Err e) → ds_after ≡ [] → fs_after ≡ [] → ReadsList r (record tried { refusal = Some e }) a b ds_after fs_after (Err e)
list_refused r tried a b ds fs ds_after fs_after e none tries no_docs no_freqs = record {
  list = λ h. absurd (err-not-ok e true h);
  ended = λ h. absurd (err-not-ok e false h);
  none_lent = λ h. (no_docs, no_freqs);
  format = tries.format;
  documents = tries.documents;
  first_fault = λ t kept fault h. tries.first_fault t fault h;
  read_only_where_it_rose = λ kept slot h. tries.depot.read_only_where_it_rose slot h;
  refusal = record { kept = λ kept h. absurd (none kept h); first = refl; answer = tt };
  depot = record { count_rises_only_there = tries.depot.count_rises_only_there; reads = tries.depot.only; refusals_rise_only_there = tries.depot.refusals_rise_only_there };
  unchanged = tries.unchanged;
  fault_term = λ kept fault h. tries.fault_term fault h;
  slots = tries.slots;
  starts = tries.depot.starts;
}

pub end_refused : (r tried : Reading) (a b : DepotState) (ss ss_after : List ℕ) (e : CollError) → ((kept : CollError) → r.refusal ≡ Some kept → ⊥)
    → TriesEnd r tried a b ss (Err e) → ss_after ≡ [] → ReadsSizes r (record tried { refusal = Some e }) a b ss_after (Err e)
end_refused r tried a b ss ss_after e none tries no_sizes = record {
  given = tt;
  none_lent = λ kept h. no_sizes;
  format = tries.format;
  documents = tries.documents;
  first_fault = λ t kept fault h. tries.first_fault t fault h;
  read_only_where_it_rose = λ kept slot h. tries.depot.read_only_where_it_rose slot h;
  refusal = record { kept = λ kept h. absurd (none kept h); first = refl; answer = tt };
  depot = record { count_rises_only_there = tries.depot.count_rises_only_there; reads = tries.depot.only; refusals_rise_only_there = tries.depot.refusals_rise_only_there };
  unchanged = (tries.phase, tries.lists);
  fault_term = λ kept fault h. tries.fault_term fault h;
  slots = tries.slots;
  starts = tries.depot.starts;
}
