use Rattle.std.specs.Prelude.{◌≡◌, ℕ, ◌≤◌, IsTrue, List, [], ◌++◌, length, None, Result, Err, IfOk}
use Rattle.std.specs.List.{All}
use Rattle.collection_model.specs.FormatNumbers.{FormatNumbers, most_terms}
use Rattle.collection_model.specs.Collection.{Posting, IsPostingList}
use Rattle.collection_model.specs.Spelling.{Files, docs_bytes, freqs_bytes}
use Rattle.io_traits.specs.declared.fail.Slot.{Slot}
use Rattle.io_traits.specs.DepotState.{DepotState, SameStarts, OnlyReads}
use Rattle.collection_reader.specs.declared.fault.Fault.{Fault}
use Rattle.collection_reader.specs.declared.fault.CollError.{CollError}
use Rattle.collection_reader.specs.declared.fault.CollError.TheVariants.{Broken, Read}
use Rattle.collection_reader.specs.declared.phase.Phase.TheVariants.{Lists, Ended}
use Rattle.collection_reader.specs.declared.whole.Lists.{Lists as ListVectors}
use Rattle.collection_reader.specs.Held.{lists_held, AreAligned}
use Rattle.collection_reader.specs.ReadCollection.{IsCollectionSlot}
use Rattle.collection_reader.specs.Reading.{Reading, rests, IsReadFault, IsNextFault, OnlyReadsCollection}

-- A reader that has given no list.
pub record AtFirstList (reader : Reading) : Type 0 where
  pub lists : reader.lists ≡ 0
  pub phase : reader.phase ≡ Lists
  pub refusal : reader.refusal ≡ None

-- These well-formed lists were read, and no call failed.
pub record HaveBeenRead (first now : Reading) (before after : DepotState)
    (lists : List (List Posting)) : Type 0 where
  pub format : now.format ≡ first.format
  pub documents : now.documents ≡ first.documents
  pub refusal : now.refusal ≡ None
  pub counted : now.lists ≡ length lists
  pub within : length lists ≤ most_terms
  pub each : All (IsPostingList first.format first.documents) lists
  pub docs_rest : IsTrue before.tells
      → (rests first before).docs ≡ docs_bytes lists ++ (rests now after).docs
  pub freqs_rest : IsTrue before.tells
      → (rests first before).freqs ≡ freqs_bytes lists ++ (rests now after).freqs
  pub sizes_rest : IsTrue before.tells → (rests now after).sizes ≡ (rests first before).sizes
  pub no_fault : (slot : Slot) → after.faults slot ≡ before.faults slot
  pub reads : OnlyReads IsCollectionSlot before after
  pub starts : SameStarts before after
  pub no_refusal : after.refusals ≡ before.refusals

-- The fault is in the list behind some well-formed ones.
pub record IsFaultBehindLists (format : FormatNumbers) (n : ℕ) (files : Files) (fault : Fault)
    : Type 0 where
  pub lists : List (List Posting)
  pub docs_rest : List ℕ
  pub freqs_rest : List ℕ
  pub within : length lists ≤ most_terms
  pub each : All (IsPostingList format n) lists
  pub docs : files.docs ≡ docs_bytes lists ++ docs_rest
  pub freqs : files.freqs ≡ freqs_bytes lists ++ freqs_rest
  pub next : IsNextFault format n (length lists) (record {
    docs = docs_rest;
    freqs = freqs_rest;
    sizes = files.sizes;
  }) fault

-- all lists that are left, or the first fault in one of them, or a failed call
pub record ReadsLists (first now : Reading) (before after : DepotState)
    (result : Result ListVectors CollError) : Type 0 where
  pub aligned : IfOk result (λ v. AreAligned v.docs.items v.freqs.items)
  pub given : IfOk result
      (λ v. HaveBeenRead first now before after (lists_held v.docs.items v.freqs.items))
  pub ended : IsTrue before.tells → IfOk result (λ v. (rests now after).docs ≡ [])
  pub phase : IfOk result (λ v. now.phase ≡ Ended)
  pub first_fault : IsTrue before.tells → (fault : Fault) → result ≡ Err (Broken fault)
      → IsFaultBehindLists first.format first.documents (rests first before) fault
  pub read_only_where_it_rose : (slot : Slot) → result ≡ Err (Read slot)
      → IsReadFault before after slot
  pub depot : OnlyReadsCollection before after result
  pub starts : SameStarts before after
