-- Lemmas on reading list by list: each step keeps what was read, and a refused one is that of the whole.
use Rattle.std.proofs.Common.{◌≡◌, refl, sym, ap, ◌∙◌, ℕ, ◌^◌, ◌<◌, List, [], ◌∷◌, ◌++◌, true, false, inl, inr, IsTrue, Result, Ok, Err}
use Rattle.std.specs.List.{All}
use Rattle.collection_model.specs.FormatNumbers.{FormatNumbers}
use Rattle.collection_model.specs.Collection.{Posting, postings_of}
use Rattle.io_traits.specs.DepotState.{DepotState}
use Rattle.collection_reader.specs.declared.fault.CollError.{CollError}
use Rattle.collection_reader.specs.declared.fault.CollError.TheVariants.{NoMemory}
use Rattle.collection_reader.specs.declared.phase.Phase.{Phase}
use Rattle.collection_reader.specs.declared.phase.Phase.TheVariants.{Lists}
use Rattle.collection_reader.specs.declared.whole.Lists.{Lists as ListVectors}
use Rattle.collection_reader.specs.Starting.{names_under}
use Rattle.collection_reader.specs.ReadCollection.{ReadsCollection, IsCollectionSlot}
use Rattle.collection_reader.specs.Reading.{Reading, rests, after_lists, StartsReading, ReadsList, ReadsSizes}
use Rattle.collection_reader.specs.ReadLists.{ReadsLists}
use Rattle.collection_reader.specs.InTurn.{HasRead, HasReadAll, ReadsInTurn}
use Rattle.collection_reader.proofs.ListsRead.{nothing-read, read-more, read-end, answered-list, stay_started, no_fault-at_ok, list-refused}
use Rattle.collection_reader.proofs.CollectionRead.{refused, start-refused, lists-refused, sizes-refused, all-read}
use Rattle.io_traits.proofs.OnlyReads.{OnlyReads-trans, NoneStartedTwice-then, StartedOnce-then}

started-reading : (format : FormatNumbers) (base : List ℕ) (old new : DepotState) (r : Reading) → StartsReading format old new base (Ok r) → HasRead format base old new r [] Lists
started-reading format base old new r starts = record {
  start = new;
  first = r;
  starts = starts;
  read = nothing-read r new (record { lists = starts.no_list.0; phase = starts.no_list.1; refusal = starts.none_kept });
  format_is = starts.limits;
  started = starts.started;
  phase_is = starts.no_list.1;
}

list-read : (format : FormatNumbers) (base : List ℕ) (old between new : DepotState) (now next : Reading) (lists : List (List Posting)) (docs freqs : List ℕ)
    → HasRead format base old between now lists Lists → ReadsList now next between new docs freqs (Ok true) → HasRead format base old new next (lists ++ postings_of docs freqs ∷ []) Lists
list-read format base old between new now next lists docs freqs has reads =
    let gives = reads.list refl in
    let refusal = answered-list now next between new docs freqs (Ok true) true refl reads in
    record {
      start = has.start;
      first = has.first;
      starts = has.starts;
      read = read-more (Ok true) true has.first now next has.start between new lists docs freqs has.read gives reads.format reads.documents refusal refl reads.depot reads.starts;
      format_is = reads.format ∙ has.format_is;
      started = stay_started between new has.started reads.depot.reads;
      phase_is = gives.phase ∙ has.phase_is;
    }

last-read : (format : FormatNumbers) (base : List ℕ) (old between new : DepotState) (now next : Reading) (lists : List (List Posting)) (docs freqs : List ℕ)
    → HasRead format base old between now lists Lists → ReadsList now next between new docs freqs (Ok false) → HasReadAll format base old new next lists
last-read format base old between new now next lists docs freqs has reads =
    let ends = reads.ended refl in
    let refusal = answered-list now next between new docs freqs (Ok false) false refl reads in
    record {
      read = record {
        start = has.start;
        first = has.first;
        starts = has.starts;
        read = read-end (Ok false) false has.first now next has.start between new lists has.read ends reads.format reads.documents refusal refl reads.depot reads.starts;
        format_is = reads.format ∙ has.format_is;
        started = stay_started between new has.started reads.depot.reads;
        phase_is = ends.phase ∙ ap after_lists has.phase_is;
      };
      ended = λ told.
          let told' = has.read.reads.tells ∙ (has.starts.depot.reads.tells ∙ told) in
          ap (λ r. r.docs) (ends.same_rests told') ∙ ends.at_end told';
    }

list-read_refused : (format : FormatNumbers) → format.most_documents < 2 ^ 32 → (base : List ℕ) (old between new : DepotState) (now next : Reading) (lists : List (List Posting)) (docs freqs : List ℕ) (e : CollError)
    → HasRead format base old between now lists Lists → ReadsList now next between new docs freqs (Err e) → ReadsCollection format old new base (Err e)
list-read_refused format small base old between new now next lists docs freqs e has reads =
    let answer : Result ListVectors CollError = Err e in
    let all : ReadsLists has.first next has.start new answer = list-refused has.first now next has.start between new lists docs freqs (Err e) e answer has.read reads refl refl in
    lists-refused format small old has.start new base has.first next answer e (Err e) has.starts all refl refl

ended-since : (format : FormatNumbers) (base : List ℕ) (old after : DepotState) (now : Reading) (lists : List (List Posting)) (has : HasReadAll format base old after now lists)
    → IsTrue has.read.start.tells → (rests now after).docs ≡ []
ended-since format base old after now lists has told = has.ended (sym has.read.starts.depot.reads.tells ∙ told)

sizes-read : (format : FormatNumbers) → format.most_documents < 2 ^ 32 → (base : List ℕ) (old between new : DepotState) (now next : Reading) (lists : List (List Posting)) (sizes : List ℕ)
    → HasReadAll format base old between now lists → ReadsSizes now next between new sizes (Ok tt) → All (λ s. s < 2 ^ 32) sizes
    → ReadsCollection format old new base (Ok (record { documents = next.documents; lists = lists; sizes = sizes }))
sizes-read format small base old between new now next lists sizes has reads fit =
    all-read format small old has.read.start between new base has.read.first now next lists next.documents sizes (record { documents = next.documents; lists = lists; sizes = sizes })
    has.read.starts has.read.read (ended-since format base old between now lists has) reads fit refl refl

sizes-read_refused : (format : FormatNumbers) → format.most_documents < 2 ^ 32 → (base : List ℕ) (old between new : DepotState) (now next : Reading) (lists : List (List Posting)) (sizes : List ℕ) (e : CollError)
    → HasReadAll format base old between now lists → ReadsSizes now next between new sizes (Err e) → ReadsCollection format old new base (Err e)
sizes-read_refused format small base old between new now next lists sizes e has reads =
    sizes-refused format small old has.read.start between new base has.read.first now next lists sizes (Err e) e (Err e)
    has.read.starts has.read.read (ended-since format base old between now lists has) reads refl refl

stopped-reading : (format : FormatNumbers) → format.most_documents < 2 ^ 32 → (base : List ℕ) (old between : DepotState) (now : Reading) (lists : List (List Posting)) (phase : Phase)
    → HasRead format base old between now lists phase → ReadsCollection format old between base (Err NoMemory)
stopped-reading format small base old between now lists phase has =
    refused format small old between base (Err NoMemory) NoMemory refl (λ told fault h. absurd cc) (λ slot h. absurd cc)
    (record {
      count_rises_only_there = λ slot. inr (has.read.no_fault slot ∙ no_fault-at_ok old has.start (Ok has.first) has.first refl has.starts.depot slot);
      reads = OnlyReads-trans has.starts.depot.reads has.read.reads;
      refusals_rise_only_there = inl refl;
    })
    (inl (record { started = has.started; once = StartedOnce-then (names_under base) IsCollectionSlot old has.start between has.starts.started_once has.read.starts }))
    (NoneStartedTwice-then (names_under base) old has.start between has.starts.none_twice has.read.starts)

pub reads-in_turn : (format : FormatNumbers) → format.most_documents < 2 ^ 32 → ReadsInTurn format
reads-in_turn format small = record {
  start = started-reading format;
  start_refused = λ base old new e starts. start-refused format small old new base (Err e) e (Err e) starts refl refl;
  list = list-read format;
  last = last-read format;
  list_refused = list-read_refused format small;
  sizes = sizes-read format small;
  sizes_refused = sizes-read_refused format small;
  stopped = stopped-reading format small;
}
