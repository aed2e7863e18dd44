-- Lemmas on reading a collection: what its answer is at each refusal, and at the end.
use Rattle.std.proofs.Common.{◌≡◌, refl, sym, ap, ◌∙◌, subst, ℕ, ◌^◌, ◌<◌, ◌≤◌, List, [], ◌++◌, inl, inr, length, IsTrue, Bool, true, false, ◌==◌, Option, Some, None, MatchBool, MatchOption, Result, Ok, Err, IfErr, OnOk, arith, append_assoc}
use Rattle.std.specs.List.{All}
use Rattle.std.proofs.lemmas.Bool.{eqb-true}
use Rattle.std.proofs.lemmas.List.{append-nil}
use Rattle.collection_model.specs.FormatNumbers.{FormatNumbers, most_terms}
use Rattle.collection_model.specs.Collection.{Posting, Collection, WellFormed, IsPostingList}
use Rattle.collection_model.specs.Spelling.{Files, head_bytes, docs_bytes, freqs_bytes, spelled}
use Rattle.io_traits.specs.declared.fail.Slot.{Slot}
use Rattle.io_traits.specs.DepotState.{DepotState, StartedOnce, NoneStartedTwice, OnlyReads}
use Rattle.collection_reader.specs.declared.fault.Fault.{Fault}
use Rattle.collection_reader.specs.declared.fault.CollError.{CollError}
use Rattle.collection_reader.specs.declared.fault.CollError.TheVariants.{Broken, Read, NoMemory}
use Rattle.collection_reader.specs.declared.whole.Lists.{Lists as ListVectors}
use Rattle.collection_reader.specs.FirstFault.{IsPrefix, IsLongestPrefix, head_fault, end_fault, IsFaultBehind, IsFirstFault}
use Rattle.collection_reader.specs.Starting.{StartsInOrder, names_under}
use Rattle.collection_reader.specs.ReadCollection.{files_at, IsCollectionSlot, ReadsCollection}
use Rattle.collection_reader.specs.Reading.{Reading, rests, IsReadFault, IsNextFault, OnlyReadsCollection, StartsReading, ReadsSizes}
use Rattle.collection_reader.specs.ReadLists.{HaveBeenRead, IsFaultBehindLists, ReadsLists}
use Rattle.collection_reader.proofs.Prefixes.{longest-from_blocked, longest-from_full, blocked-at_end}
use Rattle.collection_reader.proofs.Breaks.{zero-not, blocked-by_fault}
use Rattle.collection_reader.proofs.FirstFaults.{one-first_fault, spelled-no_fault, prefix-head, none-first, match_bool-cases}
use Rattle.collection_reader.proofs.ListsRead.{calls-then, read_fault-then, no_fault-at_ok, no_refusal-at_ok, not-ok, stay_started}
use Rattle.io_traits.proofs.OnlyReads.{OnlyReads-trans, NoneStartedTwice-then, StartedOnce-then}
use Rattle.collection_reader.proofs.Starts.{all-started}

-- the files of a well-formed collection have no first fault, and files with one are of none
pub not-both : (format : FormatNumbers) → format.most_documents < 2 ^ 32 → (files : Files) (c : Collection) (fault : Fault) → WellFormed format c → files ≡ spelled c → IsFirstFault format files (Some fault) → ⊥
not-both format small files c fault good same broken =
    let none : IsFirstFault format files None = subst (λ f. IsFirstFault format f None) (sym same) (spelled-no_fault format small c good) in
    let one = one-first_fault format small files None (Some fault) none broken in
    cc

-- what a refusal has to say
pub refused : (format : FormatNumbers) → format.most_documents < 2 ^ 32 → (old new : DepotState) (base : List ℕ) (answer : Result Collection CollError) (e : CollError) → answer ≡ Err e
    → (IsTrue old.tells → (fault : Fault) → e ≡ Broken fault → IsFirstFault format (files_at old base) (Some fault))
    → ((slot : Slot) → e ≡ Read slot → IsReadFault old new slot)
    → OnlyReadsCollection old new answer → StartsInOrder base old new e → NoneStartedTwice (names_under base) old new → ReadsCollection format old new base answer
refused format small old new base answer e is first_fault read_fault calls order twice = record {
  well_formed = not-ok (WellFormed format) answer e is;
  spelled_so = λ told. not-ok (λ c. files_at old base ≡ spelled c) answer e is;
  no_fault = λ told c good same fault h. not-both format small (files_at old base) c fault good same (first_fault told fault cc);
  faulty_is_refused = λ told fault broken c h. cc;
  first_fault = λ told fault h. first_fault told fault cc;
  read_only_where_it_rose = λ slot h. read_fault slot cc;
  count_rises_only_there = calls.count_rises_only_there;
  reads = calls.reads;
  in_order = subst (λ r. IfErr r (StartsInOrder base old new)) (sym is) order;
  started_once = subst (λ r. OnOk r (StartedOnce (names_under base) IsCollectionSlot old new)) (sym is) tt;
  none_twice = twice;
  refusals_rise_only_there = calls.refusals_rise_only_there;
}

same-calls : {A B : Type 0} (old new : DepotState) (result : Result A CollError) (answer : Result B CollError) → ((slot : Slot) → result ≡ Err (Read slot) → answer ≡ Err (Read slot)) → (result ≡ Err NoMemory → answer ≡ Err NoMemory) → OnlyReadsCollection old new result → OnlyReadsCollection old new answer
same-calls old new result answer same want calls = record {
  count_rises_only_there = λ slot. elim (calls.count_rises_only_there slot) [ inl h ↦ inl (same slot h) | inr e ↦ inr e ];
  reads = calls.reads;
  refusals_rise_only_there = elim calls.refusals_rise_only_there [ inl h ↦ inl (want h) | inr e ↦ inr e ];
}

some-first : (o : Option Fault) (P : Type 0) (fault : Fault) → o ≡ Some fault → MatchOption o P (λ broken. Some fault ≡ Some broken)
some-first None P fault is = absurd cc
some-first (Some x) P fault is = sym is

-- where the start is refused
pub start-refused : (format : FormatNumbers) → format.most_documents < 2 ^ 32 → (old new : DepotState) (base : List ℕ) (result : Result Reading CollError) (e : CollError) (answer : Result Collection CollError) → StartsReading format old new base result → result ≡ Err e → answer ≡ Err e → ReadsCollection format old new base answer
start-refused format small old new base result e answer starts is answered =
    refused format small old new base answer e answered
    (λ told fault h. some-first (head_fault format (files_at old base).docs) _ fault (starts.first_fault told fault cc))
    (λ slot h. starts.read_only_where_it_rose slot cc)
    (same-calls old new result answer (λ slot h. cc) (λ h. cc) starts.depot)
    (subst (λ r. IfErr r (StartsInOrder base old new)) is starts.in_order)
    starts.none_twice

-- the prefix of the files that some lists behind the head are
prefix-read : (format : FormatNumbers) (old start : DepotState) (base : List ℕ) (first : Reading) (lists : List (List Posting)) (docs freqs : List ℕ) → StartsReading format old start base (Ok first) → IsTrue old.tells
    → length lists ≤ most_terms → All (IsPostingList format first.documents) lists → (rests first start).docs ≡ docs_bytes lists ++ docs → (rests first start).freqs ≡ freqs_bytes lists ++ freqs
    → IsPrefix format (files_at old base) first.documents lists docs freqs
prefix-read format old start base first lists docs freqs starts told within each is_docs is_freqs = record {
  documents = starts.within;
  terms = within;
  each = each;
  docs = starts.docs_rest told ∙ ap (λ d. head_bytes first.documents ++ d) is_docs ∙ sym (append_assoc (head_bytes first.documents) (docs_bytes lists) docs);
  freqs = starts.freqs_rest told ∙ is_freqs;
}

-- a first fault behind a longest prefix
pub fault-behind : (format : FormatNumbers) → format.most_documents < 2 ^ 32 → (files : Files) (n : ℕ) (lists : List (List Posting)) (docs freqs : List ℕ) (fault : Fault) → IsLongestPrefix format files n lists docs freqs → IsFaultBehind format n (length lists) docs freqs files.sizes (Some fault) → IsFirstFault format files (Some fault)
fault-behind format small files n lists docs freqs fault longest behind =
    let no_fault = prefix-head format small files n lists docs freqs longest.prefix in
    none-first (head_fault format files.docs) _ _ no_fault (n, lists, docs, freqs, longest, behind)

match_bool-at_false : (P Q : Type 0) (b : Bool) → b ≡ false → Q → MatchBool b P Q
match_bool-at_false P Q true is q = absurd cc
match_bool-at_false P Q false is q = q

match_bool-at_true : (P Q : Type 0) (b : Bool) → b ≡ true → P → MatchBool b P Q
match_bool-at_true P Q true is p = p
match_bool-at_true P Q false is p = absurd cc

-- a prefix is the longest where the next list breaks, and that list has the first fault
pub next-faulty : (format : FormatNumbers) → format.most_documents < 2 ^ 32 → (files : Files) (n : ℕ) (lists : List (List Posting)) (docs freqs : List ℕ) (fault : Fault) → IsPrefix format files n lists docs freqs → IsNextFault format n (length lists) (record { docs = docs; freqs = freqs; sizes = files.sizes }) fault → IsFirstFault format files (Some fault)
next-faulty format small files n lists docs freqs fault prefix next =
    let some = match_bool-at_false _ _ (length docs == 0) (zero-not (length docs) next.0) in
    match_bool-cases _ _ _ (length lists == most_terms)
    (λ full is. fault-behind format small files n lists docs freqs fault (longest-from_full format files n lists docs freqs prefix (eqb-true (length lists) most_terms full)) (some (match_bool-at_true _ _ (length lists == most_terms) full (ap Some is))))
    (λ more broken. fault-behind format small files n lists docs freqs fault (longest-from_blocked format small files n lists docs freqs prefix (blocked-by_fault format n (length lists) docs freqs fault (omega (arith, prefix.documents)) broken)) (some (match_bool-at_false _ _ (length lists == most_terms) more broken)))
    next.1

-- where a list is refused
pub lists-refused : (format : FormatNumbers) → format.most_documents < 2 ^ 32 → (old start new : DepotState) (base : List ℕ) (first now : Reading) (result : Result ListVectors CollError) (e : CollError) (answer : Result Collection CollError)
    → StartsReading format old start base (Ok first) → ReadsLists first now start new result → result ≡ Err e → answer ≡ Err e → ReadsCollection format old new base answer
lists-refused format small old start new base first now result e answer starts reads is answered =
    let no_fault = no_fault-at_ok old start (Ok first) first refl starts.depot in
    refused format small old new base answer e answered
    (λ told fault h.
    let found = subst (λ f. IsFaultBehindLists f first.documents (rests first start) fault) starts.limits (reads.first_fault (starts.depot.reads.tells ∙ told) fault cc) in
    next-faulty format small (files_at old base) first.documents found.lists found.docs_rest found.freqs_rest fault (prefix-read format old start base first found.lists found.docs_rest found.freqs_rest starts told found.within found.each found.docs found.freqs) found.next)
    (λ slot h. read_fault-then old start new slot (no_fault slot) (reads.read_only_where_it_rose slot cc))
    (calls-then old start new result answer no_fault (no_refusal-at_ok old start (Ok first) first refl starts.depot) starts.depot.reads reads.depot (λ slot h. cc) (λ h. cc))
    (all-started base old new e (record { started = stay_started start new starts.started reads.depot.reads; once = StartedOnce-then (names_under base) IsCollectionSlot old start new starts.started_once reads.starts }))
    (NoneStartedTwice-then (names_under base) old start new starts.none_twice reads.starts)

-- what is left once all lists are read
record AllListsRead (format : FormatNumbers) (old start between : DepotState) (base : List ℕ) (now : Reading) (lists : List (List Posting)) : Type 0 where
  documents : now.documents ≤ format.most_documents
  terms : length lists ≤ most_terms
  each : All (IsPostingList format now.documents) lists
  counted : now.lists ≡ length lists
  refusal : now.refusal ≡ None
  prefix : IsTrue old.tells → IsPrefix format (files_at old base) now.documents lists [] (rests now between).freqs
  sizes : IsTrue old.tells → (files_at old base).sizes ≡ (rests now between).sizes
  no_fault : (slot : Slot) → between.faults slot ≡ old.faults slot
  no_refusal : between.refusals ≡ old.refusals
  reads : OnlyReads IsCollectionSlot old between
  once : StartedOnce (names_under base) IsCollectionSlot old between
  twice : NoneStartedTwice (names_under base) old between

all-lists : (format : FormatNumbers) (old start between : DepotState) (base : List ℕ) (first now : Reading) (lists : List (List Posting)) → StartsReading format old start base (Ok first) → HaveBeenRead first now start between lists
    → (IsTrue start.tells → (rests now between).docs ≡ []) → AllListsRead format old start between base now lists
all-lists format old start between base first now lists starts given ended =
    let each = subst (λ f. All (IsPostingList f first.documents) lists) starts.limits given.each in
    record {
      documents = subst (λ n. n ≤ format.most_documents) (sym given.documents) starts.within;
      terms = given.within;
      each = subst (λ n. All (IsPostingList format n) lists) (sym given.documents) each;
      counted = given.counted;
      refusal = given.refusal;
      prefix = λ told.
          let told' : IsTrue start.tells = starts.depot.reads.tells ∙ told in
          let is_docs : (rests first start).docs ≡ docs_bytes lists ++ [] = given.docs_rest told' ∙ ap (λ d. docs_bytes lists ++ d) (ended told') in
          subst (λ n. IsPrefix format (files_at old base) n lists [] (rests now between).freqs) (sym given.documents) (prefix-read format old start base first lists [] (rests now between).freqs starts told given.within each is_docs (given.freqs_rest told'));
      sizes = λ told. starts.sizes_rest told ∙ sym (given.sizes_rest (starts.depot.reads.tells ∙ told));
      no_fault = λ slot. given.no_fault slot ∙ no_fault-at_ok old start (Ok first) first refl starts.depot slot;
      no_refusal = given.no_refusal ∙ no_refusal-at_ok old start (Ok first) first refl starts.depot;
      reads = OnlyReads-trans starts.depot.reads given.reads;
      once = StartedOnce-then (names_under base) IsCollectionSlot old start between starts.started_once given.starts;
      twice = NoneStartedTwice-then (names_under base) old start between starts.none_twice given.starts;
    }

-- where the sizes are refused
pub sizes-refused : (format : FormatNumbers) → format.most_documents < 2 ^ 32 → (old start between new : DepotState) (base : List ℕ) (first now last : Reading) (lists : List (List Posting)) (sizes : List ℕ) (result : Result (Unit {0}) CollError) (e : CollError) (answer : Result Collection CollError)
    → StartsReading format old start base (Ok first) → HaveBeenRead first now start between lists → (IsTrue start.tells → (rests now between).docs ≡ []) → ReadsSizes now last between new sizes result → result ≡ Err e → answer ≡ Err e → ReadsCollection format old new base answer
sizes-refused format small old start between new base first now last lists sizes result e answer starts before ended reads is answered =
    let read = all-lists format old start between base first now lists starts before ended in
    refused format small old new base answer e answered
    (λ told fault h.
    let prefix = read.prefix told in
    let found : end_fault now.documents now.lists (rests now between).freqs (rests now between).sizes ≡ Some fault = reads.first_fault (read.reads.tells ∙ told) read.refusal fault cc in
    let behind : Some fault ≡ end_fault now.documents (length lists) (rests now between).freqs (files_at old base).sizes =
    sym ((λ i. end_fault now.documents (sym read.counted i) (rests now between).freqs (read.sizes told i)) ∙ found) in
    fault-behind format small (files_at old base) now.documents lists [] (rests now between).freqs fault (longest-from_blocked format small (files_at old base) now.documents lists [] (rests now between).freqs prefix (blocked-at_end format now.documents (rests now between).freqs)) behind)
    (λ slot h. read_fault-then old between new slot (read.no_fault slot) (reads.read_only_where_it_rose read.refusal slot cc))
    (calls-then old between new result answer read.no_fault read.no_refusal read.reads reads.depot (λ slot h. cc) (λ h. cc))
    (all-started base old new e (record { started = stay_started between new (stay_started start between starts.started before.reads) reads.depot.reads; once = StartedOnce-then (names_under base) IsCollectionSlot old between new read.once reads.starts }))
    (NoneStartedTwice-then (names_under base) old between new read.twice reads.starts)

-- where all is read
pub all-read : (format : FormatNumbers) → format.most_documents < 2 ^ 32 → (old start between new : DepotState) (base : List ℕ) (first now last : Reading) (lists : List (List Posting)) (n : ℕ) (sizes : List ℕ) (c : Collection)
    → StartsReading format old start base (Ok first) → HaveBeenRead first now start between lists → (IsTrue start.tells → (rests now between).docs ≡ []) → ReadsSizes now last between new sizes (Ok tt) → All (λ s. s < 2 ^ 32) c.sizes
    → n ≡ last.documents → c ≡ record { documents = n; lists = lists; sizes = sizes } → ReadsCollection format old new base (Ok c)
all-read format small old start between new base first now last lists n sizes c starts before ended reads fit number is =
    let read = all-lists format old start between base first now lists starts before ended in
    let given = reads.given in
    let whole : Collection = record { documents = now.documents; lists = lists; sizes = sizes } in
    let same : c ≡ whole = is ∙ (λ i. record { documents = (number ∙ reads.documents) i; lists = lists; sizes = sizes }) in
    let good : WellFormed format whole = record { documents = read.documents; terms = read.terms; lists = read.each; size_each = given.count; sizes = subst (λ l. All (λ s. s < 2 ^ 32) l) (ap (λ d. d.sizes) is) fit } in
    let spelling : IsTrue old.tells → files_at old base ≡ spelled whole = λ told.
    let prefix = read.prefix told in
    let told' : IsTrue between.tells = read.reads.tells ∙ told in
    let docs = prefix.docs ∙ append-nil (head_bytes now.documents ++ docs_bytes lists) in
    let freqs = prefix.freqs ∙ ap (λ f. freqs_bytes lists ++ f) (given.freqs_end told') ∙ append-nil (freqs_bytes lists) in
    let in_sizes = read.sizes told ∙ given.sizes_end told' in
    λ i. record { docs = docs i; freqs = freqs i; sizes = in_sizes i } in
    let good_c : WellFormed format c = subst (WellFormed format) (sym same) good in
    let spelled_c : IsTrue old.tells → files_at old base ≡ spelled c = λ told. spelling told ∙ ap spelled (sym same) in
    let calls = calls-then old between new (Ok tt) (Ok c) read.no_fault read.no_refusal read.reads reads.depot (λ slot h. absurd cc) (λ h. absurd cc) in
    record {
      well_formed = good_c;
      spelled_so = spelled_c;
      no_fault = λ told d good_d same_d fault h. absurd cc;
      faulty_is_refused = λ told fault broken d h. not-both format small (files_at old base) c fault good_c (spelled_c told) broken;
      first_fault = λ told fault h. absurd cc;
      read_only_where_it_rose = λ slot h. absurd cc;
      count_rises_only_there = calls.count_rises_only_there;
      reads = calls.reads;
      in_order = tt;
      started_once = StartedOnce-then (names_under base) IsCollectionSlot old between new read.once reads.starts;
      none_twice = NoneStartedTwice-then (names_under base) old between new read.twice reads.starts;
      refusals_rise_only_there = calls.refusals_rise_only_there;
    }
