-- Lemmas on the lists that were read so far: at the first, after one more, at the last, and at a refusal.
use Rattle.std.proofs.Common.{◌≡◌, refl, sym, ap, ◌∙◌, subst, ℕ, List, [], ◌∷◌, ◌++◌, inl, inr, length, Bool, true, false, None, Result, Ok, Err, IfOk, Vec, arith, append_assoc}
use Rattle.std.specs.declared.alloc.Global.{Global}
use Rattle.std.proofs.lemmas.Result.{IfOk-at_ok}
use Rattle.std.proofs.lemmas.List.{append-nil, length_push}
use Rattle.std.proofs.lemmas.List.Concat.{flat_map-append}
use Rattle.std.proofs.lemmas.List.Elements.{All-nil, All-push}
use Rattle.collection_model.specs.Bytes.{number_sequence}
use Rattle.collection_model.specs.Collection.{Posting, docs_of, freqs_of, postings_of, IsPostingList}
use Rattle.collection_model.specs.Spelling.{docs_bytes, freqs_bytes}
use Rattle.collection_model.proofs.Lists.{docs-of_postings, freqs-of_postings}
use Rattle.io_traits.specs.declared.fail.Slot.{Slot}
use Rattle.io_traits.specs.Calls.{Rose}
use Rattle.io_traits.specs.DepotState.{DepotState, SameStarts, OnlyReads}
use Rattle.collection_reader.specs.declared.fault.CollError.{CollError}
use Rattle.collection_reader.specs.declared.fault.CollError.TheVariants.{Read, NoMemory}
use Rattle.collection_reader.specs.declared.phase.Phase.TheVariants.{Lists, Ended}
use Rattle.collection_reader.specs.declared.whole.Lists.{Lists as ListVectors}
use Rattle.collection_reader.specs.Held.{lists_held, AreAligned}
use Rattle.collection_reader.specs.Starting.{AreStarted}
use Rattle.collection_reader.specs.ReadCollection.{IsCollectionSlot}
use Rattle.collection_reader.specs.Reading.{Reading, rests, after_lists, IsReadFault, IsNextFault, OnlyReadsCollection, ReadsList, GivesList, EndsLists}
use Rattle.collection_reader.specs.ReadLists.{AtFirstList, HaveBeenRead, ReadsLists}
use Rattle.io_traits.proofs.OnlyReads.{OnlyReads-trans, OnlyReads-same}
use Rattle.collection_reader.proofs.Aligned.{held_push, aligned_push}

pub docs_bytes-push : (lists : List (List Posting)) (docs freqs : List ℕ) → length docs ≡ length freqs → docs_bytes (lists ++ postings_of docs freqs ∷ []) ≡ docs_bytes lists ++ number_sequence docs
docs_bytes-push lists docs freqs same =
    flat_map-append (λ list. number_sequence (docs_of list)) lists (postings_of docs freqs ∷ [])
    ∙ ap (λ b. docs_bytes lists ++ b) (append-nil (number_sequence (docs_of (postings_of docs freqs))) ∙ ap number_sequence (docs-of_postings docs freqs same))

pub freqs_bytes-push : (lists : List (List Posting)) (docs freqs : List ℕ) → length docs ≡ length freqs → freqs_bytes (lists ++ postings_of docs freqs ∷ []) ≡ freqs_bytes lists ++ number_sequence freqs
freqs_bytes-push lists docs freqs same =
    flat_map-append (λ list. number_sequence (freqs_of list)) lists (postings_of docs freqs ∷ [])
    ∙ ap (λ b. freqs_bytes lists ++ b) (append-nil (number_sequence (freqs_of (postings_of docs freqs))) ∙ ap number_sequence (freqs-of_postings docs freqs same))

-- what holds each time before the next list is read
pub record AreReadSoFar (first now : Reading) (before after : DepotState) (docs freqs : List (Vec ℕ Global)) : Type 0 where
  pub aligned : AreAligned docs freqs
  pub phase : now.phase ≡ Lists
  pub started : AreStarted after
  pub read : HaveBeenRead first now before after (lists_held docs freqs)

-- no list was read yet
pub nothing-read : (first : Reading) (before : DepotState) → AtFirstList first → HaveBeenRead first first before before []
nothing-read first before at_first = record {
  format = refl;
  documents = refl;
  refusal = at_first.refusal;
  counted = at_first.lists;
  within = omega arith;
  each = All-nil (IsPostingList first.format first.documents);
  docs_rest = λ told. refl;
  freqs_rest = λ told. refl;
  sizes_rest = λ told. refl;
  no_fault = λ slot. refl;
  reads = OnlyReads-same before;
  starts = λ slot. refl;
  no_refusal = refl;
}

pub none-read : (first : Reading) (before : DepotState) (docs freqs : List (Vec ℕ Global)) → AreStarted before → AtFirstList first → docs ≡ [] → freqs ≡ [] → AreReadSoFar first first before before docs freqs
none-read first before docs freqs started at_first no_docs no_freqs =
    let empty : AreReadSoFar first first before before [] [] = record {
      aligned = tt;
      phase = at_first.phase;
      started = started;
      read = nothing-read first before at_first;
    } in
    subst (λ d. AreReadSoFar first first before before d freqs) (sym no_docs) (subst (λ f. AreReadSoFar first first before before [] f) (sym no_freqs) empty)

pub stay_started : (before after : DepotState) → AreStarted before → OnlyReads IsCollectionSlot before after → AreStarted after
stay_started before after started reads = record {
  docs = reads.stay_started _ started.docs;
  freqs = reads.stay_started _ started.freqs;
  sizes = reads.stay_started _ started.sizes;
}

-- an answer raises no count
pub no_fault-at_ok : {A : Type 0} (before after : DepotState) (result : Result A CollError) (x : A) → result ≡ Ok x → OnlyReadsCollection before after result → (slot : Slot) → after.faults slot ≡ before.faults slot
no_fault-at_ok before after result x is calls slot = elim (calls.count_rises_only_there slot) [ inl h ↦ absurd cc | inr same ↦ same ]

pub no_refusal-at_ok : {A : Type 0} (before after : DepotState) (result : Result A CollError) (x : A) → result ≡ Ok x → OnlyReadsCollection before after result → after.refusals ≡ before.refusals
no_refusal-at_ok before after result x is calls = elim calls.refusals_rise_only_there [ inl h ↦ absurd cc | inr same ↦ same ]

-- a list that stands behind others in the same bytes
bytes-behind : (all prefix list rest middle : List ℕ) → all ≡ prefix ++ middle → middle ≡ list ++ rest → all ≡ prefix ++ list ++ rest
bytes-behind all prefix list rest middle is behind = is ∙ ap (λ m. prefix ++ m) behind ∙ sym (append_assoc prefix list rest)

pub read-more : {A : Type 0} (result : Result A CollError) (x : A) (first now new : Reading) (before between after : DepotState) (lists : List (List Posting)) (docs freqs : List ℕ) → HaveBeenRead first now before between lists
    → GivesList now new between after docs freqs → new.format ≡ now.format → new.documents ≡ now.documents → new.refusal ≡ None → result ≡ Ok x → OnlyReadsCollection between after result → SameStarts between after
    → HaveBeenRead first new before after (lists ++ postings_of docs freqs ∷ [])
read-more result x first now new before between after lists docs freqs read gives format documents refusal is calls starts = record {
  format = format ∙ read.format;
  documents = documents ∙ read.documents;
  refusal = refusal;
  counted = omega (arith, gives.counted, read.counted, length_push lists (postings_of docs freqs));
  within = omega (arith, gives.counted, gives.within, read.counted, length_push lists (postings_of docs freqs));
  each = All-push (IsPostingList first.format first.documents) lists (postings_of docs freqs) read.each (subst (λ f. IsPostingList f first.documents (postings_of docs freqs)) read.format (subst (λ n. IsPostingList now.format n (postings_of docs freqs)) read.documents gives.list));
  docs_rest = λ told. bytes-behind _ (docs_bytes lists) (number_sequence docs) _ _ (read.docs_rest told) (gives.docs_rest (read.reads.tells ∙ told)) ∙ ap (λ b. b ++ (rests new after).docs) (sym (docs_bytes-push lists docs freqs gives.same_length));
  freqs_rest = λ told. bytes-behind _ (freqs_bytes lists) (number_sequence freqs) _ _ (read.freqs_rest told) (gives.freqs_rest (read.reads.tells ∙ told)) ∙ ap (λ b. b ++ (rests new after).freqs) (sym (freqs_bytes-push lists docs freqs gives.same_length));
  sizes_rest = λ told. gives.sizes_rest (read.reads.tells ∙ told) ∙ read.sizes_rest told;
  no_fault = λ slot. no_fault-at_ok between after result x is calls slot ∙ read.no_fault slot;
  reads = OnlyReads-trans read.reads calls.reads;
  starts = λ slot. starts slot ∙ read.starts slot;
  no_refusal = no_refusal-at_ok between after result x is calls ∙ read.no_refusal;
}

pub answered-list : (now new : Reading) (between after : DepotState) (docs freqs : List ℕ) (result : Result Bool CollError) (b : Bool) → result ≡ Ok b → ReadsList now new between after docs freqs result → new.refusal ≡ None
answered-list now new between after docs freqs result b is reads = (IfOk-at_ok (λ _. (now.refusal ≡ None) × (new.refusal ≡ None)) is reads.refusal.answer).1

-- once a list was given, and pushed
pub one-more : (first now new : Reading) (before between after : DepotState) (docs freqs docs' freqs' : List (Vec ℕ Global)) (d f : Vec ℕ Global) (result : Result Bool CollError)
    → AreReadSoFar first now before between docs freqs → ReadsList now new between after d.items f.items result → result ≡ Ok true → docs' ≡ docs ++ d ∷ [] → freqs' ≡ freqs ++ f ∷ []
    → AreReadSoFar first new before after docs' freqs'
one-more first now new before between after docs freqs docs' freqs' d f result so_far reads is pushed_d pushed_f =
    let gives = reads.list is in
    let refusal = answered-list now new between after d.items f.items result true is reads in
    let read = read-more result true first now new before between after (lists_held docs freqs) d.items f.items so_far.read gives reads.format reads.documents refusal is reads.depot reads.starts in
    let pushed : AreReadSoFar first new before after (docs ++ d ∷ []) (freqs ++ f ∷ []) = record {
      aligned = aligned_push docs freqs d f so_far.aligned gives.same_length;
      phase = gives.phase ∙ so_far.phase;
      started = stay_started between after so_far.started reads.depot.reads;
      read = subst (λ l. HaveBeenRead first new before after l) (sym (held_push docs freqs d f so_far.aligned)) read;
    } in
    subst (λ x. AreReadSoFar first new before after x freqs') (sym pushed_d) (subst (λ y. AreReadSoFar first new before after (docs ++ d ∷ []) y) (sym pushed_f) pushed)

-- where there is no more list
pub read-end : {A : Type 0} (result : Result A CollError) (x : A) (first now new : Reading) (before between after : DepotState) (lists : List (List Posting)) → HaveBeenRead first now before between lists
    → EndsLists now new between after → new.format ≡ now.format → new.documents ≡ now.documents → new.refusal ≡ None → result ≡ Ok x → OnlyReadsCollection between after result → SameStarts between after
    → HaveBeenRead first new before after lists
read-end result x first now new before between after lists read ends format documents refusal is calls starts = record {
  format = format ∙ read.format;
  documents = documents ∙ read.documents;
  refusal = refusal;
  counted = ends.lists ∙ read.counted;
  within = read.within;
  each = read.each;
  docs_rest = λ told. read.docs_rest told ∙ ap (λ r. docs_bytes lists ++ r.docs) (sym (ends.same_rests (read.reads.tells ∙ told)));
  freqs_rest = λ told. read.freqs_rest told ∙ ap (λ r. freqs_bytes lists ++ r.freqs) (sym (ends.same_rests (read.reads.tells ∙ told)));
  sizes_rest = λ told. ap (λ r. r.sizes) (ends.same_rests (read.reads.tells ∙ told)) ∙ read.sizes_rest told;
  no_fault = λ slot. no_fault-at_ok between after result x is calls slot ∙ read.no_fault slot;
  reads = OnlyReads-trans read.reads calls.reads;
  starts = λ slot. starts slot ∙ read.starts slot;
  no_refusal = no_refusal-at_ok between after result x is calls ∙ read.no_refusal;
}

-- the counts of all calls, where the last one gave what is answered
pub calls-then : {A B : Type 0} (before between after : DepotState) (result : Result A CollError) (answer : Result B CollError) → ((slot : Slot) → between.faults slot ≡ before.faults slot) → between.refusals ≡ before.refusals → OnlyReads IsCollectionSlot before between
    → OnlyReadsCollection between after result → ((slot : Slot) → result ≡ Err (Read slot) → answer ≡ Err (Read slot)) → (result ≡ Err NoMemory → answer ≡ Err NoMemory) → OnlyReadsCollection before after answer
calls-then before between after result answer no_fault no_refusal reads calls same want = record {
  count_rises_only_there = λ slot. elim (calls.count_rises_only_there slot) [ inl h ↦ inl (same slot h) | inr e ↦ inr (e ∙ no_fault slot) ];
  reads = OnlyReads-trans reads calls.reads;
  refusals_rise_only_there = elim calls.refusals_rise_only_there [ inl h ↦ inl (want h) | inr e ↦ inr (e ∙ no_refusal) ];
}

pub read_fault-then : (before between after : DepotState) (slot : Slot) → between.faults slot ≡ before.faults slot → IsReadFault between after slot → IsReadFault before after slot
read_fault-then before between after slot same (is, rose) = (is, subst (λ n. Rose n (after.faults slot)) same rose)

pub not-ok : {A : Type 0} (P : A → Type 0) (result : Result A CollError) (e : CollError) → result ≡ Err e → IfOk result P
not-ok P result e is = subst (λ r. IfOk r P) (sym is) tt

-- the answer where the next list is refused
pub list-refused : (first now new : Reading) (before between after : DepotState) (lists : List (List Posting)) (d f : List ℕ) (result : Result Bool CollError) (e : CollError) (answer : Result ListVectors CollError)
    → HaveBeenRead first now before between lists → ReadsList now new between after d f result → result ≡ Err e → answer ≡ Err e → ReadsLists first new before after answer
list-refused first now new before between after lists d f result e answer read reads is answered = record {
  aligned = not-ok (λ v. AreAligned v.docs.items v.freqs.items) answer e answered;
  given = not-ok (λ v. HaveBeenRead first new before after (lists_held v.docs.items v.freqs.items)) answer e answered;
  ended = λ told. not-ok (λ v. (rests new after).docs ≡ []) answer e answered;
  phase = not-ok (λ v. new.phase ≡ Ended) answer e answered;
  first_fault = λ told fault h. record {
    lists = lists;
    docs_rest = (rests now between).docs;
    freqs_rest = (rests now between).freqs;
    within = read.within;
    each = read.each;
    docs = read.docs_rest told;
    freqs = read.freqs_rest told;
    next =
        let found : IsNextFault now.format now.documents now.lists (rests now between) fault = reads.first_fault (read.reads.tells ∙ told) read.refusal fault cc in
        subst (λ f. IsNextFault f first.documents (length lists) (rests now between) fault) read.format
        (subst (λ n. IsNextFault now.format n (length lists) (rests now between) fault) read.documents
        (subst (λ t. IsNextFault now.format now.documents t (rests now between) fault) read.counted found));
  };
  read_only_where_it_rose = λ slot h. read_fault-then before between after slot (read.no_fault slot) (reads.read_only_where_it_rose read.refusal slot cc);
  depot = calls-then before between after result answer read.no_fault read.no_refusal read.reads reads.depot (λ slot h. cc) (λ h. cc);
  starts = λ slot. reads.starts slot ∙ read.starts slot;
}

-- the answer where there is no more list
pub lists-ended : (first now new : Reading) (before between after : DepotState) (v : ListVectors) (d f : List ℕ) (result : Result Bool CollError)
    → AreReadSoFar first now before between v.docs.items v.freqs.items → ReadsList now new between after d f result → result ≡ Ok false → ReadsLists first new before after (Ok v)
lists-ended first now new before between after v d f result so_far reads is =
    let ends = reads.ended is in
    let refusal = answered-list now new between after d f result false is reads in
    let read = read-end result false first now new before between after (lists_held v.docs.items v.freqs.items) so_far.read ends reads.format reads.documents refusal is reads.depot reads.starts in
    record {
      aligned = so_far.aligned;
      given = read;
      ended = λ told. let told' = so_far.read.reads.tells ∙ told in ap (λ r. r.docs) (ends.same_rests told') ∙ ends.at_end told';
      phase = ends.phase ∙ ap after_lists so_far.phase;
      first_fault = λ told fault h. absurd cc;
      read_only_where_it_rose = λ slot h. absurd cc;
      depot = record { count_rises_only_there = λ slot. inr (read.no_fault slot); reads = read.reads; refusals_rise_only_there = inr read.no_refusal };
      starts = read.starts;
    }
