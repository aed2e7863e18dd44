-- Lemmas on the words that are built list by list: what is kept from list to list, and how the building ends.
use Rattle.std.proofs.Common.{◌≡◌, ◌≢◌, refl, sym, ap, ◌∙◌, subst, append-nil, append_assoc, replicate, ℕ, zero, suc, ◌+◌, ◌*◌, ◌^◌, ◌<◌, ◌≤◌, List, [], ◌∷◌, ◌++◌, map, length, Bool, true, false, inl, inr, IsTrue, Result, Ok, Err, Vec, arith, if◌then◌else◌}
use Rattle.std.specs.Prelude.{◌⊎◌, ◌==◌, IfOk}
use Rattle.std.specs.declared.alloc.Global.{Global}
use Rattle.std.specs.List.{All}
use Rattle.std.proofs.lemmas.Bool.Decides.{nat_tests}
use Rattle.std.proofs.lemmas.List.{map_push, length_push, length-map, get_or_push}
use Rattle.std.proofs.lemmas.List.Sums.{sum_by_push}
use Rattle.std.proofs.lemmas.List.Elements.{All-get_or}
use Rattle.collection_model.specs.FormatNumbers.{FormatNumbers, most_terms}
use Rattle.collection_model.specs.Collection.{Posting, Collection, postings_of, IsPostingList}
use Rattle.collection_model.proofs.Lists.{docs_of-length, docs-of_postings}
use Rattle.part_cost.specs.declared.formats.Format.{Format}
use Rattle.part_cost.specs.Formats.{numbers_of}
use Rattle.part_cost.specs.Partition.{IsPartition}
use Rattle.cost_windows.specs.WindowBounds.{window_bounds}
use Rattle.io_traits.specs.declared.fail.Slot.{Slot}
use Rattle.io_traits.specs.DepotState.{DepotState, StartedOnce}
use Rattle.collection_reader.specs.declared.fault.Fault.{Fault}
use Rattle.collection_reader.specs.declared.fault.CollError.{CollError}
use Rattle.collection_reader.specs.declared.fault.CollError.TheVariants as reading
use Rattle.collection_reader.specs.Laws.{OneFirstFault}
use Rattle.collection_reader.specs.ReadCollection.{files_at, IsCollectionSlot, ReadsCollection}
use Rattle.collection_reader.specs.Starting.{names_under}
use Rattle.collection_reader.proofs.InOrder.{read-in_turn}
use Rattle.collection_reader.specs.Reading.{Reading, StartsReading, ReadsList, ReadsSizes}
use Rattle.collection_reader.specs.InTurn.{HasReadAll, ReadsInTurn}
use Rattle.index_file.proofs.NearStored.{docs-partition, freqs-partition}
use Rattle.index_file.specs.declared.builder.FinishError.{FinishError}
use Rattle.index_file.specs.declared.builder.FinishError.TheVariants as finishing
use Rattle.index_file.specs.FileWords.{CutList, ListParts, with_parts, words_of_file, file_words, ArePartitions}
use Rattle.index_file.proofs.CutLists.{with-parts-of}
use Rattle.index_file.specs.Builder.{Built, StandsFor, AddsList, AddsEmptyLists, IsNearCut, lists_added, most_words, no_list}
use Rattle.index_file.specs.Laws.{ListsAreCounted, FilesSpellCollections, collection_cut}
use Rattle.index_building.specs.declared.build.BuildError.{BuildError}
use Rattle.index_building.specs.declared.build.BuildError.TheVariants.{Broken, Read, TooLarge, NoMemory}
use Rattle.command_model.specs.Found.{FindsCollection, HasFault}
use Rattle.command_model.specs.CollectionCut.{AreNear, AreCounted, AreCut}
use Rattle.index_building.specs.AddedFromFiles.{build_error, finish_error, AreAdded, IsBuilding}
use Rattle.index_building.specs.WordsOfFiles.{words_built, BuildsWords}

-- a partition of some numbers has a part
some-part : (n : ℕ) (ends : List ℕ) → IsPartition n ends → 1 ≤ n → 1 ≤ length ends
some-part n [] p some = absurd (omega (arith, p))
some-part n (end ∷ ends) p some = omega arith

filled : (n docs freqs : ℕ) → (1 ≤ n → 1 ≤ docs) → (1 ≤ n → 1 ≤ freqs) → (if n == 0 then 0 else 2) ≤ docs + freqs
filled n docs freqs some_docs some_freqs = grind (arith, nat_tests, some_docs, some_freqs)

-- one more list is counted
count-more : (format : Format) (lists : List (List Posting)) (list : List Posting) (before between after docs freqs n : ℕ) → AreCounted format lists before between → length list ≡ n
    → (1 ≤ length list → 1 ≤ docs) → (1 ≤ length list → 1 ≤ freqs) → between + docs + freqs ≤ after → after ≤ between + 6 * length (window_bounds format) * (n + 1)
    → AreCounted format (lists ++ list ∷ []) before after
count-more format lists list before between after docs freqs n counted same some_docs some_freqs least most = record {
  at_least =
      let more = sum_by_push (λ l. if length l == 0 then 0 else 2) lists list in
      omega (arith, more, counted.at_least, filled (length list) docs freqs some_docs some_freqs, least);
  at_most =
      let more = sum_by_push (λ l. length l + 1) lists list in
      let w = 6 * length (window_bounds format) in
      let sum = ap (λ s. w * s) more in
      let own = ap (λ l. w * (l + 1)) same in
      omega (arith, sum, own, counted.at_most, most);
}

-- lists without postings are counted with the others
one-empty : (format : Format) (lists : List (List Posting)) (before after : ℕ) → AreCounted format lists before after → AreCounted format (lists ++ [] ∷ []) before after
one-empty format lists before after counted =
    count-more format lists [] before after after 0 0 0 counted refl (λ some. absurd (omega (arith, some))) (λ some. absurd (omega (arith, some))) (omega arith) (omega arith)

pub count-empty : (format : Format) (k : ℕ) (lists : List (List Posting)) (before after : ℕ) → AreCounted format lists before after → AreCounted format (lists ++ replicate k []) before after
count-empty format zero lists before after counted = subst (λ l. AreCounted format l before after) (sym (append-nil lists)) counted
count-empty format (suc k) lists before after counted =
    subst (λ l. AreCounted format l before after) (append_assoc lists ([] ∷ []) (replicate k [])) (count-empty format k (lists ++ [] ∷ []) before after (one-empty format lists before after counted))

lists-none : (k : ℕ) → map (λ (c : CutList). c.list) (replicate k no_list) ≡ replicate k []
lists-none zero = refl
lists-none (suc k) = ap (λ l. [] ∷ l) (lists-none k)

lists-rest : (cs : List CutList) (k : ℕ) → map (λ (c : CutList). c.list) (cs ++ replicate k no_list) ≡ map (λ (c : CutList). c.list) cs ++ replicate k []
lists-rest [] k = lists-none k
lists-rest (c ∷ cs) k = ap (λ l. c.list ∷ l) (lists-rest cs k)

-- and are added behind them
pub empty-added : (format : Format) (old new : Built) (n k : ℕ) (lists : List (List Posting)) (before after : ℕ) → AreAdded format old n lists before after → AddsEmptyLists old new k
    → AreAdded format new n (lists ++ replicate k []) before after
empty-added format old new n k lists before after added adds = record {
  cuts = added.cuts ++ replicate k no_list;
  format_is = adds.0 ∙ added.format_is;
  documents = adds.1 ∙ added.documents;
  stands = adds.2 added.cuts added.stands;
  lists_are = lists-rest added.cuts k ∙ ap (λ l. l ++ replicate k []) added.lists_are;
  counted = count-empty format k lists before after added.counted;
}

-- the last of some cut lists
last-cut : (format : FormatNumbers) (cs : List CutList) (c : CutList) → All (IsNearCut format) (cs ++ c ∷ []) → IsNearCut format c
last-cut format cs c near =
    subst (IsNearCut format) (get_or_push cs c c (length cs) refl) (All-get_or (IsNearCut format) (cs ++ c ∷ []) (length cs) c (omega (arith, length_push cs c)) near)

-- nothing is added to begin with
pub none-added : (format : Format) (b : Built) (n steps : ℕ) → b.format ≡ format → b.documents ≡ n → StandsFor b [] → AreAdded format b n [] steps steps
none-added format b n steps format_is documents stands = record {
  cuts = [];
  format_is = format_is;
  documents = documents;
  stands = stands;
  lists_are = refl;
  counted = record { at_least = omega arith; at_most = omega arith };
}

-- one more list is added
pub one-added : (format : Format) (old new : Built) (n : ℕ) (lists : List (List Posting)) (docs freqs : List ℕ) (before between after : ℕ) → AreAdded format old n lists before between
    → length docs ≡ length freqs → AddsList old new (postings_of docs freqs) between after → after ≤ between + 6 * length (window_bounds old.format) * (length docs + 1)
    → AreAdded format new n (lists ++ postings_of docs freqs ∷ []) before after
one-added format old new n lists docs freqs before between after added same adds most =
    let list = postings_of docs freqs in
    let made = adds.2 added.cuts added.stands in
    let cut : CutList = record { list = list; parts = made.0 } in
    let format_is : new.format ≡ format = adds.0 ∙ added.format_is in
    let near = last-cut (numbers_of new.format) added.cuts cut made.1.near in
    let count : length list ≡ length docs = sym (docs_of-length list) ∙ ap length (docs-of_postings docs freqs same) in
    record {
      cuts = added.cuts ++ cut ∷ [];
      format_is = format_is;
      documents = adds.1 ∙ added.documents;
      stands = made.1;
      lists_are = map_push (λ c. c.list) added.cuts cut ∙ ap (λ l. l ++ list ∷ []) added.lists_are;
      counted =
          count-more format lists list before between after (length made.0.doc_ends) (length made.0.freq_ends) (length docs) added.counted count
          (some-part (length list) made.0.doc_ends (docs-partition (numbers_of new.format) cut near))
          (some-part (length list) made.0.freq_ends (freqs-partition (numbers_of new.format) cut near))
          made.2
          (subst (λ f. after ≤ between + 6 * length (window_bounds f) * (length docs + 1)) added.format_is most);
    }

-- the building begins, and goes on
pub build-begun : (format : Format) → ReadsInTurn (numbers_of format) → (base : List ℕ) (old now : DepotState) (r : Reading) (b : Built) (steps : ℕ)
    → StartsReading (numbers_of format) old now base (Ok r) → b.format ≡ format → b.documents ≡ r.documents → StandsFor b [] → IsBuilding format base old now r b steps steps
build-begun format turn base old now r b steps starts format_is documents stands = record {
  lists = [];
  read = turn.start base old now r starts;
  added = none-added format b r.documents steps format_is documents stands;
}

pub build-more : (format : Format) → ReadsInTurn (numbers_of format) → (base : List ℕ) (old between now : DepotState) (r next : Reading) (b c : Built) (docs freqs : List ℕ) (before middle after : ℕ) (result : Result Bool CollError)
    → IsBuilding format base old between r b before middle → ReadsList r next between now docs freqs result → result ≡ Ok true
    → AddsList b c (postings_of docs freqs) middle after → after ≤ middle + 6 * length (window_bounds b.format) * (length docs + 1)
    → IsBuilding format base old now next c before after
build-more format turn base old between now r next b c docs freqs before middle after result building reads is adds most =
    let given = reads.list is in
    record {
      lists = building.lists ++ postings_of docs freqs ∷ [];
      read = turn.list base old between now r next building.lists docs freqs building.read (subst (ReadsList r next between now docs freqs) is reads);
      added = subst (λ n. AreAdded format c n (building.lists ++ postings_of docs freqs ∷ []) before after) (sym reads.documents)
          (one-added format b c r.documents building.lists docs freqs before middle after building.added given.same_length adds most);
    }

-- the next list may be added: it is one over the documents of what is built
pub next-fits : (format : Format) (base : List ℕ) (old between now : DepotState) (r next : Reading) (b : Built) (docs freqs : List ℕ) (before middle : ℕ) (result : Result Bool CollError)
    → IsBuilding format base old between r b before middle → ReadsList r next between now docs freqs result → result ≡ Ok true
    → IsPostingList (numbers_of b.format) b.documents (postings_of docs freqs)
next-fits format base old between now r next b docs freqs before middle result building reads is =
    let given = reads.list is in
    subst (λ f. IsPostingList (numbers_of f) b.documents (postings_of docs freqs)) (sym building.added.format_is)
    (subst (λ n. IsPostingList (numbers_of format) n (postings_of docs freqs)) (sym building.added.documents)
    (subst (λ f. IsPostingList f r.documents (postings_of docs freqs)) building.read.format_is given.list))

-- and there is room for it
pub next-has_room : ListsAreCounted → (format : Format) (base : List ℕ) (old between now : DepotState) (r next : Reading) (b : Built) (docs freqs : List ℕ) (before middle : ℕ) (result : Result Bool CollError)
    → IsBuilding format base old between r b before middle → ReadsList r next between now docs freqs result → result ≡ Ok true → lists_added b < most_terms
next-has_room count format base old between now r next b docs freqs before middle result building reads is =
    let given = reads.list is in
    let cuts = building.added.cuts in
    let added : lists_added b ≡ length cuts = count b cuts building.added.stands in
    let as_lists : length cuts ≡ length building.lists = sym (length-map cuts (λ c. c.list)) ∙ ap length building.added.lists_are in
    omega (arith, added, as_lists, building.read.read.counted, given.counted, given.within)

-- what a refusal of the reading says of the building
same-error : (e : CollError) (fault : Fault) → build_error e ≡ Broken fault → e ≡ reading.Broken fault
same-error (reading.Broken f) fault h = ap reading.Broken cc
same-error (reading.Read slot) fault h = cc
same-error reading.NoMemory fault h = cc

same-slot : (e : CollError) (slot : Slot) → build_error e ≡ Read slot → e ≡ reading.Read slot
same-slot (reading.Broken f) slot h = cc
same-slot (reading.Read s) slot h = ap reading.Read cc
same-slot reading.NoMemory slot h = cc

not-too_large : (e : CollError) (n : ℕ) → build_error e ≡ TooLarge n → ⊥
not-too_large (reading.Broken f) n h = cc
not-too_large (reading.Read slot) n h = cc
not-too_large reading.NoMemory n h = cc

-- an error that broken files end with
broken-ends : (format : FormatNumbers) → OneFirstFault format → (base : List ℕ) (old new : DepotState) (e : CollError) → ReadsCollection format old new base (Err e) → IsTrue old.tells → (fault : Fault) → HasFault format base old fault
    → (build_error e ≡ Broken fault) ⊎ ((slot : Slot) × (build_error e ≡ Read slot)) ⊎ (build_error e ≡ NoMemory)
broken-ends format one base old new (reading.Broken f) reads told fault broken =
    let same = one (files_at old base) _ _ (reads.first_fault told f refl) broken in
    let here : f ≡ fault = cc in
    inl (ap Broken here)
broken-ends format one base old new (reading.Read slot) reads told fault broken = inr (inl (slot, refl))
broken-ends format one base old new reading.NoMemory reads told fault broken = inr (inr refl)

-- the three files were started once, where neither a call nor memory was refused
build-once : (format : FormatNumbers) (base : List ℕ) (old new : DepotState) (e : CollError) → ReadsCollection format old new base (Err e) → ((slot : Slot) → build_error e ≢ Read slot) → build_error e ≢ NoMemory → StartedOnce (names_under base) IsCollectionSlot old new
build-once format base old new (reading.Broken fault) reads not_read not_wanted = reads.in_order.once
build-once format base old new (reading.Read slot) reads not_read not_wanted = absurd (not_read slot refl)
build-once format base old new reading.NoMemory reads not_read not_wanted = absurd (not_wanted refl)

pub build-refused : (format : Format) → OneFirstFault (numbers_of format) → (base : List ℕ) (old new : DepotState) (before after : ℕ) (e : CollError) (result : Result (Vec ℕ Global) BuildError)
    → ReadsCollection (numbers_of format) old new base (Err e) → result ≡ Err (build_error e) → BuildsWords format base old new before after (words_built result)
build-refused format one base old new before after e result reads is =
    subst (λ r. BuildsWords format base old new before after (words_built r)) (sym is) (record {
      words = tt;
      first_fault = λ told fault h. let at : build_error e ≡ Broken fault = cc in reads.first_fault told fault (ap Err (same-error e fault at));
      no_fault = λ told c found fault h. let at : build_error e ≡ Broken fault = cc in reads.no_fault told c found.well_formed (found.files told) fault (ap Err (same-error e fault at));
      broken = λ told fault broken. elim (broken-ends (numbers_of format) one base old new e reads told fault broken) [
        | inl h ↦ inl (ap Err h)
        | inr h ↦ elim h [ inl s ↦ inr (inl (s.0, ap Err s.1)) | inr m ↦ inr (inr (ap Err m)) ]
      ];
      too_large = λ n h. let at : build_error e ≡ TooLarge n = cc in absurd (not-too_large e n at);
      read_only_where_it_rose = λ slot h. let at : build_error e ≡ Read slot = cc in reads.read_only_where_it_rose slot (ap Err (same-slot e slot at));
      count_rises_only_there = λ slot. elim (reads.count_rises_only_there slot) [ inl h ↦ let at : e ≡ reading.Read slot = cc in inl (ap (λ x. Err (build_error x)) at) | inr same ↦ inr same ];
      reads = reads.reads;
      started_once = λ not_read not_wanted. build-once (numbers_of format) base old new e reads (λ slot h. not_read slot (ap Err h)) (λ h. not_wanted (ap Err h));
      none_twice = reads.none_twice;
      in_turn = read-in_turn (numbers_of format) base old new (Err e) reads;
      refusals_rise_only_there = elim reads.refusals_rise_only_there [ inl h ↦ let at : e ≡ reading.NoMemory = cc in inl (ap (λ x. Err (build_error x)) at) | inr same ↦ inr same ];
    })

-- the refusals of a step
pub list-refused : (format : Format) → ReadsInTurn (numbers_of format) → OneFirstFault (numbers_of format) → (base : List ℕ) (old between now : DepotState) (r next : Reading) (b : Built) (docs freqs : List ℕ) (before after : ℕ) (list : Result Bool CollError) (e : CollError) (result : Result (Vec ℕ Global) BuildError)
    → IsBuilding format base old between r b before after → ReadsList r next between now docs freqs list → list ≡ Err e → result ≡ Err (build_error e)
    → BuildsWords format base old now before after (words_built result)
list-refused format turn one base old between now r next b docs freqs before after list e result building reads is ends =
    build-refused format one base old now before after e result
    (turn.list_refused base old between now r next building.lists docs freqs e building.read (subst (ReadsList r next between now docs freqs) is reads)) ends

pub memory-refused : (format : Format) → ReadsInTurn (numbers_of format) → OneFirstFault (numbers_of format) → (base : List ℕ) (old between now : DepotState) (r next : Reading) (b : Built) (docs freqs : List ℕ) (before middle after : ℕ) (list : Result Bool CollError) (result : Result (Vec ℕ Global) BuildError)
    → IsBuilding format base old between r b before middle → ReadsList r next between now docs freqs list → list ≡ Ok true → result ≡ Err NoMemory
    → BuildsWords format base old now before after (words_built result)
memory-refused format turn one base old between now r next b docs freqs before middle after list result building reads is ends =
    let read = turn.list base old between now r next building.lists docs freqs building.read (subst (ReadsList r next between now docs freqs) is reads) in
    build-refused format one base old now before after reading.NoMemory result
    (turn.stopped base old now next _ _ read)
    ends

-- all lists were read, and all were added
pub record HasBuilt (format : Format) (base : List ℕ) (old now : DepotState) (reader : Reading) (b : Built) (before after : ℕ) : Type 0 where
  pub lists : List (List Posting)
  pub read : HasReadAll (numbers_of format) base old now reader lists
  pub added : AreAdded format b reader.documents lists before after

pub build-ended : (format : Format) → ReadsInTurn (numbers_of format) → (base : List ℕ) (old between now : DepotState) (r next : Reading) (b : Built) (docs freqs : List ℕ) (before after : ℕ) (list : Result Bool CollError)
    → IsBuilding format base old between r b before after → ReadsList r next between now docs freqs list → list ≡ Ok false → HasBuilt format base old now next b before after
build-ended format turn base old between now r next b docs freqs before after list building reads is = record {
  lists = building.lists;
  read = turn.last base old between now r next building.lists docs freqs building.read (subst (ReadsList r next between now docs freqs) is reads);
  added = subst (λ n. AreAdded format b n building.lists before after) (sym reads.documents) building.added;
}

pub sizes-refused : (format : Format) → ReadsInTurn (numbers_of format) → OneFirstFault (numbers_of format) → (base : List ℕ) (old between now : DepotState) (r next : Reading) (b : Built) (sizes : List ℕ) (before after : ℕ) (end : Result (Unit {0}) CollError) (e : CollError) (result : Result (Vec ℕ Global) BuildError)
    → HasBuilt format base old between r b before after → ReadsSizes r next between now sizes end → end ≡ Err e → result ≡ Err (build_error e) → BuildsWords format base old now before after (words_built result)
sizes-refused format turn one base old between now r next b sizes before after end e result built reads is ends =
    build-refused format one base old now before after e result
    (turn.sizes_refused base old between now r next built.lists sizes e built.read (subst (ReadsSizes r next between now sizes) is reads)) ends

-- the parts in which a collection was cut, and its words
pub record IsAllAdded (format : Format) (b : Built) (c : Collection) (before after : ℕ) : Type 0 where
  pub parts : List ListParts
  pub cuts : List CutList
  pub near : AreNear (numbers_of format) c parts
  pub counted : AreCounted format c.lists before after
  pub stands : StandsFor b cuts
  pub words_are : words_of_file (numbers_of b.format) b.documents cuts c.sizes ≡ file_words (numbers_of format) c parts

-- where all lists of a collection were added, the words are those of the collection
pub all-added : (format : Format) → FilesSpellCollections → (b : Built) (c : Collection) (before after : ℕ)
    → AreAdded format b c.documents c.lists before after → IsAllAdded format b c before after
all-added format spell b c before after added =
    let cuts = added.cuts in
    let parts : List ListParts = map (λ c. c.parts) cuts in
    let same : collection_cut b.documents cuts c.sizes ≡ c = λ i. record { documents = added.documents i; lists = added.lists_are i; sizes = c.sizes } in
    let near : All (IsNearCut (numbers_of format)) cuts = subst (λ f. All (IsNearCut (numbers_of f)) cuts) added.format_is added.stands.near in
    record {
      parts = parts;
      cuts = cuts;
      near = record {
        partitions = subst (λ l. ArePartitions l parts) added.lists_are (spell.partitions b cuts added.stands);
        near = subst (λ l. All (IsNearCut (numbers_of format)) (with_parts l parts)) added.lists_are
            (subst (All (IsNearCut (numbers_of format))) (sym (with-parts-of cuts)) near);
      };
      counted = added.counted;
      stands = added.stands;
      words_are = spell.words (numbers_of b.format) b.documents cuts c.sizes
          ∙ ap (λ d. file_words (numbers_of b.format) d parts) same
          ∙ ap (λ f. file_words (numbers_of f) c parts) added.format_is;
    }

-- the collection that was read, and the parts in which it was cut
record IsCutSo (format : Format) (base : List ℕ) (old now : DepotState) (b : Built) (sizes : List ℕ) (before after : ℕ) : Type 0 where
  c : Collection
  parts : List ListParts
  cuts : List CutList
  reading_is : ReadsCollection (numbers_of format) old now base (Ok c)
  cut : AreCut format (FindsCollection (numbers_of format) base old) before after c parts
  stands : StandsFor b cuts
  words_are : words_of_file (numbers_of b.format) b.documents cuts sizes ≡ file_words (numbers_of format) c parts

all-read : (format : Format) → ReadsInTurn (numbers_of format) → FilesSpellCollections → (base : List ℕ) (old between now : DepotState) (r next : Reading) (b : Built) (sizes : List ℕ) (before after : ℕ) (end : Result (Unit {0}) CollError)
    → HasBuilt format base old between r b before after → ReadsSizes r next between now sizes end → end ≡ Ok tt → All (λ s. s < 2 ^ 32) sizes → IsCutSo format base old now b sizes before after
all-read format turn spell base old between now r next b sizes before after end built reads is fit =
    let at = subst (ReadsSizes r next between now sizes) is reads in
    let c : Collection = record { documents = next.documents; lists = built.lists; sizes = sizes } in
    let reading = turn.sizes base old between now r next built.lists sizes built.read at fit in
    let good = reading.well_formed in
    let all = all-added format spell b c before after (subst (λ n. AreAdded format b n built.lists before after) (sym at.documents) built.added) in
    record {
      c = c;
      parts = all.parts;
      cuts = all.cuts;
      reading_is = reading;
      cut = record { collection = record { well_formed = good; files = reading.spelled_so }; near = all.near; counted = all.counted };
      stands = all.stands;
      words_are = all.words_are;
    }

-- what every answer says once the collection was read
answered : (format : Format) (base : List ℕ) (old now : DepotState) (before after : ℕ) (c : Collection) (parts : List ListParts) (result : Result (List ℕ) BuildError)
    → ReadsCollection (numbers_of format) old now base (Ok c) → AreCut format (FindsCollection (numbers_of format) base old) before after c parts
    → IfOk result (λ words. (length words ≤ most_words) × (words ≡ file_words (numbers_of format) c parts))
    → ((n : ℕ) → result ≡ Err (TooLarge n) → (most_words < n) × (n ≡ length (file_words (numbers_of format) c parts)))
    → ((fault : Fault) → result ≢ Err (Broken fault)) → ((slot : Slot) → result ≢ Err (Read slot))
    → BuildsWords format base old now before after result
answered format base old now before after c parts result reads cut words large not_broken not_read = record {
  words = words-of result words;
  first_fault = λ told fault h. absurd (not_broken fault h);
  no_fault = λ told d found fault. not_broken fault;
  broken = λ told fault broken. absurd (reads.faulty_is_refused told fault broken c refl);
  too_large = λ n h. let made = large n h in (made.0, (c, parts, cut, made.1));
  read_only_where_it_rose = λ slot h. absurd (not_read slot h);
  count_rises_only_there = λ slot. elim (reads.count_rises_only_there slot) [ inl h ↦ absurd cc | inr same ↦ inr same ];
  reads = reads.reads;
  started_once = λ not_read not_wanted. reads.started_once;
  none_twice = reads.none_twice;
  in_turn = read-in_turn (numbers_of format) base old now (Ok c) reads;
  refusals_rise_only_there = elim reads.refusals_rise_only_there [ inl h ↦ absurd cc | inr same ↦ inr same ];
}
  where
    words-of : (r : Result (List ℕ) BuildError) → IfOk r (λ words. (length words ≤ most_words) × (words ≡ file_words (numbers_of format) c parts))
        → IfOk r (λ words. (length words ≤ most_words) × ((c : Collection) × (parts : List ListParts) × AreCut format (FindsCollection (numbers_of format) base old) before after c parts × (words ≡ file_words (numbers_of format) c parts)))
    words-of (Ok words) h = (h.0, (c, parts, cut, h.1))
    words-of (Err e) h = tt

-- the words were finished, or not
pub words-finished : (format : Format) → ReadsInTurn (numbers_of format) → FilesSpellCollections → (base : List ℕ) (old between now : DepotState) (r next : Reading) (b : Built) (sizes : List ℕ) (before after : ℕ) (end : Result (Unit {0}) CollError) (words : Vec ℕ Global)
    → HasBuilt format base old between r b before after → ReadsSizes r next between now sizes end → end ≡ Ok tt → All (λ s. s < 2 ^ 32) sizes
    → ((cs : List CutList) → StandsFor b cs → words.items ≡ words_of_file (numbers_of b.format) b.documents cs sizes) → length words.items ≤ most_words
    → BuildsWords format base old now before after (words_built (Ok words))
words-finished format turn spell base old between now r next b sizes before after end words built reads is fit made within =
    let so = all-read format turn spell base old between now r next b sizes before after end built reads is fit in
    answered format base old now before after so.c so.parts (Ok words.items) so.reading_is so.cut
    (within, made so.cuts so.stands ∙ so.words_are) (λ n h. absurd cc) (λ fault h. cc) (λ slot h. cc)

pub words-refused : (format : Format) → ReadsInTurn (numbers_of format) → FilesSpellCollections → (base : List ℕ) (old between now : DepotState) (r next : Reading) (b : Built) (sizes : List ℕ) (before after : ℕ) (end : Result (Unit {0}) CollError) (e : FinishError) (result : Result (Vec ℕ Global) BuildError)
    → HasBuilt format base old between r b before after → ReadsSizes r next between now sizes end → end ≡ Ok tt → All (λ s. s < 2 ^ 32) sizes
    → ((n : ℕ) → e ≡ finishing.TooLarge n → (most_words < n) × ((cs : List CutList) → StandsFor b cs → n ≡ length (words_of_file (numbers_of b.format) b.documents cs sizes)))
    → result ≡ Err (finish_error e) → BuildsWords format base old now before after (words_built result)
words-refused format turn spell base old between now r next b sizes before after end e result built reads is fit large ends =
    let so = all-read format turn spell base old between now r next b sizes before after end built reads is fit in
    subst (λ r. BuildsWords format base old now before after (words_built r)) (sym ends)
    (answered format base old now before after so.c so.parts (Err (finish_error e)) so.reading_is so.cut tt
    (λ n h.
    let at : finish_error e ≡ TooLarge n = cc in
    let found = large n (which e n at) in
    (found.0, found.1 so.cuts so.stands ∙ ap length so.words_are))
    (λ fault h. let at : finish_error e ≡ Broken fault = cc in not-broken e fault at)
    (λ slot h. let at : finish_error e ≡ Read slot = cc in not-read e slot at))
  where
    which : (e : FinishError) (n : ℕ) → finish_error e ≡ TooLarge n → e ≡ finishing.TooLarge n
    which (finishing.TooLarge m) n h = ap finishing.TooLarge cc
    which finishing.NoMemory n h = cc

    not-broken : (e : FinishError) (fault : Fault) → finish_error e ≡ Broken fault → ⊥
    not-broken (finishing.TooLarge m) fault h = cc
    not-broken finishing.NoMemory fault h = cc

    not-read : (e : FinishError) (slot : Slot) → finish_error e ≡ Read slot → ⊥
    not-read (finishing.TooLarge m) slot h = cc
    not-read finishing.NoMemory slot h = cc
