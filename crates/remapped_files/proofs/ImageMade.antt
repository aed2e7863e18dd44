-- What making the files of an image gives: at each refusal, and at the end.
use Rattle.std.proofs.Common.{◌≡◌, ◌≢◌, ◌<◌, refl, sym, ap, ◌∙◌, subst, inl, inr, ℕ, List, [], IsTrue, Result, Ok, Err, unwrap_or, arith}
use Rattle.std.specs.Prelude.{◌⊎◌, IfOk}
use Rattle.collection_model.specs.Collection.{Collection}
use Rattle.collection_model.specs.Laws.{OneCollection}
use Rattle.collection_model.specs.Spelling.{spelled}
use Rattle.io_traits.specs.declared.fail.Slot.{Slot}
use Rattle.io_traits.specs.declared.fail.Slot.TheVariants.{Docs, Freqs, Sizes, Index, Side, Map}
use Rattle.io_traits.specs.Calls.{Rose}
use Rattle.io_traits.specs.DepotState.{DepotState, StartedOnce, NoneStartedTwice, OnlyReads, WasStartedAs, bytes_under}
use Rattle.io_traits.proofs.OnlyReads.{OnlyReads-trans, OnlyReads-wider, NoneStartedTwice-start, was-started-then, then-was-started}
use Rattle.collection_reader.specs.declared.fault.Fault.{Fault}
use Rattle.collection_reader.specs.declared.fault.CollError.{CollError}
use Rattle.collection_reader.specs.declared.fault.CollError.TheVariants as reading
use Rattle.collection_reader.specs.Laws.{OneFirstFault}
use Rattle.collection_reader.specs.ReadCollection.{files_at, IsCollectionSlot, ReadsCollection}
use Rattle.collection_reader.specs.Starting.{turn, names_under, StartedInTurn}
use Rattle.collection_reader.proofs.InOrder.{read-in_turn}
use Rattle.remap.specs.declared.fault.MapFault.{MapFault}
use Rattle.remap.specs.declared.fault.MapError.{MapError}
use Rattle.remap.specs.declared.fault.MapError.TheVariants as mapping
use Rattle.remap.specs.Image.{IsImage}
use Rattle.remap.specs.MapFaults.{IsMapFault}
use Rattle.remap.specs.ReadMap.{ReadsMap, OneMapFault}
use Rattle.command_model.specs.Found.{FindsCollection, HasFault}
use Rattle.command_model.specs.FilesWritten.{NamedFile}
use Rattle.command_model.specs.FoundMap.{remap_numbers, IsCollectionOrMap, names_with_map, FindsBothOf, HasMapFault, OnImageFiles, files_under}
use Rattle.remapped_files.specs.declared.image.ImageError.{ImageError}
use Rattle.remapped_files.specs.declared.image.ImageError.TheVariants.{Broken, BrokenMap, Read, NoMemory}
use Rattle.remapped_files.specs.MakeImage.{MakesImage, image_error, map_error}

abbrev Made : Type 0
Made = Result (List NamedFile) ImageError

error-of : (e f : ImageError) → (let r : Made = Err e in r ≡ Err f) → e ≡ f
error-of e f h = cc

ok-not : (files : List NamedFile) (e : ImageError) → (let r : Made = Ok files in r ≡ Err e) → ⊥
ok-not files e h = cc

is-map : (slot : Slot) → (slot ≡ Map) ⊎ (slot ≡ Map → ⊥)
is-map Docs = inr (λ h. cc)
is-map Freqs = inr (λ h. cc)
is-map Sizes = inr (λ h. cc)
is-map Index = inr (λ h. cc)
is-map Side = inr (λ h. cc)
is-map Map = inl refl

not-map : (slot : Slot) → IsCollectionSlot slot → slot ≡ Map → ⊥
not-map slot (inl h) is = let bad : Docs ≡ Map = sym h ∙ is in cc
not-map slot (inr (inl h)) is = let bad : Freqs ≡ Map = sym h ∙ is in cc
not-map slot (inr (inr h)) is = let bad : Sizes ≡ Map = sym h ∙ is in cc

map-apart : IsCollectionSlot Map → ⊥
map-apart h = not-map Map h refl

-- the names of the files, by their slots
collection-named : (base map : List ℕ) (slot : Slot) → (slot ≡ Map → ⊥) → names_under base slot ≡ names_with_map base map slot
collection-named base map Docs other = refl
collection-named base map Freqs other = refl
collection-named base map Sizes other = refl
collection-named base map Index other = refl
collection-named base map Side other = refl
collection-named base map Map other = absurd (other refl)

-- the map is the last
none-behind : (earlier later : Slot) → earlier ≡ Map → turn earlier < turn later → ⊥
none-behind earlier Docs is lt = omega (arith, lt)
none-behind earlier Freqs is lt = omega (arith, lt, ap turn is)
none-behind earlier Sizes is lt = omega (arith, lt, ap turn is)
none-behind earlier Index is lt = omega (arith, lt, ap turn is)
none-behind earlier Side is lt = omega (arith, lt, ap turn is)
none-behind earlier Map is lt = omega (arith, lt, ap turn is)

-- what is known of the starts of a collection's files, with the name of the map beside
module _ (base map : List ℕ) (a b : DepotState) where
  once-with_map : StartedOnce (names_under base) IsCollectionSlot a b → StartedOnce (names_with_map base map) IsCollectionSlot a b
  once-with_map once slot is = subst (λ n. WasStartedAs n slot a b) (collection-named base map slot (not-map slot is)) (once slot is)

  twice-with_map : OnlyReads IsCollectionSlot a b → NoneStartedTwice (names_under base) a b → NoneStartedTwice (names_with_map base map) a b
  twice-with_map reads twice slot = elim (is-map slot) [
    | inl is ↦ inl (reads.other_starts slot (λ h. not-map slot h is))
    | inr other ↦ elim (twice slot) [
      | inl none ↦ inl none
      | inr once ↦ inr (subst (λ n. WasStartedAs n slot a b) (collection-named base map slot other) once)
    ]
  ]

  in_turn-with_map : StartedInTurn (names_under base) IsCollectionSlot a b → StartedInTurn (names_with_map base map) IsCollectionOrMap a b
  in_turn-with_map in_turn earlier later (inl is) lt = elim (in_turn earlier later is lt) [
    | inl none ↦ inl none
    | inr once ↦ inr (subst (λ n. WasStartedAs n earlier a b) (collection-named base map earlier (not-map earlier is)) once)
  ]
  in_turn-with_map in_turn earlier later (inr is) lt = absurd (none-behind earlier later is lt)

  all-in_turn : StartedOnce (names_with_map base map) IsCollectionSlot a b → StartedInTurn (names_with_map base map) IsCollectionOrMap a b
  all-in_turn once earlier later (inl is) lt = inr (once earlier is)
  all-in_turn once earlier later (inr is) lt = absurd (none-behind earlier later is lt)

-- the documents of a collection, by its view
pub of-view : {name : List ℕ} {n m : ℕ} {a b : DepotState} {r : Result (List ℕ) MapError} → n ≡ m → ReadsMap name n a b r → ReadsMap name m a b r
of-view {name = name} {a = a} {b = b} {r = r} same h = subst (λ (k : ℕ). ReadsMap name k a b r) same h

-- ---- the collection is refused

same-fault : (e : CollError) (fault : Fault) → image_error e ≡ Broken fault → e ≡ reading.Broken fault
same-fault (reading.Broken f) fault h = ap reading.Broken cc
same-fault (reading.Read slot) fault h = cc
same-fault reading.NoMemory fault h = cc

same-slot : (e : CollError) (slot : Slot) → image_error e ≡ Read slot → e ≡ reading.Read slot
same-slot (reading.Broken f) slot h = cc
same-slot (reading.Read s) slot h = ap reading.Read cc
same-slot reading.NoMemory slot h = cc

never-map : (e : CollError) (fault : MapFault) → image_error e ≡ BrokenMap fault → ⊥
never-map (reading.Broken f) fault h = cc
never-map (reading.Read slot) fault h = cc
never-map reading.NoMemory fault h = cc

module _ (one : OneFirstFault remap_numbers) (base map to : List ℕ) (a b : DepotState) where
  -- an error that a broken collection ends with
  broken-ends : (e : CollError) → ReadsCollection remap_numbers a b base (Err e) → IsTrue a.tells → (fault : Fault) → HasFault remap_numbers base a fault
      → (image_error e ≡ Broken fault) ⊎ ((slot : Slot) × (image_error e ≡ Read slot)) ⊎ (image_error e ≡ NoMemory)
  broken-ends (reading.Broken f) reads told fault broken =
      let same = one (files_at a base) _ _ (reads.first_fault told f refl) broken in
      let here : f ≡ fault = cc in inl (ap Broken here)
  broken-ends (reading.Read slot) reads told fault broken = inr (inl (slot, refl))
  broken-ends reading.NoMemory reads told fault broken = inr (inr refl)

  -- an error that comes where there is a collection
  sound-ends : (e : CollError) → ReadsCollection remap_numbers a b base (Err e) → IsTrue a.tells → (c : Collection) → FindsCollection remap_numbers base a c
      → ((slot : Slot) × (image_error e ≡ Read slot)) ⊎ (image_error e ≡ NoMemory)
  sound-ends (reading.Broken f) reads told c found = absurd (reads.no_fault told c found.well_formed (found.files told) f refl)
  sound-ends (reading.Read slot) reads told c found = inl (slot, refl)
  sound-ends reading.NoMemory reads told c found = inr refl

  -- the three files were started once, where neither a call nor memory was refused
  read-once : (e : CollError) → ReadsCollection remap_numbers a b base (Err e) → ((slot : Slot) → image_error e ≢ Read slot) → image_error e ≢ NoMemory → StartedOnce (names_under base) IsCollectionSlot a b
  read-once (reading.Broken fault) reads not_read not_wanted = reads.in_order.once
  read-once (reading.Read slot) reads not_read not_wanted = absurd (not_read slot refl)
  read-once reading.NoMemory reads not_read not_wanted = absurd (not_wanted refl)

  no-other : (e : CollError) → ((slot : Slot) → image_error e ≢ Read slot) → image_error e ≢ NoMemory → ((fault : Fault) → image_error e ≢ Broken fault) → ⊥
  no-other (reading.Broken fault) not_read not_wanted not_broken = not_broken fault refl
  no-other (reading.Read slot) not_read not_wanted not_broken = not_read slot refl
  no-other reading.NoMemory not_read not_wanted not_broken = not_wanted refl

  pub collection-refused : (e : CollError) → ReadsCollection remap_numbers a b base (Err e) → MakesImage base map to a b (Err (image_error e))
  collection-refused e reads =
      let at : (f : ImageError) → (let r : Made = Err (image_error e) in r ≡ Err f) → image_error e ≡ f = error-of (image_error e) in
      let slot_of : (slot : Slot) → (let r : Made = Err (image_error e) in r ≡ Err (Read slot)) → e ≡ reading.Read slot = λ slot h. same-slot e slot (at (Read slot) h) in
      record {
        files = tt;
        first_fault = λ told fault h. reads.first_fault told fault (ap Err (same-fault e fault (at (Broken fault) h)));
        no_fault = λ told c found fault h. reads.no_fault told c found.well_formed (found.files told) fault (ap Err (same-fault e fault (at (Broken fault) h)));
        broken = λ told fault broken. elim (broken-ends e reads told fault broken) [
          | inl h ↦ inl (ap Err h)
          | inr (inl s) ↦ inr (inl (s.0, ap Err s.1))
          | inr (inr m) ↦ inr (inr (ap Err m))
        ];
        first_map_fault = λ told fault h. absurd (never-map e fault (at (BrokenMap fault) h));
        no_map_fault = λ told c ids both fault h. absurd (never-map e fault (at (BrokenMap fault) h));
        broken_map = λ told fault has. elim (sound-ends e reads told has.0 has.1) [
          | inl s ↦ inr (inl (s.0, ap Err s.1))
          | inr m ↦ inr (inr (ap Err m))
        ];
        accepted_at_map = λ fault h. absurd (never-map e fault (at (BrokenMap fault) h));
        accepted_at_read = λ h. absurd (map-apart (reads.read_only_where_it_rose Map (ap Err (slot_of Map h))).0);
        read_only_where_it_rose = λ slot h. let rose = reads.read_only_where_it_rose slot (ap Err (slot_of slot h)) in (inl rose.0, rose.1);
        count_rises_only_there = λ slot. elim (reads.count_rises_only_there slot) [
          | inl h ↦ let this : e ≡ reading.Read slot = cc in inl (ap (λ x. Err (image_error x)) this)
          | inr same ↦ inr same
        ];
        reads = OnlyReads-wider (λ slot is. inl is) reads.reads;
        none_twice = twice-with_map base map a b reads.reads reads.none_twice;
        in_turn = in_turn-with_map base map a b (read-in_turn remap_numbers base a b (Err e) reads);
        started_once = λ not_read not_wanted. once-with_map base map a b (read-once e reads (λ slot h. not_read slot (ap Err h)) (λ h. not_wanted (ap Err h)));
        map_started_once = λ not_read not_wanted not_broken. absurd (no-other e (λ slot h. not_read slot (ap Err h)) (λ h. not_wanted (ap Err h)) (λ fault h. not_broken fault (ap Err h)));
        map_not_started = λ fault h. reads.reads.other_starts Map map-apart;
        refusals_rise_only_there = elim reads.refusals_rise_only_there [
          | inl h ↦ let this : e ≡ reading.NoMemory = cc in inl (ap (λ x. Err (image_error x)) this)
          | inr same ↦ inr same
        ];
      }

-- ---- the collection is accepted, and the map is read

same-map_fault : (e : MapError) (fault : MapFault) → map_error e ≡ BrokenMap fault → e ≡ mapping.Broken fault
same-map_fault (mapping.Broken f) fault h = ap mapping.Broken cc
same-map_fault mapping.Read fault h = cc
same-map_fault mapping.NoMemory fault h = cc

map-slot : (e : MapError) (slot : Slot) → map_error e ≡ Read slot → (e ≡ mapping.Read) × (slot ≡ Map)
map-slot (mapping.Broken f) slot h = cc
map-slot mapping.Read slot h = let is : Map ≡ slot = cc in (refl, sym is)
map-slot mapping.NoMemory slot h = cc

never-collection : (e : MapError) (fault : Fault) → map_error e ≡ Broken fault → ⊥
never-collection (mapping.Broken f) fault h = cc
never-collection mapping.Read fault h = cc
never-collection mapping.NoMemory fault h = cc

read-not : (c : Collection) (e : CollError) → (let r : Result Collection CollError = Ok c in r ≡ Err e) → ⊥
read-not c e h = cc

module _ (single : OneCollection remap_numbers) (map_one : OneMapFault) (base map to : List ℕ) (a b c : DepotState) (col : Collection)
    (read : ReadsCollection remap_numbers a b base (Ok col)) where
  found : FindsCollection remap_numbers base a col
  found = record { well_formed = read.well_formed; files = read.spelled_so }

  -- no other collection is found
  the-same : IsTrue a.tells → (d : Collection) → FindsCollection remap_numbers base a d → d ≡ col
  the-same told d is = single d col is.well_formed read.well_formed (sym (is.files told) ∙ read.spelled_so told)

  told-on : IsTrue a.tells → IsTrue b.tells
  told-on told = read.reads.tells ∙ told

  map-bytes : IsTrue a.tells → bytes_under b map ≡ bytes_under a map
  map-bytes told = ap (λ f. unwrap_or f []) (read.reads.files told map)

  kept : (slot : Slot) → b.faults slot ≡ a.faults slot
  kept slot = elim (read.count_rises_only_there slot) as (λ _. b.faults slot ≡ a.faults slot) [
    | inl h ↦ absurd (read-not col (reading.Read slot) h)
    | inr same ↦ same
  ]

  kept-refusals : b.refusals ≡ a.refusals
  kept-refusals = elim read.refusals_rise_only_there as (λ _. b.refusals ≡ a.refusals) [
    | inl h ↦ absurd (read-not col reading.NoMemory h)
    | inr same ↦ same
  ]

  map-kept : b.starts Map ≡ a.starts Map
  map-kept = read.reads.other_starts Map map-apart

  -- the fault of a map is that of the same documents
  this-map : IsTrue a.tells → (fault : MapFault) → HasMapFault base map a fault → IsMapFault col.documents (bytes_under b map) fault
  this-map told fault has =
      subst (λ (n : ℕ). IsMapFault n (bytes_under b map) fault) (ap (λ (d : Collection). d.documents) (the-same told has.0 has.1))
      (subst (λ (bytes : List ℕ). IsMapFault has.0.documents bytes fault) (sym (map-bytes told)) has.2)

  module _ {r : Result (List ℕ) MapError} (m : ReadsMap map col.documents b c r) where
    both-read : OnlyReads IsCollectionOrMap a c
    both-read = OnlyReads-trans (OnlyReads-wider (λ slot is. inl is) read.reads) (OnlyReads-wider (λ slot is. inr is) m.reads)

    map-once : WasStartedAs map Map a c
    map-once = then-was-started map Map a b c map-kept (m.starts Map refl)

    started : StartedOnce (names_with_map base map) IsCollectionSlot a c
    started slot is =
        was-started-then (names_with_map base map slot) slot a b c (once-with_map base map a b read.started_once slot is) (m.reads.other_starts slot (not-map slot is))

    twice : NoneStartedTwice (names_with_map base map) a c
    twice =
        NoneStartedTwice-start (names_with_map base map) a b c Map (twice-with_map base map a b read.reads read.none_twice) map-kept m.reads (inr (m.starts Map refl))

    counted : (slot : Slot) → ((slot ≡ Map) × (r ≡ Err mapping.Read)) ⊎ (c.faults slot ≡ a.faults slot)
    counted slot = elim (is-map slot) as (λ _. ((slot ≡ Map) × (r ≡ Err mapping.Read)) ⊎ (c.faults slot ≡ a.faults slot)) [
      | inl is ↦ elim m.count_rises_only_there [
        | inl h ↦ inl (is, h)
        | inr same ↦ inr (subst (λ s. c.faults s ≡ b.faults s) (sym is) same ∙ kept slot)
      ]
      | inr other ↦ inr (m.reads.other_counts slot other ∙ kept slot)
    ]

  map-ends : (e : MapError) → ReadsMap map col.documents b c (Err e) → IsTrue a.tells → (fault : MapFault) → HasMapFault base map a fault
      → (map_error e ≡ BrokenMap fault) ⊎ ((slot : Slot) × (map_error e ≡ Read slot)) ⊎ (map_error e ≡ NoMemory)
  map-ends (mapping.Broken f) m told fault has =
      let same = map_one.one col.documents (bytes_under b map) f fault (m.first_fault (told-on told) f refl) (this-map told fault has) in inl (ap BrokenMap same)
  map-ends mapping.Read m told fault has = inr (inl (Map, refl))
  map-ends mapping.NoMemory m told fault has = inr (inr refl)

  -- the map is refused
  pub map-refused : (e : MapError) → ReadsMap map col.documents b c (Err e) → MakesImage base map to a c (Err (map_error e))
  map-refused e m =
      let at : (f : ImageError) → (let r : Made = Err (map_error e) in r ≡ Err f) → map_error e ≡ f = error-of (map_error e) in
      record {
        files = tt;
        first_fault = λ told fault h. absurd (never-collection e fault (at (Broken fault) h));
        no_fault = λ told d is fault h. absurd (never-collection e fault (at (Broken fault) h));
        broken = λ told fault has. absurd (read.faulty_is_refused told fault has col refl);
        first_map_fault = λ told fault h. (
          col,
          found,
          subst (λ (bytes : List ℕ). IsMapFault col.documents bytes fault) (map-bytes told) (m.first_fault (told-on told) fault (ap Err (same-map_fault e fault (at (BrokenMap fault) h)))),
        );
        no_map_fault = λ told d ids both fault h.
            m.no_fault (told-on told) ids both.order.new_ids (both.order.each ∙ ap (λ (d : Collection). d.documents) (the-same told d both.collection))
            (map-bytes told ∙ both.order.bytes told) fault (ap Err (same-map_fault e fault (at (BrokenMap fault) h)));
        broken_map = λ told fault has. elim (map-ends e m told fault has) [
          | inl h ↦ inl (ap Err h)
          | inr (inl s) ↦ inr (inl (s.0, ap Err s.1))
          | inr (inr n) ↦ inr (inr (ap Err n))
        ];
        accepted_at_map = λ fault h. (col, found);
        accepted_at_read = λ h. (col, found);
        read_only_where_it_rose = λ slot h.
            let is = map-slot e slot (at (Read slot) h) in
            let rose = subst (λ (n : ℕ). Rose n (c.faults Map)) (kept Map) (m.read_only_where_it_rose (ap Err is.0)) in
            (inr is.1, subst (λ s. Rose (a.faults s) (c.faults s)) (sym is.1) rose);
        count_rises_only_there = λ slot. elim (counted m slot) [
          | inl h ↦ let this : e ≡ mapping.Read = (let got = h.1 in cc) in inl (ap (λ x. Err (map_error x)) this ∙ ap (λ s. Err (Read s)) (sym h.0))
          | inr same ↦ inr same
        ];
        reads = both-read m;
        none_twice = twice m;
        in_turn = all-in_turn base map a c (started m);
        started_once = λ not_read not_wanted. started m;
        map_started_once = λ not_read not_wanted not_broken slot is. subst (λ s. WasStartedAs (names_with_map base map s) s a c) (sym is) (map-once m);
        map_not_started = λ fault h. absurd (never-collection e fault (at (Broken fault) h));
        refusals_rise_only_there = elim m.refusals_rise_only_there [
          | inl h ↦ let this : e ≡ mapping.NoMemory = cc in inl (ap (λ x. Err (map_error x)) this)
          | inr same ↦ inr (same ∙ kept-refusals)
        ];
      }

  -- the map is accepted, and the answer is no refusal of a file
  module _ (ids : List ℕ) (m : ReadsMap map col.documents b c (Ok ids)) where
    map-counts : (slot : Slot) → c.faults slot ≡ a.faults slot
    map-counts slot = elim (counted m slot) as (λ _. c.faults slot ≡ a.faults slot) [
      | inl h ↦ absurd (let got = h.1 in cc)
      | inr same ↦ same
    ]

    map-wants : c.refusals ≡ a.refusals
    map-wants = elim m.refusals_rise_only_there as (λ _. c.refusals ≡ a.refusals) [
      | inl h ↦ absurd cc
      | inr same ↦ same ∙ kept-refusals
    ]

    both : FindsBothOf base map a col ids
    both = record { collection = found; order = record { new_ids = m.new_ids; each = m.each; bytes = λ told. sym (map-bytes told) ∙ m.spelled_so (told-on told) } }

    answered : (r : Made) → IfOk r (λ files. OnImageFiles base map to a (λ image. files ≡ image)) → ((e : ImageError) → r ≡ Err e → e ≡ NoMemory) → MakesImage base map to a c r
    answered r files only =
        let not_broken : (fault : Fault) → r ≢ Err (Broken fault) = λ fault h. (let is = only (Broken fault) h in cc) in
        let not_map : (fault : MapFault) → r ≢ Err (BrokenMap fault) = λ fault h. (let is = only (BrokenMap fault) h in cc) in
        let not_read : (slot : Slot) → r ≢ Err (Read slot) = λ slot h. (let is = only (Read slot) h in cc) in
        record {
          files = files;
          first_fault = λ told fault h. absurd (not_broken fault h);
          no_fault = λ told d is fault h. not_broken fault h;
          broken = λ told fault has. absurd (read.faulty_is_refused told fault has col refl);
          first_map_fault = λ told fault h. absurd (not_map fault h);
          no_map_fault = λ told d others are fault h. not_map fault h;
          broken_map = λ told fault has. absurd (m.faulty_is_refused (told-on told) fault (this-map told fault has) ids refl);
          accepted_at_map = λ fault h. (col, found);
          accepted_at_read = λ h. (col, found);
          read_only_where_it_rose = λ slot h. absurd (not_read slot h);
          count_rises_only_there = λ slot. inr (map-counts slot);
          reads = both-read m;
          none_twice = twice m;
          in_turn = all-in_turn base map a c (started m);
          started_once = λ is_read is_wanted. started m;
          map_started_once = λ is_read is_wanted is_broken slot is. subst (λ s. WasStartedAs (names_with_map base map s) s a c) (sym is) (map-once m);
          map_not_started = λ fault h. absurd (not_broken fault h);
          refusals_rise_only_there = inr map-wants;
        }

    pub memory-refused : MakesImage base map to a c (Err NoMemory)
    memory-refused = answered (Err NoMemory) tt (λ e h. sym (error-of NoMemory e h))

    pub image-made : (image : Collection) (files : List NamedFile) → IsImage ids col image → files ≡ files_under to (spelled image) → MakesImage base map to a c (Ok files)
    image-made image files is are = answered (Ok files) (col, ids, image, both, is, are) (λ e h. absurd (ok-not files e h))
