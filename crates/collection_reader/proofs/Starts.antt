-- How the three files of a collection are started, and the head is read.
use Rattle.std.proofs.Common.{◌≡◌, refl, ◌∙◌, sym, ap, subst, ℕ, ◌<◌, ◌≤◌, ◌⊎◌, ◌++◌, arith, inl, inr, IsTrue, List, [], Ok, Err, Result}
use Rattle.std.specs.Prelude.{unwrap_or, codes}
use Rattle.io_traits.specs.declared.fail.Slot.{Slot}
use Rattle.io_traits.specs.declared.fail.Slot.TheVariants.{Docs, Freqs, Sizes, Index, Side, Map}
use Rattle.io_traits.specs.DepotState.{DepotState, NoneStartedTwice, OnlyReads, WasStartedAs}
use Rattle.collection_reader.specs.declared.fault.Fault.{Fault}
use Rattle.collection_reader.specs.declared.fault.CollError.{CollError}
use Rattle.collection_reader.specs.declared.fault.CollError.TheVariants.{Broken, Read, NoMemory}
use Rattle.collection_reader.specs.Starting.{IsCollectionSlot, WereStarted, turn, names_under, StopsAt, StartsInOrder}
use Rattle.collection_reader.specs.Reading.{Reading, IsListSlot, IsEndSlot, StartsReading}
use Rattle.collection_reader.specs.FirstFault.{head_fault}
use Rattle.collection_model.specs.FormatNumbers.{FormatNumbers}
use Rattle.collection_reader.specs.OneFile.{StartsFrom}
use Rattle.collection_reader.specs.OneSequence.{ReadsHead}
use Rattle.collection_reader.specs.OneReader.{StartsFile, StartsFiles}
use Rattle.collection_reader.proofs.SameAnswer.{same-fault}
use Rattle.io_traits.proofs.OnlyReads.{OnlyReads-trans, OnlyReads-wider, NoneStartedTwice-same, NoneStartedTwice-then, NoneStartedTwice-start, StartedOnce-then, was-started-then, then-was-started}
use Rattle.collection_reader.proofs.ReadsFrom.{as-starts, starts-then, starts-wider, starts-err}

-- the slots of a collection, and that they differ
pub docs-is : (slot : Slot) → slot ≡ Docs → IsCollectionSlot slot
docs-is slot is = inl is

pub freqs-is : (slot : Slot) → slot ≡ Freqs → IsCollectionSlot slot
freqs-is slot is = inr (inl is)

pub sizes-is : (slot : Slot) → slot ≡ Sizes → IsCollectionSlot slot
sizes-is slot is = inr (inr is)

pub docs-not_freqs : Docs ≡ Freqs → ⊥
docs-not_freqs e = cc

pub docs-not_sizes : Docs ≡ Sizes → ⊥
docs-not_sizes e = cc

pub freqs-not_docs : Freqs ≡ Docs → ⊥
freqs-not_docs e = cc

pub freqs-not_sizes : Freqs ≡ Sizes → ⊥
freqs-not_sizes e = cc

pub sizes-not_docs : Sizes ≡ Docs → ⊥
sizes-not_docs e = cc

pub sizes-not_freqs : Sizes ≡ Freqs → ⊥
sizes-not_freqs e = cc

pub docs-listed : (slot : Slot) → slot ≡ Docs → IsListSlot slot
docs-listed slot is = inl is

pub freqs-listed : (slot : Slot) → slot ≡ Freqs → IsListSlot slot
freqs-listed slot is = inr is

pub freqs-last : (slot : Slot) → slot ≡ Freqs → IsEndSlot slot
freqs-last slot is = inl is

pub sizes-last : (slot : Slot) → slot ≡ Sizes → IsEndSlot slot
sizes-last slot is = inr is

-- a refusal with all three started
pub all-started : (base : List ℕ) (old new : DepotState) (e : CollError) → WereStarted base old new → StartsInOrder base old new e
all-started base old new (Broken fault) started = started
all-started base old new (Read slot) started = inl started
all-started base old new NoMemory started = inl started

read-not_want : (s : Slot) → (let r : Result (Unit {0}) CollError = Err (Read s) in r ≡ Err NoMemory) → ⊥
read-not_want s h = cc

-- the refusal of a start where the slots before are started, and those behind are as they were
stopped : (base : List ℕ) (old new : DepotState) (slot : Slot) (e : CollError) → ((fault : Fault) → (let r : Result (Unit {0}) CollError = Err e in r ≡ Err (Broken fault)) → ⊥)
    → ((s : Slot) → (let r : Result (Unit {0}) CollError = Err e in r ≡ Err (Read s)) → s ≡ slot) → StopsAt base old new slot
    → (let r : Result (Unit {0}) CollError = Err e in (r ≡ Err NoMemory) ⊎ WasStartedAs (names_under base slot) slot old new) → StartsInOrder base old new e
stopped base old new slot (Broken fault) no_fault named stops once = absurd (no_fault fault refl)
stopped base old new slot (Read s) no_fault named stops once =
    inr (subst (λ x. StopsAt base old new x × WasStartedAs (names_under base x) x old new) (sym (named s refl)) (stops, elim once [ inl h ↦ absurd (read-not_want s h) | inr o ↦ o ]))
stopped base old new slot NoMemory no_fault named stops once = inr (slot, stops)

not-in_turn : (slot other : Slot) → turn slot < turn other → other ≡ slot → ⊥
not-in_turn slot other lt e = omega (arith, lt, ap turn e)

-- what is known of the slots before
none-before : (P : Slot → Type 0) (slot : Slot) → turn slot < 0 → P slot
none-before P slot lt = absurd (omega (arith, lt))

docs-before : (P : Slot → Type 0) (slot : Slot) → P Docs → turn slot < 1 → P slot
docs-before P Docs docs lt = docs
docs-before P Freqs docs lt = absurd (omega (arith, lt))
docs-before P Sizes docs lt = absurd (omega (arith, lt))
docs-before P Index docs lt = absurd (omega (arith, lt))
docs-before P Side docs lt = absurd (omega (arith, lt))
docs-before P Map docs lt = absurd (omega (arith, lt))

two-before : (P : Slot → Type 0) (slot : Slot) → P Docs → P Freqs → turn slot < 2 → P slot
two-before P Docs docs freqs lt = docs
two-before P Freqs docs freqs lt = freqs
two-before P Sizes docs freqs lt = absurd (omega (arith, lt))
two-before P Index docs freqs lt = absurd (omega (arith, lt))
two-before P Side docs freqs lt = absurd (omega (arith, lt))
two-before P Map docs freqs lt = absurd (omega (arith, lt))

-- what is known of a slot before this one
abbrev WasStarted : List ℕ → DepotState → DepotState → Slot → Type 0
WasStarted base old new slot = IsTrue (new.started slot) × WasStartedAs (names_under base slot) slot old new

-- calls on this slot and those before it leave those behind it as they were
stops-at : (base : List ℕ) {a b : DepotState} (slot : Slot) → ((earlier : Slot) → turn earlier < turn slot → WasStarted base a b earlier) → OnlyReads (λ s. turn s ≤ turn slot) a b → StopsAt base a b slot
stops-at base slot before reads = record {
  before = λ earlier lt. (before earlier lt).0;
  behind = λ later lt. reads.other_slots later (λ le. omega (arith, lt, le));
  counts_behind = λ later lt. reads.other_counts later (λ le. omega (arith, lt, le));
  once_before = λ earlier lt. (before earlier lt).1;
  starts_behind = λ later lt. reads.other_starts later (λ le. omega (arith, lt, le));
}

in-turn : (slot last : Slot) → turn slot ≤ turn last → (s : Slot) → s ≡ slot → turn s ≤ turn last
in-turn slot last le s e = omega (arith, le, ap turn e)

-- the answer is a failed call, after calls that did not fail
start_refused : (base : List ℕ) (a b : DepotState) (e : CollError) → ((fault : Fault) → (let r : Result (Unit {0}) CollError = Err e in r ≡ Err (Broken fault)) → ⊥)
    → (let r : Result (Unit {0}) CollError = Err e in StartsFrom IsCollectionSlot a b r) → StartsInOrder base a b e → NoneStartedTwice (names_under base) a b → StartsFiles base a b (Err e)
start_refused base a b e no_fault reads order twice = record {
  started = tt;
  docs = λ t. tt;
  freqs = λ t. tt;
  sizes = λ t. tt;
  no_fault = no_fault;
  depot = reads;
  in_order = order;
  started_once = tt;
  none_twice = twice;
}

-- one file after another, none of them twice
docs-twice : (base : List ℕ) (a b : DepotState) (r : Result (Unit {0}) CollError) → StartsFile Docs (names_under base Docs) a b r → NoneStartedTwice (names_under base) a b
docs-twice base a b r one = NoneStartedTwice-start (names_under base) a a b Docs (NoneStartedTwice-same (names_under base) a) refl one.depot.only one.not_twice

freqs-twice : (base : List ℕ) (a b c : DepotState) (r : Result (Unit {0}) CollError) → StartsFile Docs (names_under base Docs) a b (Ok tt) → StartsFile Freqs (names_under base Freqs) b c r → NoneStartedTwice (names_under base) a c
freqs-twice base a b c r one two = NoneStartedTwice-start (names_under base) a b c Freqs (docs-twice base a b (Ok tt) one) (one.depot.only.other_starts Freqs freqs-not_docs) two.depot.only two.not_twice

sizes-twice : (base : List ℕ) (a b c d : DepotState) (r : Result (Unit {0}) CollError) → StartsFile Docs (names_under base Docs) a b (Ok tt) → StartsFile Freqs (names_under base Freqs) b c (Ok tt) → StartsFile Sizes (names_under base Sizes) c d r
    → NoneStartedTwice (names_under base) a d
sizes-twice base a b c d r one two three =
    NoneStartedTwice-start (names_under base) a c d Sizes (freqs-twice base a b c (Ok tt) one two) (two.depot.only.other_starts Sizes sizes-not_freqs ∙ one.depot.only.other_starts Sizes sizes-not_docs) three.depot.only three.not_twice

-- a file that was started is started once
once-at_ok : (slot : Slot) (name : List ℕ) (a b : DepotState) → StartsFile slot name a b (Ok tt) → WasStartedAs name slot a b
once-at_ok slot name a b one = elim one.started_once [ inl h ↦ absurd (ok-not_want h) | inr o ↦ o ]
  where
    ok-not_want : (let r : Result (Unit {0}) CollError = Ok tt in r ≡ Err NoMemory) → ⊥
    ok-not_want h = cc

-- as long as the slots behind it are started
docs-once : (base : List ℕ) (a b c : DepotState) (r : Result (Unit {0}) CollError) → StartsFile Docs (names_under base Docs) a b (Ok tt) → StartsFile Freqs (names_under base Freqs) b c r → WasStarted base a c Docs
docs-once base a b c r one two = (
  two.depot.only.stay_started Docs one.started,
  was-started-then (names_under base Docs) Docs a b c (once-at_ok Docs (names_under base Docs) a b one) (two.depot.only.other_starts Docs docs-not_freqs),
)

docs-still_once : (base : List ℕ) (a c d : DepotState) (r : Result (Unit {0}) CollError) → WasStarted base a c Docs → StartsFile Sizes (names_under base Sizes) c d r → WasStarted base a d Docs
docs-still_once base a c d r before three = (
  three.depot.only.stay_started Docs before.0,
  was-started-then (names_under base Docs) Docs a c d before.1 (three.depot.only.other_starts Docs docs-not_sizes),
)

freqs-only : (base : List ℕ) (a b c : DepotState) → StartsFile Docs (names_under base Docs) a b (Ok tt) → WasStartedAs (names_under base Freqs) Freqs b c → WasStartedAs (names_under base Freqs) Freqs a c
freqs-only base a b c one two = then-was-started (names_under base Freqs) Freqs a b c (one.depot.only.other_starts Freqs freqs-not_docs) two

freqs-once : (base : List ℕ) (a b c d : DepotState) (r : Result (Unit {0}) CollError) → StartsFile Docs (names_under base Docs) a b (Ok tt) → StartsFile Freqs (names_under base Freqs) b c (Ok tt) → StartsFile Sizes (names_under base Sizes) c d r
    → WasStarted base a d Freqs
freqs-once base a b c d r one two three = (
  three.depot.only.stay_started Freqs two.started,
  was-started-then (names_under base Freqs) Freqs a c d (freqs-only base a b c one (once-at_ok Freqs (names_under base Freqs) b c two)) (three.depot.only.other_starts Freqs freqs-not_sizes),
)

sizes-only : (base : List ℕ) (a b c d : DepotState) → StartsFile Docs (names_under base Docs) a b (Ok tt) → StartsFile Freqs (names_under base Freqs) b c (Ok tt) → WasStartedAs (names_under base Sizes) Sizes c d → WasStartedAs (names_under base Sizes) Sizes a d
sizes-only base a b c d one two three =
    then-was-started (names_under base Sizes) Sizes a c d (two.depot.only.other_starts Sizes sizes-not_freqs ∙ one.depot.only.other_starts Sizes sizes-not_docs) three

-- a refusal names its slot, which was started once
pub docs_refused : (base : List ℕ) (a b : DepotState) (e : CollError) → StartsFile Docs (names_under base Docs) a b (Err e) → StartsFiles base a b (Err e)
docs_refused base a b e one =
    start_refused base a b e one.no_fault (starts-wider docs-is one.depot)
    (stopped base a b Docs e one.no_fault (λ s h. (one.depot.read_only_where_it_rose s h).0)
    (stops-at base Docs (none-before (WasStarted base a b)) (OnlyReads-wider (in-turn Docs Docs (omega arith)) one.depot.only)) one.started_once)
    (docs-twice base a b (Err e) one)

pub freqs_refused : (base : List ℕ) (a b c : DepotState) (e : CollError) → StartsFile Docs (names_under base Docs) a b (Ok tt) → StartsFile Freqs (names_under base Freqs) b c (Err e) → StartsFiles base a c (Err e)
freqs_refused base a b c e one two =
    start_refused base a c e two.no_fault (starts-then (starts-wider docs-is one.depot) (starts-wider freqs-is two.depot))
    (stopped base a c Freqs e two.no_fault (λ s h. (two.depot.read_only_where_it_rose s h).0)
    (stops-at base Freqs (λ s. docs-before (WasStarted base a c) s (docs-once base a b c (Err e) one two))
    (OnlyReads-trans (OnlyReads-wider (in-turn Docs Freqs (omega arith)) one.depot.only) (OnlyReads-wider (in-turn Freqs Freqs (omega arith)) two.depot.only)))
    (elim two.started_once [ inl h ↦ inl h | inr o ↦ inr (freqs-only base a b c one o) ]))
    (freqs-twice base a b c (Err e) one two)

-- the last file is started behind the other two
pub all_started : (base : List ℕ) (a b c d : DepotState) (r : Result (Unit {0}) CollError) → StartsFile Docs (names_under base Docs) a b (Ok tt) → StartsFile Freqs (names_under base Freqs) b c (Ok tt)
    → StartsFile Sizes (names_under base Sizes) c d r → StartsFiles base a d r
all_started base a b c d (Err e) one two three =
    let p = one.depot.only in
    let q = two.depot.only in
    let s = three.depot.only in
    let docs = docs-still_once base a c d (Err e) (docs-once base a b c (Ok tt) one two) three in
    let freqs = freqs-once base a b c d (Err e) one two three in
    start_refused base a d e three.no_fault (starts-then (starts-then (starts-wider docs-is one.depot) (starts-wider freqs-is two.depot)) (starts-wider sizes-is three.depot))
    (stopped base a d Sizes e three.no_fault (λ s h. (three.depot.read_only_where_it_rose s h).0)
    (stops-at base Sizes (λ slot. two-before (WasStarted base a d) slot docs freqs)
    (OnlyReads-trans (OnlyReads-trans (OnlyReads-wider (in-turn Docs Sizes (omega arith)) p) (OnlyReads-wider (in-turn Freqs Sizes (omega arith)) q)) (OnlyReads-wider (in-turn Sizes Sizes (omega arith)) s)))
    (elim three.started_once [ inl h ↦ inl h | inr o ↦ inr (sizes-only base a b c d one two o) ]))
    (sizes-twice base a b c d (Err e) one two three)
all_started base a b c d (Ok x) one two three =
    let first : IsTrue a.tells → IsTrue b.tells = λ t. one.depot.only.tells ∙ t in
    let second : IsTrue a.tells → IsTrue c.tells = λ t. two.depot.only.tells ∙ first t in
    let docs_once = docs-still_once base a c d (Ok x) (docs-once base a b c (Ok tt) one two) three in
    let freqs_once = freqs-once base a b c d (Ok x) one two three in
    let sizes_once = sizes-only base a b c d one two (once-at_ok Sizes (names_under base Sizes) c d three) in
    record {
      started = record {
        docs = three.depot.only.stay_started Docs (two.depot.only.stay_started Docs one.started);
        freqs = three.depot.only.stay_started Freqs two.started;
        sizes = three.started;
      };
      docs = λ t. (three.depot.only.other_slots Docs docs-not_sizes).1 (second t) ∙ (two.depot.only.other_slots Docs docs-not_freqs).1 (first t) ∙ one.whole_file t;
      freqs = λ t. (three.depot.only.other_slots Freqs freqs-not_sizes).1 (second t) ∙ two.whole_file (first t) ∙ ap (λ f. unwrap_or f []) (one.depot.only.files t (base ++ codes ".freqs"));
      sizes = λ t. three.whole_file (second t) ∙ ap (λ f. unwrap_or f []) (two.depot.only.files (first t) (base ++ codes ".sizes") ∙ one.depot.only.files t (base ++ codes ".sizes"));
      no_fault = three.no_fault;
      depot = starts-then (starts-then (starts-wider docs-is one.depot) (starts-wider freqs-is two.depot)) (starts-wider sizes-is three.depot);
      in_order = tt;
      started_once = λ slot is. all-once slot docs_once.1 freqs_once.1 sizes_once is;
      none_twice = sizes-twice base a b c d (Ok x) one two three;
    }
  where
    all-once : (slot : Slot) → WasStartedAs (names_under base Docs) Docs a d → WasStartedAs (names_under base Freqs) Freqs a d → WasStartedAs (names_under base Sizes) Sizes a d → IsCollectionSlot slot → WasStartedAs (names_under base slot) slot a d
    all-once slot docs freqs sizes (inl is) = subst (λ s. WasStartedAs (names_under base s) s a d) (sym is) docs
    all-once slot docs freqs sizes (inr (inl is)) = subst (λ s. WasStartedAs (names_under base s) s a d) (sym is) freqs
    all-once slot docs freqs sizes (inr (inr is)) = subst (λ s. WasStartedAs (names_under base s) s a d) (sym is) sizes

-- a refusal before or in the head
pub reading_refused : (format : FormatNumbers) (base : List ℕ) (a b : DepotState) (e : CollError) → StartsFiles base a b (Err e) → StartsReading format a b base (Err e)
reading_refused format base a b e starts = record {
  started = tt;
  limits = tt;
  within = tt;
  no_list = tt;
  none_kept = tt;
  docs_rest = λ t. tt;
  freqs_rest = λ t. tt;
  sizes_rest = λ t. tt;
  first_fault = λ t fault h. absurd (starts.no_fault fault (same-fault {A = Reading} {B = Unit {0}} e fault h));
  read_only_where_it_rose = λ slot h. (starts-err {A = Unit {0}} {B = Reading} e starts.depot).read_only_where_it_rose slot h;
  depot = record { count_rises_only_there = (starts-err {A = Unit {0}} {B = Reading} e starts.depot).count_rises_only_there; reads = starts.depot.only; refusals_rise_only_there = (starts-err {A = Unit {0}} {B = Reading} e starts.depot).refusals_rise_only_there };
  in_order = starts.in_order;
  fault_term = λ fault h. absurd (starts.no_fault fault (same-fault {A = Reading} {B = Unit {0}} e fault h));
  started_once = tt;
  none_twice = starts.none_twice;
}

pub head_refused : (format : FormatNumbers) (base held : List ℕ) (a b c : DepotState) (e : CollError) → StartsFiles base a b (Ok tt) → ReadsHead format [] held b c (Err e) → StartsReading format a c base (Err e)
head_refused format base held a b c e starts head =
    let reads = starts-then starts.depot (starts-wider docs-is (starts-err {A = ℕ} {B = Reading} e (as-starts head.depot))) in
    record {
      started = tt;
      limits = tt;
      within = tt;
      no_list = tt;
      none_kept = tt;
      docs_rest = λ t. tt;
      freqs_rest = λ t. tt;
      sizes_rest = λ t. tt;
      first_fault = λ t fault h. ap (λ bytes. head_fault format bytes) (sym (starts.docs t)) ∙ head.first_fault (starts.depot.only.tells ∙ t) fault (same-fault {A = Reading} {B = ℕ} e fault h);
      read_only_where_it_rose = reads.read_only_where_it_rose;
      depot = record { count_rises_only_there = reads.count_rises_only_there; reads = reads.only; refusals_rise_only_there = reads.refusals_rise_only_there };
      in_order = all-started base a c e (record {
        started = record {
          docs = head.depot.only.stay_started Docs starts.started.docs;
          freqs = head.depot.only.stay_started Freqs starts.started.freqs;
          sizes = head.depot.only.stay_started Sizes starts.started.sizes;
        };
        once = StartedOnce-then (names_under base) IsCollectionSlot a b c starts.started_once head.depot.starts;
      });
      fault_term = λ fault h. head.fault_term fault (same-fault {A = Reading} {B = ℕ} e fault h);
      started_once = tt;
      none_twice = NoneStartedTwice-then (names_under base) a b c starts.none_twice head.depot.starts;
    }
