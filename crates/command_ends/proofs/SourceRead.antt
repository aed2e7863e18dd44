-- What a run leaves at its source: it is refused, or a call on one of its files failed, or it was read.
use Rattle.std.proofs.Common.{◌≡◌, ℕ, arith, refl, sym, ap, subst, inl, inr}
use Rattle.std.specs.Prelude.{◌≢◌, ◌⊎◌, true, IsTrue, None, Result, Err}
use Rattle.std.proofs.lemmas.List.{append-nil}
use Rattle.collection_model.specs.Collection.{Collection}
use Rattle.io_traits.specs.declared.fail.Slot.{Slot}
use Rattle.io_traits.specs.declared.fail.Slot.TheVariants.{Index}
use Rattle.io_traits.specs.DepotState.{DepotState, OnlyReads}
use Rattle.io_traits.specs.SourceState.{SourceState}
use Rattle.io_traits.specs.SinkState.{SinkState}
use Rattle.io_traits.proofs.OnlyReads.{OnlyReads-same}
use Rattle.outcomes.specs.Outside.{Outside, outside, NoCallFailed, OfFile}
use Rattle.outcomes.specs.declared.stop.Stop.TheVariants.{NoMemory, TooLarge}
use Rattle.outcomes.specs.Outcome.{Outcome, done, fault_of, is_refusal}
use Rattle.command_ends.specs.Sources.{Source, Nothing, Accepts, ComesTo, EndsAt, Finds, IsRefusedAs, ReadsFrom, Refuses, Stands, Starts, StopsAt}
use Rattle.command_ends.specs.Products.{Product, Completes, Does, Touches, builds_words}
use Rattle.outcomes.specs.declared.stop.Stop.{Stop}
use Rattle.command_ends.specs.Steps.AtSource.{IsRead, IsStill, IsUnread}
use Rattle.command_ends.specs.Steps.Leaves.{Leaves}
use Rattle.outcomes.proofs.Counted.{stays, all_end, Of}

-- A source is refused in one way only, and in none where it stands there.
pub record Laws (source : Source) : Type 0 where
  pub one : (d : DepotState) → IsTrue d.tells → (a b : Outcome) → IsRefusedAs source d a → IsRefusedAs source d b → a ≡ b
  pub none : (d : DepotState) → Stands source d → (a : Outcome) → ¬ IsRefusedAs source d a

-- ---- a refusal is no failed call

-- An end at the source is a refusal.
ends_refused : (source : Source) (d : DepotState) (outcome : Outcome) → EndsAt source d outcome → is_refusal outcome ≡ true
ends_refused source d outcome h = grind arith

-- A run that ends there, or without memory, stopped at it, or the source is refused so.
stops_at : (source : Source) (d : DepotState) (outcome : Outcome) → EndsAt source d outcome ⊎ (outcome ≡ Err NoMemory) → StopsAt source d outcome ⊎ IsRefusedAs source d outcome
stops_at source d outcome ends = grind arith

-- a run that ends by the fault of a file came to it
pub comes_to : (source : Source) (d : DepotState) (outcome : Outcome) → EndsAt source d outcome ⊎ (outcome ≡ Err NoMemory) → (slot : Slot)
    → Of (fault_of outcome) (OfFile slot) → ComesTo source d slot
comes_to source d outcome ends slot h = grind arith

-- ---- what stands there

stands_there : (source : Source) (d : DepotState) → IsTrue d.tells → Accepts source d → Stands source d
stands_there source d t is = grind arith

found_there : (source : Source) (d : DepotState) → IsTrue d.tells → (c : Collection) → Finds source d c → Stands source d
found_there Nothing d t c is = tt
found_there source d t c is = (t, (c, is))

pub refused_there : (source : Source) (laws : Laws source) (d : DepotState) → IsTrue d.tells → Accepts source d → (a : Outcome) → ¬ IsRefusedAs source d a
refused_there source laws d t is = laws.none d (stands_there source d t is)

-- where it is accepted, nothing is refused
pub refuses_none : (source : Source) (laws : Laws source) (d : DepotState) → Accepts source d → (outcome : Outcome) → Refuses source d outcome
refuses_none source laws d is outcome = grind (arith, stands_there, laws.none)

-- and where a run ended there, it is refused in this way only
pub ended_there : (source : Source) (laws : Laws source) (old new : DepotState) (outcome : Outcome) → EndsAt source old outcome ⊎ (outcome ≡ Err NoMemory)
    → IsStill source old new outcome → IsUnread source old new outcome
ended_there source laws old new outcome ends w = record {
  ends = ends;
  refuses = record {
    refused = λ t this h. elim (stops_at source old outcome ends) [ inl stops ↦ inr stops | inr refused ↦ inl (laws.one old t outcome this refused h) ];
    sound = λ stands. laws.none old stands outcome;
  };
  still = w;
}

-- What is promised of a run is more than what it leaves.
pub promised : {P Q : Outside → Outside → Outcome → Type 0} {S : Outcome → DepotState → DepotState → Type 0} (old new : Outside) (outcome so : Outcome) → so ≡ outcome
    → (P old new outcome → Q old new outcome) → Leaves P S old new outcome → Leaves Q S old new so
promised old new outcome so is more w = grind (arith, more w.performs)

-- One run, which left the input and out as they were.
module _ (source : Source) (product : Product) (Makes : Outside → Outside → Outcome → Type 0) (old new : Outside) (input : new.input ≡ old.input) (out : new.out ≡ old.out) where
  abbrev Left : Outcome → Type 0
  Left outcome = Leaves (Does source product Makes) (Starts source) old new outcome

  untouched : (product : Product) (outcome : Outcome) → OnlyReads (ReadsFrom source) old.depot new.depot → Touches source product old new outcome
  untouched product outcome reads = grind arith

  -- what stands there and had no failed call is complete, but for want of memory or of room
  completes : (product : Product) (outcome : Outcome)
      → (Stands source old.depot → NoCallFailed old new → ((builds_words source product ≡ true) × (outcome ≡ Err (TooLarge Index))) ⊎ (outcome ≡ Err NoMemory))
      → Completes source product old new outcome
  completes product outcome but = grind (arith, found_there)

  left : (outcome : Outcome) → IsStill source old.depot new.depot outcome → (is_refusal outcome ≡ true) ⊎ (fault_of outcome ≡ None) → EndsAt source old.depot outcome ⊎ Makes old new outcome
      → Refuses source old.depot outcome → Completes source product old new outcome → Left outcome
  left outcome w unlike ends refuses complete = grind (arith, untouched product outcome w.reads, all_end)

  -- it ended at the reading
  stopped : (outcome : Outcome) → IsUnread source old.depot new.depot outcome → EndsAt source old.depot outcome → Left outcome
  stopped outcome w at =
      left outcome w.still (inl (ends_refused source old.depot outcome at)) (inl at) w.refuses
      (completes product outcome (λ stands none. elim (stops_at source old.depot outcome (inl at)) [
        | inl stop ↦ elim stop [ inl file ↦ absurd (none (OfFile file.0) ((w.still.files file.0).only_where_it_rose (ap fault_of file.2))) | inr memory ↦ inr memory ]
        | inr refused ↦ absurd (w.refuses.sound stands refused)
      ]))

  -- memory was refused
  pub no_memory : IsStill source old.depot new.depot (Err NoMemory) → Makes old new (Err NoMemory) → Left (Err NoMemory)
  no_memory w makes =
      left (Err NoMemory) w (inr refl) (inr makes)
      (record { refused = λ t this h. inr (inr refl); sound = λ stands h. grind (arith, ends_refused source old.depot (Err NoMemory) h) })
      (completes product (Err NoMemory) (λ stands none. inr refl))

  -- it ended so, or memory was refused before anything was made
  pub unread : (outcome : Outcome) → Makes old new (Err NoMemory) → IsUnread source old.depot new.depot outcome → Left outcome
  unread outcome makes w = elim w.ends [
    | inl at ↦ stopped outcome w at
    | inr memory ↦ subst Left (sym memory) (no_memory (subst (IsStill source old.depot new.depot) memory w.still) makes)
  ]

  -- of what a command gives that promises more
  pub stops : {Promises : Outside → Outside → Outcome → Type 0} (it : Stop) (r : Result (Unit {0}) Stop) → r ≡ Err it → IsUnread source old.depot new.depot (Err it) → Makes old new (Err NoMemory)
      → (Err it ≢ done → Does source product Makes old new (Err it) → Promises old new (Err it))
      → Leaves Promises (Starts source) old new r
  stops it r is w makes more = promised old new (Err it) r is (more (λ h. cc)) (unread (Err it) makes w)

  -- the words that were to be built are too many
  pub too_many : Refuses source old.depot (Err (TooLarge Index)) → builds_words source product ≡ true → IsStill source old.depot new.depot (Err (TooLarge Index)) → Makes old new (Err (TooLarge Index)) → Left (Err (TooLarge Index))
  too_many refuses builds w makes =
      left (Err (TooLarge Index)) w (inr refl) (inr makes) refuses (completes product (Err (TooLarge Index)) (λ stands none. inl (builds, refl)))

-- ---- nothing is read

pub nothing_starts : (outcome : Outcome) (d : DepotState) → Starts Nothing outcome d d
nothing_starts outcome d = grind arith

pub nothing_read : (d : DepotState) → IsRead Nothing d d
nothing_read d = grind (arith, OnlyReads-same)

-- ---- a source was read, and the run ends by no failed call

pub still_read : (source : Source) (d d' : DepotState) → IsRead source d d' → (outcome : Outcome) → fault_of outcome ≡ None → Starts source outcome d d' → IsStill source d d' outcome
still_read source d d' read outcome none starts = grind (arith, stays)

-- and then memory was refused before anything was made
pub read_no_memory : {Promises : Outside → Outside → Outcome → Type 0} (source : Source) (product : Product) (Makes : Outside → Outside → Outcome → Type 0) (d d' : DepotState) → IsRead source d d'
    → (i : SourceState) (o e e' : SinkState) (s s' : ℕ) (so : Outcome) → so ≡ Err NoMemory → Makes (outside d i o e s) (outside d' i o e' s') (Err NoMemory)
    → (Does source product Makes (outside d i o e s) (outside d' i o e' s') (Err NoMemory) → Promises (outside d i o e s) (outside d' i o e' s') (Err NoMemory))
    → Leaves Promises (Starts source) (outside d i o e s) (outside d' i o e' s') so
read_no_memory source product Makes d d' read i o e e' s s' so is makes more =
    promised (outside d i o e s) (outside d' i o e' s') (Err NoMemory) so is more
    (no_memory source product Makes (outside d i o e s) (outside d' i o e' s') refl refl (still_read source d d' read (Err NoMemory) refl (read.starts (Err NoMemory) refl)) makes)

-- ---- nothing is called

pub none_started : (source : Source) (d : DepotState) → Starts source (Err NoMemory) d d
none_started source d = grind (arith, append-nil)

pub uncalled : (source : Source) (product : Product) (Makes : Outside → Outside → Outcome → Type 0) (d : DepotState) (i : SourceState) (o e e' : SinkState) (s : ℕ)
    → Makes (outside d i o e s) (outside d i o e' s) (Err NoMemory)
    → Leaves (Does source product Makes) (Starts source) (outside d i o e s) (outside d i o e' s) (Err NoMemory)
uncalled source product Makes d i o e e' s makes =
    no_memory source product Makes (outside d i o e s) (outside d i o e' s) refl refl
    (grind (arith, OnlyReads-same, none_started source d)) makes
