-- What a run starts, and what memory its depot is refused.
use Rattle.std.proofs.Common.{◌≡◌, ℕ, List, arith}
use Rattle.std.specs.Prelude.{◌⊎◌, Result, Err}
use Rattle.io_traits.specs.declared.fail.Slot.{Slot}
use Rattle.io_traits.specs.DepotState.{DepotState, SameStarts}
use Rattle.io_traits.proofs.OnlyReads.{NoneStartedTwice-then, StartedOnce-then}
use Rattle.collection_reader.specs.Starting.{StartedInTurn}
use Rattle.word_files.specs.declared.loading.LoadWordsError.{LoadWordsError}
use Rattle.word_files.specs.declared.loading.LoadWordsError.TheVariants as loading
use Rattle.word_files.specs.LoadWords.{LoadsWords}
use Rattle.outcomes.specs.declared.stop.Stop.TheVariants.{NoMemory}
use Rattle.outcomes.specs.Outcome.{Outcome}
use Rattle.command_ends.specs.Starts.{StartsOnly}
use Rattle.command_ends.specs.Sources.{Source, IndexesAt, StartedIn, Starts, names_of}
use Rattle.outcomes.proofs.Counted.{by_slot}

-- slots that were started in turn, and then not again
pub in_turn-then : (names : Slot → List ℕ) (slots : Slot → Type 0) (a b c : DepotState) → StartedInTurn names slots a b → SameStarts b c → StartedInTurn names slots a c
in_turn-then names slots a b c p same earlier later is lt = grind (arith, p earlier later is lt, same earlier, same later)

-- words that are loaded, or not, where the outcome is the same want of memory
pub loaded_starts : (it : Slot) (name : List ℕ) (d d' : DepotState) (r : Result (List ℕ) LoadWordsError) (outcome : Outcome) → LoadsWords it name d d' r
    → (r ≡ Err loading.NoMemory → outcome ≡ Err NoMemory) → StartsOnly (λ slot. name) (λ slot. slot ≡ it) outcome d d'
loaded_starts it name d d' r outcome w refused = grind (arith, by_slot)

-- what then starts nothing, and is refused memory only where that is the outcome
pub written_starts : (names : Slot → List ℕ) (slots : Slot → Type 0) (d d1 d2 : DepotState) (outcome : Outcome) → StartsOnly names slots outcome d d1 → SameStarts d1 d2
    → (outcome ≡ Err NoMemory) ⊎ (d2.refusals ≡ d1.refusals) → StartsOnly names slots outcome d d2
written_starts names slots d d1 d2 outcome read same wanted = grind (arith, NoneStartedTwice-then names d d1 d2, StartedOnce-then names slots d d1 d2, in_turn-then names slots d d1 d2 read.in_turn same)

-- the same of a source
pub then_written : (source : Source) (d d1 d2 : DepotState) (outcome : Outcome) → Starts source outcome d d1 → SameStarts d1 d2
    → (outcome ≡ Err NoMemory) ⊎ (d2.refusals ≡ d1.refusals) → Starts source outcome d d2
then_written (IndexesAt joining names) d d1 d2 outcome s same wanted = grind arith
then_written source d d1 d2 outcome s same wanted = written_starts (names_of source) (StartedIn source outcome) d d1 d2 outcome s same wanted
