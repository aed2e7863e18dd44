use Rattle.std.specs.Prelude.{◌≡◌, ℕ, ◌^◌, ◌<◌, true, false, IsTrue, List, [], ◌∷◌, ◌++◌, Ok, Err}
use Rattle.std.specs.List.{All}
use Rattle.collection_model.specs.FormatNumbers.{FormatNumbers}
use Rattle.collection_model.specs.Collection.{Posting, postings_of}
use Rattle.io_traits.specs.DepotState.{DepotState}
use Rattle.collection_reader.specs.declared.fault.CollError.{CollError}
use Rattle.collection_reader.specs.declared.fault.CollError.TheVariants.{NoMemory}
use Rattle.collection_reader.specs.declared.phase.Phase.{Phase}
use Rattle.collection_reader.specs.declared.phase.Phase.TheVariants.{Lists, Ended}
use Rattle.collection_reader.specs.Starting.{AreStarted}
use Rattle.collection_reader.specs.ReadCollection.{ReadsCollection}
use Rattle.collection_reader.specs.Reading.{Reading, rests, StartsReading, ReadsList, ReadsSizes}
use Rattle.collection_reader.specs.ReadLists.{HaveBeenRead}

-- A reader was started under the base, and has read these lists since; it is in this phase.
pub record HasRead (format : FormatNumbers) (base : List ℕ) (old after : DepotState) (now : Reading)
    (lists : List (List Posting)) (phase : Phase) : Type 0 where
  pub start : DepotState
  pub first : Reading
  pub starts : StartsReading format old start base (Ok first)
  pub read : HaveBeenRead first now start after lists
  pub format_is : now.format ≡ format
  pub started : AreStarted after
  pub phase_is : now.phase ≡ phase

-- These were all lists that there are.
pub record HasReadAll (format : FormatNumbers) (base : List ℕ) (old after : DepotState)
    (now : Reading) (lists : List (List Posting)) : Type 0 where
  pub read : HasRead format base old after now lists Ended
  pub ended : IsTrue old.tells → (rests now after).docs ≡ []

-- Reading list by list gives what reading at once gives: the collection, or where a step is refused
-- the same refusal, also where memory is refused between two steps.
pub record ReadsInTurn (format : FormatNumbers) : Type 0 where
  pub start : (base : List ℕ) (old new : DepotState) (r : Reading)
      → StartsReading format old new base (Ok r) → HasRead format base old new r [] Lists
  pub start_refused : (base : List ℕ) (old new : DepotState) (e : CollError)
      → StartsReading format old new base (Err e) → ReadsCollection format old new base (Err e)
  pub list : (base : List ℕ) (old between new : DepotState) (now next : Reading)
      (lists : List (List Posting)) (docs freqs : List ℕ) →
      HasRead format base old between now lists Lists
      → ReadsList now next between new docs freqs (Ok true) →
      HasRead format base old new next (lists ++ postings_of docs freqs ∷ []) Lists
  pub last : (base : List ℕ) (old between new : DepotState) (now next : Reading)
      (lists : List (List Posting)) (docs freqs : List ℕ) →
      HasRead format base old between now lists Lists
      → ReadsList now next between new docs freqs (Ok false)
      → HasReadAll format base old new next lists
  pub list_refused : (base : List ℕ) (old between new : DepotState) (now next : Reading)
      (lists : List (List Posting)) (docs freqs : List ℕ) (e : CollError) →
      HasRead format base old between now lists Lists
      → ReadsList now next between new docs freqs (Err e)
      → ReadsCollection format old new base (Err e)
  pub sizes : (base : List ℕ) (old between new : DepotState) (now next : Reading)
      (lists : List (List Posting)) (sizes : List ℕ) →
      HasReadAll format base old between now lists → ReadsSizes now next between new sizes (Ok tt)
      → All (λ s. s < 2 ^ 32) sizes →
      ReadsCollection format old new base (Ok (record {
        documents = next.documents;
        lists = lists;
        sizes = sizes;
      }))
  pub sizes_refused : (base : List ℕ) (old between new : DepotState) (now next : Reading)
      (lists : List (List Posting)) (sizes : List ℕ) (e : CollError) →
      HasReadAll format base old between now lists → ReadsSizes now next between new sizes (Err e)
      → ReadsCollection format old new base (Err e)
  pub stopped : (base : List ℕ) (old between : DepotState) (now : Reading)
      (lists : List (List Posting)) (phase : Phase) →
      HasRead format base old between now lists phase
      → ReadsCollection format old between base (Err NoMemory)
