use Rattle.std.specs.Prelude.{◌≡◌, ◌⊎◌, ⊤, ℕ, zero, suc, ◌<◌, ◌≤◌, ◌++◌, IsTrue, List, length, take, Err}
use Rattle.io_traits.specs.declared.fail.Slot.{Slot}
use Rattle.io_traits.specs.declared.fail.Slot.TheVariants.{Index}
use Rattle.io_traits.specs.Calls.{one_more}
use Rattle.io_traits.specs.Starting.{Starting}
use Rattle.io_traits.specs.DepotState.{DepotState, bytes_under}
use Rattle.segments.specs.declared.pushed.Joining.{Joining}
use Rattle.segments.specs.declared.pushed.Joining.TheVariants.{Wide}
use Rattle.segments.specs.declared.pushed.SegRule.TheVariants.{G3}
use Rattle.command_model.specs.Found.{IsIndexSlot, most_bytes}
use Rattle.outcomes.specs.declared.stop.Stop.TheVariants.{BrokenSegment, UnfitSegment, FileFault, NoMemory, TooLarge}
use Rattle.outcomes.specs.Outcome.{Outcome}
use Rattle.command_ends.specs.FoundSegments.{OnSegment}

-- a count that was raised so often
abbrev pub raised : ℕ → ℕ → ℕ
raised zero n = n
raised (suc k) n = one_more (raised k n)

-- Starts were asked under these names, one behind the other.
-- What is told of names now was told before.
pub record StartedUnder (names : List (List ℕ)) (old new : Starting) : Type 0 where
  pub count : new.count ≡ raised (length names) old.count
  pub told : IsTrue new.told → IsTrue old.told
  pub named : IsTrue new.told → new.names ≡ old.names ++ names

-- The last of the first n segments has more bytes than the limit.
abbrev pub IsLongAt : Joining → List (List ℕ) → DepotState → ℕ → Type 0
IsLongAt joining names depot n =
    (s : ℕ) × (n ≡ suc s) × (s < length names)
    × (IsTrue depot.tells
    → OnSegment joining names depot s (λ cs name. most_bytes < length (bytes_under depot name)))

-- How often a run starts the slot of the index that reads the segments under these names and ends
-- so: once for each segment that it reads, which are all where a joined list is too frequent, or
-- the words that are made of them are too many.
abbrev pub IsSegmentCount : Joining → List (List ℕ) → DepotState → Outcome → ℕ → Type 0
IsSegmentCount joining names depot (Err (BrokenSegment fault s)) n = n ≡ suc s
IsSegmentCount joining names depot (Err (UnfitSegment G3 s)) n = n ≡ length names
IsSegmentCount joining names depot (Err (UnfitSegment rule s)) n = n ≡ suc s
IsSegmentCount joining names depot (Err (FileFault slot)) n = (1 ≤ n) × (n ≤ length names)
IsSegmentCount joining names depot (Err NoMemory) n = n ≤ length names
IsSegmentCount joining names depot (Err (TooLarge slot)) n =
    IsLongAt joining names depot n ⊎ ((joining ≡ Wide) × (n ≡ length names))
IsSegmentCount joining names depot outcome n = n ≡ length names

-- The segments before each of the first n are accepted.
abbrev pub ComesTo : Joining → List (List ℕ) → DepotState → ℕ → Type 0
ComesTo joining names depot n = (s : ℕ) → s < n → OnSegment joining names depot s (λ cs name. ⊤)

-- The slot of the index is started once for each segment that is read, under its name, and of each
-- only once those before it are accepted.
abbrev pub StartsInTurn : Joining → List (List ℕ) → Outcome → DepotState → DepotState → Type 0
StartsInTurn joining names outcome old new =
    (n : ℕ) × IsSegmentCount joining names old outcome n × ComesTo joining names old n
    × StartedUnder (take n names) (old.starts Index) (new.starts Index)

-- What a run that reads the segments under these names starts,
-- and what memory its depot is refused.
pub record StartsEach (joining : Joining) (names : List (List ℕ)) (outcome : Outcome)
    (old new : DepotState) : Type 0 where
  -- The slot of the index is started for each segment in turn, and no other is started.
  pub in_turn : StartsInTurn joining names outcome old new
  pub no_others : (slot : Slot) → ¬ IsIndexSlot slot → new.starts slot ≡ old.starts slot
  -- The first memory that the depot is refused ends the run.
  pub refusals : (outcome ≡ Err NoMemory) ⊎ (new.refusals ≡ old.refusals)
