-- How a run ends by a fault, and by none.
use Rattle.std.proofs.Common.{◌≡◌, ℕ, ◌≤◌, ◌<◌, arith, ap, List, ◌++◌, length}
use Rattle.std.specs.Prelude.{◌≢◌, ◌⊎◌, Option, Some, Result}
use Rattle.std.proofs.lemmas.List.{length-append}
use Rattle.io_traits.specs.declared.fail.IoFail.{IoFail}
use Rattle.io_traits.specs.declared.fail.Slot.{Slot}
use Rattle.io_traits.specs.Calls.{Rose}
use Rattle.outcomes.specs.Outside.{Outside, Count, OfFile, OfWriting, OfInput, OfOut}
use Rattle.outcomes.specs.Outcome.{Outcome, fault_of}
use Rattle.outcomes.specs.Ends.{EndsByFault, FirstFaultEnds}

-- of which count a fault is, where that is known
abbrev pub Of : Option Count → Count → Type 0
Of fault count = fault ≡ Some count

-- a count that stays, where the run does not end by its fault
pub stays : (count : Count) (outcome : Outcome) (before now : ℕ) → ¬ Of (fault_of outcome) count → now ≡ before → EndsByFault count outcome before now
stays count outcome before now other same = grind arith

-- a count that rose, where the run ends by its fault
pub rises : (count : Count) (outcome : Outcome) (before now : ℕ) → Of (fault_of outcome) count → Rose before now → before ≤ now → EndsByFault count outcome before now
rises count outcome before now is rose le = grind arith

-- the counts one by one
pub record EachEnds (old new : Outside) (outcome : Outcome) : Type 0 where
  pub slots : (slot : Slot) → EndsByFault (OfFile slot) outcome (old.depot.faults slot) (new.depot.faults slot)
  pub writing : EndsByFault OfWriting outcome old.depot.writing_faults new.depot.writing_faults
  pub input : EndsByFault OfInput outcome old.input.faults new.input.faults
  pub out : EndsByFault OfOut outcome old.out.faults new.out.faults

-- are all counts
pub all_end : (old new : Outside) (outcome : Outcome) → EachEnds old new outcome → FirstFaultEnds old new outcome
all_end old new outcome each = record { counts = λ count. grind arith }

-- one of two, where it is not the first
pub second : {A B : Type 0} → (A ⊎ B) → ¬ A → B
second either not_first = grind arith

-- a slot is another one or not
pub slot_is : (a b : Slot) → (a ≡ b) ⊎ (a ≢ b)
slot_is a b = grind arith

-- what holds of a slot and of each other slot
pub by_slot : (it : Slot) (P : Slot → Type 0) → P it → ((slot : Slot) → slot ≢ it → P slot) → (slot : Slot) → P slot
by_slot it P this others slot = grind arith

pub not_both_lengths : (a b : ℕ) → a ≤ b → b < a → ⊥
not_both_lengths a b le lt = omega arith

-- a text of which more than the limit was read is longer
pub longer_than : (left rest : List ℕ) (limit : ℕ) → (bytes : List ℕ) × (left ≡ bytes ++ rest) × (limit < length bytes) → limit < length left
longer_than left rest limit read = omega (arith, ap length read.1, length-append read.0 rest, read.2)

-- what calls gave
abbrev pub Called : Type 0
Called = Result (Unit {0}) IoFail
