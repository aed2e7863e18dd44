-- What a run leaves that made something behind a source that was read, whatever it made.
use Rattle.std.proofs.Common.{◌≡◌, ◌∙◌, ap, inr, arith}
use Rattle.std.specs.Prelude.{◌⊎◌, not, false, Err}
use Rattle.io_traits.specs.declared.fail.Slot.{Slot}
use Rattle.io_traits.specs.DepotState.{DepotState, SameSlots, SameStarts}
use Rattle.outcomes.specs.declared.stop.Stop.TheVariants.{NoMemory}
use Rattle.outcomes.specs.Outside.{Outside, OfWriting, OfInput, OfOut}
use Rattle.outcomes.specs.Outcome.{Outcome, is_refusal}
use Rattle.outcomes.specs.Ends.{EndsByFault}
use Rattle.outcomes.proofs.Counted.{stays, all_end}
use Rattle.command_ends.specs.WrittenFile.{EndsByWriting, WritesOnlyAccepted}
use Rattle.command_ends.specs.Sources.{Source, Accepts, ReadsFrom, Starts}
use Rattle.command_ends.specs.Products.{Product, Completes, Does, Touches}
use Rattle.command_ends.specs.Steps.AtSource.{IsRead}
use Rattle.command_ends.specs.Steps.Leaves.{Leaves}
use Rattle.command_ends.proofs.Started.{then_written}

module _ (source : Source) (old new : Outside) (d : DepotState) (read : IsRead source old.depot d) where
  -- What is known of the making of a product of it, by its outcome.
  pub record IsMade (product : Product) (outcome : Outcome) : Type 0 where
    pub unrefused : is_refusal outcome ≡ false
    pub complete : Completes source product old new outcome
    pub touches : Touches source product old new outcome
    pub starts : SameStarts d new.depot
    pub refusals : (outcome ≡ Err NoMemory) ⊎ (new.depot.refusals ≡ d.refusals)
    pub slots : (slot : Slot) → new.depot.faults slot ≡ d.faults slot
    pub writing : EndsByFault OfWriting outcome old.depot.writing_faults new.depot.writing_faults
    pub input : EndsByFault OfInput outcome old.input.faults new.input.faults
    pub out : EndsByFault OfOut outcome old.out.faults new.out.faults
    pub depot_tells : new.depot.tells ≡ d.tells
    pub input_tells : new.input.tells ≡ old.input.tells
    pub out_tells : new.out.tells ≡ old.out.tells

  pub made : (product : Product) (Makes : Outside → Outside → Outcome → Type 0) (outcome : Outcome) → IsMade product outcome → Makes old new outcome
      → Leaves (Does source product Makes) (Starts source) old new outcome
  made product Makes outcome m makes = record {
    performs = record { ends = inr makes; refuses = read.refuses outcome; complete = m.complete; depot = m.touches };
    faults = all_end old new outcome (grind (arith, stays, read.counts));
    starts = then_written source old.depot d new.depot outcome (read.starts outcome (ap not m.unrefused)) m.starts m.refusals;
    depot_tells = m.depot_tells ∙ read.reads.tells;
    input_tells = m.input_tells;
    out_tells = m.out_tells;
  }

  -- files were written
  pub only_accepted : (written : Slot → Type 0) (outcome : Outcome) → is_refusal outcome ≡ false → SameSlots d new.depot
      → EndsByWriting written outcome ⊎ (new.depot.create_faults ≡ d.create_faults) → EndsByWriting written outcome ⊎ (new.depot.finish_faults ≡ d.finish_faults)
      → WritesOnlyAccepted (ReadsFrom source) written (Accepts source old.depot) old new outcome
  only_accepted written outcome unrefused slots creates finishes = grind arith
