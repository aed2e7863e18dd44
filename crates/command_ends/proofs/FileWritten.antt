-- What a run leaves that wrote bytes as the file of a slot behind a source that was read, or stopped at that.
use Rattle.std.proofs.Common.{refl, ◌≡◌, ℕ, arith, List, ◌⊎◌}
use Rattle.std.specs.Prelude.{Some, IsTrue}
use Rattle.io_traits.specs.declared.fail.Slot.{Slot}
use Rattle.io_traits.specs.Calls.{Rose}
use Rattle.io_traits.specs.SourceState.{SourceState}
use Rattle.io_traits.specs.SinkState.{SinkState}
use Rattle.io_traits.specs.DepotState.{DepotState, OnlyReads}
use Rattle.command_model.specs.Written.{IsWritten, IsUnwritten, IsWrittenInPart, IsBeingWritten, IsLeftByFault}
use Rattle.word_files.specs.WriteFile.{WritesBytes}
use Rattle.outcomes.specs.Outside.{Outside, outside, OfWriting}
use Rattle.outcomes.specs.Outcome.{Outcome, done, is_refusal}
use Rattle.outcomes.specs.Stops.{outcome_by, stop_of_writing}
use Rattle.outcomes.proofs.Counted.{Called}
use Rattle.command_ends.specs.WrittenFile.{IsLeftInPart, WritesFile}
use Rattle.command_ends.specs.Sources.{Source, ReadsFrom, Starts}
use Rattle.command_ends.specs.Products.{Does, File, WritesTo}
use Rattle.command_ends.specs.Steps.AtSource.{IsRead}
use Rattle.command_ends.specs.Steps.Leaves.{Leaves}
use Rattle.command_ends.proofs.Made.{made, only_accepted}

abbrev pub Written : Type 0
Written = Called

pub not_refusal : (slot : Slot) (r : Called) → IsTrue (is_refusal (outcome_by (stop_of_writing slot) r)) → ⊥
not_refusal slot r h = grind arith

-- where all is done, the bytes stand under the name
pub stands_written : (slot : Slot) (bytes name : List ℕ) (d1 d2 : DepotState) (r : Called) → WritesBytes bytes name d1 d2 r → outcome_by (stop_of_writing slot) r ≡ done
    → IsTrue d2.tells → d2.file name ≡ Some bytes
stands_written slot bytes name d1 d2 r v is t = grind arith

-- a run that only read wrote nothing
pub only_read : {slots : Slot → Type 0} (d d' : DepotState) → OnlyReads slots d d' → IsUnwritten d d'
only_read d d' reads = grind arith

-- Bytes of which OnBytes tells were made of a source over depot `d`, which is `d1` then, and written as the file of a slot or not, which leaves `d2`.
module _ (source : Source) (Makes : Outside → Outside → Outcome → Type 0) (slot : Slot) (d d1 d2 : DepotState) (read : IsRead source d d1)
    (i : SourceState) (o e e' : SinkState) (s s' : ℕ) (name bytes : List ℕ) (OnBytes : (List ℕ → Type 0) → Type 0) (on : (P : List ℕ → Type 0) → P bytes → OnBytes P) where
  abbrev old : Outside
  old = outside d i o e s

  abbrev new : Outside
  new = outside d2 i o e' s'

  reads : OnlyReads (ReadsFrom source) d d1
  reads = read.reads

  -- what is left under the name, from the reading on
  written_from : IsWritten name d1 d2 bytes → IsWritten name d d2 bytes
  written_from h = grind arith

  unwritten_from : IsUnwritten d1 d2 → IsUnwritten d d2
  unwritten_from h = grind arith

  part_from : IsWrittenInPart name d1 d2 bytes → IsWrittenInPart name d d2 bytes
  part_from h = grind (arith, unwritten_from)

  left_from : IsWrittenInPart name d1 d2 bytes → (IsUnwritten d1 d2 ⊎ IsBeingWritten name d1 d2) → IsLeftInPart name d d2 bytes
  left_from part begun = grind (arith, part_from part, unwritten_from)

  fault_from : IsLeftByFault name d1 d2 bytes → IsLeftByFault name d d2 bytes
  fault_from h = grind (arith, unwritten_from)

  rose_from : Rose d1.refusals d2.refusals → Rose d.refusals d2.refusals
  rose_from rose = grind arith

  writes : (r : Called) → WritesBytes bytes name d1 d2 r → WritesFile slot name OnBytes old new (outcome_by (stop_of_writing slot) r)
  writes r v =
      grind (arith, on (IsWritten name d d2), on (λ bytes. IsLeftInPart name d d2 bytes × IsLeftByFault name d d2 bytes), on (IsLeftInPart name d d2), written_from, left_from, fault_from, unwritten_from, rose_from)

  -- all that is left
  pub file_written : (r : Called) → WritesBytes bytes name d1 d2 r → (WritesFile slot name OnBytes old new (outcome_by (stop_of_writing slot) r) → Makes old new (outcome_by (stop_of_writing slot) r))
      → Leaves (Does source (File slot) Makes) (Starts source) old new (outcome_by (stop_of_writing slot) r)
  file_written r v makes =
      let outcome : Outcome = outcome_by (stop_of_writing slot) r in
      made source old new d1 read (File slot) Makes outcome (record {
        unrefused = grind arith;
        complete = λ stands none. grind (arith, none OfWriting);
        touches = only_accepted source old new d1 read (WritesTo (File slot)) outcome (grind arith) v.writes.slots (grind arith) (grind arith);
        starts = v.writes.starts;
        refusals = grind arith;
        slots = v.writes.slot_counts;
        writing = grind arith;
        input = grind arith;
        out = grind arith;
        depot_tells = v.writes.tells;
        input_tells = refl;
        out_tells = refl;
      }) (makes (writes r v))
