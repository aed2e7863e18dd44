-- What a run leaves that wrote the three files of a collection behind a source that was read, or stopped at one.
use Rattle.std.proofs.Common.{◌≡◌, ℕ, refl, List, [], inr, arith}
use Rattle.std.specs.Prelude.{IsTrue, Some, Result, Ok, Err}
use Rattle.std.specs.List.{All}
use Rattle.std.proofs.lemmas.List.Elements.{All-get_or}
use Rattle.collection_model.specs.Spelling.{Files}
use Rattle.io_traits.specs.declared.fail.IoFail.{IoFail}
use Rattle.io_traits.specs.declared.fail.IoFail.TheVariants as call
use Rattle.io_traits.specs.declared.fail.Slot.{Slot}
use Rattle.io_traits.specs.Calls.{Rose}
use Rattle.io_traits.specs.SourceState.{SourceState}
use Rattle.io_traits.specs.SinkState.{SinkState}
use Rattle.io_traits.specs.DepotState.{DepotState, OnlyReads}
use Rattle.collection_reader.specs.ReadCollection.{IsCollectionSlot, files_at}
use Rattle.collection_reader.specs.Starting.{turn}
use Rattle.command_model.specs.FilesWritten.{NamedFile, AreWritten, IsNotBegun, StopsAtFile, FileLeftByFault}
use Rattle.command_model.specs.FoundMap.{files_under}
use Rattle.remapped_files.specs.declared.writing.FileFail.{FileFail}
use Rattle.remapped_files.specs.WriteImage as one
use Rattle.remapped_files.specs.WriteImage.{file_fail}
use Rattle.outcomes.specs.Outside.{Outside, outside, OfWriting}
use Rattle.outcomes.specs.Outcome.{Outcome, done}
use Rattle.outcomes.specs.Stops.{outcome_by, stop_of_file, stop_of_writing}
use Rattle.command_ends.specs.WrittenFiles.{WritesFiles}
use Rattle.command_ends.specs.Sources.{Source, ReadsFrom, Starts}
use Rattle.command_ends.specs.Products as product
use Rattle.command_ends.specs.Products.{Does}
use Rattle.command_ends.specs.Steps.AtSource.{IsRead}
use Rattle.command_ends.specs.Steps.Leaves.{Leaves}
use Rattle.command_ends.proofs.Made.{made, only_accepted}

abbrev pub Written : Type 0
Written = Result (Unit {0}) FileFail

-- where all is written, the files stand under the base
pub stand_under : (base : List ℕ) (files : Files) (d d2 : DepotState) → AreWritten (files_under base files) d d2 → IsTrue d.tells → files_at d2 base ≡ files
stand_under base files d d2 h t =
    let Stands : NamedFile → Type 0 = λ f. d2.file f.name ≡ Some f.bytes in
    let nothing : NamedFile = record { name = []; bytes = [] } in
    let each : All Stands (files_under base files) = h.each t in
    grind (
      arith,
      All-get_or Stands (files_under base files) 0 nothing (omega arith) each,
      All-get_or Stands (files_under base files) 1 nothing (omega arith) each,
      All-get_or Stands (files_under base files) 2 nothing (omega arith) each,
    )

-- where all is done, all is written
pub all_there : (files : List NamedFile) (d1 d2 : DepotState) (r : Written) → one.WritesFiles files d1 d2 r → outcome_by stop_of_file r ≡ done → AreWritten files d1 d2
all_there files d1 d2 r v is = grind arith

-- Files of which OnFiles tells are those of a source over depot `d`, which is `d1` then, and were written or not, which leaves `d2`.
module _ (source : Source) (Makes : Outside → Outside → Outcome → Type 0) (d d1 d2 : DepotState) (read : IsRead source d d1)
    (i : SourceState) (o e e' : SinkState) (s s' : ℕ) (files : List NamedFile) (OnFiles : (List NamedFile → Type 0) → Type 0) (on : (P : List NamedFile → Type 0) → P files → OnFiles P) where
  abbrev old : Outside
  old = outside d i o e s

  abbrev new : Outside
  new = outside d2 i o e' s'

  reads : OnlyReads (ReadsFrom source) d d1
  reads = read.reads

  -- what is left of the files, from the reading on
  written_from : AreWritten files d1 d2 → AreWritten files d d2
  written_from h = grind arith

  not_begun_from : (at : ℕ) → IsNotBegun files at d1 d2 → IsNotBegun files at d d2
  not_begun_from at h = grind arith

  stops_from : (at : ℕ) → StopsAtFile files at d1 d2 → StopsAtFile files at d d2
  stops_from at h = grind (arith, not_begun_from at)

  fault_from : (at : ℕ) → FileLeftByFault files at d1 d2 → FileLeftByFault files at d d2
  fault_from at h = grind (arith, not_begun_from at)

  rose_from : Rose d1.refusals d2.refusals → Rose d.refusals d2.refusals
  rose_from rose = grind arith

  ends : (r : Written) → one.WritesFiles files d1 d2 r → WritesFiles OnFiles old new (outcome_by stop_of_file r)
  ends (Ok u) v = on (λ files. AreWritten files d d2) (written_from v.written)
  ends (Err f) v = go f.slot f.fail v
    where
      go : (slot : Slot) (fail : IoFail) → one.WritesFiles files d1 d2 (Err (file_fail slot fail)) → WritesFiles OnFiles old new (Err (stop_of_writing slot fail))
      go slot call.Failed v = (
        v.stopped.0,
        on (λ files. StopsAtFile files (turn slot) d d2 × FileLeftByFault files (turn slot) d d2) (stops_from (turn slot) v.stopped.1, fault_from (turn slot) (v.failed slot refl)),
      )
      go slot call.NoMemory v = inr (
        rose_from (v.no_memory slot refl),
        on (λ files. (slot : Slot) × IsCollectionSlot slot × StopsAtFile files (turn slot) d d2) (slot, v.stopped.0, stops_from (turn slot) v.stopped.1),
      )

  -- all that is left
  pub files_written : (r : Written) → one.WritesFiles files d1 d2 r → (WritesFiles OnFiles old new (outcome_by stop_of_file r) → Makes old new (outcome_by stop_of_file r))
      → Leaves (Does source product.Files Makes) (Starts source) old new (outcome_by stop_of_file r)
  files_written r v makes =
      let outcome : Outcome = outcome_by stop_of_file r in
      made source old new d1 read product.Files Makes outcome (record {
        unrefused = grind arith;
        complete = λ stands none. grind (arith, none OfWriting);
        touches = only_accepted source old new d1 read IsCollectionSlot outcome (grind arith) v.creates.slots (grind arith) (grind arith);
        starts = v.creates.starts;
        refusals = grind arith;
        slots = v.creates.slot_counts;
        writing = grind arith;
        input = grind arith;
        out = grind arith;
        depot_tells = v.creates.tells;
        input_tells = refl;
        out_tells = refl;
      }) (makes (ends r v))
