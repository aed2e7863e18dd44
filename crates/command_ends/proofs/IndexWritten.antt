-- What a run leaves that wrote the words of a collection as an index, or stopped at that.
use Rattle.std.proofs.Common.{◌≡◌, ℕ, ◌<◌, ◌^◌, ap, subst, List, [], arith}
use Rattle.std.specs.Prelude.{Some, IsTrue, Err, unwrap_or}
use Rattle.std.specs.List.{All}
use Rattle.collection_model.specs.Bytes.{word_bytes}
use Rattle.collection_model.specs.Collection.{Collection, WellFormed}
use Rattle.part_cost.specs.declared.formats.Format.{Format}
use Rattle.part_cost.specs.Formats.{numbers_of}
use Rattle.io_traits.specs.declared.fail.Slot.TheVariants.{Index}
use Rattle.io_traits.specs.DepotState.{DepotState, bytes_under}
use Rattle.index_file.specs.FileWords.{ListParts, file_words}
use Rattle.command_model.specs.Found.{AreOfWords}
use Rattle.index_file.specs.declared.builder.FinishError.{FinishError}
use Rattle.outcomes.specs.Outside.{Outside}
use Rattle.outcomes.specs.Outcome.{Outcome}
use Rattle.command_ends.specs.FoundIndex.{FindsIndex}
use Rattle.command_ends.specs.WordsThen.{AreBuilt, BuildsWordsThen}
use Rattle.command_ends.specs.WrittenIndex.{OnBuiltBytes}
use Rattle.outcomes.specs.Stops.{outcome_by, stop_of_making, stop_of_writing}
use Rattle.command_ends.proofs.FileWritten.{Written}

-- how a run ends that did not make its words
abbrev pub unmade_words : FinishError → Outcome
unmade_words e = Err (stop_of_making e)

-- what comes behind the building of words
pub behind_building : (format : Format) (Is : Collection → Type 0) (old new : Outside) (Then : Outcome → Type 0) (r : Written) → Then (outcome_by (stop_of_writing Index) r)
    → BuildsWordsThen format Is old new Then (outcome_by (stop_of_writing Index) r)
behind_building format Is old new Then r then = grind arith

-- The words of a collection were built.
module _ (format : Format) (Is : Collection → Type 0) (old new : Outside) (words : List ℕ) (c : Collection) (parts : List ListParts)
    (built : AreBuilt format Is old.costs new.costs c parts) (are : words ≡ file_words (numbers_of format) c parts) where
  pub on_built : (P : List ℕ → Type 0) → P (word_bytes words) → OnBuiltBytes format Is old new P
  on_built P p = (c, parts, built, rw (← are) p)

  -- where they were written, of 64 bits each, they stand under the name as an index
  pub found_written : All (λ x. x < 2 ^ 64) words → WellFormed (numbers_of format) c → (index : List ℕ) (d : DepotState)
      → (IsTrue d.tells → d.file index ≡ Some (word_bytes words)) → FindsIndex (numbers_of format) index d c parts
  found_written fit good index d written =
      let P : List ℕ → Type 0 = λ ws. AreOfWords (bytes_under d index) ws in
      record {
        well_formed = good;
        partitions = built.cut.near.partitions;
        within = built.within;
        bytes = λ t. subst P are (record { fit = fit; bytes_are = ap (λ file. unwrap_or file []) (written t) });
      }
