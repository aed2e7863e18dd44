-- Lemmas on packing a collection whose files are lent.
use Rattle.std.proofs.Common.{◌≡◌, sym, ◌∙◌, subst, ℕ, ◌≤◌, inl, inr, List, [], length, arith}
use Rattle.std.specs.Prelude.{◌≢◌, IsTrue, Result, Err, IfOk, Some, codes, unwrap_or}
use Rattle.collection_model.specs.FormatNumbers.{format_three}
use Rattle.collection_model.specs.Collection.{Collection}
use Rattle.collection_model.specs.Spelling.{Files}
use Rattle.part_cost.specs.declared.formats.Format.TheVariants.{Three}
use Rattle.io_traits.specs.declared.fail.Slot.{Slot}
use Rattle.io_traits.specs.Calls.{Rose}
use Rattle.io_traits.specs.DepotState.{DepotState}
use Rattle.collection_reader.specs.FirstFault.{IsFirstFault}
use Rattle.collection_reader.specs.ReadCollection.{files_at}
use Rattle.command_model.specs.Found.{FindsCollection}
use Rattle.command_model.specs.CollectionCut.{AreCut}
use Rattle.index_file.specs.FileWords.{ListParts, file_words}
use Rattle.index_file.specs.Builder.{most_words}
use Rattle.index_file.proofs.FittingFiles.{fits-file}
use Rattle.index_building.specs.declared.build.BuildError.{BuildError}
use Rattle.index_building.specs.declared.build.BuildError.TheVariants.{Read}
use Rattle.index_building.specs.WordsOfFiles.{BuildsWords}
use Rattle.lent_files.specs.declared.depot.LentFile.{LentFile}
use Rattle.lent_files.specs.LentFiles.{IsNewDepot, file_in}
use Rattle.pefidx_c.specs.BuiltWords.{AreWordsOf}
use Rattle.pefidx_c.specs.PackedCollections.{AreFilesOf, PacksFiles}

-- a count that stays 0 did not rise
never-rose : (before now : ℕ) → before ≡ 0 → now ≡ 0 → Rose before now → ⊥
never-rose before now before_is now_is (inl rose) = omega (arith, before_is, now_is, rose)
never-rose before now before_is now_is (inr last) = omega (arith, now_is, last)

-- The files of a depot that tells them are these.
record AreLent (base : List ℕ) (files : Files) (depot : DepotState) : Type 0 where
  tells : IsTrue depot.tells
  are : files_at depot base ≡ files

found : (base : List ℕ) (files : Files) (depot : DepotState) (c : Collection) → AreLent base files depot → FindsCollection format_three base depot c → AreFilesOf files c
found base files depot c lent finds = record {
  well_formed = finds.well_formed;
  spelled_so = sym lent.are ∙ finds.files lent.tells;
}

-- words of a collection that is found and cut
words-are : (base : List ℕ) (old : DepotState) (before after : ℕ) (c : Collection) (parts : List ListParts) (made : List ℕ) → length made ≤ most_words
    → AreCut Three (FindsCollection format_three base old) before after c parts → made ≡ file_words format_three c parts → AreWordsOf format_three c made
words-are base old before after c parts made within cut is = record {
  within = within;
  parts = parts;
  near = cut.near.near;
  spelled = record {
    well_formed = cut.collection.well_formed;
    partitions = cut.near.partitions;
    fits = fits-file format_three c parts (subst (λ ws. length ws ≤ most_words) is within);
    spelled = is;
  };
}

-- the files that a new depot was lent
pub are-lent : (files : Files) (lent : List LentFile) (depot : DepotState) → IsNewDepot lent depot
    → file_in lent (codes ".docs") ≡ Some files.docs → file_in lent (codes ".freqs") ≡ Some files.freqs → file_in lent (codes ".sizes") ≡ Some files.sizes → files_at depot [] ≡ files
are-lent files lent depot is docs freqs sizes = λ i. record {
  docs = unwrap_or ((is.has_files (codes ".docs") ∙ docs) i) [];
  freqs = unwrap_or ((is.has_files (codes ".freqs") ∙ freqs) i) [];
  sizes = unwrap_or ((is.has_files (codes ".sizes") ∙ sizes) i) [];
}

-- what building of lent files gives
pub packs : (base : List ℕ) (files : Files) (old new : DepotState) (before after : ℕ) (result : Result (List ℕ) BuildError)
    → IsTrue old.tells → files_at old base ≡ files → ((slot : Slot) → old.faults slot ≡ 0) → ((slot : Slot) → new.faults slot ≡ 0)
    → BuildsWords Three base old new before after result → PacksFiles files result
packs base files old new before after result tells are old_faults new_faults builds =
    let lent : AreLent base files old = record { tells = tells; are = are } in
    let never : (slot : Slot) → result ≢ Err (Read slot) =
    λ slot is. never-rose (old.faults slot) (new.faults slot) (old_faults slot) (new_faults slot) (builds.read_only_where_it_rose slot is).1 in
    record {
      words = λ made is.
          let all = subst (λ r. IfOk r (λ words. (length words ≤ most_words)
          × ((c : Collection) × (parts : List ListParts) × AreCut Three (FindsCollection format_three base old) before after c parts
          × (words ≡ file_words format_three c parts)))) is builds.words in
          let c = all.1.0 in
          (c, found base files old c lent all.1.2.collection, words-are base old before after c all.1.1 made all.0 all.1.2 all.1.3);
      first_fault = λ fault is. subst (λ f. IsFirstFault format_three f (Some fault)) are (builds.first_fault tells fault is);
      broken = λ fault first.
          elim (builds.broken tells fault (subst (λ f. IsFirstFault format_three f (Some fault)) (sym are) first)) [
            | inl told ↦ inl told
            | inr other ↦ elim other [ inl failed ↦ absurd (never failed.0 failed.1) | inr refused ↦ inr refused ]
          ];
      too_large = λ n is.
          let all = builds.too_large n is in
          let c = all.1.0 in
          let cut = all.1.2 in (
            c,
            found base files old c lent cut.collection,
            record {
              too_many = all.0;
              parts = all.1.1;
              near = cut.near.near;
              partitions = cut.near.partitions;
              count = all.1.3;
            },
          );
      never_fails = never;
    }
