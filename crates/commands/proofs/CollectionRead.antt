-- What a run leaves that builds the words of a collection: where they are not built, and what is known where they are.
use Rattle.std.proofs.Common.{sym, ◌≡◌, ℕ, ◌≤◌, ◌<◌, ◌^◌, arith, refl, subst, List, length, inl, inr, Some, None, ◌⊎◌, IsTrue, Ok, Err}
use Rattle.commands.proofs.Names.{Collection, Format, One, numbers_of, Index, DepotState, ListParts, Spells, file_words, most_words, fits-file, FindsCollection, BuildError, BuildsWords, Outside, BrokenCollection, NoMemory, TooLarge, Outcome, AreBuilt, AreTooMany, Source, CollectionAt, EndsAt, IsRefusedAs, Stands, Starts, Product, Does, IsRead, Leaves, stop_of_building, Laws, ended_there, refuses_none, too_many, unread, IsStill}
use Rattle.collection_model.specs.FormatNumbers.{FormatNumbers}
use Rattle.collection_model.specs.Spelling.{Files}
use Rattle.collection_reader.specs.FirstFault.{IsFirstFault}
use Rattle.collection_reader.specs.Laws.{OneFirstFault, SpelledHasNoFault}
use Rattle.collection_reader.specs.ReadCollection.{files_at}
use Rattle.index_building.specs.declared.build.BuildError.TheVariants as building

-- ---- the source

few_documents : (format : Format) → (numbers_of format).most_documents < 2 ^ 32
few_documents One = omega arith
few_documents format = omega arith

-- the files of a collection under a base, with the limits of a format
abbrev pub at_base : Format → List ℕ → Source
at_base format base = CollectionAt (numbers_of format) base

-- First faults, in every format whose document numbers fit four bytes: there is one, and none in the files of a collection.
module _ (one_fault : (format : FormatNumbers) → format.most_documents < 2 ^ 32 → OneFirstFault format) (no_fault : (format : FormatNumbers) → format.most_documents < 2 ^ 32 → SpelledHasNoFault format)
    (format : Format) (base : List ℕ) where
  abbrev numbers : FormatNumbers
  numbers = numbers_of format

  abbrev this : Source
  this = at_base format base

  one : (d : DepotState) → IsTrue d.tells → (a b : Outcome) → IsRefusedAs this d a → IsRefusedAs this d b → a ≡ b
  one d t (Err (BrokenCollection f)) (Err (BrokenCollection g)) x y =
      let same : Some f ≡ Some g = one_fault numbers (few_documents format) (files_at d base) (Some f) (Some g) (x t) (y t) in cc
  one d t a b x y = grind arith

  none : (d : DepotState) → Stands this d → (a : Outcome) → IsRefusedAs this d a → ⊥
  none d (t, (c, found)) (Err (BrokenCollection f)) x =
      let P : Files → Type 0 = λ files. IsFirstFault numbers files None in
      let good : P (files_at d base) = subst P (sym (found.files t)) (no_fault numbers (few_documents format) c found.well_formed) in
      let bad : Some f ≡ None = one_fault numbers (few_documents format) (files_at d base) (Some f) None (x t) good in cc
  none d stands a x = x

  pub collection_laws : Laws this
  collection_laws = record { one = one; none = none }

-- ---- words that are not built

-- how a run ends whose words are not built
abbrev pub unbuilt : BuildError → Outcome
unbuilt e = Err (stop_of_building e)

module _ (format : Format) (base : List ℕ) (laws : Laws (at_base format base)) (product : Product) (Makes : Outside → Outside → Outcome → Type 0) (old new : Outside)
    (input : new.input ≡ old.input) (out : new.out ≡ old.out) where
  abbrev Is : Collection → Type 0
  Is = FindsCollection (numbers_of format) base old.depot

  abbrev Built : BuildError → Type 0
  Built e = BuildsWords format base old.depot new.depot old.costs new.costs (Err e)

  still : (e : BuildError) → Built e → IsStill (at_base format base) old.depot new.depot (unbuilt e)
  still e w = grind arith

  abbrev Left : Outcome → Type 0
  Left outcome = Leaves (Does (at_base format base) product Makes) (Starts (at_base format base)) old new outcome

  -- the collection was not read
  ended : (e : BuildError) → Built e → Makes old new (Err NoMemory) → EndsAt (at_base format base) old.depot (unbuilt e) ⊎ (unbuilt e ≡ Err NoMemory) → Left (unbuilt e)
  ended e w none ends =
      unread (at_base format base) product Makes old new input out (unbuilt e) none (ended_there (at_base format base) laws old.depot new.depot (unbuilt e) ends (still e w))

  -- or the words are too many that were to be built, or memory was refused before anything was made
  pub unbuilt_left : Makes old new (Err NoMemory) → (AreTooMany format Is old.costs new.costs → Makes old new (Err (TooLarge Index))) → (e : BuildError) → Built e → Left (unbuilt e)
  unbuilt_left none large (building.TooLarge n) w =
      let found = w.too_large n refl in
      let it = found.1 in
      too_many (at_base format base) product Makes old new input out (refuses_none (at_base format base) laws old.depot (it.0, it.2.collection) (Err (TooLarge Index))) refl
      (still (building.TooLarge n) w) (large (it.0, it.1, it.2, subst (λ k. most_words < k) it.3 found.0))
  unbuilt_left none large (building.Broken fault) w = ended (building.Broken fault) w none (inl (λ t. w.first_fault t fault refl))
  unbuilt_left none large (building.Read slot) w = ended (building.Read slot) w none (inl (w.read_only_where_it_rose slot refl).0)
  unbuilt_left none large building.NoMemory w = ended building.NoMemory w none (inr refl)

-- ---- words that are built

-- Words of a collection of this property were made, and are an index of it.
pub record AreMade (format : Format) (Is : Collection → Type 0) (s s' : ℕ) (words : List ℕ) : Type 0 where
  pub collection : Collection
  pub parts : List ListParts
  pub built : AreBuilt format Is s s' collection parts
  pub spells : Spells (numbers_of format) words collection parts

module _ (format : Format) (base : List ℕ) (d d' : DepotState) (s s' : ℕ) (words : List ℕ) (w : BuildsWords format base d d' s s' (Ok words)) where
  pub files_made : AreMade format (FindsCollection (numbers_of format) base d) s s' words
  files_made =
      let it = w.words.1 in
      let within : length (file_words (numbers_of format) it.0 it.1) ≤ most_words = rw it.3 at w.words.0 in
      record { collection = it.0; parts = it.1; built = record { cut = it.2; within = within }; spells = grind (arith, fits-file (numbers_of format) it.0 it.1 within, it.2, it.3) }

  -- the collection was read, and each file started once
  pub built_read : Laws (at_base format base) → IsRead (at_base format base) d d'
  built_read laws = record {
    accepted = (files_made.collection, files_made.built.cut.collection);
    refuses = refuses_none (at_base format base) laws d (files_made.collection, files_made.built.cut.collection);
    reads = w.reads;
    starts = λ outcome read. grind arith;
    counts = λ slot. grind arith;
  }
