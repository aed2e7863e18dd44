use Rattle.std.specs.Prelude.{◌≡◌, ℕ, IsTrue, List}
use Rattle.pef_top.specs.Names.{numbers_of, AnswersSegments, DepotState, Outside, done, Builds, Exports, Merges, Migrates, Queries, Wide, FindsCollection, Told}
use Rattle.collection_model.specs.Collection.{Collection}
use Rattle.collection_model.specs.Spelling.{spelled}
use Rattle.part_cost.specs.declared.formats.Format.{Format}
use Rattle.query_text.specs.Lines.{text_lines}
use Rattle.collection_reader.specs.ReadCollection.{files_at}
use Rattle.command_model.specs.GotReplies.{GotReplies}
use Rattle.command_ends.specs.FoundIndex.{FindsIndexOf}
use Rattle.command_ends.specs.FoundSegments.{FindsJoined}

-- Where `build`, or `pack`, is done and then `query` of what it left,
-- the replies are those of the collection that it found.
abbrev pub BuiltFilesAnswer : Type 0
BuiltFilesAnswer =
    (format : Format) (base index : List ℕ) (old built asked answered : Outside)
    → Builds format base index old built done → asked.depot ≡ built.depot
    → Queries index asked answered done → Told asked
    → (c : Collection) × FindsCollection (numbers_of format) base old.depot c
    × GotReplies c (text_lines asked.input.left) asked.out answered.out

-- Where `migrate`, or `repack`, is done and then `query` of what it left, the replies are those of
-- the collection of which it found an index.
abbrev pub MigratedFilesAnswer : Type 0
MigratedFilesAnswer =
    (format : Format) (from to : List ℕ) (old migrated asked answered : Outside)
    → Migrates format from to old migrated done → asked.depot ≡ migrated.depot
    → Queries to asked answered done → Told asked
    → (c : Collection) × FindsIndexOf from old.depot c
    × GotReplies c (text_lines asked.input.left) asked.out answered.out

-- Where `merge` is done and then `query` of what it left, and `segments` is done over the same
-- files, both give the replies of one collection.
abbrev pub MergedFilesAnswer : Type 0
MergedFilesAnswer =
    (names : List (List ℕ)) (to : List ℕ) (old merged asked answered : Outside)
    → Merges names to old merged done → asked.depot ≡ merged.depot
    → Queries to asked answered done → Told asked
    → (joined left : Outside) → joined.depot ≡ old.depot
    → AnswersSegments names joined left done → Told joined
    → (c : Collection) × GotReplies c (text_lines asked.input.left) asked.out answered.out
    × GotReplies c (text_lines joined.input.left) joined.out left.out

-- Each of these depots tells its bytes.
pub record AllTell (first second third : DepotState) : Type 0 where
  pub first_tells : IsTrue first.tells
  pub second_tells : IsTrue second.tells
  pub third_tells : IsTrue third.tells

-- Where `build`, or `pack`, is done over the files of a collection and then `export` of what it
-- left, the three files are those of the collection, byte for byte.
abbrev pub BuiltFilesComeBack : Type 0
BuiltFilesComeBack =
    (format : Format) (base index to : List ℕ) (old built asked exported : Outside)
    → Builds format base index old built done → asked.depot ≡ built.depot
    → Exports index to asked exported done → AllTell old.depot asked.depot exported.depot
    → files_at exported.depot to ≡ files_at old.depot base

-- Where `migrate`, or `repack`, is done and then `export` of what it left, the three files are
-- those that `export` leaves of the old index.
abbrev pub MigratedFilesComeBack : Type 0
MigratedFilesComeBack =
    (format : Format) (from index to : List ℕ) (old migrated asked exported : Outside)
    → Migrates format from index old migrated done → asked.depot ≡ migrated.depot
    → Exports index to asked exported done → AllTell old.depot asked.depot exported.depot
    → (other : List ℕ) (left : Outside) → Exports from other old left done → IsTrue left.depot.tells
    → files_at exported.depot to ≡ files_at left.depot other

-- Where `merge` is done and then `export` of what it left, the three files are those of the
-- collection to which the indexes are joined, byte for byte.
abbrev pub MergedFilesComeBack : Type 0
MergedFilesComeBack =
    (names : List (List ℕ)) (index to : List ℕ) (old merged asked exported : Outside)
    → Merges names index old merged done → asked.depot ≡ merged.depot
    → Exports index to asked exported done
    → IsTrue asked.depot.tells → IsTrue exported.depot.tells
    → (c : Collection) × FindsJoined Wide names old.depot c
    × (files_at exported.depot to ≡ spelled c)
