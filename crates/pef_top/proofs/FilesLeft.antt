-- What `build`, `migrate` or `merge` leaves, and then `query` or `export` of it: the replies and the files are those of the collection that was found.
use Rattle.std.proofs.Common.{◌≡◌, refl, sym, ap, ◌∙◌, subst, ℕ, List, inl, inr, IsTrue}
use Rattle.pef_top.proofs.Names.{Collection, DepotState, Outside, done, FindsIndexOf, FindsJoined, FindsSegments, Alike, Three, AnswersAll, Exports, Queries, Told}
use Rattle.collection_model.specs.Spelling.{spelled}
use Rattle.query_text.specs.Lines.{text_lines}
use Rattle.collection_reader.specs.ReadCollection.{files_at}
use Rattle.index_file.specs.Laws.{OneIndex, WordsAreRead}
use Rattle.command_model.specs.GotReplies.{GotReplies}
use Rattle.commands.proofs.FilesRead.{same_index}
use Rattle.commands.proofs.SegmentsFound.{same_segments}
use Rattle.segments.specs.Joined.{joined_wide}
use Rattle.segments.specs.Laws.{WideIsJoined}
use Rattle.pef_top.specs.Laws.{BuiltFilesAnswer, BuiltFilesComeBack, MergedFilesAnswer, MergedFilesComeBack, MigratedFilesAnswer, MigratedFilesComeBack}

-- an index that stands in a depot stands in the same one later
still_there : {index : List ℕ} {c : Collection} {asked left : DepotState} → asked ≡ left → FindsIndexOf index left c → FindsIndexOf index asked c
still_there {index} {c} same found = subst (λ d. FindsIndexOf index d c) (sym same) found

module _ (one : OneIndex) (read : WordsAreRead) where
  -- where all is done, the replies are those of each collection of which the file is an index
  replies_of_each : (name : List ℕ) (old new : Outside) → Queries name old new done → Told old → (c : Collection) → FindsIndexOf name old.depot c
      → GotReplies c (text_lines old.input.left) old.out new.out
  replies_of_each name old new queries told c found =
      let all : AnswersAll (FindsIndexOf name old.depot) old new = elim queries.does.ends [ inl at ↦ absurd at | inr all ↦ all ] in
      let accepted = all.replies in
      let same : accepted.0 ≡ c = same_index one read name old.depot told.depot accepted.0 c accepted.1 found in
      subst (λ d. GotReplies d (text_lines old.input.left) old.out new.out) same (accepted.2 (record { input = told.input; out = told.out }))

  -- and what `export` leaves are the files of each
  files_of_each : (index to : List ℕ) (old new : Outside) → Exports index to old new done → IsTrue old.depot.tells → IsTrue new.depot.tells → (c : Collection) → FindsIndexOf index old.depot c
      → files_at new.depot to ≡ spelled c
  files_of_each index to old new exports told tells c found =
      let opened = exports.opens refl in
      opened.2.files tells ∙ ap spelled (same_index one read index old.depot told opened.0 c opened.1 found)

  pub built_and_asked : BuiltFilesAnswer
  built_and_asked format base index old built asked answered builds same queries told =
      let opened = builds.opens refl in
      (opened.0, opened.1, replies_of_each index asked answered queries told opened.0 (still_there same opened.2))

  pub migrated_and_asked : MigratedFilesAnswer
  migrated_and_asked format from to old migrated asked answered migrates same queries told =
      let opened = migrates.opens refl in
      (opened.0, opened.1, replies_of_each to asked answered queries told opened.0 (still_there same (format, opened.2.0, opened.2.1)))

  pub built_come_back : BuiltFilesComeBack
  built_come_back format base index to old built asked exported builds same exports told =
      let opened = builds.opens refl in
      files_of_each index to asked exported exports told.second_tells told.third_tells opened.0 (still_there same opened.2)
      ∙ sym (opened.1.files told.first_tells)

  pub migrated_come_back : MigratedFilesComeBack
  migrated_come_back format from index to old migrated asked exported migrates same exports told other left before tells =
      let opened = migrates.opens refl in
      files_of_each index to asked exported exports told.second_tells told.third_tells opened.0 (still_there same (format, opened.2.0, opened.2.1))
      ∙ sym (files_of_each from other old left before told.first_tells tells opened.0 opened.1)

  -- ---- `merge`

  pub merged_and_asked : WideIsJoined → MergedFilesAnswer
  merged_and_asked wide names to old merged asked answered merges same queries told other left before segments others =
      let opened = merges.opens refl in
      let all : AnswersAll (FindsJoined Alike names other.depot) other left = elim segments.does.ends [ inl at ↦ absurd at | inr all ↦ all ] in
      let accepted = all.replies in
      let cs = opened.1.0 in
      let ds = accepted.1.0 in
      let tells : IsTrue old.depot.tells = subst (λ d. IsTrue d.tells) before others.depot in
      let fit = accepted.1.1.fit in
      let these : ds ≡ cs = same_segments one read names old.depot tells ds cs (subst (λ d. FindsSegments Alike names d ds) before accepted.1.1) opened.1.1 in
      let one_collection : accepted.0 ≡ opened.0 = accepted.1.2 ∙ sym (wide ds fit) ∙ ap joined_wide these ∙ sym opened.1.2.1 in (
        opened.0,
        replies_of_each to asked answered queries told opened.0 (still_there same (Three, opened.2.0, opened.2.1)),
        subst (λ c. GotReplies c (text_lines other.input.left) other.out left.out) one_collection (accepted.2 (record { input = others.input; out = others.out })),
      )

  pub merged_come_back : MergedFilesComeBack
  merged_come_back names index to old merged asked exported merges same exports told tells =
      let opened = merges.opens refl in
      (opened.0, opened.1, files_of_each index to asked exported exports told tells opened.0 (still_there same (Three, opened.2.0, opened.2.1)))
