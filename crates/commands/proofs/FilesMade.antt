-- What `remap`, `export` and `blocks` leave that wrote their files, or stopped before or at one.
use Rattle.std.proofs.Common.{ap, [], Some, ◌≡◌, ℕ, ◌<◌, ◌^◌, refl, sym, ◌∙◌, subst, List, inl, IsErrAnd, Result, Ok, Err, All}
use Rattle.std.specs.Prelude.{unwrap_or}
use Rattle.commands.proofs.Names.{word_bytes, spelled, Two, numbers_of, SourceState, SinkState, DepotState, bytes_under, Side, IndexView, side_words, blocks_of_index, Plain, AreOfWords, FindsCollection, NamedFile, remap_numbers, ImageError, MakesImage, WritesWords, Stop, Outside, outside, FindsIndexOf, IndexAt, MapAt, Starts, File, IsUnread, Leaves, IsLoaded, outcome_by, stop_of_file, stop_of_image, stop_of_writing, file_written, only_read, stands_written, Laws, promised, stops, handed_on, AreApart, AreWritten, OnImageFiles, files_under, Exports, OnFilesOf, OnSideBytes, Remaps, WritesBlocks, WritesCollection, WritesImage}
use Rattle.remap.specs.Laws.{ImageIsWellFormed}
use Rattle.index_building.proofs.Migrating.{collection-fits}
use Rattle.remapped_files.specs.WriteImage.{WritesFiles}
use Rattle.remapped_files.proofs.FilesInTurn.{apart-under}
use Rattle.command_ends.specs.WrittenFile.{WritesFile}
use Rattle.command_ends.specs.Products.{Files}
use Rattle.command_ends.proofs.FileWritten as one
use Rattle.command_ends.proofs.FilesWritten.{Written, all_there, files_written, stand_under}
use Rattle.commands.proofs.MapRead.{image_unmade, map_read}
use Rattle.commands.proofs.WordsMade.{new_holds}

-- ---- `remap`

module _ (base map to : List ℕ) (d d1 : DepotState) where
  pub files_apart : {files : List NamedFile} → MakesImage base map to d d1 (Ok files) → AreApart files
  files_apart w = rw w.files.5 (apart-under to (spelled w.files.2))

  module _ (laws : Laws (MapAt base map)) (i : SourceState) (o e e' : SinkState) (s : ℕ) where
    abbrev Moved : DepotState → Result (Unit {0}) Stop → Type 0
    Moved d2 r = Leaves (Remaps base map to) (Starts (MapAt base map)) (outside d i o e s) (outside d2 i o e' s) r

    -- the files were not made
    pub move_refused : {error : ImageError} (r : Result (Unit {0}) Stop) → MakesImage base map to d d1 (Err error) → IsErrAnd r (λ f. f ≡ stop_of_image error) → Moved d1 r
    move_refused {error} r w is =
        stops (MapAt base map) Files (WritesImage base map to) (outside d i o e s) (outside d1 i o e' s) refl refl (stop_of_image error) r (handed_on r is)
        (image_unmade base map to d d1 laws error w) (inl (only_read d d1 w.reads)) (λ other does. record { does = does; opens = λ done. absurd (other done); costs = refl })

    -- or they were written, or not
    pub move_ended : ImageIsWellFormed → (d2 : DepotState) (files : List NamedFile) (written : Written) (r : Result (Unit {0}) Stop)
        → MakesImage base map to d d1 (Ok files) → WritesFiles files d1 d2 written → r ≡ outcome_by stop_of_file written → Moved d2 r
    move_ended well_formed d2 files written r w v is =
        let both = w.files.3 in
        let image = w.files.2 in
        let found : AreWritten files d1 d2 → FindsCollection remap_numbers to d2 image = λ there. record {
          well_formed = well_formed remap_numbers w.files.1 w.files.0 image (record { well_formed = both.collection.well_formed; new_ids = both.order.new_ids; each = both.order.each }) w.files.4;
          files = λ t. stand_under to (spelled image) d1 d2 (rw w.files.5 at there) (sym v.creates.tells ∙ t);
        } in
        promised (outside d i o e s) (outside d2 i o e' s) (outcome_by stop_of_file written) r is
        (λ does. record {
          does = does;
          opens = λ done. (w.files.0, w.files.1, image, both, w.files.4, found (all_there files d1 d2 written v done));
          costs = refl;
        })
        (files_written (MapAt base map) (WritesImage base map to) d d1 d2 (map_read base map to d d1 laws files w) i o e e' s s files (OnImageFiles base map to d)
        (λ P p. (w.files.0, w.files.1, image, both, w.files.4, subst P w.files.5 p)) written v (λ h. h))

-- ---- `export` and `blocks`

module _ (name other : List ℕ) (d d1 : DepotState) (i : SourceState) (o e e' : SinkState) (s : ℕ) where
  abbrev old : Outside
  old = outside d i o e s

  abbrev new : DepotState → Outside
  new d2 = outside d2 i o e' s

  abbrev Exported : DepotState → Result (Unit {0}) Stop → Type 0
  Exported d2 r = Leaves (Exports name other) (Starts (IndexAt name)) old (new d2) r

  abbrev Blocked : DepotState → Result (Unit {0}) Stop → Type 0
  Blocked d2 r = Leaves (WritesBlocks name other) (Starts (IndexAt name)) old (new d2) r

  -- no file was begun
  module _ (it : Stop) (r : Result (Unit {0}) Stop) (is : IsErrAnd r (λ f. f ≡ it)) (w : IsUnread (IndexAt name) d d1 (Err it)) where
    pub export_stopped : Exported d1 r
    export_stopped =
        stops (IndexAt name) Files (WritesCollection name other) old (new d1) refl refl it r (handed_on r is) w (inl (only_read d d1 w.still.reads))
        (λ unlike does. record { does = does; opens = λ done. absurd (unlike done); costs = refl })

    pub blocks_stopped : Blocked d1 r
    blocks_stopped =
        stops (IndexAt name) (File Side) (WritesFile Side other (OnSideBytes name d)) old (new d1) refl refl it r (handed_on r is) w (inl (only_read d d1 w.still.reads))
        (λ unlike does. record { does = does; opens = λ done. absurd (unlike done); costs = refl })

  -- the files were written, or not
  module _ {index : IndexView} (w : IsLoaded name d d1 index) {d2 : DepotState} where
    pub export_ended : {files : List NamedFile} (written : Written) (r : Result (Unit {0}) Stop)
        → files ≡ files_under other (spelled index.collection) → WritesFiles files d1 d2 written → r ≡ outcome_by stop_of_file written → Exported d2 r
    export_ended written r are v is =
        let under : List NamedFile = files_under other (spelled index.collection) in
        let found : FindsIndexOf name d index.collection = (index.format, index.parts, w.found) in
        let wrote : WritesFiles under d1 d2 written = subst (λ fs. WritesFiles fs d1 d2 written) are v in
        let there : AreWritten under d1 d2 → FindsCollection (numbers_of Two) other d2 index.collection = λ h. record {
          well_formed = collection-fits (numbers_of index.format) (numbers_of Two) (new_holds Plain index.format) index.collection w.found.well_formed;
          files = λ t. stand_under other (spelled index.collection) d1 d2 h (sym wrote.creates.tells ∙ t);
        } in
        promised old (new d2) (outcome_by stop_of_file written) r is
        (λ does. record { does = does; opens = λ done. (index.collection, found, there (all_there under d1 d2 written wrote done)); costs = refl })
        (files_written (IndexAt name) (WritesCollection name other) d d1 d2 w.read i o e e' s s under (OnFilesOf (FindsIndexOf name d) other) (λ P p. (index.collection, found, p)) written wrote (λ h. h))

    pub blocks_ended : (words : List ℕ) (written : one.Written) (r : Result (Unit {0}) Stop) → words ≡ side_words (blocks_of_index index) → All (λ x. x < 2 ^ 64) words
        → WritesWords words other d1 d2 written → r ≡ outcome_by (stop_of_writing Side) written → Blocked d2 r
    blocks_ended words written r are fit wrote is =
        let there : d2.file other ≡ Some (word_bytes words) → AreOfWords (bytes_under d2 other) (side_words (blocks_of_index index)) =
        λ h. subst (λ ws. AreOfWords (bytes_under d2 other) ws) are (record { fit = fit; bytes_are = ap (λ file. unwrap_or file []) h }) in
        promised old (new d2) (outcome_by (stop_of_writing Side) written) r is
        (λ does. record { does = does; opens = λ done. (index.format, index.collection, index.parts, w.found, λ t. there (stands_written Side (word_bytes words) other d1 d2 written wrote done t)); costs = refl })
        (file_written (IndexAt name) (WritesFile Side other (OnSideBytes name d)) Side d d1 d2 w.read i o e e' s s other (word_bytes words) (OnSideBytes name d)
        (λ P p. (index.format, index.collection, index.parts, w.found, subst (λ ws. P (word_bytes ws)) are p)) written wrote (λ writes. writes))
