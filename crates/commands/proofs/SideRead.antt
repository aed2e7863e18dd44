-- What a run leaves at an index and its side file: it came to no index, or to no side file, or both were read.
use Rattle.std.proofs.Common.{◌≡◌, ℕ, ◌≤◌, ◌<◌, arith, refl, ◌∙◌, subst, List, length, inl, inr, ◌⊎◌, ◌%◌, IsTrue, Err}
use Rattle.commands.proofs.Names.{Slot, Index, Side, DepotState, OnlyReads, bytes_under, OnlyReads-trans, IndexView, SideFault, blocks_of_index, AreOfWords, IsIndexSlot, most_bytes, LoadWordsError, LoadsWords, Stop, BrokenIndex, BrokenSide, FileFault, NoMemory, TooLarge, Outcome, done, HasBrokenSide, IsFirstSideFaultOfFile, EndsAt, IndexAt, SideAt, Starts, StartsOnly, IsRead, IsUnread, was_read, IsLoaded, is_even, Laws, ended_there, refuses_none, even, short, IsLoadedSide, IsNoSide, IsUnloadedSide, ragged_side, is_ragged, FindsWithSide, IsIndexOrSide, IsSideSlot, names_with_side, IsStill, stop_of_side, OnlyReads-wider}
use Rattle.word_files.specs.declared.loading.LoadWordsError.TheVariants as loading
use Rattle.commands.proofs.FilesRead.{bytes_stay}

module _ (index side : List ℕ) where
  abbrev names : Slot → List ℕ
  names = names_with_side index side

  module _ (laws : Laws (SideAt index side)) where
    -- ---- no index was read

    -- how a run ends at the index it ends at the two
    at_index : (d : DepotState) (outcome : Outcome) → EndsAt (IndexAt index) d outcome → EndsAt (SideAt index side) d outcome
    at_index d (Err (FileFault slot)) h = inl h
    at_index d outcome h = grind arith

    index_started : (d d1 : DepotState) (outcome : Outcome) → EndsAt (IndexAt index) d outcome ⊎ (outcome ≡ Err NoMemory) → StartsOnly (λ slot. index) IsIndexSlot outcome d d1 → Starts (SideAt index side) outcome d d1
    index_started d d1 (Err (BrokenIndex fault)) ends s = grind arith
    index_started d d1 (Err (TooLarge slot)) ends s = grind arith
    index_started d d1 outcome ends s = grind arith

    pub as_unread : {old new : DepotState} {outcome : Outcome} → IsUnread (IndexAt index) old new outcome → IsUnread (SideAt index side) old new outcome
    as_unread {old} {new} {outcome} w = ended_there (SideAt index side) laws old new outcome
        (elim w.ends [ inl at ↦ inl (at_index old outcome at) | inr memory ↦ inr memory ])
        (record { reads = OnlyReads-wider (λ slot is. inl is) w.still.reads; starts = index_started old new outcome w.ends w.still.starts; files = w.still.files })

    -- ---- an index was loaded

    module _ {d d1 : DepotState} {view : IndexView} (opened : IsLoaded index d d1 view) where
      -- the side file is as it was
      over_same : (P : List ℕ → Type 0) → IsTrue d.tells → (IsTrue d1.tells → P (bytes_under d1 side)) → P (bytes_under d side)
      over_same P t p = subst P (bytes_stay side opened.read.reads t) (p (opened.read.reads.tells ∙ t))

      first : StartsOnly (λ slot. index) IsIndexSlot done d d1
      first = opened.starts done

      module _ (d2 : DepotState) where
        both_read : OnlyReads IsSideSlot d1 d2 → OnlyReads IsIndexOrSide d d2
        both_read r = OnlyReads-trans (OnlyReads-wider (λ slot is. inl is) opened.read.reads) (OnlyReads-wider (λ slot is. inr is) r)

        -- ---- no side file was read

        -- the file breaks this check
        abbrev Breaks : SideFault → List ℕ → Type 0
        Breaks fault bytes = (length bytes ≤ most_bytes) × IsFirstSideFaultOfFile (blocks_of_index view) bytes fault

        broken : (fault : SideFault) → (IsTrue d1.tells → Breaks fault (bytes_under d1 side)) → IsTrue d.tells → HasBrokenSide index side d fault
        broken fault breaks t =
            let it = over_same (Breaks fault) t breaks in
            record { format = view.format; collection = view.collection; parts = view.parts; found = opened.found; within = it.0; first = it.1 }

        abbrev Out : LoadWordsError → Outcome
        Out error = Err (stop_of_side error)

        -- its words were not loaded
        still : (error : LoadWordsError) → LoadsWords Side side d1 d2 (Err error) → IsStill (SideAt index side) d d2 (Out error)
        still loading.Ragged w = grind (arith, first, both_read w.reads)
        still loading.Read w = grind (arith, first, both_read w.reads)
        still loading.TooLarge w = grind (arith, first, both_read w.reads)
        still loading.NoMemory w = grind (arith, first, both_read w.reads)

        ends : (error : LoadWordsError) → LoadsWords Side side d1 d2 (Err error) → EndsAt (SideAt index side) d (Out error) ⊎ (Out error ≡ Err NoMemory)
        ends loading.Ragged w = inl (
          opened.read.accepted,
          broken ragged_side (λ t. let r = w.ragged t refl in (r.0, rw (is_ragged (length (bytes_under d1 side) % 8) r.1) refl)),
        )
        ends loading.Read w = inl (inr (refl, opened.read.accepted))
        ends loading.TooLarge w = inl (inr (refl, opened.read.accepted, λ t. over_same (λ b. most_bytes < length b) t (λ t. w.too_large t refl)))
        ends loading.NoMemory w = inr refl

        -- or are none, of which this is the first check that breaks
        breaks : (fault : SideFault) → IsNoSide (blocks_of_index view) side d1 d2 fault → EndsAt (SideAt index side) d (Err (BrokenSide fault))
        breaks fault none =
            let w = none.loads in (
              opened.read.accepted,
              broken fault (λ t. (
                short (bytes_under d1 side) none.words (w.words t) w.within,
                rw (is_even (length (bytes_under d1 side) % 8) (even (bytes_under d1 side) none.words (w.words t))) (none.words, w.words t, none.first),
              )),
            )

        pub side_unread : (it : Stop) → IsUnloadedSide (blocks_of_index view) side d1 d2 it → IsUnread (SideAt index side) d d2 (Err it)
        side_unread it (inl (error, w, is)) = rw is (ended_there (SideAt index side) laws d d2 (Out error) (ends error w) (still error w))
        side_unread it (inr (fault, none, is)) =
            let w = none.loads in
            rw is (ended_there (SideAt index side) laws d d2 (Err (BrokenSide fault)) (inl (breaks fault none)) (grind (arith, first, both_read w.reads)))

        -- ---- both were read

        module _ {words : List ℕ} (w : IsLoadedSide (blocks_of_index view) side d1 d2 words) where
          pub both_found : FindsWithSide index side d view.collection
          both_found = (view.format, view.parts, opened.found, λ t. subst (λ ws. AreOfWords (bytes_under d side) ws) w.side (over_same (λ bytes. AreOfWords bytes words) t w.loads.words))

          started : (outcome : Outcome) → IsTrue (was_read outcome) → Starts (SideAt index side) outcome d d2
          started (Err (BrokenIndex fault)) read = grind (arith, first)
          started (Err (TooLarge Index)) read = grind (arith, first)
          started outcome read = grind (arith, first)

          pub side_read : IsRead (SideAt index side) d d2
          side_read = record {
            accepted = (view.collection, both_found);
            refuses = refuses_none (SideAt index side) laws d (view.collection, both_found);
            reads = both_read w.loads.reads;
            starts = started;
            counts = λ slot. grind arith;
          }
