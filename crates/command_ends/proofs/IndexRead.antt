-- An index that a run loads, and what it leaves at it: it is refused in one way only, and in none where it stands there.
use Rattle.std.proofs.Common.{ap, ◌≡◌, ℕ, ◌≤◌, refl, sym, ◌∙◌, subst, List, length, inl, inr, arith}
use Rattle.std.specs.Prelude.{None, ◌≢◌, ◌⊎◌, ◌%◌, ◌==◌, not, Bool, true, false, IsTrue, MatchBool, Ok, Err}
use Rattle.collection_model.specs.Collection.{Collection}
use Rattle.part_cost.specs.Formats.{numbers_of}
use Rattle.io_traits.specs.declared.fail.Slot.TheVariants.{Index}
use Rattle.io_traits.specs.DepotState.{DepotState, bytes_under}
use Rattle.index_file.specs.declared.fault.OpenFault.{OpenFault}
use Rattle.index_file.specs.FileWords.{IsIndex, Spells, file_words}
use Rattle.index_file.specs.FirstBroken.{IsFirstBroken}
use Rattle.index_file.specs.IndexView.{IndexView, with_starts}
use Rattle.index_file.specs.Laws.{WordsAreRead, OneBrokenCheck}
use Rattle.index_file.proofs.FittingFiles.{fits-file}
use Rattle.command_model.specs.Found.{AreOfWords, most_bytes}
use Rattle.word_files.specs.declared.loading.LoadWordsError.{LoadWordsError}
use Rattle.word_files.specs.LoadWords.{LoadsWords}
use Rattle.outcomes.specs.declared.stop.Stop.TheVariants as stop
use Rattle.outcomes.specs.Outside.{Count}
use Rattle.outcomes.specs.declared.stop.Stop.TheVariants.{BrokenIndex, NoMemory}
use Rattle.outcomes.specs.Outcome.{Outcome, fault_of}
use Rattle.command_ends.specs.FoundIndex.{FindsIndex, FindsIndexOf, HasBroken, IsFirstBrokenOfFile}
use Rattle.command_ends.specs.Sources.{Accepts, EndsAt, IndexAt, IsRefusedAs, Stands}
use Rattle.command_ends.specs.Steps.AtSource.{IsStill, IsUnread}
use Rattle.command_ends.specs.Steps.LoadedIndex.{IsLoaded, IsUnloaded}
use Rattle.outcomes.specs.Stops.{ragged_index, stop_of_index}
use Rattle.outcomes.proofs.Counted.{Of}
use Rattle.command_ends.proofs.SourceRead.{Laws, ended_there, refuses_none}
use Rattle.command_ends.proofs.WordsLoaded.{even, loaded_counts, short, slots_unloaded, starts, unloaded_starts}

-- ---- bytes and words

pub is_even : (n : ℕ) → n ≡ 0 → not (n == 0) ≡ false
is_even n e = cc

pub is_ragged : (n : ℕ) → n ≢ 0 → not (n == 0) ≡ true
is_ragged n h = grind arith

-- the first check of bytes that are no whole words, and of those of words
abbrev Checked : List ℕ → OpenFault → Bool → Type 0
Checked bytes fault b = MatchBool b (fault ≡ ragged_index) ((ws : List ℕ) × AreOfWords bytes ws × IsFirstBroken ws fault)

ragged_breaks : (bytes : List ℕ) → length bytes % 8 ≢ 0 → IsFirstBrokenOfFile bytes ragged_index
ragged_breaks bytes h = grind arith

words_break : (bytes words : List ℕ) (fault : OpenFault) → AreOfWords bytes words → IsFirstBroken words fault → IsFirstBrokenOfFile bytes fault
words_break bytes words fault of first = grind (arith, even bytes words of)

words_broken : WordsAreRead → (bytes words : List ℕ) (fault : OpenFault) → AreOfWords bytes words → IsFirstBrokenOfFile bytes fault → IsFirstBroken words fault
words_broken read bytes words fault of first = grind (arith, even bytes words of, read words)

-- the file of an index is not too large, and its words are an index
pub index_is_short : (name : List ℕ) (d : DepotState) (c : Collection) → IsTrue d.tells → FindsIndexOf name d c → length (bytes_under d name) ≤ most_bytes
index_is_short name d c t (format, parts, found) = short (bytes_under d name) (file_words (numbers_of format) c parts) (found.bytes t) found.within

index_words : WordsAreRead → (name : List ℕ) (d : DepotState) (words : List ℕ) (c : Collection) → IsTrue d.tells → AreOfWords (bytes_under d name) words
    → FindsIndexOf name d c → IsIndex words
index_words read name d words c t of (format, parts, found) =
    (format, (c, parts, grind (arith, read words (file_words (numbers_of format) c parts), fits-file (numbers_of format) c parts, found.bytes t)))

-- ---- the first check that breaks

pub one_first : WordsAreRead → OneBrokenCheck → (bytes : List ℕ) (f g : OpenFault) → IsFirstBrokenOfFile bytes f → IsFirstBrokenOfFile bytes g → f ≡ g
one_first read one bytes f g = go (not (length bytes % 8 == 0))
  where
    go : (b : Bool) → Checked bytes f b → Checked bytes g b → f ≡ g
    go true x y = x ∙ sym y
    go false (v, a, x) (w, b, y) =
        let same : w ≡ v = read w v b.fit a.fit (sym b.bytes_are ∙ a.bytes_are) in
        one.one v f g x (subst (λ ws. IsFirstBroken ws g) same y)

-- an index breaks none
pub whole : WordsAreRead → OneBrokenCheck → (name : List ℕ) (d : DepotState) → IsTrue d.tells → (c : Collection) (fault : OpenFault) → FindsIndexOf name d c → HasBroken name d fault → ⊥
whole read one name d t c fault (v, e, f) broken =
    let words : List ℕ = file_words (numbers_of v) c e in
    one.none_in_index words fault (index_words read name d words c t (f.bytes t) (v, e, f)) (words_broken read (bytes_under d name) words fault (f.bytes t) broken.first)

-- ---- the source

module _ (read : WordsAreRead) (check : OneBrokenCheck) (name : List ℕ) where
  one : (d : DepotState) → IsTrue d.tells → (a b : Outcome) → IsRefusedAs (IndexAt name) d a → IsRefusedAs (IndexAt name) d b → a ≡ b
  one d t (Err (BrokenIndex f)) (Err (BrokenIndex g)) x y = ap (λ it. Err (BrokenIndex it)) (one_first read check (bytes_under d name) f g (x t).first (y t).first)
  one d t a b x y = grind arith

  none : (d : DepotState) → Stands (IndexAt name) d → (a : Outcome) → IsRefusedAs (IndexAt name) d a → ⊥
  none d (t, (c, found)) a x = grind (arith, whole read check name d t c, index_is_short name d c t found)

  pub index_laws : Laws (IndexAt name)
  index_laws = record { one = one; none = none }

  module _ (d d' : DepotState) where
    -- ---- its words are not loaded

    -- an index that is no whole words is no failed call
    no_fault : (count : Count) → ¬ Of (fault_of (Err (BrokenIndex ragged_index))) count
    no_fault count h = cc

    pub index_unloaded : (error : LoadWordsError) → LoadsWords Index name d d' (Err error) → IsUnloaded name d d' (stop_of_index error)
    index_unloaded error w =
        let still : IsStill (IndexAt name) d d' (Err (stop_of_index error)) =
        grind (arith, unloaded_starts Index (stop.BrokenIndex ragged_index) no_fault name d d' error w, slots_unloaded Index (stop.BrokenIndex ragged_index) no_fault name d d' error w) in
        ended_there (IndexAt name) index_laws d d' (Err (stop_of_index error)) (grind (arith, ragged_breaks)) still

    -- ---- they are loaded

    module _ (words : List ℕ) (w : LoadsWords Index name d d' (Ok words)) where
      ended : (outcome : Outcome) → fault_of outcome ≡ None → EndsAt (IndexAt name) d outcome ⊎ (outcome ≡ Err NoMemory) → IsUnread (IndexAt name) d d' outcome
      ended outcome none ends =
          ended_there (IndexAt name) index_laws d d' outcome ends (grind (arith, starts Index name d d' words w outcome, loaded_counts Index name d d' words w))

      -- and are no index
      pub index_broken : (fault : OpenFault) → IsFirstBroken words fault → IsUnloaded name d d' (stop.BrokenIndex fault)
      index_broken fault first = ended (Err (BrokenIndex fault)) refl (inl (λ t. record {
        within = short (bytes_under d name) words (w.words t) w.within;
        first = words_break (bytes_under d name) words fault (w.words t) first;
      }))

      -- or memory was refused then
      pub index_unkept : IsUnloaded name d d' stop.NoMemory
      index_unkept = ended (Err NoMemory) refl (inr refl)

      -- or are one, which stands under the name
      pub index_loaded : (index : IndexView) → Spells (numbers_of index.format) words index.collection index.parts → IsLoaded name d d' index
      index_loaded index spells =
          let found : FindsIndex (numbers_of index.format) name d index.collection index.parts = grind arith in
          let accepted : Accepts (IndexAt name) d = (index.collection, (index.format, index.parts, found)) in
          record {
            found = found;
            read = grind (arith, accepted, refuses_none (IndexAt name) index_laws d accepted, starts Index name d d' words w, loaded_counts Index name d d' words w);
            starts = starts Index name d d' words w;
          }

pub spelled_index : (words : List ℕ) (index : IndexView) → Spells (numbers_of index.format) words index.collection index.parts → IsIndex words
spelled_index words index spells = (index.format, (index.collection, index.parts, spells))

-- the index of one that was loaded
pub loaded_as : (name : List ℕ) (d d' : DepotState) (opened index : IndexView) (starts : List ℕ) → IsLoaded name d d' opened → index ≡ with_starts opened starts → IsLoaded name d d' index
loaded_as name d d' opened index starts w is = subst (IsLoaded name d d') (sym is) (record { found = w.found; read = w.read; starts = w.starts })
