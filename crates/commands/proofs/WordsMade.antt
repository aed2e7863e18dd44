-- What the commands leave that build the words of a collection: they are not made, or they are made, and written as an index, or answered or told of.
use Rattle.std.proofs.Common.{arith, ◌≡◌, ℕ, ◌≤◌, ◌<◌, ◌^◌, refl, sym, ◌∙◌, ap, subst, List, inl, inr, IsErrAnd, Result, Ok, Err, Vec, true, All, Global, lit≤}
use Rattle.commands.proofs.Names.{word_bytes, Collection, Format, One, numbers_of, Index, SourceState, SinkState, DepotState, most_words, ListParts, Spells, IndexView, OneIndex, BuildError, HoldsAllOf, BuildsWords, AnswersText, WritesWords, Plain, Stop, Outside, outside, NoMemory, TooLarge, Outcome, done, AnswersInput, longest_text, PrintsText, FindsIndex, AreTooMany, Source, IndexAt, Starts, Does, File, Product, Replies, Text, IsRead, Leaves, outcome_by, stop_of_answering, stop_of_building, stop_of_writing, file_written, only_read, stands_written, promised, still_read, too_many, Laws, Answer, text_printed, prints, handed_on, MakesIndex, migrate_format, answer_format, Written, not_refusal, nothing_read, nothing_starts, read_no_memory, answers_input, text_answered, Printed, Finds, Nothing, Packed, Builds, Answers, IsBuiltFrom, MakesAnswers, Generates, IsGeneration, MakesGeneration, generate_format, AreWordsOf, WouldBeTooMany, IsIndex, stop_of_making, stop_of_printing, generated, Rewrites, IndexesAt, SideAt, MapAt, CollectionAt}
use Rattle.io_traits.specs.declared.fail.IoFail.TheVariants as call
use Rattle.index_file.specs.declared.builder.FinishError.{FinishError}
use Rattle.index_file.specs.declared.builder.FinishError.TheVariants as making
use Rattle.command_model.specs.GeneratedText.{IsGeneratedText}
use Rattle.index_printing.specs.PrintText.{MakesAndPrints}
use Rattle.text_replies.specs.declared.text.RunFault.TheVariants as answering
use Rattle.command_line.specs.declared.words.FileKind.{FileKind}
use Rattle.command_ends.specs.WrittenIndex.{OnBuiltBytes, WritesIndex}
use Rattle.command_ends.specs.Products.{builds_words}
use Rattle.command_ends.proofs.IndexWritten as built
use Rattle.command_ends.proofs.IndexWritten.{found_written, on_built, unmade_words}
use Rattle.commands.proofs.CollectionRead.{AreMade, at_base, built_read, files_made, unbuilt, unbuilt_left}

-- ---- words of a collection that has a property

module _ (format : Format) (Is : Collection → Type 0) (c : Collection) (found : Is c) (s s' : ℕ) where
  pub words_made : {words : List ℕ} → AreWordsOf format c s s' words → AreMade format Is s s' words
  words_made w = record {
    collection = c;
    parts = w.parts;
    built = grind (arith, found);
    spells = w.spelled;
  }

  many_of : {n : ℕ} → WouldBeTooMany format c s s' n → AreTooMany format Is s s'
  many_of w = (c, w.parts, record { collection = found; near = w.cut.near; counted = w.cut.counted }, subst (λ m. most_words < m) w.count w.too_many)

  -- they are not made behind a source that was read
  module _ (source : Source) (product : Product) (Makes : Outside → Outside → Outcome → Type 0) (d d1 : DepotState) (read : IsRead source d d1)
      (i : SourceState) (o e e' : SinkState) where
    abbrev first : Outside
    first = outside d i o e s

    abbrev last : Outside
    last = outside d1 i o e' s'

    pub words_unmade : {Promises : Outside → Outside → Outcome → Type 0} → builds_words source product ≡ true → Starts source (Err (TooLarge Index)) d d1 → Makes first last (Err NoMemory) → (AreTooMany format Is s s' → Makes first last (Err (TooLarge Index)))
        → (Does source product Makes first last (Err NoMemory) → Promises first last (Err NoMemory))
        → (AreTooMany format Is s s' → Does source product Makes first last (Err (TooLarge Index)) → Promises first last (Err (TooLarge Index)))
        → (made : Result (Vec ℕ Global) FinishError) (error : FinishError) (r : Result (Unit {0}) Stop)
        → ((n : ℕ) → made ≡ Err (making.TooLarge n) → WouldBeTooMany format c s s' n) → made ≡ Err error → IsErrAnd r (λ f. f ≡ stop_of_making error)
        → Leaves Promises (Starts source) first last r
    words_unmade {Promises} builds starts none large no_memory more made error r too_large was is =
        subst (λ x. Leaves Promises (Starts source) first last x) (sym (handed_on r is)) (go error (λ n h. too_large n (was ∙ ap Err h)))
      where
        go : (error : FinishError) → ((n : ℕ) → error ≡ making.TooLarge n → WouldBeTooMany format c s s' n) → Leaves Promises (Starts source) first last (unmade_words error)
        go (making.TooLarge n) too_large =
            let many = many_of (too_large n refl) in
            promised first last (Err (TooLarge Index)) (Err (TooLarge Index)) refl (more many)
            (too_many source product Makes first last refl refl (read.refuses (Err (TooLarge Index))) builds (still_read source d d1 read (Err (TooLarge Index)) refl starts) (large many))
        go making.NoMemory too_large = read_no_memory source product Makes d d1 read i o e e' s s' (Err NoMemory) refl none no_memory

-- ---- words that are made

pub are_index : {format : Format} {Is : Collection → Type 0} {s s' : ℕ} {words : List ℕ} → AreMade format Is s s' words → IsIndex words
are_index {format} m = (format, (m.collection, m.parts, m.spells))

-- of what a source gives, and written as an index
module _ (source : Source) (format : Format) (d d1 d2 : DepotState) (read : IsRead source d d1) (i : SourceState) (o e e' : SinkState) (s s' : ℕ)
    (words : List ℕ) (m : AreMade format (Finds source d) s s' words) (fit : All (λ x. x < 2 ^ 64) words) (to : List ℕ) (written : Written) (wrote : WritesWords words to d1 d2 written) where
  abbrev before : Outside
  before = outside d i o e s

  abbrev after : Outside
  after = outside d2 i o e' s'

  abbrev ending : Outcome
  ending = outcome_by (stop_of_writing Index) written

  index_written : {Promises : Outside → Outside → Outcome → Type 0} (r : Result (Unit {0}) Stop) → r ≡ ending
      → (Does source (File Index) (MakesIndex source format to) before after ending → (ending ≡ done → FindsIndex (numbers_of format) to d2 m.collection m.parts) → Promises before after ending)
      → Leaves Promises (Starts source) before after r
  index_written r is more =
      promised before after ending r is
      (λ does. more does (λ done. found_written format (Finds source d) before after words m.collection m.parts m.built m.spells.spelled fit m.spells.well_formed to d2
      (stands_written Index (word_bytes words) to d1 d2 written wrote done)))
      (file_written source (MakesIndex source format to) Index d d1 d2 read i o e e' s s' to (word_bytes words) (OnBuiltBytes format (Finds source d) before after)
      (on_built format (Finds source d) before after words m.collection m.parts m.built m.spells.spelled) written wrote
      (λ writes. built.behind_building format (Finds source d) before after (WritesIndex format (Finds source d) to before after) written writes))

-- ---- `build`

module _ (format : Format) (base index : List ℕ) (laws : Laws (at_base format base)) (d d1 : DepotState) (i : SourceState) (o e e' : SinkState) (s s' : ℕ) where
  abbrev Built : DepotState → Outcome → Type 0
  Built d2 outcome = Leaves (Builds format base index) (Starts (at_base format base)) (outside d i o e s) (outside d2 i o e' s') outcome

  pub build_refused : {error : BuildError} (r : Result (Unit {0}) Stop) → BuildsWords format base d d1 s s' (Err error) → IsErrAnd r (λ f. f ≡ stop_of_building error) → Built d1 r
  build_refused {error} r w is =
      promised (outside d i o e s) (outside d1 i o e' s') (unbuilt error) r (handed_on r is) (λ does. grind arith)
      (unbuilt_left format base laws (File Index) (MakesIndex (at_base format base) format index) (outside d i o e s) (outside d1 i o e' s') refl refl (inl (only_read d d1 w.reads)) (λ many. (refl, many)) error w)

  pub build_ended : (d2 : DepotState) (words : List ℕ) (written : Written) (r : Result (Unit {0}) Stop) → BuildsWords format base d d1 s s' (Ok words)
      → All (λ x. x < 2 ^ 64) words → WritesWords words index d1 d2 written → r ≡ outcome_by (stop_of_writing Index) written → Built d2 r
  build_ended d2 words written r w fit wrote is =
      let m = files_made format base d d1 s s' words w in
      index_written (at_base format base) format d d1 d2 (built_read format base d d1 s s' words w laws) i o e e' s s' words m fit index written wrote r is
      (λ does opens. record { does = does; opens = λ done. (m.collection, m.built.cut.collection, (format, m.parts, opens done)) })

-- ---- `answer`

behind_answers : (base : List ℕ) (old new : Outside) (r : Answer) → AnswersInput (IsBuiltFrom base old new) old new (outcome_by stop_of_answering r) → MakesAnswers base old new (outcome_by stop_of_answering r)
behind_answers base old new (Err answering.Read) then = then
behind_answers base old new r then = then

module _ (base : List ℕ) (d d' : DepotState) (s s' : ℕ) (laws : Laws (at_base answer_format base)) (i : SourceState) (o e e' : SinkState) where
  abbrev Answered : SourceState → SinkState → Outcome → Type 0
  Answered i' o' outcome = Leaves (Answers base) (Starts (at_base answer_format base)) (outside d i o e s) (outside d' i' o' e' s') outcome

  pub answer_refused : {error : BuildError} (r : Result (Unit {0}) Stop) → BuildsWords answer_format base d d' s s' (Err error) → IsErrAnd r (λ f. f ≡ stop_of_building error) → Answered i o r
  answer_refused {error} r w is =
      rw (handed_on r is)
      (unbuilt_left answer_format base laws Replies (MakesAnswers base) (outside d i o e s) (outside d' i o e' s') refl refl (inl (record { input = refl; out = refl })) (λ many. (refl, many)) error w)

  pub answer_ended : OneIndex → (i' : SourceState) (o' : SinkState) (words : List ℕ) (index : IndexView) (answer : Answer) (r : Result (Unit {0}) Stop) → BuildsWords answer_format base d d' s s' (Ok words)
      → Spells (numbers_of index.format) words index.collection index.parts → AnswersText index.collection longest_text i i' o o' answer → r ≡ outcome_by stop_of_answering answer → Answered i' o' r
  answer_ended one i' o' words index answer r w spells a is =
      let m = files_made answer_format base d d' s s' words w in
      let old = outside d i o e s in
      let new = outside d' i' o' e' s' in
      let same : index.collection ≡ m.collection = (one index.format answer_format words index.collection m.collection index.parts m.parts spells m.spells).1 in
      let from_it : IsBuiltFrom base old new index.collection = subst (IsBuiltFrom base old new) (sym same) (m.parts, m.built) in
      rw is
      (text_answered (at_base answer_format base) (MakesAnswers base) d d' (built_read answer_format base d d' s s' words w laws) i i' o o' e e' s s' index.collection answer a
      (behind_answers base old new answer (answers_input (IsBuiltFrom base old new) index.collection from_it old new answer a)))

-- ---- `generate`

module _ (seed n t : ℕ) (d : DepotState) (i : SourceState) (o e e' : SinkState) (s s' : ℕ) where
  abbrev c : Collection
  c = generated seed n t

  abbrev Generated : SinkState → Outcome → Type 0
  Generated o' outcome = Leaves (Generates seed n t) (Starts Nothing) (outside d i o e s) (outside d i o' e' s') outcome

  pub generate_refused : (made : Result (Vec ℕ Global) FinishError) {error : FinishError} (r : Result (Unit {0}) Stop)
      → ((k : ℕ) → made ≡ Err (making.TooLarge k) → WouldBeTooMany generate_format c s s' k) → made ≡ Err error → IsErrAnd r (λ f. f ≡ stop_of_making error) → Generated o r
  generate_refused made {error} r too_large was is =
      words_unmade generate_format (λ built. built ≡ c) c refl s s' Nothing Text (MakesGeneration seed n t) d d (nothing_read d) i o e e' refl (nothing_starts (Err (TooLarge Index)) d)
      (inl refl) (λ many. (refl, many)) (λ does. does) (λ many does. does) made error r too_large was is

  module _ (one : OneIndex) (o' : SinkState) (words : List ℕ) (m : AreMade generate_format (λ built. built ≡ c) s s' words) (index : IndexView)
      (spells : Spells (numbers_of index.format) words index.collection index.parts) where
    abbrev old : Outside
    old = outside d i o e s

    abbrev new : Outside
    new = outside d i o' e' s'

    abbrev Told : Format → Collection → List ListParts → List ℕ → Type 0
    Told format c parts = IsGeneratedText (numbers_of format) c parts

    -- what is told of the index that they are is told of the collection
    is_generation : (text : List ℕ) → Told index.format index.collection index.parts text → IsGeneration c old new text
    is_generation text told =
        let same = one index.format generate_format words index.collection m.collection index.parts m.parts spells m.spells in
        let of_it : Told generate_format m.collection m.parts text = rw (same.0, same.1, same.2) at told in
        (m.parts, grind arith, grind arith)

    behind_text : (r : Printed) → PrintsText (IsGeneration c old new) old new (outcome_by stop_of_printing r) → MakesGeneration seed n t old new (outcome_by stop_of_printing r)
    behind_text (Err call.Failed) then = then
    behind_text r then = then

    -- a text was printed, or a prefix of it, or none was made
    pub generate_ended : (printed : Printed) (r : Result (Unit {0}) Stop) → MakesAndPrints (Told index.format index.collection index.parts) o o' printed → r ≡ outcome_by stop_of_printing printed → Generated o' r
    generate_ended printed r (inl none) is =
        rw (is, none.0, none.1) (read_no_memory Nothing Text (MakesGeneration seed n t) d d (nothing_read d) i o e e' s s' (Err NoMemory) refl (inl refl) (λ does. does))
    generate_ended printed r (inr (text, told, p)) is =
        rw is
        (text_printed Nothing (MakesGeneration seed n t) d d (nothing_read d) i o o' e e' s s' text printed p
        (behind_text printed (prints (IsGeneration c old new) text (is_generation text told) old new printed p)))

-- ---- indexes that are written anew

-- a new file may hold the collection of any index
pub new_holds : (kind : FileKind) (format : Format) → HoldsAllOf (numbers_of format) (numbers_of (migrate_format kind))
new_holds Plain One = record { documents = lit≤ tt; sums = lit≤ tt }
new_holds Packed One = record { documents = lit≤ tt; sums = lit≤ tt }
new_holds kind format = record { documents = lit≤ tt; sums = lit≤ tt }

-- the words of an index are built also where they are made of others
builds_file : (source : Source) → builds_words source (File Index) ≡ true
builds_file Nothing = refl
builds_file (CollectionAt format base) = refl
builds_file (IndexAt name) = refl
builds_file (SideAt index side) = refl
builds_file (MapAt base map) = refl
builds_file (IndexesAt joining names) = refl

-- ---- `migrate` and `merge`

-- behind a source that was read, and of which this is the collection
module _ (source : Source) (format : Format) (to : List ℕ) {d d1 : DepotState} (c : Collection) (found : Finds source d c) (read : IsRead source d d1)
    (i : SourceState) (o e e' : SinkState) (s s' : ℕ) where
  abbrev Rewritten : DepotState → Outcome → Type 0
  Rewritten d2 outcome = Leaves (Rewrites source format to) (Starts source) (outside d i o e s) (outside d2 i o e' s') outcome

  -- words were not made of it
  pub rewrite_unmade : Starts source (Err (TooLarge Index)) d d1 → (made : Result (Vec ℕ Global) FinishError) {error : FinishError} (r : Result (Unit {0}) Stop)
      → ((n : ℕ) → made ≡ Err (making.TooLarge n) → WouldBeTooMany format c s s' n) → made ≡ Err error → IsErrAnd r (λ f. f ≡ stop_of_making error)
      → Rewritten d1 r
  rewrite_unmade starts made {error} r too_large was is =
      words_unmade format (Finds source d) c found s s' source (File Index) (MakesIndex source format to) d d1 read i o e e' (builds_file source) starts
      (inl (only_read d d1 read.reads)) (λ many. (refl, many))
      (λ does. record { does = does; opens = λ h. cc; unaccepted = λ denied. absurd (denied (c, found)); refused = λ h. cc })
      (λ many does. record { does = does; opens = λ h. cc; unaccepted = λ denied. absurd (denied (c, found)); refused = λ h. inr many })
      made error r too_large was is

  -- they were made, and written or not
  pub rewrite_ended : {d2 : DepotState} (made : List ℕ) (written : Written) (r : Result (Unit {0}) Stop)
      → AreWordsOf format c s s' made → All (λ x. x < 2 ^ 64) made → WritesWords made to d1 d2 written → r ≡ outcome_by (stop_of_writing Index) written
      → Rewritten d2 r
  rewrite_ended {d2} made written r are fit wrote is =
      let m = words_made format (Finds source d) c found s s' are in
      index_written source format d d1 d2 read i o e e' s s' made m fit to written wrote r is
      (λ does opens. record {
        does = does;
        opens = λ done. (m.collection, m.built.cut.collection, (m.parts, opens done));
        unaccepted = λ denied. absurd (denied (c, found));
        refused = λ h. absurd (not_refusal Index written h);
      })
