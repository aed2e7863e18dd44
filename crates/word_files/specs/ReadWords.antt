use Rattle.std.specs.Prelude.{◌≡◌, ◌≢◌, ℕ, ◌<◌, ◌≤◌, ◌%◌, ◌^◌, ◌⊎◌, ◌++◌, IsTrue, List, length, slice_index, Result, Ok, Err, IfOk}
use Rattle.std.specs.List.{All, Contains}
use Rattle.collection_model.specs.Bytes.{word_bytes}
use Rattle.io_traits.specs.declared.fail.IoFail.{IoFail}
use Rattle.io_traits.specs.declared.fail.IoFail.TheVariants as call
use Rattle.io_traits.specs.declared.fail.Slot.{Slot}
use Rattle.io_traits.specs.Calls.{Rose}
use Rattle.io_traits.specs.DepotState.{DepotState, SameStarts, OnlyReads}
use Rattle.index_file.specs.declared.bytes.WordsError.{WordsError}
use Rattle.index_file.specs.declared.bytes.WordsError.TheVariants as spelled
pub use Rattle.index_file.specs.Builder.{most_words}
use Rattle.command_model.specs.Found.{most_bytes}
use Rattle.word_files.specs.declared.loading.LoadWordsError.{LoadWordsError}
use Rattle.word_files.specs.declared.loading.LoadWordsError.TheVariants.{Ragged, Read, TooLarge, NoMemory}

-- what a refusal of a start, or of a read, is to the loading
abbrev pub call_error : IoFail → LoadWordsError
call_error call.Failed = Read
call_error call.NoMemory = NoMemory

-- what a refusal of the words is to it
abbrev pub words_error : WordsError → LoadWordsError
words_error spelled.Ragged = Ragged
words_error spelled.NoMemory = NoMemory

-- What reading the words of all bytes that a started slot has left gives.
pub record ReadsWords (slot : Slot) (old new : DepotState) (result : Result (List ℕ) LoadWordsError)
    : Type 0 where
  pub within : IfOk result (λ words. length words ≤ most_words)
  pub words : IsTrue old.tells → IfOk result (λ words. old.left slot ≡ word_bytes words)
  pub ragged : IsTrue old.tells → result ≡ Err Ragged
      → (length (old.left slot) ≤ most_bytes) × (length (old.left slot) % 8 ≢ 0)
  pub too_large : IsTrue old.tells → result ≡ Err TooLarge → most_bytes < length (old.left slot)
  pub read_only_where_it_rose : result ≡ Err Read → Rose (old.faults slot) (new.faults slot)
  pub count_rises_only_there : (result ≡ Err Read) ⊎ (new.faults slot ≡ old.faults slot)
  pub reads : OnlyReads (λ s. s ≡ slot) old new
  pub starts : SameStarts old new
  pub refusals_rise_only_there : (result ≡ Err NoMemory) ⊎ (new.refusals ≡ old.refusals)

-- Some words of a file that has no fewer, and begins with none of these words: enough that this is
-- the first check that breaks.
pub record AreOfOther (openings words all : List ℕ) : Type 0 where
  pub many : 6 ≤ length words
  pub no_more : length words ≤ length all
  pub same_first : slice_index all 0 ≡ slice_index words 0
  pub other : ¬ Contains openings (slice_index words 0)

-- The words that are kept of those of a file: all, or some where it begins with none of these
-- words.
abbrev pub AreKept : List ℕ → List ℕ → List ℕ → Type 0
AreKept openings words all = (words ≡ all) ⊎ AreOfOther openings words all

-- What reading the words of all bytes that a started slot has left gives, where all are kept only
-- if they begin with one of these words.
abbrev pub ReadsKept : List ℕ → Slot → DepotState → DepotState → Result (List ℕ) LoadWordsError
    → Type 0
ReadsKept openings slot old new (Ok words) = (all : List ℕ) × AreKept openings words all
    × All (λ w. w < 2 ^ 64) all × ReadsWords slot old new (Ok all)
ReadsKept openings slot old new (Err e) = ReadsWords slot old new (Err e)

-- The bytes of these words were read from a slot, and no call failed.
pub record HasWords (slot : Slot) (old new : DepotState) (words : List ℕ) : Type 0 where
  pub prefix : IsTrue old.tells → old.left slot ≡ word_bytes words ++ new.left slot
  pub count : new.faults slot ≡ old.faults slot
  pub starts : SameStarts old new
  pub refusals : new.refusals ≡ old.refusals
  pub reads : OnlyReads (λ s. s ≡ slot) old new

-- What reading the rest gives, once these words have come: together they are all words, or they are
-- refused.
abbrev pub ReadsBehind : Slot → List ℕ → DepotState → DepotState → Result (Unit {0}) LoadWordsError
    → Type 0
ReadsBehind slot prefix old new (Ok u) = (rest : List ℕ) × All (λ w. w < 2 ^ 64) rest
    × ReadsWords slot old new (Ok (prefix ++ rest))
ReadsBehind slot prefix old new (Err e) = ReadsWords slot old new (Err e)

-- What passing over the words of all bytes that a started slot has left gives, behind any so many
-- words that have come.
abbrev pub PassesWords : Slot → ℕ → DepotState → DepotState → Result (Unit {0}) LoadWordsError
    → Type 0
PassesWords slot held mid new result =
    (old : DepotState) (prefix : List ℕ) → length prefix ≡ held → HasWords slot old mid prefix
    → ReadsBehind slot prefix old new result
