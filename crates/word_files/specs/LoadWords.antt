use Rattle.std.specs.Prelude.{◌≡◌, ◌≢◌, ℕ, ◌<◌, ◌≤◌, ◌%◌, ◌^◌, ◌⊎◌, ◌++◌, IsTrue, List, length, Result, Ok, Err, IfOk, Vec}
use Rattle.std.specs.List.{All, Contains}
use Rattle.std.specs.declared.alloc.Global.{Global}
use Rattle.collection_model.specs.Bytes.{le64, word_bytes}
use Rattle.io_traits.specs.declared.fail.Slot.{Slot}
use Rattle.io_traits.specs.Calls.{Rose}
use Rattle.io_traits.specs.DepotState.{DepotState, StartedOnce, OnlyReads, bytes_under}
use Rattle.index_file.specs.Builder.{most_words}
use Rattle.command_model.specs.Found.{most_bytes, AreOfWords}
use Rattle.word_files.specs.declared.loading.LoadWordsError.{LoadWordsError}
use Rattle.word_files.specs.declared.loading.LoadWordsError.TheVariants.{Ragged, Read, TooLarge, NoMemory}
use Rattle.word_files.specs.ReadWords.{AreKept}

-- the words of a vector that was loaded
abbrev pub words_loaded : Result (Vec ℕ Global) LoadWordsError → Result (List ℕ) LoadWordsError
words_loaded (Ok words) = Ok words.items
words_loaded (Err e) = Err e

-- What loading the words of the file under a name from a slot gives.
pub record LoadsWords (slot : Slot) (name : List ℕ) (old new : DepotState)
    (result : Result (List ℕ) LoadWordsError) : Type 0 where
  -- The words are those of the file's bytes, and at most so many.
  pub within : IfOk result (λ words. length words ≤ most_words)
  pub fit : IfOk result (λ words. All (λ w. w < 2 ^ 64) words)
  pub words : IsTrue old.tells → IfOk result (λ words. AreOfWords (bytes_under old name) words)
  -- A file is ragged where its length is no multiple of eight, and only there; a failed call or
  -- want of memory may come before.
  pub ragged : IsTrue old.tells → result ≡ Err Ragged
      → (length (bytes_under old name) ≤ most_bytes) × (length (bytes_under old name) % 8 ≢ 0)
  pub not_whole : IsTrue old.tells → length (bytes_under old name) ≤ most_bytes
      → length (bytes_under old name) % 8 ≢ 0 →
      (result ≡ Err Ragged) ⊎ (result ≡ Err Read) ⊎ (result ≡ Err NoMemory)
  -- It is too large where it has more bytes than the most, and only there.
  pub too_large : IsTrue old.tells → result ≡ Err TooLarge
      → most_bytes < length (bytes_under old name)
  pub longer : IsTrue old.tells → most_bytes < length (bytes_under old name) →
      (result ≡ Err TooLarge) ⊎ (result ≡ Err Read) ⊎ (result ≡ Err NoMemory)
  -- The first call that fails ends the loading.
  pub read_only_where_it_rose : result ≡ Err Read → Rose (old.faults slot) (new.faults slot)
  pub count_rises_only_there : (result ≡ Err Read) ⊎ (new.faults slot ≡ old.faults slot)
  -- The slot is started and read, and nothing else is called.
  pub reads : OnlyReads (λ s. s ≡ slot) old new
  -- It is started exactly once, under the name, whatever comes of it, and the first memory that the
  -- depot is refused ends the loading.
  pub started_once : StartedOnce (λ s. name) (λ s. s ≡ slot) old new
  pub refusals_rise_only_there : (result ≡ Err NoMemory) ⊎ (new.refusals ≡ old.refusals)

-- the most words that are kept of a file that begins with no opening word
abbrev pub piece_words : ℕ
piece_words = 1024

-- The bytes of some words begin with those of one of these.
abbrev pub BeginWithOne : List ℕ → List ℕ → Type 0
BeginWithOne openings words = (opening : ℕ) × (rest : List ℕ) × Contains openings opening
    × (word_bytes words ≡ le64 opening ++ rest)

-- Bytes begin with those of these words.
abbrev pub BeginsWithWords : List ℕ → List ℕ → Type 0
BeginsWithWords bytes words = (rest : List ℕ) × (bytes ≡ word_bytes words ++ rest)

-- What loading a file gives of which all words are kept only where it begins with one of these
-- words.
abbrev pub LoadsKept : List ℕ → Slot → List ℕ → DepotState → DepotState
    → Result (List ℕ) LoadWordsError → Type 0
LoadsKept openings slot name old new (Ok words) = (all : List ℕ) × AreKept openings words all
    × LoadsWords slot name old new (Ok all)
LoadsKept openings slot name old new (Err e) = LoadsWords slot name old new (Err e)
