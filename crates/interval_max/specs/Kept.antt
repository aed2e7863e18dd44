-- The maxima of many lists in one slice of bytes: those of each list one behind the other, then
-- four words for each list, and then the word that tells where these begin.
use Rattle.std.specs.Prelude.{◌≡◌, ℕ, ◌+◌, ◌-◌, ◌*◌, ◌/◌, ◌%◌, ◌^◌, ◌<◌, ◌≤◌, ◌==◌, min, cond, Bool, List, [], ◌∷◌}
use Rattle.std.specs.Prelude.{filter, take, drop, length, slice_index}
use Rattle.std.specs.List.{range_with_len}
use Rattle.std.specs.Int.{from_le_bytes, w64}
use Rattle.collection_model.specs.Collection.{Posting}
use Rattle.interval_max.specs.Bytes.{byte_in, rounded_up, step_of}
use Rattle.interval_max.specs.declared.writer.MaximaWriter.{MaximaWriter}

-- the word of the eight bytes from one on
abbrev pub word_from : List ℕ → ℕ → ℕ
word_from bytes at = from_le_bytes w64 (take 8 (drop at bytes))

-- of a list its term, where its bytes begin and end, whether they are those of each interval, and
-- what a byte counts in
pub record Entry : Type 0 where
  pub term : ℕ
  pub is_each : Bool
  pub step : ℕ
  pub from : ℕ
  pub to : ℕ

-- the entry of three words: the first has the term in its upper half and the form in the next bit
abbrev pub entry_of : ℕ → ℕ → ℕ → Entry
entry_of head from to = record {
  term = head / 2 ^ 32;
  is_each = head / 2 ^ 31 % 2 == 1;
  step = min (head % 2 ^ 31) 16843009;
  from = from;
  to = to;
}

-- the first of these words
abbrev pub head_word : ℕ → Bool → ℕ → ℕ
head_word term is_each step = term * 2 ^ 32 + cond is_each (2 ^ 31) 0 + step

-- the four words of a list; the last tells in how many intervals it has a document
abbrev pub entry_words : ℕ → Bool → ℕ → ℕ → ℕ → ℕ → List ℕ
entry_words term is_each step from to intervals =
    head_word term is_each step ∷ from ∷ to ∷ intervals ∷ []

-- entry i of words that are told by their place
abbrev pub entry_in : (ℕ → ℕ) → ℕ → Entry
entry_in word i = entry_of (word (4 * i)) (word (4 * i + 1)) (word (4 * i + 2))

-- the byte of interval v of a list with such an entry
abbrev pub entry_byte : List ℕ → Entry → ℕ → ℕ
entry_byte bytes e v = byte_in e.is_each (take (e.to - e.from) (drop e.from bytes)) v

-- This entry is that of a list under a term, and its bytes are the maxima of the list.
pub record IsEntryOf (bytes : List ℕ) (e : Entry) (term : ℕ) (list : List Posting) : Type 0 where
  pub term_is : e.term ≡ term
  pub step : e.step ≡ step_of list
  pub within : e.to ≤ length bytes
  pub byte : (v : ℕ) → entry_byte bytes e v * e.step ≡ rounded_up list v

-- the terms of the lists that have maxima among the first, so many
abbrev pub terms_with : (ℕ → Bool) → ℕ → List ℕ
terms_with has n = filter has (range_with_len 0 n)

-- Numbers that are told by their place rise, so many.
abbrev pub AreRising : (ℕ → ℕ) → ℕ → Type 0
AreRising number count = (i j : ℕ) → i < j → j < count → number i < number j

-- These entries are those of these lists, and these bytes their maxima.
pub record AreMaximaIn (has : ℕ → Bool) (list : ℕ → List Posting) (n : ℕ) (count : ℕ)
    (word : ℕ → ℕ) (bytes : List ℕ) : Type 0 where
  pub count_is : count ≡ length (terms_with has n)
  pub each : (i : ℕ) → i < count → IsEntryOf bytes (entry_in word i)
      (slice_index (terms_with has n) i) (list (slice_index (terms_with has n) i))

-- where the words of the entries begin
abbrev pub directory_of : List ℕ → ℕ
directory_of bytes = min (word_from bytes (length bytes - 8)) (length bytes - 8)

-- how many entries there are
abbrev pub count_of : List ℕ → ℕ
count_of bytes = (length bytes - 8 - directory_of bytes) / 32

-- word k of the entries
abbrev pub word_of : List ℕ → ℕ → ℕ
word_of bytes k = word_from bytes (directory_of bytes + 8 * k)

-- These bytes are the maxima of those of the first n lists that have maxima.
abbrev pub AreMaximaOf : (ℕ → Bool) → (ℕ → List Posting) → ℕ → List ℕ → Type 0
AreMaximaOf has list n bytes = AreMaximaIn has list n (count_of bytes) (word_of bytes) bytes

-- A writer holds them.
pub record HoldsMaxima (has : ℕ → Bool) (list : ℕ → List Posting) (n : ℕ) (w : MaximaWriter)
    : Type 0 where
  pub whole : length w.words.items ≡ 4 * (length w.words.items / 4)
  pub maxima : AreMaximaIn has list n (length w.words.items / 4) (slice_index w.words.items)
      w.bytes.items
