-- How the words of a file are read piece by piece, and what loading them gives.
use Rattle.std.proofs.Common.{◌≡◌, ◌≢◌, refl, sym, ap, ◌∙◌, subst, ℕ, ◌+◌, ◌*◌, ◌%◌, ◌^◌, ◌<◌, ◌≤◌, List, [], ◌∷◌, ◌++◌, take, length, inl, inr, IsTrue, Result, Ok, Err, arith}
use Rattle.std.specs.Prelude.{◌⊎◌, IfOk, IsErrOf, Vec, slice_index}
use Rattle.std.specs.declared.alloc.Global.{Global}
use Rattle.std.specs.List.{All, Contains}
use Rattle.std.proofs.lemmas.Bool.{cases_lt}
use Rattle.std.proofs.lemmas.List.{append_assoc, append-nil, length-append, length-take}
use Rattle.std.proofs.lemmas.List.Elements.{All-append}
use Rattle.collection_model.specs.Bytes.{le64, word_bytes}
use Rattle.io_traits.specs.declared.fail.IoFail.{IoFail}
use Rattle.io_traits.specs.declared.fail.IoFail.TheVariants as call
use Rattle.io_traits.specs.declared.fail.Slot.{Slot}
use Rattle.io_traits.specs.Calls.{Rose}
use Rattle.io_traits.specs.DepotState.{DepotState, StartedOnce, Starts, WasStartedAs, bytes_under}
use Rattle.io_traits.proofs.OnlyReads.{OnlyReads-same, OnlyReads-start, OnlyReads-trans, StartedOnce-slot, was-started-then}
use Rattle.io_traits.specs.Loads.{FillsPiece}
use Rattle.index_file.specs.declared.bytes.WordsError.{WordsError}
use Rattle.index_file.specs.declared.bytes.WordsError.TheVariants as spelled
use Rattle.index_file.specs.Builder.{most_words}
use Rattle.command_model.specs.Found.{most_bytes}
use Rattle.command_model.proofs.WordBytes.{word_bytes-length}
use Rattle.word_files.specs.declared.loading.LoadWordsError.{LoadWordsError}
use Rattle.word_files.specs.declared.loading.LoadWordsError.TheVariants.{Ragged, Read, TooLarge, NoMemory}
use Rattle.word_files.specs.LoadWords.{BeginWithOne, BeginsWithWords, LoadsKept, LoadsWords}
use Rattle.word_files.specs.ReadWords.{call_error, words_error, HasWords, PassesWords, ReadsBehind, ReadsKept, ReadsWords}

-- ---- counts
-- a count that stays as it was where a call is not refused so
count-stays : {P : Type 0} {a b c : ℕ} → P ⊎ (c ≡ b) → (P → ⊥) → b ≡ a → c ≡ a
count-stays (inl p) never e = absurd (never p)
count-stays (inr h) never e = h ∙ e

-- one that stays, or the call is refused so, after one that stays
stays-then : {P : Type 0} {a b c : ℕ} → P ⊎ (c ≡ b) → b ≡ a → P ⊎ (c ≡ a)
stays-then (inl p) e = inl p
stays-then (inr h) e = inr (h ∙ e)

-- the slot was started once
once-slot : (slot : Slot) (name : List ℕ) (old mid new : DepotState) → WasStartedAs name slot old mid → new.starts slot ≡ mid.starts slot → StartedOnce (λ s. name) (λ s. s ≡ slot) old new
once-slot slot name old mid new once same = StartedOnce-slot name slot old new (was-started-then name slot old mid new once same)

-- memory that was not refused
not-wanted : {A : Type 0} (r : Result A IoFail) {before now : ℕ} → (IsErrOf r call.NoMemory → ⊥) → IsErrOf r call.NoMemory ⊎ (now ≡ before) → now ≡ before
not-wanted r never (inl h) = absurd (never h)
not-wanted r never (inr same) = same

started-well : (let r : Result (Unit {0}) IoFail = Ok tt in IsErrOf r call.NoMemory) → ⊥
started-well h = cc

-- ---- pieces
pub no-words : (slot : Slot) (a : DepotState) → HasWords slot a a []
no-words slot a = record { prefix = λ t. refl; count = refl; starts = λ s. refl; refusals = refl; reads = OnlyReads-same a }

filled-well : (n : ℕ) (fail : IoFail) → (let r : Result ℕ IoFail = Ok n in IsErrOf r fail) → ⊥
filled-well n fail h = cc

-- the bytes of words in a row
pub word_bytes-append : (xs ys : List ℕ) → word_bytes (xs ++ ys) ≡ word_bytes xs ++ word_bytes ys
word_bytes-append [] ys = refl
word_bytes-append (x ∷ xs) ys = ap (λ bs. le64 x ++ bs) (word_bytes-append xs ys) ∙ sym (append_assoc (le64 x) (word_bytes xs) (word_bytes ys))

-- words, and those behind them
pub both-words : (slot : Slot) (old mid new : DepotState) (prefix rest : List ℕ) → HasWords slot old mid prefix → HasWords slot mid new rest → HasWords slot old new (prefix ++ rest)
both-words slot old mid new prefix rest h r = record {
  prefix = λ t. h.prefix t ∙ ap (λ bs. word_bytes prefix ++ bs) (r.prefix (h.reads.tells ∙ t)) ∙ sym (append_assoc (word_bytes prefix) (word_bytes rest) (new.left slot))
      ∙ ap (λ bs. bs ++ new.left slot) (sym (word_bytes-append prefix rest));
  count = r.count ∙ h.count;
  starts = λ s. r.starts s ∙ h.starts s;
  refusals = r.refusals ∙ h.refusals;
  reads = OnlyReads-trans h.reads r.reads;
}

-- one more piece
pub more-words : (slot : Slot) (old mid new : DepotState) (words more piece : List ℕ) (n : ℕ) → HasWords slot old mid words → FillsPiece mid new slot piece (Ok n) → word_bytes more ≡ word_bytes words ++ take n piece → HasWords slot old new more
more-words slot old mid new words more piece n h f are = record {
  prefix = λ t. h.prefix t ∙ ap (λ xs. word_bytes words ++ xs) (f.next_bytes (h.reads.tells ∙ t)) ∙ sym (append_assoc (word_bytes words) (take n piece) (new.left slot)) ∙ ap (λ xs. xs ++ new.left slot) (sym are);
  count = count-stays f.count_rises_only_there (filled-well n call.Failed) h.count;
  starts = λ s. f.starts s ∙ h.starts s;
  refusals = count-stays f.refusals_rise_only_there (filled-well n call.NoMemory) h.refusals;
  reads = OnlyReads-trans h.reads f.reads;
}

-- the last piece
pub all-words : (slot : Slot) (old mid new : DepotState) (words more piece : List ℕ) (n : ℕ) → HasWords slot old mid words → FillsPiece mid new slot piece (Ok n) → word_bytes more ≡ word_bytes words ++ take n piece → n < length piece
    → length more ≤ most_words → ReadsWords slot old new (Ok more)
all-words slot old mid new words more piece n h f are less within =
    let now = more-words slot old mid new words more piece n h f are in
    record {
      within = within;
      words = λ t. now.prefix t ∙ ap (λ xs. word_bytes more ++ xs) (f.at_end (h.reads.tells ∙ t) less) ∙ append-nil (word_bytes more);
      ragged = λ t is. cc;
      too_large = λ t is. cc;
      read_only_where_it_rose = λ is. cc;
      count_rises_only_there = inr now.count;
      reads = now.reads;
      starts = now.starts;
      refusals_rise_only_there = inr now.refusals;
    }

-- a piece that is refused
pub piece-refused : (slot : Slot) (old mid new : DepotState) (words piece : List ℕ) (fail : IoFail) → HasWords slot old mid words → FillsPiece mid new slot piece (Err fail) → ReadsWords slot old new (Err (call_error fail))
piece-refused slot old mid new words piece call.Failed h f = record {
  within = tt;
  words = λ t. tt;
  ragged = λ t is. cc;
  too_large = λ t is. cc;
  read_only_where_it_rose = λ is. let P : ℕ → Type 0 = λ n. Rose n (new.faults slot) in subst P h.count (f.failed_only_where_it_rose refl);
  count_rises_only_there = inl refl;
  reads = OnlyReads-trans h.reads f.reads;
  starts = λ s. f.starts s ∙ h.starts s;
  refusals_rise_only_there = inr (count-stays f.refusals_rise_only_there (λ is. cc) h.refusals);
}
piece-refused slot old mid new words piece call.NoMemory h f = record {
  within = tt;
  words = λ t. tt;
  ragged = λ t is. cc;
  too_large = λ t is. cc;
  read_only_where_it_rose = λ is. cc;
  count_rises_only_there = inr (count-stays f.count_rises_only_there (λ is. cc) h.count);
  reads = OnlyReads-trans h.reads f.reads;
  starts = λ s. f.starts s ∙ h.starts s;
  refusals_rise_only_there = inl refl;
}

-- a piece with which there are too many bytes
pub piece-too_large : (slot : Slot) (old mid new : DepotState) (words piece : List ℕ) (n : ℕ) → HasWords slot old mid words → FillsPiece mid new slot piece (Ok n) → most_bytes < 8 * length words + n → ReadsWords slot old new (Err TooLarge)
piece-too_large slot old mid new words piece n h f many = record {
  within = tt;
  words = λ t. tt;
  ragged = λ t is. cc;
  too_large = λ t is.
      let whole = ap length (h.prefix t) ∙ length-append (word_bytes words) (mid.left slot) in
      let next = ap length (f.next_bytes (h.reads.tells ∙ t)) ∙ length-append (take n piece) (new.left slot) in
      omega (arith, f.within, length-take n piece, word_bytes-length words);
  read_only_where_it_rose = λ is. cc;
  count_rises_only_there = inr (count-stays f.count_rises_only_there (filled-well n call.Failed) h.count);
  reads = OnlyReads-trans h.reads f.reads;
  starts = λ s. f.starts s ∙ h.starts s;
  refusals_rise_only_there = inr (count-stays f.refusals_rise_only_there (filled-well n call.NoMemory) h.refusals);
}

-- a piece that is no words, or whose words find no memory
pub words-refused : (slot : Slot) (old mid new : DepotState) (words piece : List ℕ) (n : ℕ) (e : WordsError) → HasWords slot old mid words → FillsPiece mid new slot piece (Ok n) → length piece % 8 ≡ 0 → 8 * length words + n ≤ most_bytes
    → (e ≡ spelled.Ragged → n % 8 ≢ 0) → ReadsWords slot old new (Err (words_error e))
words-refused slot old mid new words piece n spelled.Ragged h f whole few ragged = record {
  within = tt;
  words = λ t. tt;
  ragged = λ t is.
      let odd : n % 8 ≢ 0 = ragged refl in
      let less : n < length piece = short n (length piece) f.within whole odd in
      let none = f.at_end (h.reads.tells ∙ t) less in
      let all = ap length (h.prefix t ∙ ap (λ xs. word_bytes words ++ xs) (f.next_bytes (h.reads.tells ∙ t) ∙ ap (λ xs. take n piece ++ xs) none ∙ append-nil (take n piece))) ∙ length-append (word_bytes words) (take n piece) in
      let count : length (old.left slot) ≡ 8 * length words + n = omega (arith, f.within, length-take n piece, word_bytes-length words) in
      (omega arith, λ even. odd (omega (arith, even, count)));
  too_large = λ t is. cc;
  read_only_where_it_rose = λ is. cc;
  count_rises_only_there = inr (count-stays f.count_rises_only_there (filled-well n call.Failed) h.count);
  reads = OnlyReads-trans h.reads f.reads;
  starts = λ s. f.starts s ∙ h.starts s;
  refusals_rise_only_there = inr (count-stays f.refusals_rise_only_there (filled-well n call.NoMemory) h.refusals);
}
  where
    short : (n m : ℕ) → n ≤ m → m % 8 ≡ 0 → n % 8 ≢ 0 → n < m
    short n m le even odd = elim (cases_lt n m) as (λ _. n < m) [ inl lt ↦ lt | inr ge ↦ absurd (odd (let same : n ≡ m = omega arith in ap (λ k. k % 8) same ∙ even)) ]
words-refused slot old mid new words piece n spelled.NoMemory h f whole few ragged = record {
  within = tt;
  words = λ t. tt;
  ragged = λ t is. cc;
  too_large = λ t is. cc;
  read_only_where_it_rose = λ is. cc;
  count_rises_only_there = inr (count-stays f.count_rises_only_there (filled-well n call.Failed) h.count);
  reads = OnlyReads-trans h.reads f.reads;
  starts = λ s. f.starts s ∙ h.starts s;
  refusals_rise_only_there = inl refl;
}

-- no room for a piece
pub room-refused : (slot : Slot) (a : DepotState) (e : WordsError) → e ≡ spelled.NoMemory → ReadsWords slot a a (Err (words_error e))
room-refused slot a spelled.Ragged is = cc
room-refused slot a spelled.NoMemory is = record {
  within = tt;
  words = λ t. tt;
  ragged = λ t is. cc;
  too_large = λ t is. cc;
  read_only_where_it_rose = λ is. cc;
  count_rises_only_there = inr refl;
  reads = OnlyReads-same a;
  starts = λ s. refl;
  refusals_rise_only_there = inl refl;
}

-- ---- words that are passed over
-- So many words have come, those behind the ones that are held from a slot, and no call failed.
abbrev pub HasPassed : Slot → ℕ → ℕ → DepotState → DepotState → Type 0
HasPassed slot held passed old new = (rest : List ℕ) × (passed ≡ held + length rest) × All (λ w. w < 2 ^ 64) rest × HasWords slot old new rest

pub passed-nothing : (slot : Slot) (held : ℕ) (a : DepotState) → HasPassed slot held held a a
passed-nothing slot held a = ([], omega arith, λ k d lt. absurd (omega (arith, lt)), no-words slot a)

-- one more piece
pub passed-more : (slot : Slot) (held passed : ℕ) (old mid new : DepotState) (more piece : List ℕ) (n : ℕ) → HasPassed slot held passed old mid
    → FillsPiece mid new slot piece (Ok n) → word_bytes more ≡ take n piece → All (λ w. w < 2 ^ 64) more → HasPassed slot held (passed + length more) old new
passed-more slot held passed old mid new more piece n (rest, count, fit, r) f are fits = (
  rest ++ more,
  omega (arith, count, length-append rest more),
  All-append (λ w. w < 2 ^ 64) rest more fit fits,
  more-words slot old mid new rest (rest ++ more) piece n r f (word_bytes-append rest more ∙ ap (λ bs. word_bytes rest ++ bs) are),
)

-- the last piece
pub passed-all : (slot : Slot) (held passed : ℕ) (old mid new : DepotState) (more piece : List ℕ) (n : ℕ) → HasPassed slot held passed old mid
    → FillsPiece mid new slot piece (Ok n) → word_bytes more ≡ take n piece → All (λ w. w < 2 ^ 64) more → n < length piece → passed + length more ≤ most_words
    → PassesWords slot held old new (Ok tt)
passed-all slot held passed old mid new more piece n (rest, count, fit, r) f are fits less within before prefix e h = (
  rest ++ more,
  All-append (λ w. w < 2 ^ 64) rest more fit fits,
  all-words slot before mid new (prefix ++ rest) (prefix ++ (rest ++ more)) piece n (both-words slot before old mid prefix rest h r) f
      (ap word_bytes (sym (append_assoc prefix rest more)) ∙ word_bytes-append (prefix ++ rest) more ∙ ap (λ bs. word_bytes (prefix ++ rest) ++ bs) are) less
      (omega (arith, within, count, e, length-append prefix (rest ++ more), length-append rest more)),
)

-- a piece that is refused
pub passed-refused : (slot : Slot) (held passed : ℕ) (old mid new : DepotState) (piece : List ℕ) (fail : IoFail) → HasPassed slot held passed old mid
    → FillsPiece mid new slot piece (Err fail) → PassesWords slot held old new (Err (call_error fail))
passed-refused slot held passed old mid new piece fail (rest, count, fit, r) f before prefix e h =
    piece-refused slot before mid new (prefix ++ rest) piece fail (both-words slot before old mid prefix rest h r) f

-- a piece with which there are too many bytes
pub passed-too_large : (slot : Slot) (held passed : ℕ) (old mid new : DepotState) (piece : List ℕ) (n : ℕ) → HasPassed slot held passed old mid
    → FillsPiece mid new slot piece (Ok n) → most_bytes < 8 * passed + n → PassesWords slot held old new (Err TooLarge)
passed-too_large slot held passed old mid new piece n (rest, count, fit, r) f many before prefix e h =
    piece-too_large slot before mid new (prefix ++ rest) piece n (both-words slot before old mid prefix rest h r) f
    (omega (arith, many, count, e, length-append prefix rest))

-- a piece that is no words, or whose words find no memory
pub passed-no_words : (slot : Slot) (held passed : ℕ) (old mid new : DepotState) (piece : List ℕ) (n : ℕ) (e : WordsError) → HasPassed slot held passed old mid
    → FillsPiece mid new slot piece (Ok n) → length piece % 8 ≡ 0 → 8 * passed + n ≤ most_bytes → (e ≡ spelled.Ragged → n % 8 ≢ 0)
    → PassesWords slot held old new (Err (words_error e))
passed-no_words slot held passed old mid new piece n error (rest, count, fit, r) f whole few ragged before prefix e h =
    words-refused slot before mid new (prefix ++ rest) piece n error (both-words slot before old mid prefix rest h r) f whole
    (omega (arith, few, count, e, length-append prefix rest)) ragged

-- ---- words that are not kept
first-of-prefix : (prefix rest : List ℕ) → 0 < length prefix → slice_index (prefix ++ rest) 0 ≡ slice_index prefix 0
first-of-prefix [] rest some = absurd (omega (arith, some))
first-of-prefix (x ∷ prefix) rest some = refl

-- words begin with an opening word that is the first
pub first-begins : (openings words : List ℕ) (word : ℕ) → 0 < length words → word ≡ slice_index words 0 → Contains openings word → BeginWithOne openings words
first-begins openings [] word some is has = absurd (omega (arith, some))
first-begins openings (w ∷ words) word some is has = (w, word_bytes words, subst (λ x. Contains openings x) is has, refl)

-- and with more words behind them
pub begins-more : (openings words more piece : List ℕ) → word_bytes more ≡ word_bytes words ++ piece → BeginWithOne openings words → BeginWithOne openings more
begins-more openings words more piece added (opening, rest, has, is) =
    (opening, rest ++ piece, has, added ∙ ap (λ bytes. bytes ++ piece) is ∙ append_assoc (le64 opening) rest piece)

-- words whose rest was passed over
pub prefix-kept : (openings : List ℕ) (slot : Slot) (old new : DepotState) (prefix : List ℕ) → ReadsBehind slot prefix old new (Ok tt) → All (λ w. w < 2 ^ 64) prefix
    → 6 ≤ length prefix → ¬ Contains openings (slice_index prefix 0) → ReadsKept openings slot old new (Ok prefix)
prefix-kept openings slot old new prefix (rest, fit, reads) first many other = (
  prefix ++ rest,
  inr (record {
    many = many;
    no_more = omega (arith, length-append prefix rest);
    same_first = first-of-prefix prefix rest (omega (arith, many));
    other = other;
  }),
  All-append (λ w. w < 2 ^ 64) prefix rest first fit,
  reads,
)

-- ---- the file
-- the start is refused
pub start-refused : (slot : Slot) (name : List ℕ) (old new : DepotState) (fail : IoFail) → Starts old new slot name (Err fail) → LoadsWords slot name old new (Err (call_error fail))
start-refused slot name old new call.Failed s = record {
  within = tt;
  fit = tt;
  words = λ t. tt;
  ragged = λ t is. cc;
  not_whole = λ t few odd. inr (inl refl);
  too_large = λ t is. cc;
  longer = λ t many. inr (inl refl);
  read_only_where_it_rose = λ is. s.counts.this.failed_only_where_it_rose refl;
  count_rises_only_there = inl refl;
  reads = OnlyReads-start old new slot name (Err call.Failed) s;
  started_once = once-slot slot name old new new s.asked refl;
  refusals_rise_only_there = inr (not-wanted {A = Unit {0}} (Err call.Failed) (λ h. cc) s.counts.refusals.rises_only_there);
}
start-refused slot name old new call.NoMemory s = record {
  within = tt;
  fit = tt;
  words = λ t. tt;
  ragged = λ t is. cc;
  not_whole = λ t few odd. inr (inr refl);
  too_large = λ t is. cc;
  longer = λ t many. inr (inr refl);
  read_only_where_it_rose = λ is. cc;
  count_rises_only_there = inr (s.counts.this.same_at_no_memory refl);
  reads = OnlyReads-start old new slot name (Err call.NoMemory) s;
  started_once = once-slot slot name old new new s.asked refl;
  refusals_rise_only_there = inl refl;
}

-- its words are read
pub words-loaded : (slot : Slot) (name : List ℕ) (old mid new : DepotState) (words : List ℕ) → Starts old mid slot name (Ok tt) → ReadsWords slot mid new (Ok words) → All (λ w. w < 2 ^ 64) words → LoadsWords slot name old new (Ok words)
words-loaded slot name old mid new words s r fit = record {
  within = r.within;
  fit = fit;
  words = λ t. record { fit = fit; bytes_are = bytes t };
  ragged = λ t is. cc;
  not_whole = λ t few odd. absurd (odd (omega (arith, ap length (bytes t), word_bytes-length words)));
  too_large = λ t is. cc;
  longer = λ t many. absurd (omega (arith, r.within, ap length (bytes t), word_bytes-length words, many));
  read_only_where_it_rose = λ is. cc;
  count_rises_only_there = inr (count-stays r.count_rises_only_there (λ h. cc) (s.counts.this.same_at_ok refl));
  reads = OnlyReads-trans (OnlyReads-start old mid slot name (Ok tt) s) r.reads;
  started_once = once-slot slot name old mid new s.asked (r.starts slot);
  refusals_rise_only_there = inr (count-stays r.refusals_rise_only_there (λ h. cc) (not-wanted {A = Unit {0}} (Ok tt) started-well s.counts.refusals.rises_only_there));
}
  where
    bytes : IsTrue old.tells → bytes_under old name ≡ word_bytes words
    bytes t = sym (s.whole_file t) ∙ r.words (s.tells ∙ t)

-- they are not read
pub loading-refused : (slot : Slot) (name : List ℕ) (old mid new : DepotState) (e : LoadWordsError) → Starts old mid slot name (Ok tt) → ReadsWords slot mid new (Err e) → LoadsWords slot name old new (Err e)
loading-refused slot name old mid new e s r = record {
  within = tt;
  fit = tt;
  words = λ t. tt;
  ragged = λ t is. let h = r.ragged (s.tells ∙ t) is in (omega (arith, h.0, left t), λ even. h.1 (omega (arith, even, left t)));
  not_whole = λ t few odd. ended e r t few;
  too_large = λ t is. omega (arith, r.too_large (s.tells ∙ t) is, left t);
  longer = λ t many. refused e r t many;
  read_only_where_it_rose = λ is. let P : ℕ → Type 0 = λ n. Rose n (new.faults slot) in subst P (s.counts.this.same_at_ok refl) (r.read_only_where_it_rose is);
  count_rises_only_there = stays-then r.count_rises_only_there (s.counts.this.same_at_ok refl);
  reads = OnlyReads-trans (OnlyReads-start old mid slot name (Ok tt) s) r.reads;
  started_once = once-slot slot name old mid new s.asked (r.starts slot);
  refusals_rise_only_there = stays-then r.refusals_rise_only_there (not-wanted {A = Unit {0}} (Ok tt) started-well s.counts.refusals.rises_only_there);
}
  where
    left : IsTrue old.tells → length (mid.left slot) ≡ length (bytes_under old name)
    left t = ap length (s.whole_file t)

    ended : (e : LoadWordsError) → ReadsWords slot mid new (Err e) → IsTrue old.tells → length (bytes_under old name) ≤ most_bytes
        → let r : Result (List ℕ) LoadWordsError = Err e in (r ≡ Err Ragged) ⊎ (r ≡ Err Read) ⊎ (r ≡ Err NoMemory)
    ended Ragged r t few = inl refl
    ended Read r t few = inr (inl refl)
    ended TooLarge r t few = absurd (omega (arith, r.too_large (s.tells ∙ t) refl, left t, few))
    ended NoMemory r t few = inr (inr refl)

    refused : (e : LoadWordsError) → ReadsWords slot mid new (Err e) → IsTrue old.tells → most_bytes < length (bytes_under old name)
        → let r : Result (List ℕ) LoadWordsError = Err e in (r ≡ Err TooLarge) ⊎ (r ≡ Err Read) ⊎ (r ≡ Err NoMemory)
    refused Ragged r t many = absurd (omega (arith, (r.ragged (s.tells ∙ t) refl).0, left t, many))
    refused Read r t many = inr (inl refl)
    refused TooLarge r t many = inl refl
    refused NoMemory r t many = inr (inr refl)

-- its words are read, and kept or not
pub kept-loaded : (openings : List ℕ) (slot : Slot) (name : List ℕ) (old mid new : DepotState) (r : Result (List ℕ) LoadWordsError) → Starts old mid slot name (Ok tt)
    → ReadsKept openings slot mid new r → LoadsKept openings slot name old new r
kept-loaded openings slot name old mid new (Ok words) s (all, kept, fit, reads) = (all, kept, words-loaded slot name old mid new all s reads fit)
kept-loaded openings slot name old mid new (Err e) s reads = loading-refused slot name old mid new e s reads

-- what was read first of a slot begins the file as which it was started
pub first-loaded : (slot : Slot) (name : List ℕ) (old mid : DepotState)
    (r : Result (Vec ℕ Global) LoadWordsError) → Starts old mid slot name (Ok tt) → IsTrue old.tells
    → IfOk r (λ words. BeginsWithWords (mid.left slot) words.items)
    → IfOk r (λ words. BeginsWithWords (bytes_under old name) words.items)
first-loaded slot name old mid (Ok words) s tells (rest, are) =
    (rest, sym (s.whole_file tells) ∙ are)
first-loaded slot name old mid (Err e) s tells none = tt
