use Rattle.std.specs.Prelude.{◌≡◌, ◌≢◌, ℕ, ◌+◌, ◌-◌, ◌*◌, ◌^◌, ◌<◌, ◌≤◌, ◌↔◌, ◌==◌, ◌||◌, Bool, true, false, List, length, slice_index}
use Rattle.std.specs.Int.{bit_at}
use Rattle.std.specs.List.{All, filter, list_any, range_with_len}
use Rattle.collection_model.specs.Collection.{Posting}
pub use Rattle.collection_model.specs.Marks.{is_marked}
use Rattle.scan_plans.specs.Matches.{has_doc, freq_of_doc, score}

-- the scores of the documents from one on, which are above 0 exactly where a list has the document
pub record AreScored (lists : List (List Posting)) (weights : List ℕ) (first : ℕ) (scores : List ℕ)
    : Type 0 where
  pub scored : (k : ℕ) → k < length scores → slice_index scores k ≡ score lists weights (first + k)
  pub found : (k : ℕ) → k < length scores
      → (0 < slice_index scores k) ↔ (list_any (has_doc (first + k)) lists ≡ true)

-- the documents below n that pass a test
abbrev pub passing : (ℕ → Bool) → ℕ → List ℕ
passing test n = filter test (range_with_len 0 n)

-- The documents from one on that are marked are those that pass a test.
abbrev pub AreMarkedBy : (ℕ → Bool) → ℕ → List ℕ → Type 0
AreMarkedBy test first marks = (k : ℕ) → k < 64 * length marks
    → is_marked marks k ≡ test (first + k)

-- whether any list has the documents from one on
abbrev pub AreMarked : List (List Posting) → ℕ → List ℕ → Type 0
AreMarked lists first marks = AreMarkedBy (λ d. list_any (has_doc d) lists) first marks

-- whether each of the 64 documents from one on passes a test, as the bits of a word say
abbrev pub IsMarkedWord : (ℕ → Bool) → ℕ → ℕ → Type 0
IsMarkedWord test base word = (k : ℕ) → k < 64 → (bit_at word k == 1) ≡ test (base + k)

-- Each place of a window is marked.
abbrev pub AllAreMarked : List ℕ → Type 0
AllAreMarked marks = (k : ℕ) → k < 64 * length marks → is_marked marks k ≡ true

-- documents that lie in a window of so many from one on
abbrev pub AreInside : ℕ → ℕ → List ℕ → Type 0
AreInside first count docs = All (λ d. (first ≤ d) × (d < first + count)) docs

-- Of a window from `first` on the places of some documents, those from one up to another, were each
-- given what is theirs, and no other place anything.
pub record AreGiven {V : Type 0} (add : V → V → V) (first : ℕ) (docs : List ℕ)
    (give : ℕ → V) (from to : ℕ) (old now : ℕ → V) : Type 0 where
  pub given : (i : ℕ) → from ≤ i → i < to
      → now (slice_index docs i - first) ≡ add (old (slice_index docs i - first)) (give i)
  pub others : (k : ℕ) → ((i : ℕ) → from ≤ i → i < to → slice_index docs i ≢ first + k)
      → now k ≡ old k

-- a window with a mark for each score, in which nothing is scored or marked
pub record IsBlank (scores marks : List ℕ) : Type 0 where
  -- each score has a mark
  pub wide : length scores ≤ 64 * length marks
  -- every score is 0
  pub clear : All (λ s. s ≡ 0) scores
  -- no place is marked
  pub none : (k : ℕ) → k < 64 * length marks → is_marked marks k ≡ false

-- a window that is left blank, with room for as many documents as before
pub record IsLeftBlank (scores marks now_scores now_marks : List ℕ) : Type 0 where
  -- there are as many scores as before
  pub count : length now_scores ≡ length scores
  -- and as many words of marks
  pub marks_count : length now_marks ≡ length marks
  -- nothing is scored or marked
  pub blank : IsBlank now_scores now_marks

-- What a list gave a window of documents from `first` on: its weight times the frequencies to their
-- scores, and their marks. So many places were reached.
pub record IsAdded (list : List Posting) (weight first : ℕ)
    (scores marks now_scores now_marks : List ℕ) (reached : ℕ) : Type 0 where
  -- there are as many scores as before
  pub count : length now_scores ≡ length scores
  -- and as many words of marks
  pub marks_count : length now_marks ≡ length marks
  -- each score rose by what the list gives its document
  pub scored : (k : ℕ) → k < length scores
      → slice_index now_scores k ≡ slice_index scores k + weight * freq_of_doc (first + k) list
  -- none rose by more than the greatest frequency gives
  pub bound : (k : ℕ) → k < length scores
      → slice_index now_scores k ≤ slice_index scores k + weight * 4294967295
  -- the documents of the list are marked beside those that were
  pub marked : (k : ℕ) → k < length scores
      → is_marked now_marks k ≡ (is_marked marks k || has_doc (first + k) list)
  -- no place behind the window was reached
  pub within : reached ≤ length scores
  -- no mark changed from there on
  pub behind : (k : ℕ) → reached ≤ k → is_marked now_marks k ≡ is_marked marks k

-- What some lists made of a blank window of documents from `first` on: the documents that any of
-- them has are scored and marked. So many places were reached.
pub record IsFilled (lists : List (List Posting)) (weights : List ℕ) (first : ℕ)
    (scores marks now_scores now_marks : List ℕ) (reached : ℕ) : Type 0 where
  -- there are as many scores as before
  pub count : length now_scores ≡ length scores
  -- and as many words of marks
  pub marks_count : length now_marks ≡ length marks
  -- each score is that of its document
  pub scored : AreScored lists weights first now_scores
  -- the documents that a list has are marked
  pub marked : AreMarked lists first now_marks
  -- no score is high
  pub bound : All (λ s. s < 2 ^ 58) now_scores
  -- no place behind the window was reached
  pub within : reached ≤ length scores
  -- nothing is marked from there on
  pub behind : (k : ℕ) → reached ≤ k → k < length scores → is_marked now_marks k ≡ false

-- a window with a mark for each score, of which so many places were reached
pub record IsReached (scores marks : List ℕ) (reached : ℕ) : Type 0 where
  -- each score has a mark
  pub wide : length scores ≤ 64 * length marks
  -- no place behind the window was reached
  pub within : reached ≤ length scores
  -- a place that is not marked has the score 0
  pub scored : (k : ℕ) → k < length scores → is_marked marks k ≡ false → slice_index scores k ≡ 0
  -- nothing is marked from those reached on
  pub behind : (k : ℕ) → reached ≤ k → k < 64 * length marks → is_marked marks k ≡ false

-- the first place of a window that is marked and has at least so much of a score
pub record IsFirstCandidate (least : ℕ) (scores marks : List ℕ) (place score : ℕ) : Type 0 where
  pub within : place < length scores
  pub marked : is_marked marks place ≡ true
  pub scored : slice_index scores place ≡ score
  pub enough : least ≤ score
  pub others : (k : ℕ) → k < place → is_marked marks k ≡ true → slice_index scores k < least

-- no marked place of a window has so much
abbrev pub NoneIsCandidate : ℕ → List ℕ → List ℕ → Type 0
NoneIsCandidate least scores marks = (k : ℕ) → k < length scores → is_marked marks k ≡ true
    → slice_index scores k < least

-- The places of a window before one are taken back: none is marked, and each has the score 0. From
-- there on all is as it was.
pub record AreTakenBack (place : ℕ) (scores marks now_scores now_marks : List ℕ) : Type 0 where
  pub count : length now_scores ≡ length scores
  pub marks_count : length now_marks ≡ length marks
  pub unmarked : (k : ℕ) → k < place → k < 64 * length marks → is_marked now_marks k ≡ false
  pub clear : (k : ℕ) → k < place → k < length scores → slice_index now_scores k ≡ 0
  pub marked : (k : ℕ) → place ≤ k → k < 64 * length marks
      → is_marked now_marks k ≡ is_marked marks k
  pub scored : (k : ℕ) → place ≤ k → k < length scores
      → slice_index now_scores k ≡ slice_index scores k
