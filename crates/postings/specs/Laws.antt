use Rattle.std.specs.Prelude.{◌≡◌, ℕ, ◌^◌, ◌<◌, ◌≤◌, List, length}
use Rattle.std.specs.List.{All}
use Rattle.std.specs.List.Sorted.{IsStrictlyIncreasing}
use Rattle.collection_model.specs.FormatNumbers.{FormatNumbers}
use Rattle.collection_model.specs.Collection.{Posting, IsPostingList}
use Rattle.collection_model.specs.Sequences.{doc_sequence, freq_sequence, steps_from, postings_in}
use Rattle.cursor_api.specs.NextGeq.{IsCursorList}

-- The postings in the two sequences of a list are the list.
abbrev pub SequencesGiveTheirList : Type 0
SequencesGiveTheirList = (format : FormatNumbers) (n : ℕ) (list : List Posting)
    → IsPostingList format n list → postings_in (doc_sequence list) (freq_sequence list) ≡ list

-- the two sequences of a list over n documents
pub record AreSequencesOf (format : FormatNumbers) (n : ℕ) (list : List Posting)
    (docs sums : List ℕ) : Type 0 where
  pub docs_rise : IsStrictlyIncreasing docs
  pub docs_below : All (λ d. d < n) docs
  pub docs_count : length docs ≡ length list
  pub sums_rise : IsStrictlyIncreasing sums
  pub sums_below : All (λ s. s < format.most_sum) sums
  pub sums_count : length sums ≡ length list

-- The sequences of a list rise below the bounds, and are as long as the list.
abbrev pub SequencesRise : Type 0
SequencesRise = (format : FormatNumbers) (n : ℕ) (list : List Posting) → IsPostingList format n list
    → AreSequencesOf format n list (doc_sequence list) (freq_sequence list)

-- the one list over n documents of which these are the sequences
pub record IsListOf (format : FormatNumbers) (n : ℕ) (docs sums : List ℕ) (list : List Posting)
    : Type 0 where
  pub well_formed : IsPostingList format n list
  pub of_docs : doc_sequence list ≡ docs
  pub of_sums : freq_sequence list ≡ sums
  pub one : (other : List Posting) → IsPostingList format n other → doc_sequence other ≡ docs
      → freq_sequence other ≡ sums → other ≡ list

-- Two rising sequences of one length below the bounds, with steps that fit, are those of the
-- postings in them alone.
abbrev pub SequencesAreAList : Type 0
SequencesAreAList =
    (format : FormatNumbers) (n : ℕ) (docs sums : List ℕ) → IsStrictlyIncreasing docs
    → All (λ d. d < n) docs
    → IsStrictlyIncreasing sums → All (λ s. s < format.most_sum) sums → length docs ≡ length sums
    → All (λ f. f < 2 ^ 32) (steps_from 0 sums)
    → IsListOf format n docs sums (postings_in docs sums)

-- A cursor may stand in each posting list whose documents all lie below the greatest number of 32
-- bits.
abbrev pub CursorsStandInLists : Type 0
CursorsStandInLists = (format : FormatNumbers) (n : ℕ) (list : List Posting) → n ≤ 4294967295
    → IsPostingList format n list → IsCursorList list
