-- Lists that are taken as they are checked.
use Rattle.std.proofs.Common.{◌≡◌, sym, ap, ◌∙◌, subst, inl, inr, ℕ, ◌+◌, ◌*◌, ◌/◌, ◌<◌, ◌≤◌, Bool, true, false, cond, List, [], length, arith}
use Rattle.std.specs.Prelude.{nat_le, ◌&&◌, Result, Ok, Err, OnOk}
use Rattle.std.specs.Result.{is_err}
use Rattle.std.proofs.lemmas.Bool.{cases_lt, false≢true}
use Rattle.std.proofs.lemmas.List.{get_or_past}
use Rattle.std.proofs.lemmas.List.Elements.{All-get_or}
use Rattle.collection_model.specs.Collection.{Collection, IsPostingList, Posting, WellFormed, freqs_of, list_of, greatest_freq}
use Rattle.collection_model.specs.FormatNumbers.{format_three}
use Rattle.collection_model.specs.Sequences.{doc_sequence, freq_sequence, postings_in}
use Rattle.collection_model.proofs.Lists.{docs_of-length, freqs_of-length}
use Rattle.collection_model.proofs.Sequences.{sums-length}
use Rattle.cursor_api.specs.NextGeq.{IsCursorList}
use Rattle.interval_max.specs.Intervals.{interval_count}
use Rattle.packed_list.specs.ListHead.{IsHeadOf}
use Rattle.packed_list.specs.declared.sink.ListHead.{ListHead}
use Rattle.postings.specs.Laws.{CursorsStandInLists, SequencesGiveTheirList}
use Rattle.index_intervals.specs.LongLists.{has_maxima, is_long, long_postings}
use Rattle.index_intervals.specs.Passed.{postings-more}
use Rattle.index_intervals.specs.Taken.{AreTaken}
use Rattle.index_intervals.specs.declared.taking.ListMaxima.{ListMaxima}
use Rattle.index_intervals.proofs.LongLists.{fits-not, fits-well, has-long, long-is}

-- whether a list with such a head is long
pub head-long : (head : ListHead) (c : Collection) (b : Bool) → IsHeadOf head c → b ≡ (nat_le 256 head.postings && nat_le (interval_count head.documents) (256 * head.postings)) → is_long c.documents (list_of c head.term) ≡ b
head-long head c b of is =
    let list : List Posting = list_of c head.term in
    sym (ap (λ (n : ℕ). is_long n list) of.documents) ∙ long-is head.documents head.postings list b of.postings is

module _ (c : Collection) (t count : ℕ) (long : is_long c.documents (list_of c t) ≡ true) (same : count ≡ length (list_of c t)) where
  -- a long list is one of the collection
  pub within : t < length c.lists
  within = elim (cases_lt t (length c.lists)) as (λ _. t < length c.lists) [
    | inl lt ↦ lt
    | inr behind ↦ absurd (false≢true (ap (is_long c.documents) (sym (get_or_past c.lists t [] behind)) ∙ long))
  ]

  -- the postings with it
  pub counted : (m : ListMaxima) (p : ℕ) → AreTaken m c t → p ≡ m.postings + count → p ≡ long_postings c (t + 1)
  counted m p h is = omega (arith, is, h.postings, postings-more c t within, ap (λ (b : Bool). cond b (length (list_of c t)) 0) long, same)

  -- too many for the words
  pub unpaid : (m : ListMaxima) (p : ℕ) → AreTaken m c t → p ≡ m.postings + count → m.words < p / 64 → has_maxima m.words c t ≡ false
  unpaid m p h is many = has-long m.words c t p false long (counted m p h is) (fits-not (p / 64) m.words m.words (omega arith) many)

  -- or few enough
  pub paid : (m : ListMaxima) (p : ℕ) → AreTaken m c t → p ≡ m.postings + count → p / 64 ≤ m.words → has_maxima m.words c t ≡ true
  paid m p h is few = has-long m.words c t p true long (counted m p h is) (fits-well (p / 64) m.words m.words (omega arith) few)

-- the lists of a collection are posting lists
pub list-good : (c : Collection) (t : ℕ) → WellFormed format_three c → t < length c.lists → IsPostingList format_three c.documents (list_of c t)
list-good c t good lt = All-get_or (IsPostingList format_three c.documents) c.lists t [] lt good.lists

-- two slices that are the sequences of a list
module _ (n : ℕ) (list : List Posting) (good : IsPostingList format_three n list) (docs sums : List ℕ) (docs_are : docs ≡ doc_sequence list) (sums_are : sums ≡ freq_sequence list) where
  pub docs-count : length docs ≡ length list
  docs-count = ap length docs_are ∙ docs_of-length list

  pub sums-count : length sums ≡ length list
  sums-count = ap length sums_are ∙ sums-length 0 (freqs_of list) ∙ freqs_of-length list

  pub given : SequencesGiveTheirList → postings_in docs sums ≡ list
  given law = ap (λ (ds : List ℕ). postings_in ds sums) docs_are ∙ ap (postings_in (doc_sequence list)) sums_are ∙ law format_three n list good

  pub cursor-list : SequencesGiveTheirList → CursorsStandInLists → n ≤ 4294967295 → IsCursorList (postings_in docs sums)
  cursor-list law stand few = subst IsCursorList (sym (given law)) (stand format_three n list few good)

  pub most : (g : ℕ) → g ≡ greatest_freq list → SequencesGiveTheirList → g ≡ greatest_freq (postings_in docs sums)
  most g is law = is ∙ sym (ap greatest_freq (given law))

-- what holds where there is a value
pub on-ok : {T E : Type 0} (r : Result T E) (P : Type 0) → is_err r ≡ false → OnOk r P → P
on-ok (Ok x) P none holds = holds
on-ok (Err e) P none holds = absurd (false≢true (sym none))
