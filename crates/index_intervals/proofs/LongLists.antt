-- The lists that have maxima, and how many postings the long ones have.
use Rattle.std.proofs.Common.{◌≡◌, refl, sym, ap, ◌∙◌, subst, inl, inr, ℕ, suc, ◌+◌, ◌*◌, ◌/◌, ◌<◌, ◌≤◌, Bool, true, false, List, [], ◌∷◌, length, arith}
use Rattle.std.specs.Prelude.{nat_le, ◌&&◌}
use Rattle.std.specs.List.{All}
use Rattle.std.proofs.lemmas.Bool.{cases_lt, false≢true, le-leb}
use Rattle.std.proofs.lemmas.List.Elements.{All-get_or}
use Rattle.collection_model.specs.Collection.{Collection, Posting, docs_of, list_of}
use Rattle.index_file.specs.IndexView.{IndexView}
use Rattle.index_file.specs.ListWalk.{AreEmpty, AreOfList, ListsInTurn}
use Rattle.two_level.specs.SequenceView.{SequenceView}
use Rattle.collection_model.proofs.Lists.{docs_of-length, docs-of_postings}
use Rattle.collection_model.specs.Sequences.{postings_in, steps_from}
use Rattle.interval_max.specs.Intervals.{interval_count}
use Rattle.segments.specs.Laws.{IsInRange}
use Rattle.index_intervals.specs.LongLists.{StandsBefore, has_maxima, is_long, long_postings}

-- of a list of so many postings
pub long-is : (n count : ℕ) (list : List Posting) (b : Bool) → count ≡ length list → b ≡ (nat_le 256 count && nat_le (interval_count n) (256 * count)) → is_long n list ≡ b
long-is n count list b same is = sym (is ∙ ap (λ (k : ℕ). nat_le 256 k && nat_le (interval_count n) (256 * k)) same)

-- a long one has, unless there are too many postings
pub has-long : (words : ℕ) (c : Collection) (t postings : ℕ) (b : Bool) → is_long c.documents (list_of c t) ≡ true → postings ≡ long_postings c (t + 1) → b ≡ nat_le (postings / 64) words → has_maxima words c t ≡ b
has-long words c t postings b long is fits =
    ap (λ (l : Bool). l && nat_le (long_postings c (t + 1) / 64) words) long
    ∙ sym (fits ∙ ap (λ (n : ℕ). nat_le (n / 64) words) is)

-- the documents of a list are below their number
pub list-below : (c : Collection) (t : ℕ) → t < length c.lists → IsInRange c → All (λ d. d < c.documents) (docs_of (list_of c t))
list-below c t within good = All-get_or (λ list. All (λ d. d < c.documents) (docs_of list)) c.lists t [] within good

-- a number is at most another, or not
pub fits-well : (a w words : ℕ) → w ≡ words → a ≤ w → true ≡ nat_le a words
fits-well a w words is le = sym (le-leb a words (omega (arith, is, le)))

pub fits-not : (a w words : ℕ) → w ≡ words → w < a → false ≡ nat_le a words
fits-not a w words is lt = grind (arith, is, lt)

-- ---- the lists in turn

-- the next list that has postings is behind one that is not it
pub ahead : (i : IndexView) (t : ℕ) (lists : ListsInTurn) (next : Bool) → StandsBefore i t lists → t < length i.collection.lists → next ≡ false → ((t < length lists.collection.lists) × (t ≡ lists.next) → next ≡ true) → t < lists.next
ahead i t lists next h within other is = elim (cases_lt t lists.next) as (λ _. t < lists.next) [
  | inl before ↦ before
  | inr behind ↦ absurd (false≢true (sym other ∙ is (subst (λ (c : Collection). t < length c.lists) (sym h.collection) within, omega (arith, behind, h.reached))))
]

-- so that one has no postings
pub none-here : (i : IndexView) (t : ℕ) (lists : ListsInTurn) → StandsBefore i t lists → t < lists.next → list_of i.collection t ≡ []
none-here i t lists h before = ap (λ (c : Collection). list_of c t) (sym h.collection) ∙ h.empty t (omega arith) before

-- and is passed
pub passed : (i : IndexView) (t : ℕ) (lists : ListsInTurn) → StandsBefore i t lists → t < lists.next → StandsBefore i (t + 1) lists
passed i t lists h before = record {
  collection = h.collection;
  reached = omega (arith, before);
  empty = λ u ge lt. h.empty u (omega (arith, ge)) lt;
}

-- the next is taken
pub taken : (i : IndexView) (t : ℕ) (lists new : ListsInTurn) → StandsBefore i t lists → t ≡ lists.next → new.collection ≡ lists.collection → lists.next < new.next → AreEmpty lists.collection (lists.next + 1) new.next → StandsBefore i (t + 1) new
taken i t lists new h is same later empty = record {
  collection = same ∙ h.collection;
  reached = omega (arith, is, later);
  empty = λ u ge lt. ap (λ (c : Collection). list_of c u) same ∙ empty u (omega (arith, ge, is)) lt;
}

-- its sequences are those of the list
pub list-taken : (i : IndexView) (t : ℕ) (lists : ListsInTurn) (docs freqs : SequenceView) (greatest : ℕ) → StandsBefore i t lists → t ≡ lists.next → AreOfList docs freqs greatest (list_of lists.collection lists.next) → postings_in docs.values freqs.values ≡ list_of i.collection t
list-taken i t lists docs freqs greatest h is of = of.give ∙ ap (λ (c : Collection). list_of c lists.next) h.collection ∙ ap (list_of i.collection) (sym is)

-- how many postings two sequences give
in-length : (docs sums : List ℕ) → length docs ≡ length sums → length (postings_in docs sums) ≡ length docs
in-length docs sums same = omega (arith, docs_of-length (postings_in docs sums), ap length (docs-of_postings docs (steps_from 0 sums) (same ∙ sym (steps-length 0 sums))))
  where
    steps-length : (before : ℕ) (xs : List ℕ) → length (steps_from before xs) ≡ length xs
    steps-length before [] = refl
    steps-length before (x ∷ xs) = ap suc (steps-length (x + 1) xs)

pub count-taken : (i : IndexView) (t : ℕ) (lists : ListsInTurn) (docs freqs : SequenceView) (greatest : ℕ) → StandsBefore i t lists → t ≡ lists.next → AreOfList docs freqs greatest (list_of lists.collection lists.next) → length docs.values ≡ length (list_of i.collection t)
count-taken i t lists docs freqs greatest h is of = sym (in-length docs.values freqs.values of.same_length) ∙ ap length (list-taken i t lists docs freqs greatest h is of)
