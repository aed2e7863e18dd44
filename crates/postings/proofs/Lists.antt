-- Lemmas on the postings in two sequences.
use Rattle.std.proofs.Common.{◌≡◌, ◌≢◌, refl, sym, ap, subst, inl, inr, ◌∙◌, ℕ, ◌+◌, ◌^◌, ◌<◌, ◌≤◌, Bool, cond, not, List, [], ◌∷◌, map, drop, length, arith}
use Rattle.std.specs.Prelude.{nat_le}
use Rattle.std.specs.List.{All, sum, position_or_len, slice_get}
use Rattle.std.specs.Option.{option_map}
use Rattle.std.specs.List.Sorted.{IsStrictlyIncreasing}
use Rattle.std.proofs.lemmas.Option.{slice_get-map}
use Rattle.std.proofs.lemmas.List.{drop-map, length-drop}
use Rattle.std.proofs.lemmas.Bool.{cases_lt, lt-leb}
use Rattle.std.proofs.lemmas.List.Elements.{All-weaker, All-head, All-tail}
use Rattle.std.proofs.lemmas.List.Sums.{prefix_len-le-length, sum_by-cons}
use Rattle.collection_model.specs.FormatNumbers.{FormatNumbers}
use Rattle.collection_model.specs.Collection.{Posting, docs_of, freqs_of, postings_of, IsPostingList}
use Rattle.collection_model.specs.Sequences.{doc_sequence, freq_sequence, lessened, sums_from, steps_from, postings_in}
use Rattle.collection_model.proofs.Sequences.{sums-length, same-steps}
use Rattle.collection_model.proofs.Lists.{rising-length, postings-of_list, docs-of_postings, freqs-of_postings, docs_of-length, freqs_of-length}
use Rattle.two_level.specs.SequenceView.{place_at_least}
use Rattle.two_level.specs.LongSteps.{count_reaching}
use Rattle.cursor_api.specs.NextGeq.{IsCursorList, next_geq_place, next_frequent_place}
use Rattle.cursor_api.specs.Postings.{postings-length}
use Rattle.postings.specs.Laws.{AreSequencesOf, IsListOf, CursorsStandInLists}
use Rattle.postings.proofs.Steps.{steps-of_sums, sums-of_steps, rise-from_increasing, increasing-from_rise, rise-sums, sums-below, steps-not_zero, steps-sum}

-- as many postings as documents
pub in-length : (docs sums : List ℕ) → length docs ≡ length sums → length (postings_in docs sums) ≡ length docs
in-length docs sums same = postings-length docs (steps_from 0 sums) (same-steps docs sums same)

-- a place of the list is one of the sums
pub within-sums : (docs sums : List ℕ) (k : ℕ) → length docs ≡ length sums → k < length (postings_in docs sums) → k < length sums
within-sums docs sums k same within = omega (arith, in-length docs sums same)

pub in-docs : (docs sums : List ℕ) → length docs ≡ length sums → docs_of (postings_in docs sums) ≡ docs
in-docs docs sums same = docs-of_postings docs (steps_from 0 sums) (same-steps docs sums same)

pub in-freqs : (docs sums : List ℕ) → length docs ≡ length sums → freqs_of (postings_in docs sums) ≡ steps_from 0 sums
in-freqs docs sums same = freqs-of_postings docs (steps_from 0 sums) (same-steps docs sums same)

-- the documents of a cursor's list
pub cursor-docs : (docs sums : List ℕ) → length docs ≡ length sums → IsCursorList (postings_in docs sums) → All (λ d. d < 4294967295) docs
cursor-docs docs sums same list = subst (All (λ d. d < 4294967295)) (in-docs docs sums same) list.docs

-- a cursor's list has fewer documents than 32 bits count
pub cursor-few : (docs sums : List ℕ) → length docs ≡ length sums → IsCursorList (postings_in docs sums) → length docs < 4294967296
cursor-few docs sums same list =
    omega (arith, rising-length docs 4294967295 (subst IsStrictlyIncreasing (in-docs docs sums same) list.rising) (cursor-docs docs sums same list))

-- the steps of a cursor's sums are not zero
pub cursor-not_zero : (docs sums : List ℕ) → length docs ≡ length sums → IsCursorList (postings_in docs sums) → All (λ f. 1 ≤ f) (steps_from 0 sums)
cursor-not_zero docs sums same list = subst (All (λ f. 1 ≤ f)) (in-freqs docs sums same) list.not_zero

-- they fit a frequency
pub cursor-fit : (docs sums : List ℕ) → length docs ≡ length sums → IsCursorList (postings_in docs sums) → All (λ f. f < 2 ^ 32) (steps_from 0 sums)
cursor-fit docs sums same list = subst (All (λ f. f < 2 ^ 32)) (in-freqs docs sums same) list.fit

-- the document at a place of the list
pub in-doc : (docs sums : List ℕ) (k : ℕ) → length docs ≡ length sums → slice_get docs k ≡ option_map (λ p. p.doc) (slice_get (postings_in docs sums) k)
in-doc docs sums k same = ap (λ xs. slice_get xs k) (sym (in-docs docs sums same)) ∙ slice_get-map (λ p. p.doc) (postings_in docs sums) k

position-map : {X Y : Type 0} (test : Y → Bool) (f : X → Y) (xs : List X) → position_or_len test (map f xs) ≡ position_or_len (λ x. test (f x)) xs
position-map test f [] = refl
position-map test f (x ∷ xs) = ap (λ n. cond (not (test (f x))) (1 + n) 0) (position-map test f xs)

-- the next place is found among the documents alone
pub next-among_docs : (docs sums : List ℕ) (place d : ℕ) → length docs ≡ length sums → place_at_least docs place d ≡ next_geq_place (postings_in docs sums) place d
next-among_docs docs sums place d same =
    let list : List Posting = postings_in docs sums in
    let place_in : List ℕ → ℕ = λ xs. place + position_or_len (λ y. nat_le d y) (drop place xs) in
    let cut : drop place (docs_of list) ≡ map (λ p. p.doc) (drop place list) = drop-map (λ p. p.doc) place list in
    ap place_in (sym (in-docs docs sums same)) ∙ ap (λ xs. place + position_or_len (λ y. nat_le d y) xs) cut ∙ ap (λ n. place + n) (position-map (λ y. nat_le d y) (λ p. p.doc) (drop place list))

-- the next posting that is frequent enough is found among the steps of the sums
pub next-among_steps : (docs sums : List ℕ) (place f : ℕ) → length docs ≡ length sums → place_at_least (steps_from 0 sums) place f ≡ next_frequent_place (postings_in docs sums) place f
next-among_steps docs sums place f same =
    let list : List Posting = postings_in docs sums in
    let place_in : List ℕ → ℕ = λ xs. place + position_or_len (λ y. nat_le f y) (drop place xs) in
    let cut : drop place (freqs_of list) ≡ map (λ p. p.freq) (drop place list) = drop-map (λ p. p.freq) place list in
    ap place_in (sym (in-freqs docs sums same)) ∙ ap (λ xs. place + position_or_len (λ y. nat_le f y) xs) cut ∙ ap (λ n. place + n) (position-map (λ y. nat_le f y) (λ p. p.freq) (drop place list))

-- it lies in the list or at its end
pub frequent-within : (list : List Posting) (place f : ℕ) → place ≤ length list → next_frequent_place list place f ≤ length list
frequent-within list place f within = omega (arith, prefix_len-le-length (λ p. not (nat_le f p.freq)) (drop place list), length-drop place list)

-- none of some numbers reaches what is more than each
none-reach : (t : ℕ) (ns : List ℕ) → All (λ n. n < t) ns → count_reaching t ns ≡ 0
none-reach t [] below = refl
none-reach t (n ∷ ns) below =
    let no : cond {A = ℕ} (nat_le t n) 1 0 ≡ 0 = ap (λ b. cond {A = ℕ} b 1 0) (lt-leb _ _ (All-head (λ m. m < t) n ns below)) in
    omega (arith, no, none-reach t ns (All-tail (λ m. m < t) n ns below), sum_by-cons (λ m. cond {A = ℕ} (nat_le t m) 1 0) n ns)

-- what some of the numbers reach fits where they do
pub reached-fits : (t k bound : ℕ) (ns : List ℕ) → All (λ n. n < bound) ns → 0 < bound → 1 ≤ k → (t ≢ 0 → k ≤ count_reaching t ns) → t < bound
reached-fits t k bound ns below some one reach =
    elim (cases_lt t bound) [
      | inl less ↦ less
      | inr more ↦
          let none = none-reach t ns (All-weaker (λ n. n < bound) (λ n. n < t) (λ n lt. omega (arith, lt, more)) ns below) in
          absurd (omega (arith, none, reach (λ zero. omega (arith, zero, more, some)), one))
    ]

-- the next place lies in the list or at its end
pub next-within : (list : List Posting) (place d : ℕ) → place ≤ length list → next_geq_place list place d ≤ length list
next-within list place d within = omega (arith, prefix_len-le-length (λ p. not (nat_le d p.doc)) (drop place list), length-drop place list)

pub sequences-give_list : (format : FormatNumbers) (n : ℕ) (list : List Posting) → IsPostingList format n list → postings_in (doc_sequence list) (freq_sequence list) ≡ list
sequences-give_list format n list good = ap (postings_of (docs_of list)) (steps-of_sums 0 (freqs_of list) good.not_zero) ∙ postings-of_list list

pub sequences-of_list : (format : FormatNumbers) (n : ℕ) (list : List Posting) → IsPostingList format n list → AreSequencesOf format n list (doc_sequence list) (freq_sequence list)
sequences-of_list format n list good = record {
  docs_rise = good.rising;
  docs_below = good.in_range;
  docs_count = docs_of-length list;
  sums_rise = increasing-from_rise 0 (freq_sequence list) (rise-sums 0 (freqs_of list) good.not_zero);
  sums_below = sums-below 0 format.most_sum (freqs_of list) good.not_zero (omega (arith, good.sum_within));
  sums_count = sums-length 0 (freqs_of list) ∙ freqs_of-length list;
}

pub list-of_sequences : (format : FormatNumbers) (n : ℕ) (docs sums : List ℕ) → IsStrictlyIncreasing docs → All (λ d. d < n) docs
    → IsStrictlyIncreasing sums → All (λ s. s < format.most_sum) sums → length docs ≡ length sums
    → All (λ f. f < 2 ^ 32) (steps_from 0 sums) → IsListOf format n docs sums (postings_in docs sums)
list-of_sequences format n docs sums docs_rise docs_below sums_rise sums_below same fit =
    let list : List Posting = postings_in docs sums in
    let from_docs : docs_of list ≡ docs = in-docs docs sums same in
    let from_sums : freqs_of list ≡ steps_from 0 sums = in-freqs docs sums same in
    let up = rise-from_increasing sums sums_rise in
    record {
      well_formed = record {
        rising = subst IsStrictlyIncreasing (sym from_docs) docs_rise;
        in_range = subst (All (λ d. d < n)) (sym from_docs) docs_below;
        not_zero = subst (All (λ f. 1 ≤ f)) (sym from_sums) (steps-not_zero 0 sums up);
        fit = subst (All (λ f. f < 2 ^ 32)) (sym from_sums) fit;
        sum_within = subst (λ fs. sum fs ≤ format.most_sum) (sym from_sums) (omega (arith, steps-sum 0 format.most_sum sums up sums_below (omega arith)));
      };
      of_docs = from_docs;
      of_sums = ap (λ fs. lessened (sums_from 0 fs)) from_sums ∙ sums-of_steps 0 sums up;
      one = λ other good same_docs same_sums. sym (sequences-give_list format n other good) ∙ (λ i. postings_in (same_docs i) (same_sums i));
    }

-- a posting list over few enough documents is a cursor's
pub list-of_cursor : CursorsStandInLists
list-of_cursor format n list few h =
    record { rising = h.rising; docs = All-weaker (λ d. d < n) (λ d. d < 4294967295) (λ d below. omega (arith, below, few)) (docs_of list) h.in_range; not_zero = h.not_zero; fit = h.fit }
