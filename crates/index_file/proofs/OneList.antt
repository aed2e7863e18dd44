-- Lemmas on one list at its words.
use Rattle.std.proofs.Common.{◌≡◌, ℕ, ◌+◌, ◌-◌, ◌^◌, ◌<◌, ◌≤◌, List, length, take, drop, sym, ap, ◌∙◌, subst, arith}
use Rattle.std.specs.Prelude.{◌∷◌, []}
use Rattle.std.specs.List.{All, slice_range}
use Rattle.std.proofs.lemmas.List.{length-take, length-take-le, length-drop, take-take}
use Rattle.std.proofs.lemmas.List.Elements.{All-nil, All-cons}
use Rattle.collection_model.specs.FormatNumbers.{FormatNumbers}
use Rattle.collection_model.specs.Collection.{greatest, greatest_freq}
use Rattle.collection_model.specs.Sequences.{steps_from, postings_in}
use Rattle.collection_model.proofs.Lists.{freqs-of_postings, docs_of-length}
use Rattle.part_cost.specs.Partition.{IsPartition}
use Rattle.postings.specs.Laws.{SequencesAreAList, IsListOf}
use Rattle.collection_model.proofs.Sequences.{same-steps}
use Rattle.two_level.specs.SequenceWords.{sequence_words, IsSequence, BeginsSequence}
use Rattle.two_level.specs.SequenceView.{SequenceView, words_used}
use Rattle.two_level.specs.Laws.{OneSequence}
use Rattle.index_file.specs.FileWords.{CutList, doc_words, freq_words}
use Rattle.index_file.specs.FirstBroken.{stated_sizes, term_word, stated_length, stated_documents, stated_doc_parts, stated_freq_parts, stated_greatest, StatesWrongGreatest, up_to_sizes}
use Rattle.index_file.specs.ListAt.{DocsBegin, FreqsStandAt, StandsAt, word_after}

-- the words that a sequence takes are as many as its own
pub words-taken : (format : FormatNumbers) (m bound parts used : ℕ) (xs ends words : List ℕ) → BeginsSequence format m bound parts xs ends words used → used ≡ length (sequence_words format xs ends)
words-taken format m bound parts used xs ends words b = sym (length-take-le used words b.within) ∙ ap length b.sequence.spelled

-- a sequence that was found takes the words that were counted
pub counted : (format : FormatNumbers) (m bound parts used taken : ℕ) (v : SequenceView) (words : List ℕ) → v.format ≡ format → taken ≡ words_used v
    → BeginsSequence format m bound parts v.values v.ends words used → BeginsSequence format m bound parts v.values v.ends words taken
counted format m bound parts used taken v words e count b =
    let same : used ≡ taken = words-taken format m bound parts used v.values v.ends words b ∙ ap (λ x. length (sequence_words x v.values v.ends)) (sym e) ∙ sym count in
    subst (BeginsSequence format m bound parts v.values v.ends words) same b

-- what begins with a sequence does so in all words from there on
pub begins-at : (format : FormatNumbers) (words : List ℕ) (p s m bound parts used : ℕ) (xs ends : List ℕ) → BeginsSequence format m bound parts xs ends (slice_range words p s) used
    → BeginsSequence format m bound parts xs ends (drop p words) used
begins-at format words p s m bound parts used xs ends b =
    let rest : List ℕ = drop p words in
    record {
      within = omega (arith, length-take (s - p) rest, b.within);
      sequence = subst (IsSequence format m bound parts xs ends) (take-take used (s - p) rest (omega (arith, length-take (s - p) rest, b.within))) b.sequence;
    }

-- and in the words up to some word, where it ends before it
pub begins-in : (format : FormatNumbers) (words : List ℕ) (p s m bound parts used : ℕ) (xs ends : List ℕ) → p + used ≤ s → s ≤ length words
    → IsSequence format m bound parts xs ends (take used (drop p words)) → BeginsSequence format m bound parts xs ends (slice_range words p s) used
begins-in format words p s m bound parts used xs ends fit within h =
    let rest : List ℕ = drop p words in
    let long : length (slice_range words p s) ≡ s - p = length-take-le (s - p) rest (omega (arith, length-drop p words, within, fit)) in
    record {
      within = omega (arith, long, fit);
      sequence = subst (IsSequence format m bound parts xs ends) (sym (take-take used (s - p) rest (omega (arith, fit)))) h;
    }

-- it ends before that word
pub ends-before : (format : FormatNumbers) (words : List ℕ) (p s m bound parts used : ℕ) (xs ends : List ℕ) → p ≤ s → BeginsSequence format m bound parts xs ends (slice_range words p s) used → p + used ≤ s
ends-before format words p s m bound parts used xs ends le b = omega (arith, length-take (s - p) (drop p words), b.within, le)

-- the greatest step is another than the stated one
pub wrong-greatest : (format : FormatNumbers) → OneSequence format → (words : List ℕ) (m parts used stated : ℕ) (xs ends : List ℕ) → BeginsSequence format m format.most_sum parts xs ends words used
    → (greatest (steps_from 0 xs) ≡ stated → ⊥) → StatesWrongGreatest format words m parts stated
wrong-greatest format one words m parts used stated xs ends b other k =
    let most : ℕ = format.most_sum in
    let same = one m most most parts used k.2 xs k.0 ends k.1 words (omega arith) (omega arith) b k.3 in
    other (ap (λ xs. greatest (steps_from 0 xs)) same.0 ∙ k.4)

-- each number is at most the greatest
pub all-below : (xs : List ℕ) (n : ℕ) → greatest xs < n → All (λ x. x < n) xs
all-below [] n lt = All-nil (λ x. x < n)
all-below (x ∷ xs) n lt = All-cons (λ x. x < n) x xs (omega arith) (all-below xs n (omega arith))

-- the list whose two sequences stand
abbrev pub list-of : List ℕ → List ℕ → List ℕ → List ℕ → CutList
list-of xs ends ys cuts = record { list = postings_in xs ys; parts = record { doc_ends = ends; freq_ends = cuts } }

pub list-stands : (format : FormatNumbers) → SequencesAreAList → (words : List ℕ) (t p : ℕ) (xs ends : List ℕ) (used : ℕ) (ys cuts : List ℕ) (taken : ℕ) → p ≤ stated_sizes words → term_word words t 0 ≡ p
    → DocsBegin format words t p xs ends used → FreqsStandAt format words t (p + used) ys cuts taken
    → StandsAt format words t p (list-of xs ends ys cuts) × (p + used + taken ≡ word_after format p (list-of xs ends ys cuts))
list-stands format are words t p xs ends used ys cuts taken le first docs freqs =
    let n : ℕ = stated_documents words in
    let s : ℕ = stated_sizes words in
    let m : ℕ = stated_length words t in
    let c : CutList = list-of xs ends ys cuts in
    let d = docs.sequence in
    let f = freqs.sums.sequence in
    let same : length xs ≡ length ys = d.count ∙ sym f.count in
    let steps : All (λ f. f < 2 ^ 32) (steps_from 0 ys) = all-below (steps_from 0 ys) (2 ^ 32) (omega (arith, freqs.greatest_is, freqs.fit)) in
    let l : IsListOf format n xs ys (postings_in xs ys) = are format n xs ys d.rising d.below f.rising f.below same steps in
    let long : length (postings_in xs ys) ≡ m = sym (docs_of-length (postings_in xs ys)) ∙ ap length l.of_docs ∙ d.count in
    let most : greatest_freq (postings_in xs ys) ≡ stated_greatest words t = ap greatest (freqs-of_postings xs (steps_from 0 ys) (same-steps xs ys same)) ∙ freqs.greatest_is in
    let doc_is : doc_words format c ≡ sequence_words format xs ends = ap (λ zs. sequence_words format zs ends) l.of_docs in
    let freq_is : freq_words format c ≡ sequence_words format ys cuts = ap (λ zs. sequence_words format zs cuts) l.of_sums in
    let docs_count : length (doc_words format c) ≡ used = ap length doc_is ∙ sym (words-taken format m n (stated_doc_parts words t) used xs ends (up_to_sizes words p) docs) in
    let freqs_count : length (freq_words format c) ≡ taken = ap length freq_is ∙ sym (words-taken format m format.most_sum (stated_freq_parts words t) taken ys cuts (up_to_sizes words (p + used)) freqs.sums) in
    let docs_end : p + used ≤ s = ends-before format words p s m n (stated_doc_parts words t) used xs ends le docs in
    let freqs_end : p + used + taken ≤ s = ends-before format words (p + used) s m format.most_sum (stated_freq_parts words t) taken ys cuts docs_end freqs.sums in (
      record {
        list = l.well_formed;
        doc_parts = subst (λ k. IsPartition k ends) (sym long) d.partition;
        freq_parts = subst (λ k. IsPartition k cuts) (sym long) f.partition;
        docs = ap (λ k. take k (drop p words)) docs_count ∙ (begins-at format words p s m n (stated_doc_parts words t) used xs ends docs).sequence.spelled ∙ sym doc_is;
        freqs = ap (λ k. take k (drop (p + length (doc_words format c)) words)) freqs_count ∙ ap (λ k. take taken (drop (p + k) words)) docs_count
            ∙ (begins-at format words (p + used) s m format.most_sum (stated_freq_parts words t) taken ys cuts freqs.sums).sequence.spelled ∙ sym freq_is;
        within = omega (arith, docs_count, freqs_count, freqs_end);
        docs_word = first;
        freqs_word = omega (arith, freqs.first, docs_count);
        doc_counts = omega (arith, long, d.parts_count);
        freq_counts = omega (arith, most, f.parts_count);
      },
      omega (arith, docs_count, freqs_count),
    )
