-- Lemmas on a list that stands at a term.
use Rattle.std.proofs.Common.{◌≡◌, ℕ, ◌+◌, ◌-◌, ◌*◌, ◌^◌, ◌<◌, ◌≤◌, false, List, length, drop, sym, ap, ◌∙◌, subst, arith}
use Rattle.std.proofs.lemmas.Bool.{or_from, le-ltb, eq-eqb, not_from_true}
use Rattle.std.specs.Prelude.{◌||◌, ◌==◌, not, nat_lt}
use Rattle.std.proofs.lemmas.List.{length-take}
use Rattle.collection_model.specs.FormatNumbers.{FormatNumbers, entry_words}
use Rattle.collection_model.specs.Collection.{Posting, docs_of, greatest, greatest_freq, IsPostingList}
use Rattle.collection_model.specs.Sequences.{doc_sequence, freq_sequence, steps_from, postings_in}
use Rattle.collection_model.proofs.Lists.{docs_of-length, freqs-of_postings, rising-length}
use Rattle.part_cost.proofs.Partitions.{few-parts}
use Rattle.part_cost.specs.Formats.{HasRoom}
use Rattle.part_cost.specs.Partition.{IsPartition}
use Rattle.collection_model.proofs.Sequences.{same-steps}
use Rattle.sequence_words.specs.declared.check.Check.TheVariants.{K6}
use Rattle.two_level.specs.SequenceWords.{BeginsSequence}
use Rattle.two_level.specs.SequenceFault.{parts_fit, word_behind, PassChecks}
use Rattle.index_file.specs.declared.fault.OpenFault.{OpenFault}
use Rattle.index_file.specs.FileWords.{CutList, doc_words, freq_words}
use Rattle.index_file.specs.Laws.{SequenceLaws}
use Rattle.index_file.specs.FirstBroken.{stated_documents, stated_sizes, term_word, stated_length, stated_doc_parts, stated_freq_parts, stated_greatest, up_to_sizes, IsFreqsFault, IsTermFault}
use Rattle.index_file.specs.ListAt.{HasFrame, DocsBegin, FreqsBegin, StandsAt}
use Rattle.index_file.proofs.OneList.{begins-at, begins-in}
use Rattle.sequence_words.proofs.Choices.{unmatch}
use Rattle.index_file.proofs.Agree.{later-of}
use Rattle.index_file.proofs.TermFaults.{IsAt, docs_cannot_begin, freqs_cannot_begin, InDocs, InFreqs, PassButGreatest}

-- the counts of a list that stands are those that the words state
pub record Counts (words : List ℕ) (t : ℕ) (c : CutList) : Type 0 where
  pub few : length c.list ≤ stated_documents words
  pub len : length c.list ≡ stated_length words t
  pub doc_count : length c.parts.doc_ends ≡ stated_doc_parts words t
  pub freq_count : length c.parts.freq_ends ≡ stated_freq_parts words t
  pub most : greatest_freq c.list ≡ stated_greatest words t

pub counts : (format : FormatNumbers) (room : HasRoom format) (words : List ℕ) (t p : ℕ) (c : CutList) → HasFrame format words → StandsAt format words t p c → Counts words t c
counts format room words t p c frame h =
    let few : length c.list ≤ stated_documents words = omega (arith, docs_of-length c.list, rising-length (docs_of c.list) (stated_documents words) h.list.rising h.list.in_range) in
    let small : length c.list < 2 ^ 32 = omega (arith, few, frame.documents, room.fit) in
    let freqs : length c.parts.freq_ends < 2 ^ 32 = omega (arith, small, few-parts 0 (length c.list) c.parts.freq_ends h.freq_parts) in
    record {
      few = few;
      len = omega (arith, small, h.doc_counts);
      doc_count = omega (arith, small, h.doc_counts);
      freq_count = omega (arith, freqs, h.freq_counts);
      most = omega (arith, freqs, h.freq_counts);
    }

-- the documents of a list that stands, and its frequencies
pub docs-at : (format : FormatNumbers) (room : HasRoom format) (words : List ℕ) (t p : ℕ) (c : CutList) → HasFrame format words → StandsAt format words t p c
    → DocsBegin format words t p (doc_sequence c.list) c.parts.doc_ends (length (doc_words format c))
docs-at format room words t p c frame h =
    let n = counts format room words t p c frame h in
    begins-in format words p (stated_sizes words) (stated_length words t) (stated_documents words) (stated_doc_parts words t) (length (doc_words format c)) (doc_sequence c.list) c.parts.doc_ends
    (omega (arith, h.within)) (omega (arith, frame.whole)) (
    record {
      rising = h.list.rising;
      below = h.list.in_range;
      count = docs_of-length c.list ∙ n.len;
      few = omega arith;
      partition = subst (λ k. IsPartition k c.parts.doc_ends) n.len h.doc_parts;
      parts_count = n.doc_count;
      spelled = h.docs;
    })

pub freqs-at : (format : FormatNumbers) (room : HasRoom format) → SequenceLaws format → (words : List ℕ) (t p : ℕ) (c : CutList) → HasFrame format words → StandsAt format words t p c
    → FreqsBegin format words t (p + length (doc_words format c)) (freq_sequence c.list) c.parts.freq_ends (length (freq_words format c))
freqs-at format room laws words t p c frame h =
    let n = counts format room words t p c frame h in
    let r = laws.rise format (stated_documents words) c.list h.list in
    begins-in format words (p + length (doc_words format c)) (stated_sizes words) (stated_length words t) format.most_sum (stated_freq_parts words t) (length (freq_words format c)) (freq_sequence c.list) c.parts.freq_ends
    h.within (omega (arith, frame.whole)) (
    record {
      rising = r.sums_rise;
      below = r.sums_below;
      count = r.sums_count ∙ n.len;
      few = omega arith;
      partition = subst (λ k. IsPartition k c.parts.freq_ends) n.len h.freq_parts;
      parts_count = n.freq_count;
      spelled = h.freqs;
    })

-- and in all words from there on
pub docs-from : (format : FormatNumbers) (room : HasRoom format) (words : List ℕ) (t p : ℕ) (c : CutList) → HasFrame format words → StandsAt format words t p c
    → BeginsSequence format (stated_length words t) (stated_documents words) (stated_doc_parts words t) (doc_sequence c.list) c.parts.doc_ends (drop p words) (length (doc_words format c))
docs-from format room words t p c frame h =
    begins-at format words p (stated_sizes words) (stated_length words t) (stated_documents words) (stated_doc_parts words t) (length (doc_words format c)) (doc_sequence c.list) c.parts.doc_ends (docs-at format room words t p c frame h)

pub freqs-from : (format : FormatNumbers) (room : HasRoom format) → SequenceLaws format → (words : List ℕ) (t p : ℕ) (c : CutList) → HasFrame format words → StandsAt format words t p c
    → BeginsSequence format (stated_length words t) format.most_sum (stated_freq_parts words t) (freq_sequence c.list) c.parts.freq_ends (drop (p + length (doc_words format c)) words) (length (freq_words format c))
freqs-from format room laws words t p c frame h =
    begins-at format words (p + length (doc_words format c)) (stated_sizes words) (stated_length words t) format.most_sum (stated_freq_parts words t) (length (freq_words format c)) (freq_sequence c.list) c.parts.freq_ends
    (freqs-at format room laws words t p c frame h)

-- the steps of a list's frequency sequence are its frequencies
pub greatest-step : (format : FormatNumbers) → SequenceLaws format → (n : ℕ) (list : List Posting) → IsPostingList format n list → greatest (steps_from 0 (freq_sequence list)) ≡ greatest_freq list
greatest-step format laws n list h =
    let r = laws.rise format n list h in
    let same : length (doc_sequence list) ≡ length (freq_sequence list) = r.docs_count ∙ sym r.sums_count in
    ap greatest (sym (freqs-of_postings (doc_sequence list) (steps_from 0 (freq_sequence list)) (same-steps (doc_sequence list) (freq_sequence list) same)))
    ∙ ap greatest_freq (laws.give format n list h)

-- the two sequences of a list that stands pass every check, and end where its words do
abbrev pub DocsPass : FormatNumbers → List ℕ → ℕ → ℕ → CutList → Type 0
DocsPass format words t p c =
    PassChecks format (up_to_sizes words p) (stated_doc_parts words t) (stated_length words t) (stated_documents words)
    × (word_behind format (up_to_sizes words p) (stated_doc_parts words t) ≡ length (doc_words format c))

docs-pass : (format : FormatNumbers) (room : HasRoom format) → SequenceLaws format → (words : List ℕ) (t p : ℕ) (c : CutList) → HasFrame format words → StandsAt format words t p c → DocsPass format words t p c
docs-pass format room laws words t p c frame h =
    laws.pass (stated_length words t) (stated_documents words) (stated_doc_parts words t) (length (doc_words format c)) (doc_sequence c.list) c.parts.doc_ends (up_to_sizes words p) (omega (arith, frame.documents, room.documents))
    (docs-at format room words t p c frame h)

freqs-pass : (format : FormatNumbers) (room : HasRoom format) → SequenceLaws format → (words : List ℕ) (t p : ℕ) (c : CutList) → HasFrame format words → StandsAt format words t p c
    → PassChecks format (up_to_sizes words (p + length (doc_words format c))) (stated_freq_parts words t) (stated_length words t) format.most_sum
freqs-pass format room laws words t p c frame h =
    (laws.pass (stated_length words t) format.most_sum (stated_freq_parts words t) (length (freq_words format c)) (freq_sequence c.list) c.parts.freq_ends (up_to_sizes words (p + length (doc_words format c))) (omega arith)
    (freqs-at format room laws words t p c frame h)).0

-- entries that have room in the words up to the sizes end before these
entries-end : (words : List ℕ) (p n : ℕ) → p ≤ stated_sizes words → n ≤ length (up_to_sizes words p) → p + n ≤ stated_sizes words
entries-end words p n le fit = omega (arith, le, fit, length-take (stated_sizes words - p) (drop p words))

-- no check breaks for a list that stands
docs-can-begin : (format : FormatNumbers) (room : HasRoom format) → SequenceLaws format → (words : List ℕ) (t p : ℕ) (c : CutList) → HasFrame format words → StandsAt format words t p c → docs_cannot_begin format words t p ≡ false
docs-can-begin format room laws words t p c frame h =
    let n = counts format room words t p c frame h in
    let a = not (term_word words t 0 == p) in
    let b = nat_lt (stated_documents words) (stated_length words t) in
    let d = not (parts_fit (stated_length words t) (stated_doc_parts words t)) in
    let e = not (parts_fit (stated_length words t) (stated_freq_parts words t)) in
    let f = nat_lt (stated_sizes words) (p + entry_words format * stated_doc_parts words t) in
    let docs = (docs-pass format room laws words t p c frame h).0 in
    let freqs = freqs-pass format room laws words t p c frame h in
    or_from (a || b || d || e) f
    (or_from (a || b || d) e
    (or_from (a || b) d
    (or_from a b (not_from_true (term_word words t 0 == p) (eq-eqb (term_word words t 0) p h.docs_word)) (le-ltb (stated_documents words) (stated_length words t) (omega (arith, n.few, n.len))))
    (not_from_true (parts_fit (stated_length words t) (stated_doc_parts words t)) docs.parts_are))
    (not_from_true (parts_fit (stated_length words t) (stated_freq_parts words t)) freqs.parts_are))
    (le-ltb (stated_sizes words) (p + entry_words format * stated_doc_parts words t) (entries-end words p (entry_words format * stated_doc_parts words t) (omega (arith, h.within)) docs.room))

freqs-can-begin : (format : FormatNumbers) (room : HasRoom format) → SequenceLaws format → (words : List ℕ) (t p : ℕ) (c : CutList) → HasFrame format words → StandsAt format words t p c
    → freqs_cannot_begin format words t (p + length (doc_words format c)) ≡ false
freqs-can-begin format room laws words t p c frame h =
    let q : ℕ = p + length (doc_words format c) in
    let a = not (term_word words t 1 == q) in
    let f = nat_lt (stated_sizes words) (q + entry_words format * stated_freq_parts words t) in
    or_from a f (not_from_true (term_word words t 1 == q) (eq-eqb (term_word words t 1) q h.freqs_word))
    (le-ltb (stated_sizes words) (q + entry_words format * stated_freq_parts words t) (entries-end words q (entry_words format * stated_freq_parts words t) (omega (arith, h.within)) (freqs-pass format room laws words t p c frame h).room))

pub no-fault : (format : FormatNumbers) (room : HasRoom format) → SequenceLaws format → (words : List ℕ) (t p : ℕ) (c : CutList) (f : OpenFault) → HasFrame format words → StandsAt format words t p c → IsTermFault format words t p f → ⊥
no-fault format room laws words t p c f frame h fault =
    let n = counts format room words t p c frame h in
    let q : ℕ = p + length (doc_words format c) in
    let docs = docs-pass format room laws words t p c frame h in
    let behind : ℕ = p + word_behind format (up_to_sizes words p) (stated_doc_parts words t) in
    let one : InDocs format words t p f = unmatch (docs_cannot_begin format words t p) (IsAt f t K6 0) (InDocs format words t p f) (docs-can-begin format room laws words t p c frame h) fault in
    let two : IsFreqsFault format words t behind f =
    later-of format (up_to_sizes words p) (stated_doc_parts words t) (stated_length words t) (stated_documents words) (IsAt f t) (IsFreqsFault format words t behind f) docs.0 one in
    let three : InFreqs format words t q f =
    unmatch (freqs_cannot_begin format words t q) (IsAt f t K6 (stated_doc_parts words t)) (InFreqs format words t q f) (freqs-can-begin format room laws words t p c frame h)
    (subst (λ k. IsFreqsFault format words t (p + k) f) docs.1 two) in
    let four : PassButGreatest format words t q f =
    later-of format (up_to_sizes words q) (stated_freq_parts words t) (stated_length words t) format.most_sum (λ check i. IsAt f t check (stated_doc_parts words t + i)) (PassButGreatest format words t q f)
    (freqs-pass format room laws words t p c frame h) three in
    four.0 (
      freq_sequence c.list,
      c.parts.freq_ends,
      length (freq_words format c),
      freqs-at format room laws words t p c frame h,
      greatest-step format laws (stated_documents words) c.list h.list ∙ n.most,
    )

-- one list only stands at a term and a word
same-list : (c d : CutList) → c.list ≡ d.list → c.parts.doc_ends ≡ d.parts.doc_ends → c.parts.freq_ends ≡ d.parts.freq_ends → c ≡ d
same-list c d a b e =
    let x : c ≡ record { list = d.list; parts = c.parts } = ap (λ l. record { list = l; parts = c.parts }) a in
    let y : c ≡ record { list = d.list; parts = record { doc_ends = d.parts.doc_ends; freq_ends = c.parts.freq_ends } } =
    x ∙ ap (λ l. record { list = d.list; parts = record { doc_ends = l; freq_ends = c.parts.freq_ends } }) b in
    y ∙ ap (λ l. record { list = d.list; parts = record { doc_ends = d.parts.doc_ends; freq_ends = l } }) e

pub stand-one : (format : FormatNumbers) (room : HasRoom format) → SequenceLaws format → (words : List ℕ) (t p : ℕ) (c d : CutList) → HasFrame format words → StandsAt format words t p c → StandsAt format words t p d → c ≡ d
stand-one format room laws words t p c d frame h k =
    let n : ℕ = stated_documents words in
    let m : ℕ = stated_length words t in
    let small : stated_documents words ≤ format.most_sum = omega (arith, frame.documents, room.documents) in
    let docs = laws.one m n n (stated_doc_parts words t) (length (doc_words format c)) (length (doc_words format d)) (doc_sequence c.list) (doc_sequence d.list) c.parts.doc_ends d.parts.doc_ends (up_to_sizes words p) small small
    (docs-at format room words t p c frame h) (docs-at format room words t p d frame k) in
    let q : ℕ = p + length (doc_words format c) in
    let next : p + length (doc_words format d) ≡ q = ap (λ i. p + i) (sym docs.2) in
    let freqs = laws.one m format.most_sum format.most_sum (stated_freq_parts words t) (length (freq_words format c)) (length (freq_words format d)) (freq_sequence c.list) (freq_sequence d.list) c.parts.freq_ends d.parts.freq_ends (up_to_sizes words q) (omega arith) (omega arith)
    (freqs-at format room laws words t p c frame h)
    (subst (λ i. FreqsBegin format words t i (freq_sequence d.list) d.parts.freq_ends (length (freq_words format d))) next (freqs-at format room laws words t p d frame k)) in
    same-list c d
    (sym (laws.give format n c.list h.list) ∙ ap (λ xs. postings_in xs (freq_sequence c.list)) docs.0 ∙ ap (postings_in (doc_sequence d.list)) freqs.0 ∙ laws.give format n d.list k.list)
    docs.1 freqs.1
