-- Lemmas on the first check of a list that breaks.
use Rattle.std.proofs.Common.{◌≡◌, ℕ, ◌+◌, ◌-◌, ◌*◌, ◌≤◌, true, false, Bool, List, length, drop, refl, sym, ap, ◌∙◌, subst, arith}
use Rattle.std.proofs.lemmas.Bool.{or_parts, eqb-true, ltb-false, not-false}
use Rattle.std.specs.Prelude.{◌||◌, ◌==◌, not, nat_lt}
use Rattle.std.specs.List.{slice_range}
use Rattle.std.proofs.lemmas.List.{length-take-le, length-drop}
use Rattle.collection_model.specs.FormatNumbers.{FormatNumbers, entry_words}
use Rattle.collection_model.specs.Collection.{greatest}
use Rattle.collection_model.specs.Sequences.{steps_from}
use Rattle.part_cost.specs.Formats.{HasRoom}
use Rattle.sequence_words.specs.declared.check.Check.{Check}
use Rattle.sequence_words.specs.declared.check.Check.TheVariants.{K6, K10}
use Rattle.two_level.specs.SequenceWords.{BeginsSequence}
use Rattle.two_level.specs.SequenceView.{SequenceView, words_used}
use Rattle.two_level.specs.SequenceFault.{parts_fit, word_behind, FirstInSequence, IsSequenceFault}
use Rattle.sequence_words.proofs.Choices.{match-false}
use Rattle.sequence_words.proofs.FirstChecks.{passed, faulty}
use Rattle.index_file.specs.declared.fault.OpenFault.{OpenFault}
use Rattle.index_file.specs.declared.frame.Frame.{Frame}
use Rattle.index_file.specs.declared.lists.ListEntry.{ListEntry}
use Rattle.index_file.specs.FirstBroken.{stated_documents, stated_sizes, term_word, stated_length, stated_doc_parts, stated_freq_parts, stated_greatest, up_to_sizes, StatesWrongGreatest, cannot_begin, IsFreqsFault, IsTermFault}
use Rattle.index_file.specs.ListAt.{HasFrame, StatesFrame, StatesList, DocsBegin, FreqsBegin}
use Rattle.index_file.specs.Laws.{SequenceLaws}
use Rattle.index_file.proofs.OneList.{counted, wrong-greatest}

-- a fault by its parts
pub fault-is : (f : OpenFault) (k : Check) (t q : ℕ) → f.check ≡ k → f.term ≡ t → f.part ≡ q → f ≡ record { check = k; term = t; part = q }
fault-is f k t q a b d =
    let x : f ≡ record { check = k; term = f.term; part = f.part } = ap (λ j. record { check = j; term = f.term; part = f.part }) a in
    let y : f ≡ record { check = k; term = t; part = f.part } = x ∙ ap (λ j. record { check = k; term = j; part = f.part }) b in
    y ∙ ap (λ j. record { check = k; term = t; part = j }) d

-- a fault of term t at a check and a part
abbrev pub IsAt : OpenFault → ℕ → Check → ℕ → Type 0
IsAt f t check q = f ≡ record { check = check; term = t; part = q }

-- whether the documents, or the frequencies, of term t cannot begin at word p
abbrev pub docs_cannot_begin : FormatNumbers → List ℕ → ℕ → ℕ → Bool
docs_cannot_begin format words t p =
    cannot_begin format (term_word words t 0) p (stated_documents words) (stated_length words t) (stated_doc_parts words t) (stated_freq_parts words t) (stated_sizes words)

abbrev pub freqs_cannot_begin : FormatNumbers → List ℕ → ℕ → ℕ → Bool
freqs_cannot_begin format words t p = not (term_word words t 1 == p) || nat_lt (stated_sizes words) (p + entry_words format * stated_freq_parts words t)

-- the frequencies pass their checks, but their greatest step is another
abbrev pub PassButGreatest : FormatNumbers → List ℕ → ℕ → ℕ → OpenFault → Type 0
PassButGreatest format words t p f = StatesWrongGreatest format (up_to_sizes words p) (stated_length words t) (stated_freq_parts words t) (stated_greatest words t) × IsAt f t K10 0

-- the first check that breaks behind the prefix of the documents, and of the frequencies
abbrev pub InDocs : FormatNumbers → List ℕ → ℕ → ℕ → OpenFault → Type 0
InDocs format words t p f =
    FirstInSequence format (up_to_sizes words p) (stated_doc_parts words t) (stated_length words t) (stated_documents words) (IsAt f t)
    (IsFreqsFault format words t (p + word_behind format (up_to_sizes words p) (stated_doc_parts words t)) f)

abbrev pub InFreqs : FormatNumbers → List ℕ → ℕ → ℕ → OpenFault → Type 0
InFreqs format words t p f =
    FirstInSequence format (up_to_sizes words p) (stated_freq_parts words t) (stated_length words t) format.most_sum (λ check q. IsAt f t check (stated_doc_parts words t + q))
    (PassButGreatest format words t p f)

-- numbers that were read are those that the words state
pub begin-test : (format : FormatNumbers) (words : List ℕ) (t p : ℕ) (frame : Frame) (list : ListEntry) (r b : Bool) → StatesFrame words frame → StatesList words t list
    → r ≡ cannot_begin format list.docs p frame.documents list.len list.doc_parts list.sum_parts frame.sizes → r ≡ b → docs_cannot_begin format words t p ≡ b
begin-test format words t p frame list r b f l er eb =
    ap (λ x. cannot_begin format x p (stated_documents words) (stated_length words t) (stated_doc_parts words t) (stated_freq_parts words t) (stated_sizes words)) (sym l.docs)
    ∙ ap (λ x. cannot_begin format list.docs p x (stated_length words t) (stated_doc_parts words t) (stated_freq_parts words t) (stated_sizes words)) (sym f.documents)
    ∙ ap (λ x. cannot_begin format list.docs p frame.documents x (stated_doc_parts words t) (stated_freq_parts words t) (stated_sizes words)) (sym l.len)
    ∙ ap (λ x. cannot_begin format list.docs p frame.documents list.len x (stated_freq_parts words t) (stated_sizes words)) (sym l.doc_parts)
    ∙ ap (λ x. cannot_begin format list.docs p frame.documents list.len list.doc_parts x (stated_sizes words)) (sym l.sum_parts)
    ∙ ap (λ x. cannot_begin format list.docs p frame.documents list.len list.doc_parts list.sum_parts x) (sym f.sizes) ∙ sym er ∙ eb

pub freqs-test : (format : FormatNumbers) (words : List ℕ) (t p : ℕ) (frame : Frame) (list : ListEntry) (r b : Bool) → StatesFrame words frame → StatesList words t list
    → r ≡ (not (list.sums == p) || nat_lt frame.sizes (p + entry_words format * list.sum_parts)) → r ≡ b → freqs_cannot_begin format words t p ≡ b
freqs-test format words t p frame list r b f l er eb =
    ap (λ x. not (x == p) || nat_lt (stated_sizes words) (p + entry_words format * stated_freq_parts words t)) (sym l.sums)
    ∙ ap (λ x. not (list.sums == p) || nat_lt x (p + entry_words format * stated_freq_parts words t)) (sym f.sizes)
    ∙ ap (λ x. not (list.sums == p) || nat_lt frame.sizes (p + entry_words format * x)) (sym l.sum_parts) ∙ sym er ∙ eb

-- what is said of a sequence by the numbers that were read holds by those that the words state
as-stated : (P : List ℕ → ℕ → ℕ → ℕ → Type 0) (words : List ℕ) (p s m parts bound z l k b : ℕ) → s ≡ z → m ≡ l → parts ≡ k → bound ≡ b → P (slice_range words p s) m parts bound → P (slice_range words p z) l k b
as-stated P words p s m parts bound z l k b es em ep eb h =
    subst (λ x. P (slice_range words p z) l k x) eb
    (subst (λ x. P (slice_range words p z) l x bound) ep
    (subst (λ x. P (slice_range words p z) x parts bound) em (subst (λ x. P (slice_range words p x) m parts bound) es h)))

pub docs-found : (format : FormatNumbers) (words : List ℕ) (t p : ℕ) (frame : Frame) (list : ListEntry) (used taken : ℕ) (v : SequenceView) → StatesFrame words frame → StatesList words t list → v.format ≡ format → taken ≡ words_used v
    → BeginsSequence format list.len frame.documents list.doc_parts v.values v.ends (slice_range words p frame.sizes) used → DocsBegin format words t p v.values v.ends taken
docs-found format words t p frame list used taken v f l e count h =
    as-stated (λ rest m parts bound. BeginsSequence format m bound parts v.values v.ends rest taken) words p frame.sizes list.len list.doc_parts frame.documents
    (stated_sizes words) (stated_length words t) (stated_doc_parts words t) (stated_documents words) f.sizes l.len l.doc_parts f.documents
    (counted format list.len frame.documents list.doc_parts used taken v (slice_range words p frame.sizes) e count h)

pub freqs-found : (format : FormatNumbers) (words : List ℕ) (t p bound : ℕ) (frame : Frame) (list : ListEntry) (used taken : ℕ) (v : SequenceView) → StatesFrame words frame → StatesList words t list → bound ≡ format.most_sum → v.format ≡ format → taken ≡ words_used v
    → BeginsSequence format list.len bound list.sum_parts v.values v.ends (slice_range words p frame.sizes) used → FreqsBegin format words t p v.values v.ends taken
freqs-found format words t p bound frame list used taken v f l most e count h =
    as-stated (λ rest m parts bound. BeginsSequence format m bound parts v.values v.ends rest taken) words p frame.sizes list.len list.sum_parts bound
    (stated_sizes words) (stated_length words t) (stated_freq_parts words t) format.most_sum f.sizes l.len l.sum_parts most
    (counted format list.len bound list.sum_parts used taken v (slice_range words p frame.sizes) e count h)

pub docs-fault : (format : FormatNumbers) (words : List ℕ) (t p : ℕ) (frame : Frame) (list : ListEntry) (k : Check) (q : ℕ) → StatesFrame words frame → StatesList words t list
    → IsSequenceFault format (slice_range words p frame.sizes) list.doc_parts list.len frame.documents k q
    → IsSequenceFault format (up_to_sizes words p) (stated_doc_parts words t) (stated_length words t) (stated_documents words) k q
docs-fault format words t p frame list k q f l =
    as-stated (λ rest m parts bound. IsSequenceFault format rest parts m bound k q) words p frame.sizes list.len list.doc_parts frame.documents
    (stated_sizes words) (stated_length words t) (stated_doc_parts words t) (stated_documents words) f.sizes l.len l.doc_parts f.documents

pub freqs-fault : (format : FormatNumbers) (words : List ℕ) (t p bound : ℕ) (frame : Frame) (list : ListEntry) (k : Check) (q : ℕ) → StatesFrame words frame → StatesList words t list → bound ≡ format.most_sum
    → IsSequenceFault format (slice_range words p frame.sizes) list.sum_parts list.len bound k q
    → IsSequenceFault format (up_to_sizes words p) (stated_freq_parts words t) (stated_length words t) format.most_sum k q
freqs-fault format words t p bound frame list k q f l most =
    as-stated (λ rest m parts bound. IsSequenceFault format rest parts m bound k q) words p frame.sizes list.len list.sum_parts bound
    (stated_sizes words) (stated_length words t) (stated_freq_parts words t) format.most_sum f.sizes l.len l.sum_parts most

-- the words up to the sizes have room for entries that end before these
has-room : (words : List ℕ) (p n : ℕ) → stated_sizes words ≤ length words → p + n ≤ stated_sizes words → n ≤ length (up_to_sizes words p)
has-room words p n within fit =
    let long : length (up_to_sizes words p) ≡ stated_sizes words - p = length-take-le (stated_sizes words - p) (drop p words) (omega (arith, length-drop p words, within)) in
    omega (arith, long, fit)

-- the frequencies stand, but their greatest step is another
pub greatest-breaks : (format : FormatNumbers) → SequenceLaws format → (words : List ℕ) (t p : ℕ) (xs ends : List ℕ) (used : ℕ) → freqs_cannot_begin format words t p ≡ false
    → FreqsBegin format words t p xs ends used → (greatest (steps_from 0 xs) ≡ stated_greatest words t → ⊥) → IsFreqsFault format words t p (record { check = K10; term = t; part = 0 })
greatest-breaks format laws words t p xs ends used test h other =
    let m : ℕ = stated_length words t in
    let parts : ℕ = stated_freq_parts words t in
    let rest : List ℕ = up_to_sizes words p in
    let f : OpenFault = record { check = K10; term = t; part = 0 } in
    let wrong : PassButGreatest format words t p f = (wrong-greatest format laws.one rest m parts used (stated_greatest words t) xs ends h other, refl) in
    match-false (freqs_cannot_begin format words t p) (IsAt f t K6 (stated_doc_parts words t)) (InFreqs format words t p f) test
    (passed format rest parts m format.most_sum (λ check q. IsAt f t check (stated_doc_parts words t + q)) (PassButGreatest format words t p f) (laws.pass m format.most_sum parts used xs ends rest (omega arith) h).0 wrong)

-- what the tests of where sequences begin tell
pub record CanBegin (format : FormatNumbers) (words : List ℕ) (t p : ℕ) : Type 0 where
  pub first : term_word words t 0 ≡ p
  pub doc_parts : parts_fit (stated_length words t) (stated_doc_parts words t) ≡ true
  pub freq_parts : parts_fit (stated_length words t) (stated_freq_parts words t) ≡ true
  pub room : p + entry_words format * stated_doc_parts words t ≤ stated_sizes words

pub can-begin : (format : FormatNumbers) (words : List ℕ) (t p : ℕ) → docs_cannot_begin format words t p ≡ false → CanBegin format words t p
can-begin format words t p h =
    let a = not (term_word words t 0 == p) in
    let b = nat_lt (stated_documents words) (stated_length words t) in
    let d = not (parts_fit (stated_length words t) (stated_doc_parts words t)) in
    let e = not (parts_fit (stated_length words t) (stated_freq_parts words t)) in
    let f = nat_lt (stated_sizes words) (p + entry_words format * stated_doc_parts words t) in
    let g4 = or_parts (a || b || d || e) f h in
    let g3 = or_parts (a || b || d) e g4.0 in
    let g2 = or_parts (a || b) d g3.0 in
    record {
      first = eqb-true (term_word words t 0) p (not-false (term_word words t 0 == p) (or_parts a b g2.0).0);
      doc_parts = not-false (parts_fit (stated_length words t) (stated_doc_parts words t)) g2.1;
      freq_parts = not-false (parts_fit (stated_length words t) (stated_freq_parts words t)) g3.1;
      room = ltb-false (stated_sizes words) (p + entry_words format * stated_doc_parts words t) g4.1;
    }

-- a check of the frequencies breaks
pub freqs-break : (format : FormatNumbers) (words : List ℕ) (t p : ℕ) (f : OpenFault) (k : Check) (q : ℕ) → stated_sizes words ≤ length words → parts_fit (stated_length words t) (stated_freq_parts words t) ≡ true
    → freqs_cannot_begin format words t p ≡ false → IsSequenceFault format (up_to_sizes words p) (stated_freq_parts words t) (stated_length words t) format.most_sum k q
    → f ≡ record { check = k; term = t; part = stated_doc_parts words t + q } → IsFreqsFault format words t p f
freqs-break format words t p f k q within fit test h found =
    let a = not (term_word words t 1 == p) in
    let b = nat_lt (stated_sizes words) (p + entry_words format * stated_freq_parts words t) in
    let room = ltb-false (stated_sizes words) (p + entry_words format * stated_freq_parts words t) (or_parts a b test).1 in
    match-false (freqs_cannot_begin format words t p) (IsAt f t K6 (stated_doc_parts words t)) (InFreqs format words t p f) test
    (faulty format (up_to_sizes words p) (stated_freq_parts words t) (stated_length words t) format.most_sum k q (λ check q. IsAt f t check (stated_doc_parts words t + q)) (PassButGreatest format words t p f)
    fit (has-room words p (entry_words format * stated_freq_parts words t) within room) h found)

-- a list can begin, but a check of its documents breaks
pub docs-break : (format : FormatNumbers) (words : List ℕ) (t p : ℕ) (f : OpenFault) (k : Check) (q : ℕ) → stated_sizes words ≤ length words → docs_cannot_begin format words t p ≡ false
    → IsSequenceFault format (up_to_sizes words p) (stated_doc_parts words t) (stated_length words t) (stated_documents words) k q → f ≡ record { check = k; term = t; part = q } → IsTermFault format words t p f
docs-break format words t p f k q within test h found =
    let begin = can-begin format words t p test in
    let rest : List ℕ = up_to_sizes words p in
    match-false (docs_cannot_begin format words t p) (IsAt f t K6 0) (InDocs format words t p f) test
    (faulty format rest (stated_doc_parts words t) (stated_length words t) (stated_documents words) k q (IsAt f t) (IsFreqsFault format words t (p + word_behind format rest (stated_doc_parts words t)) f)
    begin.doc_parts (has-room words p (entry_words format * stated_doc_parts words t) within begin.room) h found)

-- its documents stand, but a check behind them breaks
pub behind-breaks : (format : FormatNumbers) (room : HasRoom format) → SequenceLaws format → (words : List ℕ) (t p : ℕ) (xs ends : List ℕ) (used : ℕ) (f : OpenFault) → HasFrame format words → docs_cannot_begin format words t p ≡ false
    → DocsBegin format words t p xs ends used → IsFreqsFault format words t (p + used) f → IsTermFault format words t p f
behind-breaks format room laws words t p xs ends used f frame test h fault =
    let n : ℕ = stated_documents words in
    let parts : ℕ = stated_doc_parts words t in
    let rest : List ℕ = up_to_sizes words p in
    let pass = laws.pass (stated_length words t) n parts used xs ends rest (omega (arith, frame.documents, room.documents)) h in
    match-false (docs_cannot_begin format words t p) (IsAt f t K6 0) (InDocs format words t p f) test
    (passed format rest parts (stated_length words t) n (IsAt f t) (IsFreqsFault format words t (p + word_behind format rest parts) f) pass.0
    (subst (λ k. IsFreqsFault format words t (p + k) f) (sym pass.1) fault))
