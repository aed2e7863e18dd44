use Rattle.std.proofs.Common.{◌≡◌, ℕ, ◌+◌, ◌-◌, ◌*◌, ◌≤◌, List, [], ◌∷◌, length, refl, sym, ap, ◌∙◌, arith}
use Rattle.bit_words.specs.Bits.{bits_of, field_at}
use Rattle.collection_model.specs.FormatNumbers.{format_three}
use Rattle.collection_model.specs.Collection.{greatest_freq}
use Rattle.collection_model.specs.Sequences.{doc_sequence, freq_sequence}
use Rattle.part_cost.specs.Payload.{digits}
use Rattle.two_level.specs.SequenceView.{SequenceView}
use Rattle.packed_list.specs.Gamma.{gamma_length}
use Rattle.packed_sequence.specs.SequenceBits.{last_sum}
use Rattle.packed_sequence.specs.SequencePlaces.{IsSequenceBefore}
use Rattle.packed_list.specs.ListPlaces.{IsTailBetween}
use Rattle.packed_list.proofs.ListPlaces.{facts-between, TailFacts, tail-facts, single-facts}
use Rattle.packed_list.proofs.StatedList.{Seen, StatesList, docs-stand, one-of, seen, single-read, small-words, stated, sums-stand}
use Rattle.packed_sequence.specs.Behind.{place_behind}
use Rattle.packed_sequence.specs.Sums.{AreSums}
use Rattle.packed_list.proofs.view.view_list.Goals as goal
use Rattle.packed_list.proofs.view.view_list.Goals.{After-last_doc-field, After-get-doc, After-known_sequence_with_end-docs}

pub two_gammas-head-requires-clause-stand : goal.two_gammas-head-requires-clause-stand
two_gammas-head-requires-clause-stand c =
    let f = facts-between c.args.documents c.args.words.now c.args.from c.args.to (omega (arith, c.ranges.documents.fits)) (λ e. omega (arith, e, c.requires.some)) (omega (arith, c.requires.some)) c.requires.range c.requires.list in
    (length c.requires.list.0, greatest_freq c.requires.list.0, record { first = f.count; second = f.most })

-- what was read of the list
read : (c : After-last_doc-field)
    → Seen c.args.documents c.args.words.now c.args.from c.args.to c.two_gammas-head.result.first (c.args.from + gamma_length c.two_gammas-head.result.first) c.two_gammas-head.result.second c.two_gammas-head.result.behind c.requires.list
read c =
    seen c.args.documents c.args.words.now c.args.from c.args.to c.two_gammas-head.result.first (c.args.from + gamma_length c.two_gammas-head.result.first) c.two_gammas-head.result.second c.two_gammas-head.result.behind (omega (arith, c.ranges.documents.fits)) c.requires.some c.requires.range
    c.two_gammas-head.ensures.numbers.first refl c.two_gammas-head.ensures.numbers.second c.two_gammas-head.ensures.behind c.requires.list

-- and what its words state
said : (c : After-last_doc-field) → StatesList c.args.documents c.args.words.now c.args.from c.requires.list.0 c.requires.list.1 c.requires.list.2
said c =
    stated c.lists_state_back.ensures c.args.documents c.args.words.now c.args.from c.args.to (omega (arith, c.ranges.documents.fits)) (small-words c.args.words.now (λ i. (let f = c.type_inv.words i in omega (arith, f)))) c.requires.some c.requires.range c.requires.list

-- the width of the field of the last document
width-is : (c : After-last_doc-field) → c.last_doc-field.result.width ≡ digits (c.args.documents - 1)
width-is c = ap (λ l. l.width) c.last_doc-field.ensures

-- the document that was read of a single posting
doc-is : (c : After-get-doc) → c.get-doc.result ≡ field_at (bits_of c.args.words.now) c.two_gammas-head.result.behind (digits (c.args.documents - 1))
doc-is c = c.get-doc.ensures ∙ ap (field_at (bits_of c.args.words.now) c.two_gammas-head.result.behind) (width-is (goal.at.After-get-doc c).After-last_doc-field)

-- what stands behind the greatest frequency where there is one posting
single : (c : After-last_doc-field) → c.two_gammas-head.result.first ≡ 1
    → IsTailBetween c.args.documents 1 c.two_gammas-head.result.second (bits_of c.args.words.now) c.two_gammas-head.result.behind c.args.to c.requires.list.0 c.requires.list.1 c.requires.list.2
single c one =
    one-of c.args.documents c.two_gammas-head.result.first c.two_gammas-head.result.second (bits_of c.args.words.now) c.two_gammas-head.result.behind c.args.to c.requires.list.0 c.requires.list.1 c.requires.list.2 one (read c).tail

-- and where there are several
several : (c : After-last_doc-field) → (c.two_gammas-head.result.first ≡ 1 → ⊥)
    → TailFacts c.args.documents c.two_gammas-head.result.first c.two_gammas-head.result.second (bits_of c.args.words.now) c.two_gammas-head.result.behind c.args.to c.requires.list.0 c.requires.list.1 c.requires.list.2
several c more =
    let s = read c in
    let many : 2 ≤ c.two_gammas-head.result.first = omega (arith, s.some, more) in
    tail-facts c.sequences_of_a_list_rise.ensures c.sequences_give_their_list.ensures c.args.documents c.two_gammas-head.result.first c.two_gammas-head.result.second (bits_of c.args.words.now) c.two_gammas-head.result.behind c.args.to c.requires.list.0 c.requires.list.1 c.requires.list.2 (omega (arith, c.ranges.documents.fits)) many s.le s.fit s.tail

-- then its documents stand there
docs-there : (c : After-last_doc-field) → (c.two_gammas-head.result.first ≡ 1 → ⊥)
    → IsSequenceBefore c.last_doc-field.result c.two_gammas-head.result.first format_three.most_sum (bits_of c.args.words.now) c.two_gammas-head.result.behind (64 * length c.args.words.now) (doc_sequence c.requires.list.0) c.requires.list.1
docs-there c more =
    docs-stand c.args.documents c.two_gammas-head.result.first c.two_gammas-head.result.second c.args.words.now c.two_gammas-head.result.behind c.args.to c.last_doc-field.result c.requires.list.0 c.requires.list.1 c.requires.list.2 (omega (arith, c.ranges.documents.fits)) c.requires.range c.last_doc-field.ensures (several c more)

-- and its sums behind them
sums-there : (c : After-known_sequence_with_end-docs)
    → AreSums c.args.words.now c.known_sequence_with_end-docs.result.behind c.two_gammas-head.result.first c.two_gammas-head.result.second (freq_sequence c.requires.list.0) c.requires.list.2
sums-there c =
    let place = c.known_sequence_with_end-docs.ensures.behind (doc_sequence c.requires.list.0) c.requires.list.1 (docs-there (goal.at.After-known_sequence_with_end-docs c).After-last_doc-field c.if-head-eq1.false) in
    sums-stand c.args.documents c.two_gammas-head.result.first c.two_gammas-head.result.second c.args.words.now c.two_gammas-head.result.behind c.args.to (place_behind c.known_sequence_with_end-docs.result.behind c.two_gammas-head.result.first) (last_sum c.two_gammas-head.result.first c.two_gammas-head.result.second) c.last_doc-field.result c.requires.list.0 c.requires.list.1 c.requires.list.2 c.requires.range c.last_doc-field.ensures refl place (several (goal.at.After-known_sequence_with_end-docs c).After-last_doc-field c.if-head-eq1.false)

pub get-doc-requires-clause-range : goal.get-doc-requires-clause-range
get-doc-requires-clause-range c =
    let s = read (goal.at.get-doc-requires-clause-range c).After-last_doc-field in
    let f = single-facts c.args.documents c.two_gammas-head.result.second (bits_of c.args.words.now) c.two_gammas-head.result.behind c.args.to c.requires.list.0 c.requires.list.1 c.requires.list.2 (omega (arith, c.ranges.documents.fits)) s.le s.fit (single (goal.at.get-doc-requires-clause-range c).After-last_doc-field c.if-head-eq1.true) in
    omega (arith, f.size, width-is (goal.at.get-doc-requires-clause-range c).After-last_doc-field, s.le, c.requires.range)

pub standing_alone-requires-clause-small : goal.standing_alone-requires-clause-small
standing_alone-requires-clause-small c =
    let s = read (goal.at.standing_alone-requires-clause-small c).After-last_doc-field in
    let f = single-facts c.args.documents c.two_gammas-head.result.second (bits_of c.args.words.now) c.two_gammas-head.result.behind c.args.to c.requires.list.0 c.requires.list.1 c.requires.list.2 (omega (arith, c.ranges.documents.fits)) s.le s.fit (single (goal.at.standing_alone-requires-clause-small c).After-last_doc-field c.if-head-eq1.true) in
    omega (arith, f.inside, doc-is (goal.at.standing_alone-requires-clause-small c).After-get-doc, c.ranges.documents.fits)

pub returns-then-head-eq1-clause-docs : goal.returns-then-head-eq1-clause-docs
returns-then-head-eq1-clause-docs c =
    let s = read (goal.at.returns-then-head-eq1-clause-docs c).After-last_doc-field in
    let r = single-read c.args.documents c.two_gammas-head.result.second (bits_of c.args.words.now) c.two_gammas-head.result.behind c.args.to c.requires.list.0 c.requires.list.1 c.requires.list.2 (omega (arith, c.ranges.documents.fits)) s.le s.fit (single (goal.at.returns-then-head-eq1-clause-docs c).After-last_doc-field c.if-head-eq1.true) in
    let view : List ℕ → List ℕ → SequenceView = λ xs es. record { format = format_three; values = xs; ends = es } in
    c.standing_alone.ensures.one refl ∙ ap (λ d. view (d ∷ []) (1 ∷ [])) (doc-is (goal.at.returns-then-head-eq1-clause-docs c).After-get-doc) ∙ ap (λ xs. view xs (1 ∷ [])) (sym r.docs) ∙ ap (view (doc_sequence c.requires.list.0)) (sym r.doc_end) ∙ sym (said (goal.at.returns-then-head-eq1-clause-docs c).After-last_doc-field).docs

pub returns-then-head-eq1-clause-freqs : goal.returns-then-head-eq1-clause-freqs
returns-then-head-eq1-clause-freqs c =
    let s = read (goal.at.returns-then-head-eq1-clause-freqs c).After-last_doc-field in
    let r = single-read c.args.documents c.two_gammas-head.result.second (bits_of c.args.words.now) c.two_gammas-head.result.behind c.args.to c.requires.list.0 c.requires.list.1 c.requires.list.2 (omega (arith, c.ranges.documents.fits)) s.le s.fit (single (goal.at.returns-then-head-eq1-clause-freqs c).After-last_doc-field c.if-head-eq1.true) in
    let view : List ℕ → List ℕ → SequenceView = λ xs es. record { format = format_three; values = xs; ends = es } in
    let value : c.from-sum.result - 1 ≡ c.two_gammas-head.result.second - 1 = omega (arith, c.from-sum.ensures) in
    c.read.ensures ∙ c.standing_alone-then-head-eq1.ensures.one refl ∙ ap (λ d. view (d ∷ []) (1 ∷ [])) value ∙ ap (λ xs. view xs (1 ∷ [])) (sym r.sums) ∙ ap (view (freq_sequence c.requires.list.0)) (sym r.sum_end) ∙ sym (said (goal.at.returns-then-head-eq1-clause-freqs c).After-last_doc-field).freqs

pub returns-then-head-eq1-clause-greatest : goal.returns-then-head-eq1-clause-greatest
returns-then-head-eq1-clause-greatest c = (read (goal.at.returns-then-head-eq1-clause-greatest c).After-last_doc-field).most ∙ sym (said (goal.at.returns-then-head-eq1-clause-greatest c).After-last_doc-field).most

pub known_sequence_with_end-docs-requires-clause-stands : goal.known_sequence_with_end-docs-requires-clause-stands
known_sequence_with_end-docs-requires-clause-stands c = (doc_sequence c.requires.list.0, c.requires.list.1, docs-there (goal.at.known_sequence_with_end-docs-requires-clause-stands c).After-last_doc-field c.if-head-eq1.false)

pub of_sums-requires : goal.of_sums-requires
of_sums-requires c = record {
  lent = c.requires.words;
  words_fit = small-words c.args.words.now (λ i. (let f = c.type_inv.words i in omega (arith, f)));
  many = omega (arith, (read (goal.at.of_sums-requires c).After-last_doc-field).some, c.if-head-eq1.false);
  few = c.two_gammas-head.ensures.numbers.first.few;
  some = c.two_gammas-head.ensures.numbers.second.some;
  range = c.known_sequence_with_end-docs.ensures.range;
  sums = freq_sequence c.requires.list.0;
  ends = c.requires.list.2;
  stand = sums-there (goal.at.of_sums-requires c).After-known_sequence_with_end-docs;
}

pub returns-clause-docs : goal.returns-clause-docs
returns-clause-docs c = c.known_sequence_with_end-docs.ensures.view (doc_sequence c.requires.list.0) c.requires.list.1 (docs-there (goal.at.returns-clause-docs c).After-last_doc-field c.if-head-eq1.false) ∙ sym (said (goal.at.returns-clause-docs c).After-last_doc-field).docs

pub returns-clause-freqs : goal.returns-clause-freqs
returns-clause-freqs c = c.of_sums.ensures (freq_sequence c.requires.list.0) c.requires.list.2 (sums-there (goal.at.returns-clause-freqs c).After-known_sequence_with_end-docs) ∙ sym (said (goal.at.returns-clause-freqs c).After-last_doc-field).freqs

pub returns-clause-greatest : goal.returns-clause-greatest
returns-clause-greatest c = (read (goal.at.returns-clause-greatest c).After-last_doc-field).most ∙ sym (said (goal.at.returns-clause-greatest c).After-last_doc-field).most
