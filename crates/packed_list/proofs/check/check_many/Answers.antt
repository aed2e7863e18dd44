use Rattle.std.proofs.Common.{ℕ, true, false, Some, List, sym, ap, ◌∙◌, arith}
use Rattle.bit_words.specs.Bits.{bits_of}
use Rattle.bit_words.proofs.Value.{length-bits_of}
use Rattle.collection_model.specs.FormatNumbers.{format_three}
use Rattle.collection_model.specs.Sequences.{doc_sequence, freq_sequence}
use Rattle.packed_sequence.specs.SequenceBits.{last_doc, last_sum}
use Rattle.packed_sequence.specs.SequencePlaces.{IsSequenceBefore}
use Rattle.packed_list.specs.ListPlaces.{IsFound, HoldsTail}
use Rattle.packed_list.proofs.ListPlaces.{TailFacts, tail-facts, many-found, found-as, found-values, before-as, FoundFacts, found-facts, sums-behind, ends-behind}
use Rattle.packed_list.proofs.check.check_many.Goals as goal
use Rattle.packed_list.proofs.check.check_many.Goals.{After-last_sum, In-Some, In-Some-check_sequence}

-- what a list that stands there is
tail : (c : After-last_sum) → (h : HoldsTail c.args.list.documents c.args.list.postings c.args.list.greatest (bits_of c.args.words.now) c.args.at c.args.to) → TailFacts c.args.list.documents c.args.list.postings c.args.list.greatest (bits_of c.args.words.now) c.args.at c.args.to h.0 h.1 h.2
tail c h =
    tail-facts c.sequences_of_a_list_rise.ensures c.sequences_give_their_list.ensures c.args.list.documents c.args.list.postings c.args.list.greatest (bits_of c.args.words.now) c.args.at c.args.to h.0 h.1 h.2 (omega (arith, c.args.list.documents_fit)) c.requires.many c.requires.ordered
    (omega (arith, c.requires.range, length-bits_of c.args.words.now)) h.3

-- what was found of documents, and of sums behind them
docs-found : (c : In-Some) → IsFound (last_doc c.args.list.documents) c.args.list.postings c.args.list.documents false (bits_of c.args.words.now) c.args.at c.args.to c.in-Some.first
docs-found c = found-as c.last_doc.result (last_doc c.args.list.documents) c.args.list.postings c.from.result c.args.list.documents false (bits_of c.args.words.now) c.args.at c.args.to c.in-Some.first c.last_doc.ensures c.from.ensures c.in-Some.ensures.some.0

sums-found : (c : In-Some-check_sequence) → IsFound (last_sum c.args.list.postings c.args.list.greatest) c.args.list.postings format_three.most_sum true (bits_of c.args.words.now) c.in-Some.first.behind c.args.to c.in-Some-check_sequence.second
sums-found c =
    found-as c.last_sum.result (last_sum c.args.list.postings c.args.list.greatest) c.args.list.postings c.most_sum.result format_three.most_sum true (bits_of c.args.words.now) c.in-Some.first.behind c.args.to c.in-Some-check_sequence.second c.last_sum.ensures c.most_sum.ensures c.in-Some-check_sequence.ensures.some.0

-- what a list that stands there says of them
docs-are : (c : In-Some) → (h : HoldsTail c.args.list.documents c.args.list.postings c.args.list.greatest (bits_of c.args.words.now) c.args.at c.args.to) → FoundFacts (last_doc c.args.list.documents) false c.args.at (doc_sequence h.0) h.1 c.in-Some.first
docs-are c h =
    found-facts c.one_sequence_at_place.ensures (last_doc c.args.list.documents) c.args.list.postings c.args.list.documents false (bits_of c.args.words.now) c.args.at c.args.to c.in-Some.first (doc_sequence h.0) h.1 c.requires.many (omega (arith, c.args.list.few)) (docs-found c)
    (tail (goal.at.In-Some c).After-last_sum h).docs

sums-behind-docs : (c : In-Some) → (h : HoldsTail c.args.list.documents c.args.list.postings c.args.list.greatest (bits_of c.args.words.now) c.args.at c.args.to) → IsSequenceBefore (last_sum c.args.list.postings c.args.list.greatest) c.args.list.postings format_three.most_sum (bits_of c.args.words.now) c.in-Some.first.behind c.args.to (freq_sequence h.0) h.2
sums-behind-docs c h = sums-behind c.args.list.documents c.args.list.postings c.args.list.greatest (bits_of c.args.words.now) c.args.at c.args.to c.in-Some.first h.0 h.1 h.2 (docs-are c h) (tail (goal.at.In-Some c).After-last_sum h)

sums-are : (c : In-Some-check_sequence) → (h : HoldsTail c.args.list.documents c.args.list.postings c.args.list.greatest (bits_of c.args.words.now) c.args.at c.args.to) → FoundFacts (last_sum c.args.list.postings c.args.list.greatest) true c.in-Some.first.behind (freq_sequence h.0) h.2 c.in-Some-check_sequence.second
sums-are c h =
    found-facts c.one_sequence_at_place.ensures (last_sum c.args.list.postings c.args.list.greatest) c.args.list.postings format_three.most_sum true (bits_of c.args.words.now) c.in-Some.first.behind c.args.to c.in-Some-check_sequence.second (freq_sequence h.0) h.2 c.requires.many (omega (arith, c.args.list.few))
    (sums-found c) (sums-behind-docs (goal.at.In-Some-check_sequence c).In-Some h)

pub returns-in_default-clause-tail : goal.returns-in_default-clause-tail
returns-in_default-clause-tail c = (
  λ t. cc,
  λ h. absurd (c.in_default.ensures.none (doc_sequence h.0) h.1
      (before-as (last_doc c.args.list.documents) c.last_doc.result c.args.list.postings c.args.list.documents c.from.result (bits_of c.args.words.now) c.args.at c.args.to (doc_sequence h.0) h.1 (sym c.last_doc.ensures) (sym c.from.ensures) (tail (goal.at.returns-in_default-clause-tail c).After-last_sum h).docs)),
)

pub returns-in_default-check_sequence-clause-tail : goal.returns-in_default-check_sequence-clause-tail
returns-in_default-check_sequence-clause-tail c = (
  λ t. cc,
  λ h. absurd ((c.in_default-check_sequence).ensures.none (freq_sequence h.0) h.2
      (before-as (last_sum c.args.list.postings c.args.list.greatest) c.last_sum.result c.args.list.postings format_three.most_sum c.most_sum.result (bits_of c.args.words.now) c.in-Some.first.behind c.args.to (freq_sequence h.0) h.2 (sym c.last_sum.ensures) (sym c.most_sum.ensures)
      (sums-behind-docs (goal.at.returns-in_default-check_sequence-clause-tail c).In-Some h))),
)

pub returns-then-second-to-clause-tail : goal.returns-then-second-to-clause-tail
returns-then-second-to-clause-tail c = (
  λ t. cc,
  λ h. absurd (c.if-second-to.true (ends-behind c.args.list.documents c.args.list.postings c.args.list.greatest (bits_of c.args.words.now) c.args.at c.args.to c.in-Some.first c.in-Some-check_sequence.second h.0 h.1 h.2 (docs-are (goal.at.returns-then-second-to-clause-tail c).In-Some h)
      (sums-are (goal.at.returns-then-second-to-clause-tail c).In-Some-check_sequence h) (tail (goal.at.returns-then-second-to-clause-tail c).After-last_sum h))),
)

pub returns-clause-tail : goal.returns-clause-tail
returns-clause-tail c = (
  λ t. many-found c.sequences_are_a_list.ensures c.args.list.documents c.args.list.postings c.args.list.greatest (bits_of c.args.words.now) c.args.at c.args.to c.in-Some.first c.in-Some-check_sequence.second c.requires.many (omega (arith, c.args.list.greatest_fits)) (docs-found (goal.at.returns-clause-tail c).In-Some)
      (sums-found (goal.at.returns-clause-tail c).In-Some-check_sequence) c.if-second-to.false (c.is_greatest.ensures.0 t),
  λ h. c.is_greatest.ensures.1
      ((sums-are (goal.at.returns-clause-tail c).In-Some-check_sequence h).greatest_is ∙ ap Some (tail (goal.at.returns-clause-tail c).After-last_sum h).step),
)

-- what was given is the list that stands there
pub returns-clause-docs : goal.returns-clause-docs
returns-clause-docs c = λ t some list ends cuts stands.
    let n : ℕ = c.args.list.documents in
    let m : ℕ = c.args.list.postings in
    let bits : List ℕ = bits_of c.args.words.now in
    let first = c.in-Some.ensures.some in
    let facts = tail (goal.at.returns-clause-docs c).After-last_sum (list, ends, cuts, stands) in
    first.1 some ∙ found-values c.one_sequence_at_place.ensures c.last_doc.result m c.from.result false bits c.args.at c.args.to c.in-Some.first (doc_sequence list) ends c.requires.many (omega (arith, c.args.list.few)) first.0
    (before-as (last_doc n) c.last_doc.result m n c.from.result bits c.args.at c.args.to (doc_sequence list) ends (sym c.last_doc.ensures) (sym c.from.ensures) facts.docs)

pub returns-clause-sums : goal.returns-clause-sums
returns-clause-sums c = λ t some list ends cuts stands.
    let m : ℕ = c.args.list.postings in
    let bits : List ℕ = bits_of c.args.words.now in
    let second = c.in-Some-check_sequence.ensures.some in
    second.1 some ∙ found-values c.one_sequence_at_place.ensures c.last_sum.result m c.most_sum.result true bits c.in-Some.first.behind c.args.to c.in-Some-check_sequence.second (freq_sequence list) cuts c.requires.many (omega (arith, c.args.list.few)) second.0
    (before-as (last_sum m c.args.list.greatest) c.last_sum.result m format_three.most_sum c.most_sum.result bits c.in-Some.first.behind c.args.to (freq_sequence list) cuts (sym c.last_sum.ensures) (sym c.most_sum.ensures)
    (sums-behind-docs (goal.at.returns-clause-sums c).In-Some (list, ends, cuts, stands)))
