use Rattle.std.proofs.Common.{◌≡◌, ℕ, ◌*◌, ◌<◌, List, length, slice_index, Some, refl, sym, ap, ◌∙◌, subst, arith}
use Rattle.std.specs.Prelude.{option_map}
use Rattle.std.proofs.lemmas.Option.{slice_get-get_or}
use Rattle.std.proofs.lemmas.List.{length-map}
use Rattle.bit_words.specs.Bits.{bits_of}
use Rattle.collection_model.specs.FormatNumbers.{format_three}
use Rattle.collection_model.specs.Collection.{Posting, docs_of, freqs_of, first_at_least, greatest_freq}
use Rattle.collection_model.specs.Sequences.{doc_sequence, freq_sequence, steps_from}
use Rattle.cursor_api.specs.NextGeq.{next_geq_place}
use Rattle.two_level.specs.SequenceView.{SequenceView, place_at_least}
use Rattle.postings.proofs.FirstPosting.{pair_of, found, none-found}
use Rattle.packed_sequence.specs.SequenceBits.{last_doc, last_sum}
use Rattle.packed_sequence.specs.SequencePlaces.{IsSequenceBefore}
use Rattle.packed_list.specs.Gamma.{behind_gamma}
use Rattle.packed_list.specs.ListStated.{list_at}
use Rattle.index_file.specs.PackedView.{packed_postings}
use Rattle.pefidx_c.specs.Heads.{sums_place}
use Rattle.pefidx_c.proofs.ListHeads.{HeadRead, head-read, SequencesStand, sequences-stand, sequence-as, ListRead, list-read, next-among_docs, doc-at, no-doc-at, narrow-words}
use Rattle.pefidx_c.proofs.heads.posting_by_head.Goals as goal
use Rattle.pefidx_c.proofs.heads.posting_by_head.Goals.{After-places_by_head-places, After-last_doc, After-known_sequence-docs, After-cursor_from-cursor, In-Some, After-last_sum-last, After-known_sequence-sums, After-step}

-- the list, and what stands at its head
abbrev list : After-places_by_head-places → List Posting
list c = c.requires.list.2.list.0

read : (c : After-places_by_head-places) → HeadRead c.args.documents c.args.words.now c.args.from c.requires.list.0 (list c) c.requires.list.2.list.1 c.requires.list.2.list.2
read c = head-read c.args.documents c.args.words.now c.args.from c.requires.list.0 (omega (arith, c.ranges.documents.fits)) (λ e. omega (arith, e, c.requires.list.1)) c.requires.list.2

count-is : (c : After-places_by_head-places) → c.places_by_head-places.result.count ≡ length (list c)
count-is c = c.places_by_head-places.ensures.count ∙ (read c).count.number

most-is : (c : After-places_by_head-places) → c.places_by_head-places.result.greatest ≡ greatest_freq (list c)
most-is c = c.places_by_head-places.ensures.greatest ∙ (read c).most.number

-- where its two sequences stand, and what it is
stand : (c : After-places_by_head-places) → SequencesStand c.args.documents c.args.words.now c.args.from c.requires.list.0 (list c) c.requires.list.2.list.1 c.requires.list.2.list.2
stand c =
    sequences-stand c.sequences_of_a_list_rise.ensures c.sequences_give_their_list.ensures c.sequences_state_back.ensures c.args.documents c.args.words.now c.args.from c.requires.list.0 (list c) c.requires.list.2.list.1 c.requires.list.2.list.2
    (omega (arith, c.ranges.documents.fits)) (narrow-words c.args.words.now (λ k. omega (arith, c.type_inv.words k))) c.requires.list.2.within (omega (arith, c.requires.many, (read c).count.number)) (read c)

told : (c : After-places_by_head-places) → ListRead c.args.documents c.args.words.now c.args.from (list c)
told c =
    list-read c.sequences_of_a_list_rise.ensures c.sequences_give_their_list.ensures c.lists_state_back.ensures c.args.documents c.args.words.now c.args.from c.requires.list.0
    (omega (arith, c.ranges.documents.fits)) (narrow-words c.args.words.now (λ k. omega (arith, c.type_inv.words k))) c.requires.list.1 c.requires.list.2

docs-stand : (c : After-last_doc)
    → IsSequenceBefore c.last_doc.result c.places_by_head-places.result.count format_three.most_sum (bits_of c.args.words.now) c.places_by_head-places.result.docs (64 * length c.args.words.now) (doc_sequence c.requires.list.2.list.0) c.requires.list.2.list.1
docs-stand c =
    let a = (goal.at.After-last_doc c).After-places_by_head-places in
    sequence-as (last_doc c.args.documents) c.last_doc.result (length (list a)) c.places_by_head-places.result.count (behind_gamma (bits_of c.args.words.now) (behind_gamma (bits_of c.args.words.now) c.args.from)) c.places_by_head-places.result.docs
    c.args.words.now (doc_sequence (list a)) c.requires.list.2.list.1 c.last_doc.ensures (count-is a) c.places_by_head-places.ensures.docs (stand a).docs

pub known_sequence-docs-requires-clause-stands : goal.known_sequence-docs-requires-clause-stands
known_sequence-docs-requires-clause-stands c =
    (doc_sequence c.requires.list.2.list.0, c.requires.list.2.list.1, docs-stand (goal.at.known_sequence-docs-requires-clause-stands c).After-last_doc)

abbrev view : List ℕ → List ℕ → SequenceView
view xs ends = record { format = format_three; values = xs; ends = ends }

docs-are : (c : After-known_sequence-docs) → c.known_sequence-docs.result ≡ view (doc_sequence c.requires.list.2.list.0) c.requires.list.2.list.1
docs-are c = c.known_sequence-docs.ensures (doc_sequence c.requires.list.2.list.0) c.requires.list.2.list.1 (docs-stand (goal.at.After-known_sequence-docs c).After-last_doc)

-- where the first document from d on stands
went : (c : After-cursor_from-cursor) → c.cursor_from-cursor.result.place ≡ next_geq_place c.requires.list.2.list.0 0 c.args.d
went c =
    c.cursor_from-cursor.ensures.place
    ∙ ap (λ (v : SequenceView). place_at_least v.values 0 c.from.result) (docs-are (goal.at.After-cursor_from-cursor c).After-known_sequence-docs)
    ∙ ap (place_at_least (docs_of c.requires.list.2.list.0) 0) c.from.ensures
    ∙ next-among_docs c.requires.list.2.list.0 c.args.d

-- if there is one
there : (c : In-Some) → (c.cursor_from-cursor.result.place < length (docs_of c.requires.list.2.list.0)) × (c.in-Some.doc ≡ slice_index (docs_of c.requires.list.2.list.0) c.cursor_from-cursor.result.place)
there c =
    subst (λ (v : SequenceView). (c.cursor_from-cursor.result.place < length v.values) × (c.in-Some.doc ≡ slice_index v.values c.cursor_from-cursor.result.place))
    (c.cursor_from-cursor.ensures.sequence ∙ docs-are (goal.at.In-Some c).After-known_sequence-docs) c.in-Some.ensures.some

sums-stand : (c : After-last_sum-last)
    → IsSequenceBefore c.last_sum-last.result c.places_by_head-places.result.count format_three.most_sum (bits_of c.args.words.now) c.places_by_head-places.result.sums (64 * length c.args.words.now) (freq_sequence c.requires.list.2.list.0) c.requires.list.2.list.2
sums-stand c =
    let a = (goal.at.After-last_sum-last c).After-places_by_head-places in
    let last = c.last_sum-last.ensures ∙ ap (λ m. last_sum m c.places_by_head-places.result.greatest) (count-is a) ∙ ap (last_sum (length (list a))) (most-is a) in
    sequence-as (last_sum (length (list a)) (greatest_freq (list a))) c.last_sum-last.result (length (list a)) c.places_by_head-places.result.count (sums_place c.args.documents c.args.words.now c.args.from) c.places_by_head-places.result.sums
    c.args.words.now (freq_sequence (list a)) c.requires.list.2.list.2 last (count-is a) c.places_by_head-places.ensures.sums (stand a).sums

pub last_sum-last-requires-clause-not_zero : goal.last_sum-last-requires-clause-not_zero
last_sum-last-requires-clause-not_zero c =
    let a = (goal.at.last_sum-last-requires-clause-not_zero c).After-places_by_head-places in
    omega (arith, most-is a, (read a).most_stands.some)

pub known_sequence-sums-requires-clause-stands : goal.known_sequence-sums-requires-clause-stands
known_sequence-sums-requires-clause-stands c =
    (freq_sequence c.requires.list.2.list.0, c.requires.list.2.list.2, sums-stand (goal.at.known_sequence-sums-requires-clause-stands c).After-last_sum-last)

sums-are : (c : After-known_sequence-sums) → c.known_sequence-sums.result ≡ view (freq_sequence c.requires.list.2.list.0) c.requires.list.2.list.2
sums-are c = c.known_sequence-sums.ensures (freq_sequence c.requires.list.2.list.0) c.requires.list.2.list.2 (sums-stand (goal.at.After-known_sequence-sums c).After-last_sum-last)

-- a place among the documents is one among the frequencies
within : (c : In-Some) → c.cursor_from-cursor.result.place < length c.requires.list.2.list.0
within c = let t = told (goal.at.In-Some c).After-places_by_head-places in omega (arith, (there c).0, t.docs_count)

pub step-requires : goal.step-requires
step-requires c =
    let t = told (goal.at.step-requires c).After-places_by_head-places in
    omega (arith, within (goal.at.step-requires c).In-Some, t.sums_count, c.place.ensures, ap (λ (v : SequenceView). length v.values) (sums-are (goal.at.step-requires c).After-known_sequence-sums))

-- the frequency there
step-is : (c : After-step) → c.step.result ≡ slice_index (freqs_of c.requires.list.2.list.0) c.cursor_from-cursor.result.place
step-is c =
    c.step.ensures
    ∙ ap (λ (v : SequenceView). slice_index (steps_from 0 v.values) c.place.result) (sums-are (goal.at.After-step c).After-known_sequence-sums)
    ∙ ap (λ (fs : List ℕ). slice_index fs c.place.result) (told (goal.at.After-step c).After-places_by_head-places).steps
    ∙ ap (slice_index (freqs_of c.requires.list.2.list.0)) c.place.ensures

freqs-count : (list : List Posting) → length (freqs_of list) ≡ length list
freqs-count list = length-map list (λ p. p.freq)

pub overflow_cast-result : goal.overflow_cast-result
overflow_cast-result c =
    let t = told (goal.at.overflow_cast-result c).After-places_by_head-places in
    let h = there (goal.at.overflow_cast-result c).In-Some in
    omega (arith, h.1, t.good.in_range c.cursor_from-cursor.result.place 0 h.0, c.ranges.documents.fits)

pub overflow_cast-result-in-Some : goal.overflow_cast-result-in-Some
overflow_cast-result-in-Some c =
    let t = told (goal.at.overflow_cast-result-in-Some c).After-places_by_head-places in
    let lt = within (goal.at.overflow_cast-result-in-Some c).In-Some in
    omega (arith, step-is (goal.at.overflow_cast-result-in-Some c).After-step, t.good.fit c.cursor_from-cursor.result.place 0 (omega (arith, lt, freqs-count c.requires.list.2.list.0)))

-- the answer is that of the list
answer : (c : After-places_by_head-places)
    → option_map pair_of (first_at_least c.requires.list.2.list.0 c.args.d) ≡ option_map pair_of (first_at_least (packed_postings (list_at c.args.documents c.args.words.now c.args.from)) c.args.d)
answer c = ap (λ ps. option_map pair_of (first_at_least ps c.args.d)) (sym (told c).stated)

pub returns-in-Some : goal.returns-in-Some
returns-in-Some c =
    let a = (goal.at.returns-in-Some c).After-places_by_head-places in
    let h = there (goal.at.returns-in-Some c).In-Some in
    let l = list a in
    let place = c.cursor_from-cursor.result.place in
    let lt = within (goal.at.returns-in-Some c).In-Some in
    sym (found l l 0 place c.args.d c.in-Some.doc c.step.result refl refl (went (goal.at.returns-in-Some c).After-cursor_from-cursor)
    (doc-at l place c.in-Some.doc (slice_get-get_or (docs_of l) place 0 h.0 ∙ ap Some (sym h.1)))
    (slice_get-get_or (freqs_of l) place 0 (omega (arith, lt, freqs-count l)) ∙ ap Some (sym (step-is (goal.at.returns-in-Some c).After-step))))
    ∙ answer a

pub returns-in-None : goal.returns-in-None
returns-in-None c =
    let a = (goal.at.returns-in-None c).After-places_by_head-places in
    let l = list a in
    let place = c.cursor_from-cursor.result.place in
    let end = subst (λ (v : SequenceView). place ≡ length v.values) (c.cursor_from-cursor.ensures.sequence ∙ docs-are (goal.at.returns-in-None c).After-known_sequence-docs) c.in-None.ensures.none in
    sym (none-found l l 0 place c.args.d refl refl (went (goal.at.returns-in-None c).After-cursor_from-cursor) (no-doc-at l place (omega (arith, end))))
    ∙ answer a
