use Rattle.std.proofs.Common.{◌≡◌, ℕ, ◌+◌, ◌*◌, ◌/◌, ◌-◌, ◌<◌, length, sym, ◌∙◌, arith}
use Rattle.bit_words.specs.Bits.{bits_of}
use Rattle.collection_model.specs.FormatNumbers.{format_three}
use Rattle.collection_model.specs.Collection.{greatest_freq}
use Rattle.collection_model.specs.Sequences.{doc_sequence}
use Rattle.packed_list.specs.Gamma.{behind_gamma, zeros_at}
use Rattle.packed_sequence.specs.Behind.{place_behind}
use Rattle.packed_sequence.specs.SequenceBits.{last_doc}
use Rattle.packed_sequence.specs.SequencePlaces.{IsSequenceBefore}
use Rattle.pefidx_c.specs.Heads.{sums_place}
use Rattle.pefidx_c.proofs.ListHeads.{HeadRead, head-read, HeadTold, head-told, second-stands, SequencesStand, sequences-stand, sequence-as, behind-as, head-single, head-several, narrow-words}
use Rattle.pefidx_c.proofs.heads.head_between.Goals as goal
use Rattle.pefidx_c.proofs.heads.head_between.Goals.{After-gamma_before, In-Some, In-Some-gamma_before, After-last_doc, After-known_sequence_with_end-docs, After-of-sums}

-- what stands at the head
read : (c : After-gamma_before) → HeadRead c.args.documents c.args.words.now c.args.from c.args.to c.requires.list.list.0 c.requires.list.list.1 c.requires.list.list.2
read c = head-read c.args.documents c.args.words.now c.args.from c.args.to (omega (arith, c.ranges.documents.fits)) c.if-from-to.false c.requires.list

pub unreachable-requires : goal.unreachable-requires
unreachable-requires c = c.in_default.ensures.none (length c.requires.list.list.0) (read (goal.at.unreachable-requires c).After-gamma_before).count_stands

pub unreachable-requires-in_default-gamma_before : goal.unreachable-requires-in_default-gamma_before
unreachable-requires-in_default-gamma_before c =
    (c.in_default-gamma_before).ensures.none (greatest_freq c.requires.list.list.0)
    ((second-stands c.args.documents c.args.words.now c.args.from c.args.to c.in-Some.count.number c.in-Some.count.behind c.requires.list.list.0 c.requires.list.list.1 c.requires.list.list.2 c.requires.list.within
    c.in-Some.ensures.some c.in-Some.ensures.behind (read (goal.at.unreachable-requires-in_default-gamma_before c).After-gamma_before)).2)

-- its first number
count-told : (c : In-Some) → c.in-Some.count.number ≡ length c.requires.list.list.0
count-told c =
    (second-stands c.args.documents c.args.words.now c.args.from c.args.to c.in-Some.count.number c.in-Some.count.behind c.requires.list.list.0 c.requires.list.list.1 c.requires.list.list.2 c.requires.list.within
    c.in-Some.ensures.some c.in-Some.ensures.behind (read (goal.at.In-Some c).After-gamma_before)).0

-- and what was read of it
told : (c : In-Some-gamma_before)
    → HeadTold c.args.documents c.args.words.now c.args.from c.args.to c.in-Some.count.number c.in-Some.count.behind c.in-Some-gamma_before.greatest.number c.in-Some-gamma_before.greatest.behind c.requires.list.list.0 c.requires.list.list.1 c.requires.list.list.2
told c =
    head-told c.args.documents c.args.words.now c.args.from c.args.to c.in-Some.count.number c.in-Some.count.behind c.in-Some-gamma_before.greatest.number c.in-Some-gamma_before.greatest.behind c.requires.list.list.0 c.requires.list.list.1 c.requires.list.list.2
    c.requires.list.within c.in-Some.ensures.some c.in-Some.ensures.behind c.in-Some-gamma_before.ensures.some c.in-Some-gamma_before.ensures.behind (read (goal.at.In-Some-gamma_before c).After-gamma_before)

pub returns-then-count-eq1 : goal.returns-then-count-eq1
returns-then-count-eq1 c =
    let h = read (goal.at.returns-then-count-eq1 c).After-gamma_before in
    sym (head-single c.args.documents c.args.words.now c.args.from c.args.to c.if-from-to.false (h.count.number ∙ sym (count-told (goal.at.returns-then-count-eq1 c).In-Some) ∙ c.if-count-eq1.true))

-- where the two sequences of several postings stand
stand : (c : After-last_doc) → SequencesStand c.args.documents c.args.words.now c.args.from c.args.to c.requires.list.list.0 c.requires.list.list.1 c.requires.list.list.2
stand c =
    let t = told (goal.at.After-last_doc c).In-Some-gamma_before in
    sequences-stand c.sequences_of_a_list_rise.ensures c.sequences_give_their_list.ensures c.sequences_state_back.ensures c.args.documents c.args.words.now c.args.from c.args.to c.requires.list.list.0 c.requires.list.list.1 c.requires.list.list.2
    (omega (arith, c.ranges.documents.fits)) (narrow-words c.args.words.now (λ k. omega (arith, c.type_inv.words k))) c.requires.list.within
    (omega (arith, t.count_is, c.if-count-eq1.false, t.head.count_stands.some)) t.head

docs-stand : (c : After-last_doc)
    → IsSequenceBefore c.last_doc.result c.in-Some.count.number format_three.most_sum (bits_of c.args.words.now) c.in-Some-gamma_before.greatest.behind (64 * length c.args.words.now) (doc_sequence c.requires.list.list.0) c.requires.list.list.1
docs-stand c =
    let t = told (goal.at.After-last_doc c).In-Some-gamma_before in
    sequence-as (last_doc c.args.documents) c.last_doc.result (length c.requires.list.list.0) c.in-Some.count.number (behind_gamma (bits_of c.args.words.now) (behind_gamma (bits_of c.args.words.now) c.args.from)) c.in-Some-gamma_before.greatest.behind
    c.args.words.now (doc_sequence c.requires.list.list.0) c.requires.list.list.1 c.last_doc.ensures t.count_is t.last_is (stand c).docs

pub known_sequence_with_end-docs-requires-clause-stands : goal.known_sequence_with_end-docs-requires-clause-stands
known_sequence_with_end-docs-requires-clause-stands c =
    (doc_sequence c.requires.list.list.0, c.requires.list.list.1, docs-stand (goal.at.known_sequence_with_end-docs-requires-clause-stands c).After-last_doc)

-- the place behind the documents is that of the sums
sums-place : (c : After-known_sequence_with_end-docs) → place_behind c.known_sequence_with_end-docs.result.behind c.in-Some.count.number ≡ sums_place c.args.documents c.args.words.now c.args.from
sums-place c =
    let a = (goal.at.After-known_sequence_with_end-docs c).After-last_doc in
    let t = told (goal.at.After-known_sequence_with_end-docs c).In-Some-gamma_before in
    c.known_sequence_with_end-docs.ensures.behind (doc_sequence c.requires.list.list.0) c.requires.list.list.1 (docs-stand a)
    ∙ behind-as c.args.documents c.last_doc.result (behind_gamma (bits_of c.args.words.now) (behind_gamma (bits_of c.args.words.now) c.args.from)) c.in-Some-gamma_before.greatest.behind (doc_sequence c.requires.list.list.0) c.requires.list.list.1 c.last_doc.ensures t.last_is
    ∙ sym (stand a).place

pub of-sums-requires-clause-room : goal.of-sums-requires-clause-room
of-sums-requires-clause-room c =
    omega (arith, sums-place (goal.at.of-sums-requires-clause-room c).After-known_sequence_with_end-docs, (stand (goal.at.of-sums-requires-clause-room c).After-last_doc).within, c.requires.list.few)

-- the three numbers of the head
record Numbers (zeros others sums count_zeros most_zeros place : ℕ) : Type 0 where
  zeros_is : zeros ≡ count_zeros
  others_is : others ≡ most_zeros
  sums_is : sums ≡ place
  few : count_zeros < 32
  few_too : most_zeros < 32
  small : place < 17592186044416

numbers : (c : After-of-sums)
    → Numbers ((c.in-Some.count.behind - c.args.from) / 2) ((c.in-Some-gamma_before.greatest.behind - c.in-Some.count.behind) / 2) c.of-sums.result (zeros_at (bits_of c.args.words.now) c.args.from)
    (zeros_at (bits_of c.args.words.now) (behind_gamma (bits_of c.args.words.now) c.args.from)) (sums_place c.args.documents c.args.words.now c.args.from)
numbers c =
    let t = told (goal.at.After-of-sums c).In-Some-gamma_before in
    let s = stand (goal.at.After-of-sums c).After-last_doc in
    record {
      zeros_is = omega (arith, t.behind_is);
      others_is = omega (arith, t.behind_is, t.last_is);
      sums_is = c.of-sums.ensures ∙ sums-place (goal.at.After-of-sums c).After-known_sequence_with_end-docs;
      few = t.head.count.few;
      few_too = t.head.most.few;
      small = omega (arith, s.within, c.requires.list.few);
    }

pub overflow_mul-result : goal.overflow_mul-result
overflow_mul-result c = let k = numbers (goal.at.overflow_mul-result c).After-of-sums in omega (arith, k.sums_is, k.small)

pub overflow_add-result : goal.overflow_add-result
overflow_add-result c = let k = numbers (goal.at.overflow_add-result c).After-of-sums in omega (arith, k.others_is, k.few_too, k.sums_is, k.small)

pub overflow_mul-result-2 : goal.overflow_mul-result-2
overflow_mul-result-2 c = let k = numbers (goal.at.overflow_mul-result-2 c).After-of-sums in omega (arith, k.others_is, k.few_too, k.sums_is, k.small)

pub overflow_add-result-2 : goal.overflow_add-result-2
overflow_add-result-2 c = let k = numbers (goal.at.overflow_add-result-2 c).After-of-sums in omega (arith, k.zeros_is, k.few, k.others_is, k.few_too, k.sums_is, k.small)

pub returns : goal.returns
returns c =
    let k = numbers (goal.at.returns c).After-of-sums in
    let t = told (goal.at.returns c).In-Some-gamma_before in
    (λ j. k.zeros_is j + 32 * (k.others_is j + 32 * k.sums_is j))
    ∙ sym (head-several c.args.documents c.args.words.now c.args.from c.args.to c.if-from-to.false (λ e. c.if-count-eq1.false (t.count_is ∙ sym t.head.count.number ∙ e)))
