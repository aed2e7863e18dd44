use Rattle.std.proofs.Common.{◌≡◌, ◌-◌, ◌*◌, ◌<◌, ◌≤◌, ◌^◌, ◌++◌, length, slice_index, refl, sym, ap, ◌∙◌, subst, arith, append-nil}
use Rattle.std.proofs.lemmas.List.{length-append}
use Rattle.bit_words.specs.Bits.{field_bits}
use Rattle.bit_words.proofs.Value.{length-field_bits}
use Rattle.std.proofs.lemmas.Result.{on_ok_weaker, on_err_weaker}
use Rattle.bit_words.proofs.Outcomes.{on-err}
use Rattle.part_cost.specs.Payload.{digits}
use Rattle.part_cost.proofs.DigitCounts.{digits-hold}
use Rattle.packed_list.specs.Gamma.{gamma, gamma_length}
use Rattle.packed_list.proofs.GammaCodes.{gamma-takes}
use Rattle.packed_sequence.specs.SequenceBits.{last_doc, last_sum, IsStored}
use Rattle.packed_list.proofs.ListPieces.{head-of, docs-of, count-docs, none-of, single-of}
use Rattle.packed_list.proofs.ListWritten.{has-parts, docs-are, sums-are, stored-by, room-of-head, prefix-count, prefix-most, head-whole, length-behind, single-whole, single-prefix, docs-whole, docs-room, docs-prefix, sums-room, sums-prefix, sums-whole}
use Rattle.packed_list.proofs.write.append_list.Goals as goal
use Rattle.packed_list.proofs.write.append_list.Goals.{After-last_doc-docs, After-last_sum-sums, In_ok-append_sequence}

-- the head was written
head-is : (c : After-last_doc-docs) → c.put_gamma-2.new.to ≡ c.args.to.now ++ head-of (length c.args.list.now.docs.now) c.args.list.now.greatest
head-is c =
    head-whole c.args.to.now c.put_gamma.new.to c.put_gamma-2.new.to (length c.args.list.now.docs.now) c.from.result c.args.list.now.greatest c.in_ok-put_gamma.ensures.ok c.in_ok-put_gamma-2.ensures.ok c.from.ensures

width-is : (c : After-last_doc-docs) → c.last_doc-docs.result.width ≡ digits (c.args.documents - 1)
width-is c = ap (λ d. d.width) c.last_doc-docs.ensures

-- and the documents behind it
docs-are_behind : (c : In_ok-append_sequence)
    → c.append_sequence.new.to ≡ c.args.to.now ++ (head-of (length c.args.list.now.docs.now) c.args.list.now.greatest ++ docs-of c.args.documents (length c.args.to.now) (length c.args.list.now.docs.now) c.args.list.now.greatest c.args.list.now.docs.now c.args.list.now.doc_ends.now)
docs-are_behind c =
    docs-whole c.args.documents c.args.list.now c.args.to.now c.put_gamma-2.new.to c.append_sequence.new.to c.last_doc-docs.result (head-is (goal.at.In_ok-append_sequence c).After-last_doc-docs) c.last_doc-docs.ensures c.in_ok-append_sequence.ensures.ok

-- the sums are those of a list
sums-stored : (c : After-last_sum-sums) → IsStored (last_sum (length c.args.list.now.docs.now) c.args.list.now.greatest) (length c.args.list.now.docs.now) c.args.list.now.sums.now c.args.list.now.sum_ends.now
sums-stored c = sums-are c.sequences_of_a_list_rise.ensures c.args.documents c.args.list.now c.requires.list.0 (omega (arith, c.ranges.documents.fits)) c.requires.list.1 (omega (arith, c.if-m-eq0.false))

pub put_gamma-requires-clause-room : goal.put_gamma-requires-clause-room
put_gamma-requires-clause-room c =
    omega (arith, c.requires.room c.requires.list.0 c.requires.list.1, room-of-head c.args.documents c.args.list.now c.requires.list.0 c.args.to.now (omega (arith, c.ranges.documents.fits)) c.requires.list.1 (omega (arith, c.if-m-eq0.false)))

pub returns-in_err-put_gamma-clause-err : goal.returns-in_err-put_gamma-clause-err
returns-in_err-put_gamma-clause-err c = λ list h.
    on-err _ _ (prefix-count c.args.documents c.args.list.now list c.args.to.now c.put_gamma.new.to h (omega (arith, c.if-m-eq0.false)) c.in_err-put_gamma.ensures.err)

pub put_gamma-requires-2-clause-some : goal.put_gamma-requires-2-clause-some
put_gamma-requires-2-clause-some c =
    omega (arith, c.from.ensures, c.requires.list.1.most, (has-parts c.args.documents c.args.list.now c.requires.list.0 c.requires.list.1 (omega (arith, c.if-m-eq0.false))).least)

pub put_gamma-requires-2-clause-room : goal.put_gamma-requires-2-clause-room
put_gamma-requires-2-clause-room c =
    let some : 1 ≤ length c.args.list.now.docs.now = omega (arith, c.if-m-eq0.false) in
    let has = has-parts c.args.documents c.args.list.now c.requires.list.0 c.requires.list.1 some in
    omega (
      arith,
      c.requires.room c.requires.list.0 c.requires.list.1,
      room-of-head c.args.documents c.args.list.now c.requires.list.0 c.args.to.now (omega (arith, c.ranges.documents.fits)) c.requires.list.1 some,
      ap length c.in_ok-put_gamma.ensures.ok,
      length-append c.args.to.now (gamma (length c.args.list.now.docs.now)),
      gamma-takes.count (length c.args.list.now.docs.now) some (omega (arith, has.few, count-docs c.requires.list.0 c.args.list.now.docs.now c.requires.list.1.of_docs, c.ranges.documents.fits)),
      ap gamma_length c.from.ensures,
    )

pub returns-in_err-put_gamma-2-clause-err : goal.returns-in_err-put_gamma-2-clause-err
returns-in_err-put_gamma-2-clause-err c = λ list h.
    on-err _ _ (prefix-most c.args.documents c.args.list.now list c.args.to.now c.put_gamma.new.to c.put_gamma-2.new.to h (omega (arith, c.if-m-eq0.false)) c.in_ok-put_gamma.ensures.ok c.from.result c.from.ensures c.in_err-put_gamma-2.ensures.err)

pub put-requires-clause-fits : goal.put-requires-clause-fits
put-requires-clause-fits c =
    let first : slice_index c.args.list.now.docs.now 0 < c.args.documents = subst (λ zs. slice_index zs 0 < c.args.documents) (sym c.requires.list.1.of_docs) (c.requires.list.1.cut.well_formed.in_range 0 0 (omega (arith, c.if-m-eq1.true, ap length c.requires.list.1.of_docs))) in
    let room : c.args.documents - 1 < 2 ^ digits (c.args.documents - 1) = digits-hold (c.args.documents - 1) (omega (arith, c.ranges.documents.fits)) in
    let same : 2 ^ c.last_doc-docs.result.width ≡ 2 ^ digits (c.args.documents - 1) = ap (λ d. 2 ^ d) (width-is (goal.at.put-requires-clause-fits c).After-last_doc-docs) in
    omega (arith, first, room, same)

pub put-requires-clause-room : goal.put-requires-clause-room
put-requires-clause-room c =
    omega (
      arith,
      c.requires.room c.requires.list.0 c.requires.list.1,
      width-is (goal.at.put-requires-clause-room c).After-last_doc-docs,
      length-behind c.args.to.now c.put_gamma-2.new.to (length c.args.list.now.docs.now) c.args.list.now.greatest (head-is (goal.at.put-requires-clause-room c).After-last_doc-docs),
      ap length (single-of c.args.documents (length c.args.to.now) c.args.list.now.greatest c.requires.list.0 c.args.list.now.docs.now c.args.list.now.doc_ends.now c.args.list.now.sum_ends.now c.requires.list.1.of_docs c.requires.list.1.most c.if-m-eq1.true),
      length-append (head-of (length c.args.list.now.docs.now) c.args.list.now.greatest) (field_bits (digits (c.args.documents - 1)) (slice_index c.args.list.now.docs.now 0)),
      length-field_bits (digits (c.args.documents - 1)) (slice_index c.args.list.now.docs.now 0),
    )

pub returns-then-m-eq1-clause-err : goal.returns-then-m-eq1-clause-err
returns-then-m-eq1-clause-err c = λ list h.
    on_err_weaker c.put.result (λ e. single-prefix c.args.documents c.args.list.now list c.args.to.now c.put_gamma-2.new.to c.put.new.self h c.if-m-eq1.true (head-is (goal.at.returns-then-m-eq1-clause-err c).After-last_doc-docs) e) c.put.ensures.err

pub overflow_cast-m : goal.overflow_cast-m
overflow_cast-m c =
    omega (arith, (has-parts c.args.documents c.args.list.now c.requires.list.0 c.requires.list.1 (omega (arith, c.if-m-eq0.false))).few, count-docs c.requires.list.0 c.args.list.now.docs.now c.requires.list.1.of_docs, c.ranges.documents.fits)

pub last_sum-sums-requires-clause-not_zero : goal.last_sum-sums-requires-clause-not_zero
last_sum-sums-requires-clause-not_zero c =
    omega (arith, c.requires.list.1.most, (has-parts c.args.documents c.args.list.now c.requires.list.0 c.requires.list.1 (omega (arith, c.if-m-eq0.false))).least)

pub append_sequence-requires-clause-stored : goal.append_sequence-requires-clause-stored
append_sequence-requires-clause-stored c =
    stored-by c.last_doc-docs.result (last_doc c.args.documents) (length c.args.list.now.docs.now) (length c.args.list.now.docs.now) c.args.list.now.docs.now c.args.list.now.doc_ends.now c.last_doc-docs.ensures refl
    (docs-are c.args.documents c.args.list.now c.requires.list.0 (omega (arith, c.ranges.documents.fits)) c.requires.list.1 (omega (arith, c.if-m-eq0.false)))

pub append_sequence-requires-clause-few : goal.append_sequence-requires-clause-few
append_sequence-requires-clause-few c =
    omega (arith, (has-parts c.args.documents c.args.list.now c.requires.list.0 c.requires.list.1 (omega (arith, c.if-m-eq0.false))).few, count-docs c.requires.list.0 c.args.list.now.docs.now c.requires.list.1.of_docs, c.ranges.documents.fits)

pub returns-in_err-append_sequence-clause-err : goal.returns-in_err-append_sequence-clause-err
returns-in_err-append_sequence-clause-err c = λ list h.
    on-err _ _ (docs-prefix c.args.documents c.args.list.now list c.args.to.now h (omega (arith, c.if-m-eq0.false, c.if-m-eq1.false)) c.put_gamma-2.new.to c.append_sequence.new.to c.last_doc-docs.result (head-is (goal.at.returns-in_err-append_sequence-clause-err c).After-last_doc-docs) c.last_doc-docs.ensures c.in_err-append_sequence.ensures.err)

pub append_sequence-requires-2-clause-stored : goal.append_sequence-requires-2-clause-stored
append_sequence-requires-2-clause-stored c =
    stored-by c.last_sum-sums.result (last_sum (length c.args.list.now.docs.now) c.args.list.now.greatest) (length c.args.list.now.docs.now) (length c.args.list.now.sums.now) c.args.list.now.sums.now c.args.list.now.sum_ends.now
    c.last_sum-sums.ensures (sym (sums-stored (goal.at.append_sequence-requires-2-clause-stored c).After-last_sum-sums).count) (sums-stored (goal.at.append_sequence-requires-2-clause-stored c).After-last_sum-sums)

pub append_sequence-requires-2-clause-few : goal.append_sequence-requires-2-clause-few
append_sequence-requires-2-clause-few c =
    omega (
      arith,
      (sums-stored (goal.at.append_sequence-requires-2-clause-few c).After-last_sum-sums).count,
      (has-parts c.args.documents c.args.list.now c.requires.list.0 c.requires.list.1 (omega (arith, c.if-m-eq0.false))).few,
      count-docs c.requires.list.0 c.args.list.now.docs.now c.requires.list.1.of_docs,
      c.ranges.documents.fits,
    )

pub returns-clause-err : goal.returns-clause-err
returns-clause-err c = λ list h.
    on_err_weaker c.append_sequence-2.result
    (λ f. sums-prefix c.args.documents c.args.list.now list c.args.to.now h (omega (arith, c.if-m-eq0.false, c.if-m-eq1.false)) c.append_sequence.new.to c.append_sequence-2.new.to c.last_sum-sums.result (docs-are_behind (goal.at.returns-clause-err c).In_ok-append_sequence) c.last_sum-sums.ensures f) c.append_sequence-2.ensures.err

pub returns-clause-ok : goal.returns-clause-ok
returns-clause-ok c = λ list h.
    on_ok_weaker c.append_sequence-2.result
    (λ e. sums-whole c.args.documents c.args.list.now list c.args.to.now h (omega (arith, c.if-m-eq0.false, c.if-m-eq1.false)) c.append_sequence.new.to c.append_sequence-2.new.to c.last_sum-sums.result (docs-are_behind (goal.at.returns-clause-ok c).In_ok-append_sequence) c.last_sum-sums.ensures e) c.append_sequence-2.ensures.ok

pub returns-then-m-eq1-clause-ok : goal.returns-then-m-eq1-clause-ok
returns-then-m-eq1-clause-ok c = λ list h.
    on_ok_weaker c.put.result
    (λ e. single-whole c.args.documents c.args.list.now list c.args.to.now c.put_gamma-2.new.to c.put.new.self c.last_doc-docs.result.width h c.if-m-eq1.true (head-is (goal.at.returns-then-m-eq1-clause-ok c).After-last_doc-docs) (ap (λ d. d.width) c.last_doc-docs.ensures) e) c.put.ensures.ok

pub append_sequence-requires-clause-room : goal.append_sequence-requires-clause-room
append_sequence-requires-clause-room c =
    omega (
      arith,
      c.requires.room c.requires.list.0 c.requires.list.1,
      docs-room c.args.documents c.args.list.now c.requires.list.0 c.args.to.now c.requires.list.1 (omega (arith, c.if-m-eq0.false, c.if-m-eq1.false)) c.put_gamma-2.new.to c.last_doc-docs.result (head-is (goal.at.append_sequence-requires-clause-room c).After-last_doc-docs) c.last_doc-docs.ensures,
    )

pub append_sequence-requires-2-clause-room : goal.append_sequence-requires-2-clause-room
append_sequence-requires-2-clause-room c =
    omega (
      arith,
      c.requires.room c.requires.list.0 c.requires.list.1,
      sums-room c.args.documents c.args.list.now c.requires.list.0 c.args.to.now c.requires.list.1 (omega (arith, c.if-m-eq0.false, c.if-m-eq1.false)) c.append_sequence.new.to c.last_sum-sums.result (docs-are_behind (goal.at.append_sequence-requires-2-clause-room c).In_ok-append_sequence) c.last_sum-sums.ensures,
    )

pub append_sequence-requires-clause-narrow : goal.append_sequence-requires-clause-narrow
append_sequence-requires-clause-narrow c = let e : c.last_doc-docs.result.width ≡ digits (c.args.documents - 1) = ap (λ d. d.width) c.last_doc-docs.ensures in omega (arith, e)

pub append_sequence-requires-2-clause-narrow : goal.append_sequence-requires-2-clause-narrow
append_sequence-requires-2-clause-narrow c =
    let e : c.last_sum-sums.result.width ≡ digits (length c.args.list.now.docs.now * (c.args.list.now.greatest - 1)) = ap (λ d. d.width) c.last_sum-sums.ensures in
    omega (arith, e)

pub returns-then-m-eq0-clause-ok : goal.returns-then-m-eq0-clause-ok
returns-then-m-eq0-clause-ok c = λ list h.
    sym (append-nil c.args.to.now) ∙ ap (λ bits. c.args.to.now ++ bits) (sym (none-of c.args.documents (length c.args.to.now) list c.args.list.now.docs.now c.args.list.now.doc_ends.now c.args.list.now.sum_ends.now h.of_docs c.if-m-eq0.true))
