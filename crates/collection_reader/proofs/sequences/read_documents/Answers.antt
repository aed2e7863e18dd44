use Rattle.std.proofs.Common.{arith, sym, ◌<◌, ◌+◌, ◌-◌, get_or}
use Rattle.std.proofs.lemmas.List.{get_or_push}
use Rattle.std.proofs.lemmas.Result.{err_from_is_err_and}
use Rattle.collection_reader.proofs.Documents.{length_refused, document_refused, document_high, document_low, document_not_kept, one-more}
use Rattle.collection_reader.proofs.sequences.read_documents.Goals as goal
use Rattle.collection_reader.proofs.sequences.read_documents.Goals.{else-place-gt0-via-then-place-gt0+else-document-last, else-place-gt0-via-else-place-gt0}

pub returns-in_err-length : goal.returns-in_err-length
returns-in_err-length g c =
    let p = err_from_is_err_and c.from_residual.result c.from_residual.ensures.1 in
    rw (p.1, p.2) (length_refused c.args.documents c.args.term c.args.held.now c.read_number.new.held c.args.docs.now.items _ _ c.in_err-length.field-0.0 c.in_err-length.ensures)

pub returns-in_err-document : goal.returns-in_err-document
returns-in_err-document g c =
    let p = err_from_is_err_and c.from_residual-in_err-document.result c.from_residual-in_err-document.ensures.1 in
    rw (p.1, p.2) (
    document_refused c.args.documents c.in_ok-length.length c.args.term c.loop-place.place c.args.held.now c.loop-place.held c.read_number-in-loop-place.new.held c.loop-place.docs.items _ _ _ c.in_err-document.field-0.0
    c.loop-place-test.true c.loop-place.invariant.so_far c.in_err-document.ensures
    )

pub returns-then-document-documents : goal.returns-then-document-documents
returns-then-document-documents g c =
    rw c.breaks.ensures (
    document_high c.args.documents c.in_ok-length.length c.args.term c.loop-place.place c.in_ok-document.document c.args.held.now c.loop-place.held c.read_number-in-loop-place.new.held c.loop-place.docs.items _ _ _
    c.loop-place-test.true c.loop-place.invariant.so_far c.in_ok-document.ensures c.if-document-documents.true
    )

pub returns-then-document-last : goal.returns-then-document-last
returns-then-document-last g c =
    rw c.breaks-then-document-last.ensures (
    document_low c.args.documents c.in_ok-length.length c.args.term c.loop-place.place c.in_ok-document.document c.args.held.now c.loop-place.held c.read_number-in-loop-place.new.held c.loop-place.docs.items _ _ _
    c.loop-place-test.true c.loop-place.invariant.so_far c.in_ok-document.ensures c.if-document-documents.false (omega (arith, c.ranges.documents.fits)) c.if-place-gt0.true (omega (arith, c.if-document-last.true, c.loop-place.invariant.last c.if-place-gt0.true))
    )

pub returns-in_err-push : goal.returns-in_err-push
returns-in_err-push g c =
    let p = err_from_is_err_and c.from_residual-in_err-push.result c.from_residual-in_err-push.ensures.1 in
    rw (p.1, p.2) (
    document_not_kept c.args.documents c.in_ok-length.length c.args.term c.loop-place.place c.in_ok-document.document c.args.held.now c.loop-place.held c.read_number-in-loop-place.new.held c.loop-place.docs.items _ _ _ _
    c.loop-place.invariant.so_far c.in_ok-document.ensures
    )

pub loop-place-preserved : goal.loop-place-preserved
loop-place-preserved g c =
    let k = c.loop-place.place in
    let d = c.in_ok-document.document in
    let docs = c.loop-place.docs.items in
    let so_far = c.loop-place.invariant.so_far in
    let above : 0 < k → get_or docs (k - 1) 0 < d = λ some.
    elim c.else-place-gt0.branch [
      | else-place-gt0-via-then-place-gt0+else-document-last w ↦ omega (arith, w.if-document-last.false, c.loop-place.invariant.last some)
      | else-place-gt0-via-else-place-gt0 w ↦ omega (arith, some, w.if-place-gt0.false)
    ]
    in
    rw c.in_ok-push.ensures.items (record {
      so_far = one-more c.args.documents c.in_ok-length.length c.args.term k d c.args.held.now c.loop-place.held c.read_number-in-loop-place.new.held docs _ _ _ so_far c.in_ok-document.ensures c.if-document-documents.false above;
      last = λ some. sym (get_or_push docs d 0 (k + 1 - 1) (omega (arith, so_far.count)));
    })
