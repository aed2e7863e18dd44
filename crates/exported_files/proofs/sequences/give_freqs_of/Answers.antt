use Rattle.std.proofs.Common.{arith, [], sym, ap, ◌∙◌, ◌+◌, length, flat_map}
use Rattle.std.specs.Prelude.{is_some}
use Rattle.std.proofs.lemmas.List.{length-map}
use Rattle.std.proofs.lemmas.Result.{err_from_is_err_and}
use Rattle.collection_model.specs.Bytes.{le32, number_sequence}
use Rattle.collection_model.specs.Collection.{Posting, freqs_of}
use Rattle.word_files.proofs.PlaceByPlace.{front-refused, more-given, place-refused, all-given, number-counted}
use Rattle.exported_files.proofs.PlaceByPlace.{freq-at, freqs-passed, told-within}
use Rattle.exported_files.proofs.sequences.give_freqs_of.Goals as goal

pub returns-in_err-give : goal.returns-in_err-give
returns-in_err-give g c =
    let list = g.C.DocCursor.list c.args.cursor.now in
    let freqs = freqs_of list in
    let p = err_from_is_err_and c.from_residual.result c.from_residual.ensures.1 in
    rw (p.1, p.2) (front-refused (number_sequence freqs) (le32 c.len.result) (flat_map le32 freqs) c.args.writer.now [] [] _ _ _
    (number-counted freqs (length list) c.len.result (length-map list (λ (p : Posting). p.freq)) c.len.ensures) c.in_err-give.ensures)

pub freq-requires : goal.freq-requires
freq-requires g c = told-within (g.C.DocCursor.list c.loop-writer.cursor) (g.C.DocCursor.place c.loop-writer.cursor) (sym (ap is_some c.doc.ensures) ∙ sym c.is_some.ensures ∙ c.loop-writer-test.true)

pub returns-in_err-give-2 : goal.returns-in_err-give-2
returns-in_err-give-2 g c =
    let list = g.C.DocCursor.list c.args.cursor.now in
    let freqs = freqs_of list in
    let p = err_from_is_err_and c.from_residual-in_err-give-2.result c.from_residual-in_err-give-2.ensures.1 in
    let so_far = c.loop-writer.invariant in
    let at = freq-at list (g.C.DocCursor.list c.loop-writer.cursor) (g.C.DocCursor.place c.loop-writer.cursor) c.freq.result so_far.0 c.freq.ensures.value in
    rw (p.1, p.2) (place-refused le32 freqs (le32 (length freqs)) (le32 c.freq.result) c.args.writer.now _ [] [] (g.C.DocCursor.place c.loop-writer.cursor) 0 _ _ _ _ at.0 (ap le32 at.1) so_far.1 c.in_err-give-2.ensures)

pub advance-requires : goal.advance-requires
advance-requires g c =
    let within = told-within (g.C.DocCursor.list c.loop-writer.cursor) (g.C.DocCursor.place c.loop-writer.cursor) (sym (ap is_some c.doc.ensures) ∙ sym c.is_some.ensures ∙ c.loop-writer-test.true) in
    omega (arith, within, c.freq.ensures.place, ap length c.freq.ensures.list)

pub loop-writer-preserved : goal.loop-writer-preserved
loop-writer-preserved g c =
    let list = g.C.DocCursor.list c.args.cursor.now in
    let freqs = freqs_of list in
    let so_far = c.loop-writer.invariant in
    let at = freq-at list (g.C.DocCursor.list c.loop-writer.cursor) (g.C.DocCursor.place c.loop-writer.cursor) c.freq.result so_far.0 c.freq.ensures.value in (
      c.advance.ensures.list ∙ c.freq.ensures.list ∙ so_far.0,
      more-given le32 freqs (le32 (length freqs)) (le32 c.freq.result) c.args.writer.now _ _ (g.C.DocCursor.place c.loop-writer.cursor) _ 0 _ _ _ at.0
          (c.advance.ensures.place ∙ ap (λ k. k + 1) c.freq.ensures.place) (ap le32 at.1) so_far.1 c.in_ok-give-2.ensures,
    )

pub returns : goal.returns
returns g c =
    let list = g.C.DocCursor.list c.args.cursor.now in
    let freqs = freqs_of list in
    let so_far = c.loop-writer.invariant in
    all-given le32 freqs (le32 (length freqs)) c.args.writer.now _ (g.C.DocCursor.place c.loop-writer.cursor) _ _
    (freqs-passed list (g.C.DocCursor.list c.loop-writer.cursor) (g.C.DocCursor.place c.loop-writer.cursor) so_far.0 (sym (ap is_some c.doc.ensures) ∙ sym c.is_some.ensures ∙ c.loop-writer-test.false)) so_far.1
