use Rattle.std.proofs.Common.{[], sym, ap, ◌∙◌, length, flat_map}
use Rattle.std.proofs.lemmas.List.{length-map}
use Rattle.std.proofs.lemmas.Result.{err_from_is_err_and}
use Rattle.collection_model.specs.Bytes.{le32, number_sequence}
use Rattle.collection_model.specs.Collection.{Posting, docs_of}
use Rattle.cursor_api.proofs.FirstPosting.{doc-within}
use Rattle.word_files.proofs.PlaceByPlace.{front-refused, more-given, place-refused, all-given, number-counted}
use Rattle.exported_files.proofs.PlaceByPlace.{doc-at, docs-passed}
use Rattle.exported_files.proofs.sequences.give_docs_of.Goals as goal

pub returns-in_err-give : goal.returns-in_err-give
returns-in_err-give g c =
    let list = g.C.DocCursor.list c.args.cursor.now in
    let docs = docs_of list in
    let p = err_from_is_err_and c.from_residual.result c.from_residual.ensures.1 in
    rw (p.1, p.2) (front-refused (number_sequence docs) (le32 c.len.result) (flat_map le32 docs) c.args.writer.now [] [] _ _ _
    (number-counted docs (length list) c.len.result (length-map list (λ (p : Posting). p.doc)) c.len.ensures) c.in_err-give.ensures)

pub returns-in_err-give-2 : goal.returns-in_err-give-2
returns-in_err-give-2 g c =
    let list = g.C.DocCursor.list c.args.cursor.now in
    let docs = docs_of list in
    let p = err_from_is_err_and c.from_residual-in_err-give-2.result c.from_residual-in_err-give-2.ensures.1 in
    let so_far = c.loop-doc.invariant in
    let at = doc-at list (g.C.DocCursor.list c.loop-doc.cursor) (g.C.DocCursor.place c.loop-doc.cursor) c.in-Some.doc so_far.0 (sym c.in-Some.ensures) in
    rw (p.1, p.2) (place-refused le32 docs (le32 (length docs)) (le32 c.in-Some.doc) c.args.writer.now _ [] [] (g.C.DocCursor.place c.loop-doc.cursor) 0 _ _ _ _ at.0 (ap le32 at.1) so_far.1 c.in_err-give-2.ensures)

pub advance-requires : goal.advance-requires
advance-requires g c = doc-within (g.C.DocCursor.list c.loop-doc.cursor) (g.C.DocCursor.place c.loop-doc.cursor) c.in-Some.doc (sym c.in-Some.ensures)

pub loop-doc-preserved : goal.loop-doc-preserved
loop-doc-preserved g c =
    let list = g.C.DocCursor.list c.args.cursor.now in
    let docs = docs_of list in
    let so_far = c.loop-doc.invariant in
    let at = doc-at list (g.C.DocCursor.list c.loop-doc.cursor) (g.C.DocCursor.place c.loop-doc.cursor) c.in-Some.doc so_far.0 (sym c.in-Some.ensures) in (
      c.advance.ensures.list ∙ so_far.0,
      more-given le32 docs (le32 (length docs)) (le32 c.in-Some.doc) c.args.writer.now _ _ (g.C.DocCursor.place c.loop-doc.cursor) _ 0 _ _ _ at.0 c.advance.ensures.place (ap le32 at.1) so_far.1 c.in_ok-give-2.ensures,
    )

pub returns : goal.returns
returns g c =
    let list = g.C.DocCursor.list c.args.cursor.now in
    let docs = docs_of list in
    let so_far = c.loop-doc.invariant in
    all-given le32 docs (le32 (length docs)) c.args.writer.now _ (g.C.DocCursor.place c.loop-doc.cursor) _ _
    (docs-passed list (g.C.DocCursor.list c.loop-doc.cursor) (g.C.DocCursor.place c.loop-doc.cursor) so_far.0 (sym c.doc.ensures ∙ c.in_default.is)) so_far.1
