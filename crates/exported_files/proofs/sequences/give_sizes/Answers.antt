use Rattle.std.proofs.Common.{[], ◌<◌, ◌+◌, refl, ap, length, flat_map, arith}
use Rattle.std.proofs.lemmas.Result.{err_from_is_err_and}
use Rattle.collection_model.specs.Bytes.{le32, number_sequence}
use Rattle.word_files.proofs.PlaceByPlace.{front-refused, more-given, place-refused, number-counted}
use Rattle.exported_files.proofs.sequences.give_sizes.Goals as goal

pub returns-in_err-give : goal.returns-in_err-give
returns-in_err-give g c =
    let it = c.args.index.now.collection in
    let p = err_from_is_err_and c.from_residual.result c.from_residual.ensures.1 in
    rw (p.1, p.2) (front-refused (number_sequence it.sizes) (le32 c.documents.result) (flat_map le32 it.sizes) c.args.writer.now [] [] _ _ _
    (number-counted it.sizes it.documents c.documents.result c.stands_for_a_collection.ensures.well_formed.size_each c.documents.ensures) c.in_err-give.ensures)

pub returns-in_err-give-2 : goal.returns-in_err-give-2
returns-in_err-give-2 g c =
    let sizes = c.args.index.now.collection.sizes in
    let p = err_from_is_err_and c.from_residual-in_err-give-2.result c.from_residual-in_err-give-2.ensures.1 in
    let within : c.loop-document.document < length sizes = omega (arith, c.loop-document-test.true, c.documents-document-end.ensures, c.stands_for_a_collection.ensures.well_formed.size_each) in
    rw (p.1, p.2) (place-refused le32 sizes (le32 (length sizes)) (le32 c.size_of.result) c.args.writer.now _ [] [] c.loop-document.document 0 _ _ _ _ within (ap le32 c.size_of.ensures) c.loop-document.invariant c.in_err-give-2.ensures)

pub loop-document-preserved : goal.loop-document-preserved
loop-document-preserved g c =
    let sizes = c.args.index.now.collection.sizes in
    let within : c.loop-document.document < length sizes = omega (arith, c.loop-document-test.true, c.documents-document-end.ensures, c.stands_for_a_collection.ensures.well_formed.size_each) in
    more-given le32 sizes (le32 (length sizes)) (le32 c.size_of.result) c.args.writer.now _ _ c.loop-document.document (c.loop-document.document + 1) 0 _ _ _ within refl (ap le32 c.size_of.ensures) c.loop-document.invariant c.in_ok-give-2.ensures
