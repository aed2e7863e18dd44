use Rattle.std.proofs.Common.{ℕ, ◌<◌, ◌+◌, ◌++◌, List, [], refl, length, arith}
use Rattle.std.proofs.lemmas.Result.{err_from_is_err_and}
use Rattle.collection_model.specs.Bytes.{le32, number_sequence}
use Rattle.collection_model.specs.Collection.{Posting, docs_of}
use Rattle.collection_model.specs.Spelling.{docs_bytes, head_bytes, spelled}
use Rattle.word_files.proofs.PlaceByPlace.{front-refused, first-given, more-given, place-refused, head-given, head-refused}
use Rattle.exported_files.proofs.sequences.give_docs.Goals as goal

abbrev of_list : List Posting → List ℕ
of_list list = number_sequence (docs_of list)

pub returns-in_err-give : goal.returns-in_err-give
returns-in_err-give g c =
    let it = c.args.index.now.collection in
    let p = err_from_is_err_and c.from_residual.result c.from_residual.ensures.1 in
    rw (p.1, p.2) (front-refused (spelled it).docs (le32 1) (le32 it.documents ++ docs_bytes it.lists) c.args.writer.now [] [] _ _ _ refl c.in_err-give.ensures)

pub returns-in_err-give-2 : goal.returns-in_err-give-2
returns-in_err-give-2 g c =
    let it = c.args.index.now.collection in
    let p = err_from_is_err_and c.from_residual-in_err-give-2.result c.from_residual-in_err-give-2.ensures.1 in
    rw (p.1, p.2) (head-refused (docs_bytes it.lists) it.documents c.documents.result c.args.writer.now _ [] [] _ _ _ _ c.documents.ensures c.in_ok-give.ensures c.in_err-give-2.ensures)

pub loop-term-init : goal.loop-term-init
loop-term-init g c =
    let it = c.args.index.now.collection in
    first-given of_list it.lists (head_bytes it.documents) c.args.writer.now _ 0 _ _ refl
    (head-given it.documents c.documents.result c.args.writer.now _ _ _ _ _ c.documents.ensures c.in_ok-give.ensures c.in_ok-give-2.ensures)

pub returns-in_err-give_docs_at : goal.returns-in_err-give_docs_at
returns-in_err-give_docs_at g c =
    let it = c.args.index.now.collection in
    let p = err_from_is_err_and c.from_residual-in_err-give_docs_at.result c.from_residual-in_err-give_docs_at.ensures.1 in
    let within : c.loop-term.term < length it.lists = omega (arith, c.loop-term-test.true, c.terms-term-end.ensures) in
    rw (p.1, p.2) (place-refused of_list it.lists (head_bytes it.documents) _ c.args.writer.now _ [] [] c.loop-term.term [] _ _ _ _ within refl c.loop-term.invariant c.in_err-give_docs_at.ensures)

pub loop-term-preserved : goal.loop-term-preserved
loop-term-preserved g c =
    let it = c.args.index.now.collection in
    let within : c.loop-term.term < length it.lists = omega (arith, c.loop-term-test.true, c.terms-term-end.ensures) in
    more-given of_list it.lists (head_bytes it.documents) _ c.args.writer.now _ _ c.loop-term.term (c.loop-term.term + 1) [] _ _ _ within refl refl c.loop-term.invariant c.in_ok-give_docs_at.ensures
