use Rattle.std.proofs.Common.{ℕ, ◌<◌, ◌+◌, List, [], refl, length, arith}
use Rattle.std.proofs.lemmas.Result.{err_from_is_err_and}
use Rattle.collection_model.specs.Bytes.{number_sequence}
use Rattle.collection_model.specs.Collection.{Posting, freqs_of}
use Rattle.word_files.proofs.Given.{none-given}
use Rattle.word_files.proofs.PlaceByPlace.{first-given, more-given, place-refused}
use Rattle.exported_files.proofs.sequences.give_freqs.Goals as goal

abbrev of_list : List Posting → List ℕ
of_list list = number_sequence (freqs_of list)

pub loop-term-init : goal.loop-term-init
loop-term-init g c = first-given of_list c.args.index.now.collection.lists [] c.args.writer.now _ 0 _ _ refl (none-given c.args.writer.now _)

pub returns-in_err-give_freqs_at : goal.returns-in_err-give_freqs_at
returns-in_err-give_freqs_at g c =
    let lists = c.args.index.now.collection.lists in
    let p = err_from_is_err_and c.from_residual.result c.from_residual.ensures.1 in
    let within : c.loop-term.term < length lists = omega (arith, c.loop-term-test.true, c.terms-term-end.ensures) in
    rw (p.1, p.2) (place-refused of_list lists [] _ c.args.writer.now _ [] [] c.loop-term.term [] _ _ _ _ within refl c.loop-term.invariant c.in_err-give_freqs_at.ensures)

pub loop-term-preserved : goal.loop-term-preserved
loop-term-preserved g c =
    let lists = c.args.index.now.collection.lists in
    let within : c.loop-term.term < length lists = omega (arith, c.loop-term-test.true, c.terms-term-end.ensures) in
    more-given of_list lists [] _ c.args.writer.now _ _ c.loop-term.term (c.loop-term.term + 1) [] _ _ _ within refl refl c.loop-term.invariant c.in_ok-give_freqs_at.ensures
