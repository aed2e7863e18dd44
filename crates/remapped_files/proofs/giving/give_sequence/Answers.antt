use Rattle.std.proofs.Common.{[], ◌+◌, refl, length, flat_map, arith}
use Rattle.std.proofs.lemmas.Result.{err_from_is_err_and}
use Rattle.collection_model.specs.Bytes.{le32, number_sequence}
use Rattle.word_files.proofs.PlaceByPlace.{front-refused, more-given, place-refused, all-given}
use Rattle.remapped_files.proofs.giving.give_sequence.Goals as goal

pub returns-in_err-give : goal.returns-in_err-give
returns-in_err-give g c =
    let numbers = c.args.numbers.now in
    let p = err_from_is_err_and c.from_residual.result c.from_residual.ensures.1 in
    rw (p.1, p.2) (front-refused (number_sequence numbers) (le32 (length numbers))
    (flat_map le32 numbers) c.args.writer.now [] [] _ _ _ refl c.in_err-give.ensures)

pub returns-in_err-give-2 : goal.returns-in_err-give-2
returns-in_err-give-2 g c =
    let numbers = c.args.numbers.now in
    let p = err_from_is_err_and c.from_residual-in_err-give-2.result
    c.from_residual-in_err-give-2.ensures.1 in
    rw (p.1, p.2) (place-refused le32 numbers (le32 (length numbers)) _ c.args.writer.now _ [] []
    c.loop-number.number-index 0 _ _ _ _ (omega arith) refl c.loop-number.invariant
    c.in_err-give-2.ensures)

pub loop-number-preserved : goal.loop-number-preserved
loop-number-preserved g c =
    let numbers = c.args.numbers.now in
    more-given le32 numbers (le32 (length numbers)) _ c.args.writer.now _ _
    c.loop-number.number-index (c.loop-number.number-index + 1) 0 _ _ _ (omega arith) refl refl
    c.loop-number.invariant c.in_ok-give-2.ensures

pub returns : goal.returns
returns g c =
    let numbers = c.args.numbers.now in
    all-given le32 numbers (le32 (length numbers)) c.args.writer.now _ c.loop-number.number-index
    _ _ (omega arith) c.loop-number.invariant
