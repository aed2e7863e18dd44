use Rattle.std.proofs.Common.{◌+◌, ◌∙◌, [], refl, ap, List, ℕ, Vec, arith}
use Rattle.std.specs.declared.alloc.Global.{Global}
use Rattle.std.proofs.lemmas.Result.{err_from_is_err_and}
use Rattle.collection_model.specs.Bytes.{number_sequence}
use Rattle.word_files.proofs.PlaceByPlace.{more-given, place-refused}
use Rattle.remapped_files.proofs.giving.give_sequences.Goals as goal

abbrev of_vector : Vec ℕ Global → List ℕ
of_vector v = number_sequence v.items

pub returns-in_err-give_sequence : goal.returns-in_err-give_sequence
returns-in_err-give_sequence g c =
    let p = err_from_is_err_and c.from_residual.result c.from_residual.ensures.1 in
    rw (p.1, p.2) (place-refused of_vector c.args.vectors.now []
    (number_sequence c.as_slice.result.now) c.args.writer.now _ [] []
    c.loop-numbers.numbers-index c.numbers-item.result _ _ _ _ (omega arith)
    (ap number_sequence c.as_slice.ensures.value ∙ ap of_vector c.numbers-item.is) c.loop-numbers.invariant
    c.in_err-give_sequence.ensures)

pub loop-numbers-preserved : goal.loop-numbers-preserved
loop-numbers-preserved g c =
    more-given of_vector c.args.vectors.now [] (number_sequence c.as_slice.result.now)
    c.args.writer.now _ _ c.loop-numbers.numbers-index (c.loop-numbers.numbers-index + 1)
    c.numbers-item.result _ _ _ (omega arith) refl (ap number_sequence c.as_slice.ensures.value ∙ ap of_vector c.numbers-item.is)
    c.loop-numbers.invariant c.in_ok-give_sequence.ensures
