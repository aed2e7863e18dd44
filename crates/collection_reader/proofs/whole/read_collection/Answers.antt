use Rattle.std.proofs.Common.{◌∙◌, ap, Err}
use Rattle.std.proofs.lemmas.Result.{err_from_is_err_and}
use Rattle.part_cost.specs.Formats.{numbers_of}
use Rattle.collection_reader.proofs.CollectionRead.{start-refused, lists-refused, sizes-refused, all-read}
use Rattle.collection_reader.proofs.whole.read_collection.Goals as goal

pub returns-in_err-reader : goal.returns-in_err-reader
returns-in_err-reader g c =
    let p = err_from_is_err_and c.from_residual.result c.from_residual.ensures.1 in
    start-refused (numbers_of c.args.format) (c.formats_have_room.ensures c.args.format).fit _ _ _ _ _ _ c.start.ensures c.in_err-reader.was (p.1 ∙ ap Err p.2)

pub returns-in_err-lists : goal.returns-in_err-lists
returns-in_err-lists g c =
    let p = err_from_is_err_and c.from_residual-in_err-lists.result c.from_residual-in_err-lists.ensures.1 in
    lists-refused (numbers_of c.args.format) (c.formats_have_room.ensures c.args.format).fit _ _ _ _ _ _ _ _ _ c.in_ok-reader.ensures c.read_lists.ensures c.in_err-lists.was (p.1 ∙ ap Err p.2)

pub returns-in_err-finish : goal.returns-in_err-finish
returns-in_err-finish g c =
    let p = err_from_is_err_and c.from_residual-in_err-finish.result c.from_residual-in_err-finish.ensures.1 in
    sizes-refused (numbers_of c.args.format) (c.formats_have_room.ensures c.args.format).fit _ _ _ _ _ _ _ _ _ _ _ _ _ c.in_ok-reader.ensures c.in_ok-lists.ensures.given c.in_ok-lists.ensures.ended c.finish.ensures.sizes c.in_err-finish.was (p.1 ∙ ap Err p.2)

pub returns : goal.returns
returns g c =
    all-read (numbers_of c.args.format) (c.formats_have_room.ensures c.args.format).fit _ _ _ _ _ _ _ _ _ _ _ _ c.in_ok-reader.ensures c.in_ok-lists.ensures.given c.in_ok-lists.ensures.ended c.in_ok-finish.ensures.sizes c.into_collection.ensures.sizes_fit c.documents.ensures c.into_collection.ensures.parts
