use Rattle.std.proofs.Common.{arith}
use Rattle.collection_model.specs.Collection.{postings_of}
use Rattle.calling.proofs.OneList.{built-list, built-too_many, counted}
use Rattle.calling.proofs.building.index_of_list.Goals as goal

pub returns-clause-words : goal.returns-clause-words
returns-clause-words g c =
    built-list (postings_of c.args.docs.now c.args.freqs.now) c.args.sizes.now c.files_spell_collections.ensures _ _ _ _ c.finish.result c.in-Ok.ensures.format
    (omega (arith, c.in-Ok.ensures.documents)) c.requires.few c.sizes_fit.ensures c.in-Ok.ensures.no_list c.in-Ok-add_list.ensures.ok c.finish.ensures.words

pub returns-clause-too_large : goal.returns-clause-too_large
returns-clause-too_large g c = λ n is.
    built-too_many (postings_of c.args.docs.now c.args.freqs.now) c.args.sizes.now c.files_spell_collections.ensures _ _ _ _ n c.in-Ok.ensures.format
    (omega (arith, c.in-Ok.ensures.documents)) c.in-Ok.ensures.no_list c.in-Ok-add_list.ensures.ok (c.finish.ensures.too_large n is) (c.finish.ensures.would_be n is)

pub returns-clause-bounded : goal.returns-clause-bounded
returns-clause-bounded g c = counted _ _ _ _ c.in-Ok.ensures.format c.add_list.ensures.bounded
