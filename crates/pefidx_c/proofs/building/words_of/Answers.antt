use Rattle.std.proofs.Common.{◌≡◌, refl, ◌∙◌, ◌∷◌, get_or, drop, ◌+◌, arith}
use Rattle.collection_model.specs.Collection.{postings_of}
use Rattle.part_cost.specs.Formats.{numbers_of}
use Rattle.pefidx_c.specs.GivenLists.{collection_given, lists_given}
use Rattle.pefidx_c.proofs.Refusals.{sum-within}
use Rattle.pefidx_c.proofs.NextLists.{next-list, next-from}
use Rattle.pefidx_c.proofs.Adding.{adding-begins, adding-more, next-fits, next-has_room, given-few, given-well_formed, none-given, finished, added-too_many}
use Rattle.pefidx_c.proofs.building.words_of.Given as given
use Rattle.pefidx_c.proofs.building.words_of.Goals as goal
use Rattle.pefidx_c.proofs.building.words_of.Goals.{After-part-counts}

pub loop-term-init : goal.loop-term-init
loop-term-init g c = record {
  from = refl;
  lists = adding-begins (collection_given c.args.given.lengths.now c.args.given.docs.now c.args.given.freqs.now c.args.given.sizes.now) _ _ refl c.requires.documents c.requires.no_list;
}

pub part-list-requires : goal.part-list-requires
part-list-requires g c = sum-within c.args.given.lengths.now c.loop-term.term c.loop-term.from _ _ c.loop-term-test.true c.loop-term.invariant.from refl c.requires.whole

pub part-counts-requires : goal.part-counts-requires
part-counts-requires g c = sum-within c.args.given.lengths.now c.loop-term.term c.loop-term.from _ _ c.loop-term-test.true c.loop-term.invariant.from refl (c.requires.whole ∙ c.requires.same_length)

-- the next list
next : (g : given.Over) (c : After-part-counts g) → lists_given (drop c.loop-term.term c.args.given.lengths.now) (drop c.loop-term.from c.args.given.docs.now) (drop c.loop-term.from c.args.given.freqs.now)
    ≡ postings_of c.part-list.result.now c.part-counts.result.now
    ∷ lists_given (drop (c.loop-term.term + 1) c.args.given.lengths.now) (drop (c.loop-term.from + get_or c.args.given.lengths.now c.loop-term.term 0) c.args.given.docs.now)
    (drop (c.loop-term.from + get_or c.args.given.lengths.now c.loop-term.term 0) c.args.given.freqs.now)
next g c =
    next-list c.args.given.lengths.now c.args.given.docs.now c.args.given.freqs.now c.part-list.result.now c.part-counts.result.now c.loop-term.term c.loop-term.from _ c.loop-term-test.true refl c.part-list.ensures c.part-counts.ensures

pub add_list-requires-clause-list : goal.add_list-requires-clause-list
add_list-requires-clause-list g c =
    next-fits c.args.builder.format (collection_given c.args.given.lengths.now c.args.given.docs.now c.args.given.freqs.now c.args.given.sizes.now) _ _ c.loop-term.builder _ c.loop-term.invariant.lists c.requires.lists
    (next g (goal.at.add_list-requires-clause-list g c).After-part-counts)

pub add_list-requires-clause-room : goal.add_list-requires-clause-room
add_list-requires-clause-room g c =
    next-has_room c.lists_are_counted.ensures c.args.builder.format (collection_given c.args.given.lengths.now c.args.given.docs.now c.args.given.freqs.now c.args.given.sizes.now) _ _ c.loop-term.builder _ c.loop-term.invariant.lists
    (next g (goal.at.add_list-requires-clause-room g c).After-part-counts)
    (given-few c.args.given.lengths.now c.args.given.docs.now c.args.given.freqs.now c.requires.few)

pub loop-term-preserved : goal.loop-term-preserved
loop-term-preserved g c = record {
  from = next-from c.args.given.lengths.now c.loop-term.term c.loop-term.from _ c.loop-term-test.true refl c.loop-term.invariant.from;
  lists = adding-more c.args.builder.format (collection_given c.args.given.lengths.now c.args.given.docs.now c.args.given.freqs.now c.args.given.sizes.now) _ _ c.loop-term.builder c.add_list.new.self _ _ _ c.loop-term.invariant.lists
      (next g (goal.at.loop-term-preserved g c).After-part-counts) c.in-Ok.ensures.ok;
}

pub returns-clause-words : goal.returns-clause-words
returns-clause-words g c =
    finished c.args.builder.format c.files_spell_collections.ensures (collection_given c.args.given.lengths.now c.args.given.docs.now c.args.given.freqs.now c.args.given.sizes.now) _ c.loop-term.builder c.finish.result
    c.loop-term.invariant.lists
    (none-given c.args.given.lengths.now (drop c.loop-term.from c.args.given.docs.now) (drop c.loop-term.from c.args.given.freqs.now) c.loop-term.term (omega (arith, c.loop-term-test.false)))
    (given-well_formed (numbers_of c.args.builder.format) c.args.given.lengths.now c.args.given.docs.now c.args.given.freqs.now c.args.given.sizes.now c.requires.few c.requires.sizes c.sizes_fit.ensures c.requires.lists)
    c.finish.ensures.words c.finish.ensures.within

pub returns-clause-too_large : goal.returns-clause-too_large
returns-clause-too_large g c = λ n is.
    added-too_many c.args.builder.format c.files_spell_collections.ensures (collection_given c.args.given.lengths.now c.args.given.docs.now c.args.given.freqs.now c.args.given.sizes.now) _ c.loop-term.builder n
    c.loop-term.invariant.lists
    (none-given c.args.given.lengths.now (drop c.loop-term.from c.args.given.docs.now) (drop c.loop-term.from c.args.given.freqs.now) c.loop-term.term (omega (arith, c.loop-term-test.false)))
    (c.finish.ensures.too_large n is) (c.finish.ensures.would_be n is)
