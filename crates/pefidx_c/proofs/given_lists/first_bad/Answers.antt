use Rattle.std.proofs.Common.{refl, ◌∙◌, length, get_or}
use Rattle.part_cost.specs.Formats.{numbers_of}
use Rattle.pefidx_c.proofs.Refusals.{sum-within}
use Rattle.pefidx_c.proofs.NextLists.{next-from}
use Rattle.pefidx_c.proofs.Prefixes.{next-bad, next-good}
use Rattle.pefidx_c.proofs.given_lists.first_bad.Goals as goal

pub part-list-requires : goal.part-list-requires
part-list-requires c = sum-within c.args.given.lengths.now c.loop-term.term c.loop-term.from _ _ c.loop-term-test.true c.loop-term.invariant.from refl c.requires.whole

pub part-counts-requires : goal.part-counts-requires
part-counts-requires c = sum-within c.args.given.lengths.now c.loop-term.term c.loop-term.from _ _ c.loop-term-test.true c.loop-term.invariant.from refl (c.requires.whole ∙ c.requires.same_length)

pub returns-then-good-length-clause-bad : goal.returns-then-good-length-clause-bad
returns-then-good-length-clause-bad c =
    next-bad (numbers_of c.args.format) (length c.args.given.sizes.now) c.args.given.lengths.now c.args.given.docs.now c.args.given.freqs.now c.part-list.result.now c.part-counts.result.now c.loop-term.term c.loop-term.from
    (get_or c.args.given.lengths.now c.loop-term.term 0) c.good_prefix-good.result c.loop-term.invariant.lists c.loop-term-test.true refl
    (sum-within c.args.given.lengths.now c.loop-term.term c.loop-term.from _ _ c.loop-term-test.true c.loop-term.invariant.from refl c.requires.whole)
    c.requires.same_length c.part-list.ensures c.part-counts.ensures c.if-good-length.true c.good_prefix-good.ensures.good c.good_prefix-good.ensures.bad

pub loop-term-preserved : goal.loop-term-preserved
loop-term-preserved c = record {
  from = next-from c.args.given.lengths.now c.loop-term.term c.loop-term.from _ c.loop-term-test.true refl c.loop-term.invariant.from;
  lists = next-good (numbers_of c.args.format) (length c.args.given.sizes.now) c.args.given.lengths.now c.args.given.docs.now c.args.given.freqs.now c.part-list.result.now c.part-counts.result.now c.loop-term.term c.loop-term.from
      (get_or c.args.given.lengths.now c.loop-term.term 0) c.good_prefix-good.result c.loop-term.invariant.lists c.loop-term-test.true refl
      (sum-within c.args.given.lengths.now c.loop-term.term c.loop-term.from _ _ c.loop-term-test.true c.loop-term.invariant.from refl c.requires.whole)
      c.requires.same_length c.part-list.ensures c.part-counts.ensures c.if-good-length.false c.good_prefix-good.ensures.good;
}
