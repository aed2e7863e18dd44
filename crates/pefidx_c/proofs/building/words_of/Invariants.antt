use Rattle.std.proofs.Common.{◌≡◌, take, drop}
use Rattle.std.specs.Prelude.{sum}
use Rattle.pefidx_c.specs.GivenLists.{lists_given, collection_given}
use Rattle.pefidx_c.proofs.Adding.{IsAdding}
use Rattle.pefidx_c.proofs.building.words_of.Given as goal

abbrev pub invariant-loop-term : goal.invariant-loop-term
invariant-loop-term g l = record {
  from : l.from ≡ sum (take l.term l.given.lengths.now);
  lists : IsAdding l.fn.builder.format (collection_given l.given.lengths.now l.given.docs.now l.given.freqs.now l.given.sizes.now)
      (lists_given (drop l.term l.given.lengths.now) (drop l.from l.given.docs.now) (drop l.from l.given.freqs.now)) l.builder;
}
