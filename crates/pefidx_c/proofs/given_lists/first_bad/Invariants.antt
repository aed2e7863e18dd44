use Rattle.std.proofs.Common.{◌≡◌, length, take, drop}
use Rattle.std.specs.Prelude.{sum}
use Rattle.part_cost.specs.Formats.{numbers_of}
use Rattle.pefidx_c.specs.GivenLists.{lists_given}
use Rattle.pefidx_c.proofs.Prefixes.{AreGoodUpTo}
use Rattle.pefidx_c.proofs.given_lists.first_bad.Given as goal

abbrev pub invariant-loop-term : goal.invariant-loop-term
invariant-loop-term l = record {
  from : l.from ≡ sum (take l.term l.given.lengths.now);
  lists : AreGoodUpTo (numbers_of l.format) (length l.given.sizes.now) (lists_given l.given.lengths.now l.given.docs.now l.given.freqs.now)
      (lists_given (drop l.term l.given.lengths.now) (drop l.from l.given.docs.now) (drop l.from l.given.freqs.now)) l.term;
}
