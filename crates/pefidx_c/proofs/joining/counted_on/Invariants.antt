use Rattle.std.proofs.Common.{◌≡◌, ◌++◌, map, take, drop}
use Rattle.std.specs.Prelude.{sum}
use Rattle.pefidx_c.specs.JoinedTop.{joined_pairs}
use Rattle.pefidx_c.specs.Rooms.{pair_of}
use Rattle.pefidx_c.proofs.joining.counted_on.Given as goal

abbrev pub invariant-loop-range : goal.invariant-loop-range
invariant-loop-range l = record {
  first_is : l.first ≡ sum (take l.range l.ranges.documents.now);
  from_is : l.from ≡ sum (take l.range l.ranges.counts.now);
  pairs_are : l.pairs.items
      ++ joined_pairs l.first (drop l.range l.ranges.documents.now)
      (drop l.range l.ranges.counts.now) (drop l.from (map pair_of l.ranges.given.now))
      ≡ joined_pairs 0 l.ranges.documents.now l.ranges.counts.now (map pair_of l.ranges.given.now);
}
