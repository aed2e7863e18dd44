use Rattle.std.proofs.Common.{◌≡◌, take, drop}
use Rattle.index_reading.specs.JoinedSegments as read
use Rattle.pefidx_c.specs.Segments.{AreKeptOfEach, collections_in}
use Rattle.pefidx_c.proofs.joined_indexes.joined_of.Given as goal

abbrev pub invariant-loop-s : goal.invariant-loop-s
invariant-loop-s l = record {
  joined : read.collections_in l.joined.segments.items ≡ collections_in l.words (take l.s l.segments);
  kept : AreKeptOfEach l.words (drop l.s l.segments) l.rest;
}
