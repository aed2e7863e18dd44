use Rattle.std.proofs.Common.{sym, ◌∙◌}
use Rattle.segments.specs.Joined.{most_joined, EndsBelow}
use Rattle.segments.specs.Laws.{IsInRange}
use Rattle.index_reading.proofs.Joining.{one-of, list-of}
use Rattle.index_reading.proofs.FirstJoined.{passed-by, found-in}
use Rattle.index_reading.proofs.joined.first_in.Goals as goal

pub first_posting-found-requires : goal.first_posting-found-requires
first_posting-found-requires c = record {
  in_range = one-of IsInRange c.args.segments.now c.loop-segment.segment-index c.segment-item.result c.requires.in_range c.loop-segment-test.true c.segment-item.is;
  few = list-of (λ p. EndsBelow p most_joined) c.args.segments.now c.args.term c.loop-segment.segment-index c.segment-item.result c.requires.follow.few c.loop-segment-test.true c.segment-item.is;
}

pub returns-then-is_some : goal.returns-then-is_some
returns-then-is_some c =
    found-in c.args.segments.now c.args.term c.args.doc c.loop-segment.segment-index c.segment-item.result c.first_posting-found.result c.loop-segment-test.true c.segment-item.is c.first_posting-found.ensures
    (sym c.is_some.ensures ∙ c.if-is_some.true) c.loop-segment.invariant

pub loop-segment-preserved : goal.loop-segment-preserved
loop-segment-preserved c =
    passed-by c.args.segments.now c.args.term c.args.doc c.loop-segment.segment-index c.segment-item.result c.first_posting-found.result c.loop-segment-test.true c.segment-item.is c.first_posting-found.ensures
    (sym c.is_some.ensures ∙ c.if-is_some.false) c.loop-segment.invariant
