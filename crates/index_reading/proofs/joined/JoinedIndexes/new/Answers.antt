use Rattle.std.proofs.Common.{ap, arith}
use Rattle.segments.specs.Joined.{joined_wide}
use Rattle.index_reading.specs.JoinedSegments.{collections_in}
use Rattle.index_reading.proofs.Joining.{index-at, documents-fit, collected-more, collected-all}
use Rattle.index_reading.proofs.joined.JoinedIndexes.new.Goals as goal

pub with-requires : goal.with-requires
with-requires c =
    documents-fit c.args.indexes.now (collections_in c.loop-opened.joined.segments.items) c.loop-opened.opened-index c.index.result c.requires c.loop-opened-test.true
    (index-at c.args.indexes.now c.loop-opened.opened-index c.opened-item.result c.index.result c.opened-item.is c.index.ensures) c.loop-opened.invariant

pub loop-opened-preserved : goal.loop-opened-preserved
loop-opened-preserved c =
    collected-more c.args.indexes.now (collections_in c.loop-opened.joined.segments.items) (collections_in c.in_ok-joined-2.joined.segments.items) c.loop-opened.opened-index c.index.result
    c.loop-opened-test.true (index-at c.args.indexes.now c.loop-opened.opened-index c.opened-item.result c.index.result c.opened-item.is c.index.ensures) c.loop-opened.invariant c.in_ok-joined-2.ensures

pub returns-clause-joined : goal.returns-clause-joined
returns-clause-joined c =
    collected-all c.args.indexes.now (collections_in c.loop-opened.joined.segments.items) c.loop-opened.opened-index c.loop-opened.invariant (omega (arith, c.loop-opened-test.false))

pub returns-clause-collection : goal.returns-clause-collection
returns-clause-collection c =
    ap joined_wide (collected-all c.args.indexes.now (collections_in c.loop-opened.joined.segments.items) c.loop-opened.opened-index c.loop-opened.invariant (omega (arith, c.loop-opened-test.false)))
