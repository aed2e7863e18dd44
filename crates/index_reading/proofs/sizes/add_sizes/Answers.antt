use Rattle.std.proofs.Common.{sym, append-nil, arith}
use Rattle.index_reading.proofs.ReadBack.{size-behind, sizes-behind}
use Rattle.index_reading.proofs.sizes.add_sizes.Goals as goal

pub loop-document-init : goal.loop-document-init
loop-document-init c = sym (append-nil c.args.sizes.now.items)

pub loop-document-preserved : goal.loop-document-preserved
loop-document-preserved c =
    size-behind c.args.sizes.now.items c.args.index.now.collection.sizes _ _ c.loop-document.document c.size_of.result c.loop-document.invariant c.in_ok-push.ensures.items c.size_of.ensures (omega arith)

pub returns : goal.returns
returns c =
    sizes-behind c.args.sizes.now.items c.args.index.now.collection.sizes _ c.loop-document.document c.loop-document.invariant
    (omega (arith, c.loop-document-test.false, c.documents-document-end.ensures, c.stands_for_a_collection.ensures.well_formed.size_each))
