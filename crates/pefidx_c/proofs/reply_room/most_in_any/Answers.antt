use Rattle.std.proofs.Common.{refl, ◌+◌, arith}
use Rattle.pefidx_c.proofs.ReplyBytes.{total-more, total-all}
use Rattle.pefidx_c.proofs.reply_room.most_in_any.Goals as goal

pub count_of-requires : goal.count_of-requires
count_of-requires c = c.requires.named c.loop-term.term-index 0 c.loop-term-test.true

pub overflow_add-total : goal.overflow_add-total
overflow_add-total c =
    omega (arith, c.loop-term.invariant.1, c.requires.few, c.loop-term-test.true, c.from-total.ensures, c.count_of.type_inv)

pub loop-term-preserved : goal.loop-term-preserved
loop-term-preserved c = (
  total-more c.args.index.now.collection c.args.terms.now c.loop-term.term-index c.loop-term.total (c.loop-term.total + c.from-total.result) c.from-total.result
      c.loop-term-test.true c.loop-term.invariant.0 refl (omega (arith, c.from-total.ensures, c.count_of.ensures)),
  omega (arith, c.loop-term.invariant.1, c.from-total.ensures, c.count_of.type_inv),
)

pub returns-clause-value : goal.returns-clause-value
returns-clause-value c =
    total-all c.args.index.now.collection c.args.terms.now c.loop-term.term-index c.from.result c.loop-term.total c.min.result (omega (arith, c.loop-term-test.false)) c.loop-term.invariant.0
    c.min.ensures (omega (arith, c.from.ensures, c.documents.ensures))

pub returns-clause-few : goal.returns-clause-few
returns-clause-few c = omega (arith, c.min.ensures, c.from.ensures, c.documents.type_inv)
