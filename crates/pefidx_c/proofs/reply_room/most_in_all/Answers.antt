use Rattle.std.proofs.Common.{◌∙◌, sym, arith}
use Rattle.pefidx_c.proofs.ReplyBytes.{least-more, least-all}
use Rattle.pefidx_c.proofs.reply_room.most_in_all.Goals as goal

pub count_of-requires : goal.count_of-requires
count_of-requires c = c.requires c.loop-term.term-index 0 c.loop-term-test.true

pub loop-term-init : goal.loop-term-init
loop-term-init c = (c.documents-most.ensures, c.documents-most.type_inv)

pub loop-term-preserved : goal.loop-term-preserved
loop-term-preserved c = (
  least-more c.args.index.now.collection c.args.terms.now c.loop-term.term-index c.loop-term.most c.min-most.result c.count_of.result
      c.loop-term-test.true c.loop-term.invariant.0 c.min-most.ensures c.count_of.ensures,
  omega (arith, c.loop-term.invariant.1, c.min-most.ensures),
)

pub returns-clause-value : goal.returns-clause-value
returns-clause-value c =
    c.from.ensures ∙ least-all c.args.index.now.collection c.args.terms.now c.loop-term.term-index c.loop-term.most (omega (arith, c.loop-term-test.false))
    (sym c.is_empty.ensures ∙ c.if-is_empty.false) c.loop-term.invariant.0

pub returns-clause-few : goal.returns-clause-few
returns-clause-few c = omega (arith, c.from.ensures, c.loop-term.invariant.1)
