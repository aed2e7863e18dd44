use Rattle.pefidx_c.proofs.ReplyBytes.{bad-enough, bad-value, ok-enough, ok-value}
use Rattle.pefidx_c.proofs.reply_room.reply_bytes.Goals as goal

pub returns-in-Ok-clause-value : goal.returns-in-Ok-clause-value
returns-in-Ok-clause-value c =
    ok-value c.args.index.now.collection c.args.line.now c.terms.result c.query_bytes.result c.in-Ok.query c.in-Ok.ensures.asked c.terms.ensures c.query_bytes.ensures

pub returns-in-Ok-clause-enough : goal.returns-in-Ok-clause-enough
returns-in-Ok-clause-enough c =
    ok-enough c.args.index.now.format c.args.index.now.collection c.args.line.now c.terms.result c.query_bytes.result c.in-Ok.query c.stands_for_a_collection.ensures.well_formed
    c.in-Ok.ensures.asked c.in-Ok.ensures.named c.terms.ensures c.query_bytes.ensures

pub returns-in-Err-Bad-clause-value : goal.returns-in-Err-Bad-clause-value
returns-in-Err-Bad-clause-value c =
    bad-value c.args.index.now.collection c.args.line.now c.terms.result c.in-Err-Bad._bad (rw c.in-Err-Bad.field-0-is at c.in-Err-Bad.ensures.asked) c.terms.ensures

pub returns-in-Err-Bad-clause-enough : goal.returns-in-Err-Bad-clause-enough
returns-in-Err-Bad-clause-enough c =
    bad-enough c.args.index.now.collection c.args.line.now c.terms.result c.in-Err-Bad._bad (rw c.in-Err-Bad.field-0-is at c.in-Err-Bad.ensures.asked) c.terms.ensures
