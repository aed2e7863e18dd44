use Rattle.std.proofs.Common.{◌+◌, ◌%◌, ◌++◌, ap, ◌∙◌, arith}
use Rattle.std.proofs.lemmas.Nat.{one_shl}
use Rattle.std.proofs.lemmas.Result.{on_ok_weaker, on_err_weaker}
use Rattle.bit_words.specs.Bits.{field_bits}
use Rattle.bit_words.proofs.OneAfter.{zeros-more, one-after, zeros-prefix}
use Rattle.bit_words.proofs.Outcomes.{on-err}
use Rattle.bit_words.proofs.writer.BitWriter.put_one_after.Goals as goal

pub returns-in_err-put-clause-err : goal.returns-in_err-put-clause-err
returns-in_err-put-clause-err c =
    on-err _ _ (zeros-prefix c.args.self.now c.put.new.self c.args.zeros c.loop.counter (omega arith) (c.in_err-put.ensures.err ∙ c.loop.invariant))

pub loop-preserved : goal.loop-preserved
loop-preserved c = c.in_ok-put.ensures.ok ∙ zeros-more c.args.self.now c.loop.self c.loop.counter c.loop.invariant

pub returns-clause-ok : goal.returns-clause-ok
returns-clause-ok c =
    on_ok_weaker c.put-2.result
    (λ e.
    e ∙ ap (λ v. c.loop.self ++ field_bits (c.args.zeros % 64 + 1) v) (one_shl (c.args.zeros % 64) 64 (omega arith))
    ∙ one-after c.args.self.now c.loop.self c.args.zeros c.loop.counter (c.args.zeros % 64) (omega arith) c.loop.invariant)
    c.put-2.ensures.ok

pub returns-clause-err : goal.returns-clause-err
returns-clause-err c =
    on_err_weaker c.put-2.result
    (λ e. zeros-prefix c.args.self.now c.put-2.new.self c.args.zeros c.loop.counter (omega arith) (e ∙ c.loop.invariant))
    c.put-2.ensures.err
