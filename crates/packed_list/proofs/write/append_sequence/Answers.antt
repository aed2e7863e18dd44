use Rattle.std.proofs.Common.{◌++◌, length, sym, ap, ◌∙◌, subst}
use Rattle.std.proofs.lemmas.Result.{on_ok_weaker, on_err_weaker}
use Rattle.bit_words.specs.Bits.{AppendsBits}
use Rattle.packed_list.proofs.Written.{as-several}
use Rattle.packed_list.proofs.write.append_sequence.Goals as goal

pub returns-else-ends-eq1-clause-ok : goal.returns-else-ends-eq1-clause-ok
returns-else-ends-eq1-clause-ok c =
    let is = as-several c.args.last (length c.args.to.now) (length c.args.values.now) c.args.values.now c.args.ends.now c.requires.some c.requires.stored.partition c.if-ends-eq1.false in
    on_ok_weaker c.append_parted.result (λ e. e ∙ ap (λ bits. c.args.to.now ++ bits) (sym is)) c.append_parted.ensures.ok

pub returns-else-ends-eq1-clause-err : goal.returns-else-ends-eq1-clause-err
returns-else-ends-eq1-clause-err c =
    let is = as-several c.args.last (length c.args.to.now) (length c.args.values.now) c.args.values.now c.args.ends.now c.requires.some c.requires.stored.partition c.if-ends-eq1.false in
    on_err_weaker c.append_parted.result (λ h. subst (AppendsBits c.args.to.now c.append_parted.new.to) (sym is) h) c.append_parted.ensures.err

pub append_lone-requires-clause-less : goal.append_lone-requires-clause-less
append_lone-requires-clause-less c = c.requires.stored.less c.if-ends-eq1.true

pub append_lone-requires-clause-fits : goal.append_lone-requires-clause-fits
append_lone-requires-clause-fits c = c.requires.stored.fits c.if-ends-eq1.true
