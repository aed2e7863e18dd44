use Rattle.std.proofs.Common.{◌-◌, ◌^◌, ◌≤◌, ◌<◌, ap, sym, ◌∙◌, bit_and, arith}
use Rattle.std.proofs.lemmas.Nat.{one_shl, and_mask}
use Rattle.std.proofs.Math.Nat.{mod-eq_of_lt}
use Rattle.std.proofs.Math.Pow.{pow_mono}
use Rattle.bit_words.proofs.ones.before.Goals as goal

pub returns-then-end-lt64 : goal.returns-then-end-lt64
returns-then-end-lt64 c =
    ap (λ v. bit_and c.args.word (v - 1)) (one_shl c.args.end 64 c.if-end-lt64.true) ∙ and_mask c.args.word c.args.end

pub returns-else-end-lt64 : goal.returns-else-end-lt64
returns-else-end-lt64 c =
    let power : 2 ^ 64 ≤ 2 ^ c.args.end = pow_mono {i = 64} {j = c.args.end} c.if-end-lt64.false in
    let small : c.args.word < 2 ^ c.args.end = omega arith in
    sym (mod-eq_of_lt small)
