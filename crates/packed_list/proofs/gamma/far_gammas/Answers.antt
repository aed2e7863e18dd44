use Rattle.std.proofs.Common.{◌≡◌, ℕ, ◌+◌, ◌≤◌, List, length, subst, ap, arith}
use Rattle.bit_words.specs.Bits.{bits_of}
use Rattle.bit_words.proofs.Value.{length-bits_of}
use Rattle.packed_list.specs.Gamma.{gamma_length, IsGammaBefore}
use Rattle.packed_list.proofs.GammaReads.{one-number}
use Rattle.packed_list.proofs.gamma.far_gammas.Goals as goal

pub returns-in_default-clause-none : goal.returns-in_default-clause-none
returns-in_default-clause-none c n m h = c.in_default.ensures.none n h.first

-- the second stands behind the first
pub returns-in_default-gamma_before-clause-none : goal.returns-in_default-gamma_before-clause-none
returns-in_default-gamma_before-clause-none c n m h =
    let bits : List ℕ = bits_of c.args.bits.words.now in
    let fit : c.args.end ≤ length bits = omega (arith, c.requires.range, length-bits_of c.args.bits.words.now) in
    let first : ℕ = c.in-Some.first.number in
    let same : first ≡ n = one-number bits c.args.at c.args.end c.args.end first n fit fit c.in-Some.ensures.some h.first in
    let place : c.args.at + gamma_length n ≡ c.in-Some.first.behind = omega (arith, c.in-Some.ensures.behind, ap gamma_length same) in
    (c.in_default-gamma_before).ensures.none m (subst (λ p. IsGammaBefore bits p c.args.end m) place h.second)
