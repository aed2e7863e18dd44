use Rattle.std.proofs.Common.{arith, ◌<◌, ◌^◌, ◌+◌, ◌-◌, ◌≡◌, subst}
use Rattle.std.proofs.lemmas.Nat.{shr_below}
use Rattle.worked_codes.proofs.bit_lists.pattern.Goals as goal

pub returns-else-width-eq0 : goal.returns-else-width-eq0
returns-else-width-eq0 c =
    let whole : 64 ≡ c.args.width + (64 - c.args.width) = omega arith in
    shr_below 11944556598790967880 c.args.width (64 - c.args.width)
    (subst (λ n. 11944556598790967880 < 2 ^ n) whole (let below : 11944556598790967880 < 2 ^ 64 = omega arith in below))
