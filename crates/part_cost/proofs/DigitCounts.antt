use Rattle.std.proofs.Common.{◌≡◌, subst, ap, ◌+◌, ◌^◌, ◌<◌, ◌≤◌, ⊎_elim, lit<, add-one, arith}
use Rattle.std.proofs.Math.Nat.{pow-le-pow_right, pow-suc}
use Rattle.std.proofs.lemmas.Nat.{leading_length}
use Rattle.std.proofs.lemmas.Bool.{cases_lt}
use Rattle.part_cost.specs.Payload.{digits}
use Rattle.part_cost.specs.Laws.{DigitsHold, DigitsAreFewest}

pub digits-hold : DigitsHold
digits-hold n h =
    let len = leading_length 64 n h in
    let is : len.0 ≡ digits n = omega (arith, len.1) in
    subst (λ x. n < 2 ^ x) is len.2

-- a number below a power of two has no more digits than its exponent
pub digits-are-fewest : DigitsAreFewest
digits-are-fewest n k h below = ⊎_elim
    (λ lt.
    let len = leading_length 64 n h in
    let step : 2 ^ (k + 1) ≤ 2 ^ len.0 = pow-le-pow_right (lit< tt) (omega (arith, len.1)) in
    absurd (omega (arith, step, len.3, ap (λ x. 2 ^ x) (add-one k), pow-suc 2 k)))
    (λ le. le)
    (cases_lt k (digits n))
