use Rattle.std.proofs.Common.{◌≡◌, ap, ◌∙◌, ℕ, ◌+◌, ◌*◌, ◌^◌, add-one, arith}
use Rattle.std.proofs.Math.Nat.{pow-succ'}
use Rattle.std.proofs.lemmas.Fmt.{length-decimal-le}
use Rattle.query_text.proofs.replies.digit_count.Goals as goal

pub returns-clause-most : goal.returns-clause-most
returns-clause-most c n within =
    let fits = c.ranges.number.fits in
    let most = c.max.ensures in
    let below = c.ilog10.ensures.next_power_gt in
    let k : ℕ = c.ilog10.result in
    let power : 10 ^ (k + 1) ≡ 10 * 10 ^ k = ap (λ (m : ℕ). 10 ^ m) (add-one k) ∙ pow-succ' 10 k in
    length-decimal-le (k + 1) n (omega arith) (omega arith) (omega arith)
