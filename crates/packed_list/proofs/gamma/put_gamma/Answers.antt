use Rattle.std.proofs.Common.{◌≡◌, ℕ, ◌-◌, ◌*◌, ◌^◌, ◌%◌, ◌<◌, ◌≤◌, [], ◌∷◌, length, replicate, sym, ap, subst, arith}
use Rattle.std.proofs.lemmas.List.{length-append, length-replicate}
use Rattle.bit_words.specs.Bits.{one_after}
use Rattle.std.proofs.Math.Nat.{mod-eq_of_lt}
use Rattle.part_cost.specs.Payload.{digits}
use Rattle.packed_list.proofs.GammaCodes.{some-digits, low-power, high-power}
use Rattle.packed_list.proofs.gamma.put_gamma.Goals as goal

-- the power of two of the highest digit, as it is shifted in a word
record Highest (n d : ℕ) : Type 0 where
  shifted : 1 * 2 ^ (d - 1) % 18446744073709551616 ≡ 2 ^ (d - 1)
  low : 2 ^ (d - 1) ≤ n
  high : n < 2 * 2 ^ (d - 1)
  some_digits : 1 ≤ d

highest : (n d : ℕ) → 1 ≤ n → n < 2 ^ 64 → d ≡ digits n → Highest n d
highest n d some fit is =
    let low = low-power n some fit in
    subst (Highest n) (sym is) (
    record {
      shifted = omega (arith, mod-eq_of_lt {n = 1 * 2 ^ (digits n - 1)} {m = 18446744073709551616} (omega (arith, low, fit)));
      low = low;
      high = high-power n some fit;
      some_digits = some-digits n some fit;
    }
    )

pub overflow_sub-n : goal.overflow_sub-n
overflow_sub-n c = let h = highest c.args.n c.digits-behind.result c.requires.some c.ranges.n.fits c.digits-behind.ensures in omega arith

pub put-requires-clause-fits : goal.put-requires-clause-fits
put-requires-clause-fits c = let h = highest c.args.n c.digits-behind.result c.requires.some c.ranges.n.fits c.digits-behind.ensures in omega arith

pub put-requires-clause-room : goal.put-requires-clause-room
put-requires-clause-room c =
    let h = highest c.args.n c.digits-behind.result c.requires.some c.ranges.n.fits c.digits-behind.ensures in
    let z : ℕ = c.digits-behind.result - 1 in
    omega (
      arith,
      ap length c.in_ok-put_one_after.ensures.ok,
      length-append c.args.to.now (one_after z),
      length-append {A = ℕ} (replicate z 0) (1 ∷ []),
      length-replicate {A = ℕ} z 0,
    )
