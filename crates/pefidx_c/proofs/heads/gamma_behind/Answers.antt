use Rattle.std.proofs.Common.{◌≡◌, ℕ, ◌+◌, ◌*◌, ◌^◌, ◌%◌, ◌<◌, ◌≤◌, ap, ◌∙◌, arith}
use Rattle.std.proofs.Math.Nat.{mod-eq_of_lt}
use Rattle.std.proofs.Math.Pow.{pow_mono}
use Rattle.bit_words.specs.Bits.{bits_of, field_at}
use Rattle.bit_words.proofs.Value.{bits-bits_of}
use Rattle.bit_words.proofs.Pieces.{field-below}
use Rattle.pefidx_c.proofs.heads.gamma_behind.Goals as goal

-- the number that is read
record Number (z got field : ℕ) : Type 0 where
  is : 1 * 2 ^ z % 18446744073709551616 + got ≡ 2 ^ z + field
  few : 2 ^ z + field < 4294967296

number : (c : goal.After-get) → Number c.args.zeros c.get.result (field_at (bits_of c.args.bits.words.now) (c.args.at + c.args.zeros + 1) c.args.zeros)
number c =
    let z : ℕ = c.args.zeros in
    let field : ℕ = field_at (bits_of c.args.bits.words.now) (c.args.at + z + 1) z in
    let below : field < 2 ^ z = field-below (bits_of c.args.bits.words.now) (c.args.at + z + 1) z (bits-bits_of c.args.bits.words.now) in
    let top : 2 ^ z ≤ 2 ^ 31 = pow_mono {i = z} {j = 31} (omega (arith, c.requires.few)) in
    record {
      is = omega (arith, c.get.ensures, top, mod-eq_of_lt {n = 1 * 2 ^ z} {m = 18446744073709551616} (omega (arith, top)));
      few = omega (arith, below, top);
    }

pub overflow_add-number : goal.overflow_add-number
overflow_add-number c = let n = number c in omega (arith, n.is, n.few)

pub overflow_cast-result : goal.overflow_cast-result
overflow_cast-result c = let n = number c in omega (arith, n.is, n.few)

pub returns : goal.returns
returns c =
    (number c).is ∙ ap (λ z. 2 ^ z + field_at (bits_of c.args.bits.words.now) (c.args.at + z + 1) z) c.requires.zeros
