use Rattle.std.specs.Prelude.{◌≡◌, ℕ, ◌+◌, ◌^◌, ◌<◌, ◌≤◌, List, ◌++◌, length, slice_range}
use Rattle.bit_words.specs.Bits.{AreBits}
use Rattle.packed_list.specs.Gamma.{gamma, gamma_length, gamma_at, behind_gamma}

-- The bits of a gamma code are bits, and as many as it takes.
pub record GammaTakes : Type 0 where
  pub bits : (n : ℕ) → AreBits (gamma n)
  pub count : (n : ℕ) → 1 ≤ n → n < 2 ^ 64 → length (gamma n) ≡ gamma_length n

-- Bits begin with the gamma code of one number only.
abbrev pub OneGamma : Type 0
OneGamma =
    (n m : ℕ) (behind others : List ℕ) → 1 ≤ n → n < 2 ^ 64 → 1 ≤ m → m < 2 ^ 64
    → gamma n ++ behind ≡ gamma m ++ others → (n ≡ m) × (behind ≡ others)

-- Where the gamma code of a number stands it is read back.
abbrev pub GammaReadsBack : Type 0
GammaReadsBack =
    (bits : List ℕ) (at n : ℕ) → 1 ≤ n → n < 2 ^ 64 → at + length (gamma n) ≤ length bits
    → slice_range bits at (at + length (gamma n)) ≡ gamma n
    → (gamma_at bits at ≡ n) × (behind_gamma bits at ≡ at + length (gamma n))
