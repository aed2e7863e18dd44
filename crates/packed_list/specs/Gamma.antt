use Rattle.std.specs.Prelude.{◌≡◌, ℕ, ◌+◌, ◌-◌, ◌*◌, ◌^◌, ◌<◌, ◌≤◌, ◌==◌, List, ◌++◌, drop, slice_range}
use Rattle.std.specs.List.{position_or_len}
use Rattle.bit_words.specs.Bits.{field_bits, field_at, one_after}
use Rattle.part_cost.specs.Payload.{digits}

-- the gamma code of a number from 1 on: a zero for each of its digits but the first, which is a
-- one, and then the others as a field
abbrev pub gamma : ℕ → List ℕ
gamma n = one_after (digits n - 1) ++ field_bits (digits n - 1) (n - 2 ^ (digits n - 1))

-- how many bits it takes
abbrev pub gamma_length : ℕ → ℕ
gamma_length n = 2 * digits n - 1

-- how many zeros stand from a place on before the first one
abbrev pub zeros_at : List ℕ → ℕ → ℕ
zeros_at bits at = position_or_len (λ b. b == 1) (drop at bits)

-- the number whose gamma code stands at a place
abbrev pub gamma_at : List ℕ → ℕ → ℕ
gamma_at bits at = 2 ^ zeros_at bits at + field_at bits (at + zeros_at bits at + 1)
    (zeros_at bits at)

-- the place behind it
abbrev pub behind_gamma : List ℕ → ℕ → ℕ
behind_gamma bits at = at + 2 * zeros_at bits at + 1

-- The gamma code of a number below 2 ^ 32 stands at a place of some bits, and ends at another place
-- or before.
pub record IsGammaBefore (bits : List ℕ) (at end n : ℕ) : Type 0 where
  pub some : 1 ≤ n
  pub few : n < 2 ^ 32
  pub within : at + gamma_length n ≤ end
  pub stands : slice_range bits at (at + gamma_length n) ≡ gamma n

-- The gamma codes of two such numbers stand there, one behind the other.
pub record AreGammasBefore (bits : List ℕ) (at end n m : ℕ) : Type 0 where
  pub first : IsGammaBefore bits at end n
  pub second : IsGammaBefore bits (at + gamma_length n) end m
