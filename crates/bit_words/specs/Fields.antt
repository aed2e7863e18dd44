use Rattle.std.specs.Prelude.{◌≡◌, ℕ, ◌-◌, ◌*◌, ◌^◌, ◌<◌, ◌≤◌, List}
use Rattle.bit_words.specs.Bits.{bits_of, field_at}

-- fields of this width that stand one behind another in some bits, from the place reached on
pub record FieldRow : Type 0 where
  pub bits : List ℕ
  pub at : ℕ
  pub width : ℕ

-- The words before this one are taken up, and of the last of them so many bits are left, of this
-- value.
pub record IsTaken (words : List ℕ) (width mask next rest left : ℕ) : Type 0 where
  pub narrow : width < 64
  pub ones : mask ≡ 2 ^ width - 1
  pub few : left ≤ 64
  pub some : left ≤ 64 * next
  pub value : rest ≡ field_at (bits_of words) (64 * next - left) left
