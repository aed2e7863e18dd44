use Rattle.std.specs.Prelude.{◌≡◌, ℕ, List, length}
use Rattle.bit_words.specs.Bits.{AreBits}
use Rattle.part_cost.specs.Span.{AreRelative}

-- What is true of the bits of a part in one form, with a sample every so many places or numbers,
-- and of the views that hold lists by such bits.
pub record ObeysCodeLaws (View : ℕ → Type 0) (Holds : (q : ℕ) → View q → List ℕ → Type 0)
    (bits : ℕ → List ℕ → ℕ → List ℕ) (size : ℕ → ℕ → ℕ → ℕ)
    (fits : ℕ → Type 0) (spacing : ℕ) (cost : ℕ → ℕ → ℕ) : Type 0 where
  -- A view holds one list.
  pub one_list : (q : ℕ) (v : View q) (xs ys : List ℕ) → Holds q v xs → Holds q v ys → xs ≡ ys
  -- The bits of a part are bits.
  pub are_bits : (q u : ℕ) (ys : List ℕ) → AreBits (bits q ys u)
  -- A part takes so many, with samples at any spacing.
  pub takes_its_size : (q u : ℕ) (ys : List ℕ) → length (bits q ys u) ≡ size q u (length ys)
  -- With the samples of the format, these are the bits that it costs, in each universe that fits.
  pub takes_its_payload : (u m : ℕ) (ys : List ℕ) → fits u → AreRelative u m ys
      → length (bits spacing ys u) ≡ cost u m
