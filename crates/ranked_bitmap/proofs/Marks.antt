use Rattle.std.proofs.Common.{◌≡◌, ℕ, suc, ◌<◌, ◌==◌, ◌||◌, Bool, true, false, cond, List, [], ◌∷◌, length, get_or, refl, sym, ap, ◌∙◌, arith}
use Rattle.std.specs.List.{list_any, range_with_len}
use Rattle.std.specs.List.Sorted.{IsStrictlyIncreasing}
use Rattle.std.proofs.lemmas.Bool.{eq-eqb, eqb-true}
use Rattle.std.proofs.lemmas.List.{ext_get_or}
use Rattle.std.proofs.lemmas.List.Folds.{list_any_at}
use Rattle.std.proofs.lemmas.List.FromFn.{length-map-range_with_len, get_or-map-range_with_len}
use Rattle.bit_words.specs.Bits.{AreBits}
use Rattle.bit_words.proofs.Value.{EachBit}
use Rattle.bit_words.proofs.Ranges.{bit-below}
use Rattle.bit_words.proofs.AllBits.{set_bit, unset_bit, bits-test}
use Rattle.ranked_bitmap.specs.MapBits.{marks}
use Rattle.ranked_bitmap.proofs.Ones.{AreOnes, set-within}

-- whether a place is one of the numbers
abbrev pub has_number : ℕ → List ℕ → Bool
has_number r ys = list_any (λ y. y == r) ys

pub has_number-at : (r : ℕ) (ys : List ℕ) (k : ℕ) → k < length ys → get_or ys k 0 ≡ r → has_number r ys ≡ true
has_number-at r ys k lt e = list_any_at (λ y. y == r) ys k 0 lt (eq-eqb (get_or ys k 0) r e)

abbrev Found : ℕ → List ℕ → Type 0
Found r ys = (k : ℕ) × (k < length ys) × (get_or ys k 0 ≡ r)

first_or_rest : (r y : ℕ) (ys : List ℕ) → (has_number r ys ≡ true → Found r ys)
    → (b : Bool) → (y == r) ≡ b → (b || has_number r ys) ≡ true → Found r (y ∷ ys)
first_or_rest r y ys later true e h = (0, omega arith, eqb-true y r e)
first_or_rest r y ys later false e h =
    let found = later h in
    (suc found.0, omega (arith, found.1), found.2)

pub found-number : (r : ℕ) (ys : List ℕ) → has_number r ys ≡ true → (k : ℕ) × (k < length ys) × (get_or ys k 0 ≡ r)
found-number r [] h = absurd (cc)
found-number r (y ∷ ys) h = first_or_rest r y ys (found-number r ys) (y == r) refl h

pub length-marks : (ys : List ℕ) (u : ℕ) → length (marks ys u) ≡ u
length-marks ys u = length-map-range_with_len (λ r. cond (has_number r ys) 1 0) 0 u

pub mark-at : (ys : List ℕ) (u i : ℕ) → i < u → get_or (marks ys u) i 0 ≡ cond (has_number i ys) 1 0
mark-at ys u i lt = get_or-map-range_with_len (λ r. cond (has_number r ys) 1 0) 0 u i i 0 lt (omega arith)

-- the marks are bits
pub bits-marks : (ys : List ℕ) (u : ℕ) → AreBits (marks ys u)
bits-marks ys u = bits-test (λ r. has_number r ys) (range_with_len 0 u)

-- the numbers are the places of the ones among their marks
pub marks-are-ones : (ys : List ℕ) (u : ℕ) → IsStrictlyIncreasing ys → ((k : ℕ) → k < length ys → get_or ys k 0 < u) → AreOnes (marks ys u) ys
marks-are-ones ys u up low = record {
  rising = up;
  one = λ k lt. mark-at ys u (get_or ys k 0) (low k lt) ∙ ap (λ b. cond b 1 0) (has_number-at (get_or ys k 0) ys k lt refl);
  only = λ i set.
      let within : i < u = omega (arith, set-within (marks ys u) i set, length-marks ys u) in
      found-number i ys (set_bit (has_number i ys) (sym (mark-at ys u i within) ∙ set));
}

-- and bits whose ones these are, are the marks
bit-is-mark : (bits ys : List ℕ) → EachBit bits → AreOnes bits ys → (i : ℕ) → (b : Bool) → has_number i ys ≡ b → get_or bits i 0 ≡ cond b 1 0
bit-is-mark bits ys each h i true e =
    let found = found-number i ys e in
    ap (λ n. get_or bits n 0) (sym found.2) ∙ h.one found.0 found.1
bit-is-mark bits ys each h i false e =
    unset_bit (get_or bits i 0) (bit-below bits i each)
    (λ set.
    let found = h.only i set in
    let is : has_number i ys ≡ true = has_number-at i ys found.0 found.1 found.2 in
    cc)

pub ones-are-marks : (bits ys : List ℕ) (u : ℕ) → EachBit bits → AreOnes bits ys → length bits ≡ u → bits ≡ marks ys u
ones-are-marks bits ys u each h count =
    ext_get_or 0 bits (marks ys u) (count ∙ sym (length-marks ys u))
    (λ i lt. bit-is-mark bits ys each h i (has_number i ys) refl ∙ sym (mark-at ys u i (omega arith)))
