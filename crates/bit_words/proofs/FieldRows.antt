-- fields of one width that stand one behind another
use Rattle.std.proofs.Common.{◌≡◌, ℕ, ◌+◌, ◌-◌, ◌*◌, ◌/◌, ◌%◌, ◌^◌, ◌<◌, ◌≤◌, List, length, get_or, sym, ap, ◌∙◌, arith, bit_and, bit_or}
use Rattle.std.proofs.lemmas.Nat.{pow_pos, shr-shr, and_mask, mod-pow-add, mod_below, div-mul-add}
use Rattle.std.proofs.Math.Pow.{mod-mod-pow}
use Rattle.bit_words.specs.Bits.{bits_of, bits_value, field_at}
use Rattle.bit_words.specs.Fields.{IsTaken}
use Rattle.bit_words.proofs.Value.{bits-bits_of, length-bits_of}
use Rattle.bit_words.proofs.Words.{value-field, word-rest, field-across}

-- the word of a place is taken up from the place on
pub taken-from : (ws : List ℕ) (at width w mask : ℕ) → width < 64 → mask ≡ 2 ^ width - 1 → w ≡ get_or ws (at / 64) 0 → w < 2 ^ 64
    → IsTaken ws width mask (at / 64 + 1) (w / 2 ^ (at % 64)) (64 - at % 64)
taken-from ws at width w mask narrow ones is small =
    let here : at ≡ 64 * (at / 64 + 1) - (64 - at % 64) = omega arith in
    record {
      narrow = narrow;
      ones = ones;
      few = omega arith;
      some = omega arith;
      value = word-rest ws at w is small ∙ ap (λ p. field_at (bits_of ws) p (64 - at % 64)) here;
    }

-- the next field, where enough bits are left
pub field-taken : (ws : List ℕ) (width mask next rest left : ℕ) → IsTaken ws width mask next rest left → width ≤ left
    → bit_and rest mask ≡ field_at (bits_of ws) (64 * next - left) width
field-taken ws width mask next rest left is fit =
    let at : ℕ = 64 * next - left in
    let n : ℕ = bits_value (bits_of ws) / 2 ^ at in
    ap (λ m. bit_and rest m) is.ones
    ∙ and_mask rest width
    ∙ ap (λ v. v % 2 ^ width) (is.value ∙ value-field (bits_of ws) at left (bits-bits_of ws))
    ∙ ap (λ k. n % 2 ^ k % 2 ^ width) (let e : left ≡ left - width + width = omega arith in e)
    ∙ mod-mod-pow n (left - width) width
    ∙ sym (value-field (bits_of ws) at width (bits-bits_of ws))

-- Behind it fewer are left.
pub taken-less : (ws : List ℕ) (width mask next rest left : ℕ) → IsTaken ws width mask next rest left → width ≤ left → IsTaken ws width mask next (rest / 2 ^ width) (left - width)
taken-less ws width mask next rest left is fit =
    let at : ℕ = 64 * next - left in
    let value : ℕ = bits_value (bits_of ws) in
    let n : ℕ = value / 2 ^ at in
    let more : ℕ = left - width in
    let there : at + width ≡ 64 * next - more = omega (arith, is.some) in
    record {
      narrow = is.narrow;
      ones = is.ones;
      few = omega (arith, is.few);
      some = omega (arith, is.some);
      value =
          ap (λ v. v / 2 ^ width) (is.value ∙ value-field (bits_of ws) at left (bits-bits_of ws))
          ∙ ap (λ k. n % 2 ^ k / 2 ^ width) (let e : left ≡ more + width = omega arith in e)
          ∙ ap (λ v. v / 2 ^ width) (mod-pow-add n more width)
          ∙ div-mul-add (n / 2 ^ width % 2 ^ more) (2 ^ width) (n % 2 ^ width) (mod_below n (2 ^ width) (pow_pos width))
          ∙ ap (λ v. v % 2 ^ more) (shr-shr value at width)
          ∙ ap (λ k. value / 2 ^ k % 2 ^ more) there
          ∙ sym (value-field (bits_of ws) (64 * next - more) more (bits-bits_of ws));
    }

-- the next field, where it goes on in the next word
pub field-on : (ws : List ℕ) (width mask next rest left w : ℕ) → IsTaken ws width mask next rest left → left < width → w ≡ get_or ws next 0 → w < 2 ^ 64
    → bit_or rest (bit_and (w * 2 ^ left % 2 ^ 64) mask) ≡ field_at (bits_of ws) (64 * next - left) width
field-on ws width mask next rest left w is more word small =
    field-across ws next left width rest w mask is.some (omega arith) (omega (arith, is.narrow)) is.value word small is.ones

-- Behind it the next word is taken up.
pub taken-on : (ws : List ℕ) (width mask next rest left w : ℕ) → IsTaken ws width mask next rest left → left < width → w ≡ get_or ws next 0 → w < 2 ^ 64
    → IsTaken ws width mask (next + 1) (w / 2 ^ (width - left)) (64 - (width - left))
taken-on ws width mask next rest left w is more word small =
    let high : ℕ = width - left in
    let at : ℕ = 64 * next + high in
    let word_is : at / 64 ≡ next = omega (arith, is.narrow) in
    let bit_is : at % 64 ≡ high = omega (arith, is.narrow) in
    let here : at ≡ 64 * (next + 1) - (64 - high) = omega (arith, is.narrow) in
    record {
      narrow = is.narrow;
      ones = is.ones;
      few = omega arith;
      some = omega (arith, is.narrow);
      value =
          ap (λ k. w / 2 ^ k) (sym bit_is)
          ∙ word-rest ws at w (word ∙ ap (λ i. get_or ws i 0) (sym word_is)) small
          ∙ ap (λ k. field_at (bits_of ws) at (64 - k)) bit_is
          ∙ ap (λ p. field_at (bits_of ws) p (64 - high)) here;
    }

-- Then there is a next word.
pub word-there : (ws : List ℕ) (width mask next rest left : ℕ) → IsTaken ws width mask next rest left → left < width → 64 * next - left + width ≤ length (bits_of ws) → next < length ws
word-there ws width mask next rest left is more fit = omega (arith, is.some, length-bits_of ws)
