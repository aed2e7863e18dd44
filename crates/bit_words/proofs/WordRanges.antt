use Rattle.std.proofs.Common.{◌≡◌, ℕ, zero, suc, ◌+◌, ◌-◌, ◌*◌, ◌/◌, ◌%◌, ◌^◌, ◌<◌, ◌≤◌, min, max, List, [], ◌∷◌, length, take, drop, map, get_or, sym, ap, subst, ◌∙◌, arith, sum, bit_and, count_ones, inl, inr}
use Rattle.std.specs.Int.{bit_at, w64, trailing_zeros}
use Rattle.std.specs.List.{range_with_len}
use Rattle.std.proofs.lemmas.Bool.{cases_lt}
use Rattle.std.proofs.lemmas.Nat.{shr-shr, ones-le, and_mask}
use Rattle.std.proofs.lemmas.Nat.Bits.{bit_at-zero, bit_at_above, bit_at-trailing_zeros}
use Rattle.std.proofs.lemmas.List.{get_or_append_left, get_or-append_right, take-take, drop-take, drop-drop}
use Rattle.std.proofs.lemmas.List.Sums.{sum_by-cons, sum_by-take-drop}
use Rattle.std.proofs.lemmas.List.FromFn.{get_or-map-range_with_len, sum_by-map-range_with_len_more}
use Rattle.std.proofs.Math.Nat.{mod-eq_of_lt}
use lib.Count.{ones_step}
use Rattle.bit_words.specs.Bits.{field_bits, bits_of, ones_between, IsFirstOne, HasNoOne, IsWordWithin}
use Rattle.bit_words.proofs.Value.{EachBit, mod-suc-bit, length-field_bits, bits-bits_of, length-bits_of, bits-drop}
use Rattle.bit_words.proofs.Ranges.{field-one, ones_between-more}

-- bit k of word i
pub bit-of_word : (ws : List ℕ) (i k : ℕ) → k < 64 → get_or (bits_of ws) (64 * i + k) 0 ≡ bit_at (get_or ws i 0) k
bit-of_word [] i k h = sym (bit_at-zero k)
bit-of_word (w ∷ ws) zero k h =
    get_or_append_left (field_bits 64 w) (bits_of ws) 0 (64 * 0 + k) (omega (arith, length-field_bits 64 w))
    ∙ get_or-map-range_with_len (λ i. bit_at w i) 0 64 (64 * 0 + k) k 0 (omega arith) (omega arith)
bit-of_word (w ∷ ws) (suc i) k h =
    get_or-append_right (field_bits 64 w) (bits_of ws) 64 (64 * suc i + k) 0 (length-field_bits 64 w) (omega arith)
    ∙ ap (λ p. get_or (bits_of ws) p 0) (let e : 64 * suc i + k - 64 ≡ 64 * i + k = omega arith in e)
    ∙ bit-of_word ws i k h

-- the ones of some bits of a number
ones-bits_from : (v a n : ℕ) → sum (map (λ i. bit_at v i) (range_with_len a n)) ≡ count_ones (v / 2 ^ a % 2 ^ n)
ones-bits_from v a zero = omega (arith, ones-le 0 (v / 2 ^ a % 2 ^ 0) (omega arith))
ones-bits_from v a (suc n) =
    let m : ℕ = v / 2 ^ a in
    let whole : m % 2 ^ suc n ≡ m % 2 + 2 * (m / 2 % 2 ^ n) = mod-suc-bit m n in
    let low : m % 2 ^ suc n % 2 ≡ bit_at v a = omega arith in
    let high : m % 2 ^ suc n / 2 ≡ v / 2 ^ (a + 1) % 2 ^ n = (let e : m % 2 ^ suc n / 2 ≡ m / 2 % 2 ^ n = omega arith in e) ∙ ap (λ x. x % 2 ^ n) (shr-shr v a 1) in
    omega (arith, sum_by-cons (λ b. b) (bit_at v a) (map (λ i. bit_at v i) (range_with_len (a + 1) n)), ones_step (m % 2 ^ suc n), ap count_ones high, ones-bits_from v (a + 1) n)

pub ones-field_bits : (n v : ℕ) → v < 2 ^ n → sum (field_bits n v) ≡ count_ones v
ones-field_bits n v h =
    ones-bits_from v 0 n ∙ ap (λ x. count_ones (x % 2 ^ n)) (let e : v / 2 ^ 0 ≡ v = omega arith in e) ∙ ap count_ones (mod-eq_of_lt h)

-- a place, moved to the nearer end of a range where it lies outside
abbrev pub held : ℕ → ℕ → ℕ → ℕ
held from to p = max from (min p to)

-- The ones of a range up to some bits of word i.
pub ones-within : (bits : List ℕ) (i from to v : ℕ) → from ≤ to → to ≤ length bits → IsWordWithin bits i from to v → (k : ℕ) → k ≤ 64
    → ones_between bits from (held from to (64 * i + k)) ≡ ones_between bits from (held from to (64 * i)) + sum (field_bits k v)
ones-within bits i from to v h fit within zero few =
    ap (λ p. ones_between bits from (held from to p)) (let e : 64 * i + 0 ≡ 64 * i = omega arith in e) ∙ omega arith
ones-within bits i from to v h fit within (suc k) few =
    let p : ℕ = 64 * i + k in
    let before : ones_between bits from (held from to p) ≡ ones_between bits from (held from to (64 * i)) + sum (field_bits k v) =
    ones-within bits i from to v h fit within k (omega arith) in
    let more : sum (field_bits (k + 1) v) ≡ sum (field_bits k v) + bit_at v k = sum_by-map-range_with_len_more (λ b. b) (bit_at v) 0 k k (omega arith) in
    let next : ones_between bits from (held from to (p + 1)) ≡ ones_between bits from (held from to p) + bit_at v k =
    elim (cases_lt p from) [
      | inl early ↦
          ap (λ q. ones_between bits from q) (let e : held from to (p + 1) ≡ held from to p = omega arith in e) ∙ omega (arith, within.before k early)
      | inr after ↦ elim (cases_lt p to) [
        | inl inside ↦
            ap (λ q. ones_between bits from q) (let e : held from to (p + 1) ≡ p + 1 = omega arith in e)
            ∙ ones_between-more bits from p after (omega arith)
            ∙ ap (λ b. ones_between bits from p + b) (field-one bits p ∙ sym (within.inside k (omega arith) after inside))
            ∙ ap (λ q. ones_between bits from q + bit_at v k) (let e : p ≡ held from to p = omega arith in e)
        | inr late ↦
            ap (λ q. ones_between bits from q) (let e : held from to (p + 1) ≡ held from to p = omega arith in e) ∙ omega (arith, within.behind k late)
      ]
    ] in
    ap (λ q. ones_between bits from (held from to q)) (let e : 64 * i + suc k ≡ p + 1 = omega arith in e)
    ∙ next ∙ ap (λ n. n + bit_at v k) before
    ∙ (let e : ones_between bits from (held from to (64 * i)) + sum (field_bits k v) + bit_at v k ≡ ones_between bits from (held from to (64 * i)) + sum (field_bits (k + 1) v) = omega arith in e)
    ∙ ap (λ n. ones_between bits from (held from to (64 * i)) + sum (field_bits n v)) (let e : k + 1 ≡ suc k = omega arith in e)

-- The ones of a range up to the end of word i.
pub ones-more : (ws : List ℕ) (i from to v : ℕ) → from ≤ to → to ≤ 64 * length ws → v < 2 ^ 64 → IsWordWithin (bits_of ws) i from to v
    → ones_between (bits_of ws) from (held from to (64 * (i + 1))) ≡ ones_between (bits_of ws) from (held from to (64 * i)) + count_ones v
ones-more ws i from to v h fit small within =
    ap (λ p. ones_between (bits_of ws) from (held from to p)) (let e : 64 * (i + 1) ≡ 64 * i + 64 = omega arith in e)
    ∙ ones-within (bits_of ws) i from to v h (omega (arith, length-bits_of ws)) within 64 (omega arith)
    ∙ ap (λ n. ones_between (bits_of ws) from (held from to (64 * i)) + n) (ones-field_bits 64 v small)

-- The bits of a word in a range of whole words.
pub whole-within : (ws : List ℕ) (i from to : ℕ) → from ≤ 64 * i → 64 * i + 64 ≤ to → get_or ws i 0 < 2 ^ 64 → IsWordWithin (bits_of ws) i from to (get_or ws i 0)
whole-within ws i from to h fit small = record {
  inside = λ k below after before. sym (bit-of_word ws i k below);
  before = λ k early. absurd (omega arith);
  behind = λ k late. bit_at_above (get_or ws i 0) 64 k small (omega arith);
}

-- The ones of a range of whole words up to the end of word i.
pub ones-whole : (ws : List ℕ) (first i : ℕ) → first ≤ i → i < length ws → get_or ws i 0 < 2 ^ 64
    → ones_between (bits_of ws) (64 * first) (64 * (i + 1)) ≡ ones_between (bits_of ws) (64 * first) (64 * i) + count_ones (get_or ws i 0)
ones-whole ws first i h lt small =
    let end : ℕ = 64 * length ws in
    let more = ones-more ws i (64 * first) end (get_or ws i 0) (omega arith) (omega arith) small (whole-within ws i (64 * first) end (omega arith) (omega arith) small) in
    ap (ones_between (bits_of ws) (64 * first)) (let e : 64 * (i + 1) ≡ held (64 * first) end (64 * (i + 1)) = omega arith in e)
    ∙ more ∙ ap (λ p. ones_between (bits_of ws) (64 * first) p + count_ones (get_or ws i 0)) (let e : held (64 * first) end (64 * i) ≡ 64 * i = omega arith in e)

-- No range of no bits has a one.
pub ones-none : (bits : List ℕ) (p : ℕ) → ones_between bits p p ≡ 0
ones-none bits p = ap (λ n. sum (take n (drop p bits))) (let e : p - p ≡ 0 = omega arith in e)

-- The ones of the first bits of a word.
ones-first : (ws : List ℕ) (i r w : ℕ) → r < 64 → 64 * i + r ≤ 64 * length ws → w ≡ get_or ws i 0 → w < 2 ^ 64
    → ones_between (bits_of ws) (64 * i) (64 * i + r) ≡ count_ones (w % 2 ^ r)
ones-first ws i zero w few fit is small =
    ap (ones_between (bits_of ws) (64 * i)) (let e : 64 * i + 0 ≡ 64 * i = omega arith in e) ∙ ones-none (bits_of ws) (64 * i) ∙ omega (arith, ones-le 0 (w % 2 ^ 0) (omega arith))
ones-first ws i (suc r) w few fit is small =
    let end : ℕ = 64 * length ws in
    let within : IsWordWithin (bits_of ws) i (64 * i) end w =
    subst (λ v. IsWordWithin (bits_of ws) i (64 * i) end v) (sym is) (whole-within ws i (64 * i) end (omega arith) (omega arith) (let e : get_or ws i 0 < 2 ^ 64 = omega arith in e)) in
    let more = ones-within (bits_of ws) i (64 * i) end w (omega arith) (omega (arith, length-bits_of ws)) within (suc r) (omega arith) in
    let none : ones_between (bits_of ws) (64 * i) (held (64 * i) end (64 * i)) ≡ 0 =
    ap (ones_between (bits_of ws) (64 * i)) (let e : held (64 * i) end (64 * i) ≡ 64 * i = omega arith in e) ∙ ones-none (bits_of ws) (64 * i) in
    let bits : sum (field_bits (suc r) w) ≡ count_ones (w % 2 ^ suc r) =
    ones-bits_from w 0 (suc r) ∙ ap (λ x. count_ones (x % 2 ^ suc r)) (let e : w / 2 ^ 0 ≡ w = omega arith in e) in
    ap (ones_between (bits_of ws) (64 * i)) (let e : 64 * i + suc r ≡ held (64 * i) end (64 * i + suc r) = omega arith in e)
    ∙ omega (arith, more, none, bits)

pub ones-of_word : (ws : List ℕ) (to w mask : ℕ) → to ≤ 64 * length ws → w ≡ get_or ws (to / 64) 0 → w < 2 ^ 64 → mask ≡ 2 ^ (to % 64) - 1
    → count_ones (bit_and w mask) ≡ ones_between (bits_of ws) (64 * (to / 64)) to
ones-of_word ws to w mask fit is small e =
    let place : 64 * (to / 64) + to % 64 ≡ to = omega arith in
    ap (λ m. count_ones (bit_and w m)) e ∙ ap count_ones (and_mask w (to % 64))
    ∙ sym (ones-first ws (to / 64) (to % 64) w (omega arith) (omega arith) is small)
    ∙ ap (ones_between (bits_of ws) (64 * (to / 64))) place

-- The ones of two ranges, one behind the other.
pub ones-joined : (bits : List ℕ) (from mid to : ℕ) → from ≤ mid → mid ≤ to → ones_between bits from to ≡ ones_between bits from mid + ones_between bits mid to
ones-joined bits from mid to h g =
    let xs : List ℕ = drop from bits in
    let n : ℕ = mid - from in
    let k : ℕ = to - mid in
    ap (λ i. sum (take i xs)) (let e : to - from ≡ n + k = omega arith in e)
    ∙ sym (sum_by-take-drop (λ x. x) (take (n + k) xs) n)
    ∙ ap (λ ys. sum ys + sum (drop n (take (n + k) xs))) (take-take n (n + k) xs (omega arith))
    ∙ ap (λ ys. sum (take n xs) + sum ys) (drop-take n k xs)
    ∙ ap (λ ys. sum (take n xs) + sum (take k ys)) (drop-drop n from bits)
    ∙ ap (λ i. sum (take n xs) + sum (take k (drop i bits))) (let e : from + n ≡ mid = omega arith in e)

-- The ones of a range: those from the start of its first word on, less those of the word before it.
pub ones-counted : (ws : List ℕ) (from to whole last first : ℕ) → from ≤ to → whole ≡ ones_between (bits_of ws) (64 * (from / 64)) (64 * (to / 64))
    → last ≡ ones_between (bits_of ws) (64 * (to / 64)) to → first ≡ ones_between (bits_of ws) (64 * (from / 64)) from
    → whole + last ≡ first + ones_between (bits_of ws) from to
ones-counted ws from to whole last first h a b c =
    omega (arith, a, b, c, ones-joined (bits_of ws) (64 * (from / 64)) (64 * (to / 64)) to (omega arith) (omega arith), ones-joined (bits_of ws) (64 * (from / 64)) from to (omega arith) h)

few-ones : (n : ℕ) (bits : List ℕ) → EachBit bits → sum (take n bits) ≤ n
few-ones zero bits h = omega arith
few-ones (suc n) [] h = omega arith
few-ones (suc n) (b ∷ bits) h = omega (arith, sum_by-cons (λ b. b) b (take n bits), few-ones n bits h.1, h.0)

-- a range has no more ones than places
pub ones_between-le : (ws : List ℕ) (from to : ℕ) → ones_between (bits_of ws) from to ≤ to - from
ones_between-le ws from to = few-ones (to - from) (drop from (bits_of ws)) (bits-drop from (bits_of ws) (bits-bits_of ws))

-- A word of a range without a 1 in it.
pub no_one-word : (bits : List ℕ) (i from to v : ℕ) → v ≡ 0 → IsWordWithin bits i from to v → HasNoOne bits from (min (64 * i) to) → HasNoOne bits from (min (64 * (i + 1)) to)
no_one-word bits i from to v none within before q h g =
    elim (cases_lt q (64 * i)) [
      | inl early ↦ before q h (omega arith)
      | inr late ↦
          let k : ℕ = q - 64 * i in
          let place : q ≡ 64 * i + k = omega arith in
          ap (λ p. get_or bits p 0) place ∙ sym (within.inside k (omega arith) (omega arith) (omega arith)) ∙ ap (λ w. bit_at w k) none ∙ bit_at-zero k
    ]

-- The lowest 1 of a word of a range, where none came before.
pub first_one-word : (bits : List ℕ) (i from to v : ℕ) → 0 < v → v < 2 ^ 64 → IsWordWithin bits i from to v → HasNoOne bits from (min (64 * i) to)
    → IsFirstOne bits from to (64 * i + trailing_zeros w64 v)
first_one-word bits i from to v some small within before =
    let t : ℕ = trailing_zeros w64 v in
    let lowest = bit_at-trailing_zeros w64 v some small in
    let after : from ≤ 64 * i + t = elim (cases_lt (64 * i + t) from) [
      | inl early ↦ absurd (omega (arith, lowest.1, within.before t early))
      | inr h ↦ h
    ] in
    let below : 64 * i + t < to = elim (cases_lt (64 * i + t) to) [
      | inl h ↦ h
      | inr late ↦ absurd (omega (arith, lowest.1, within.behind t late))
    ] in
    record {
      at_or_after = after;
      before_end = below;
      one = sym (within.inside t lowest.0 after below) ∙ lowest.1;
      first = λ q h g. elim (cases_lt q (64 * i)) [
        | inl early ↦ before q h (omega arith)
        | inr late ↦
            let k : ℕ = q - 64 * i in
            let place : q ≡ 64 * i + k = omega arith in
            ap (λ p. get_or bits p 0) place ∙ sym (within.inside k (omega (arith, lowest.0)) (omega arith) (omega arith)) ∙ lowest.2 k (omega arith)
      ];
    }
