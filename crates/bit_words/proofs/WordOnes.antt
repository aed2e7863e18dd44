use Rattle.std.proofs.Common.{◌≡◌, ℕ, zero, suc, ◌+◌, ◌-◌, ◌*◌, ◌/◌, ◌%◌, ◌^◌, ◌<◌, ◌≤◌, min, List, length, get_or, sym, ap, subst, ◌∙◌, arith, bit_and, inl, inr}
use Rattle.std.specs.Int.{bit_at, w64, trailing_zeros}
use Rattle.std.proofs.lemmas.Bool.{cases_lt}
use Rattle.std.proofs.lemmas.Nat.Bits.{bit_at_lowest, bit_at-suc, bit_at-lt, bit_at_and, bit_at_above, bit_at_mask_inside, bit_at_mask_below, bit_at_mask_above, bit_at_ones, bit_at_ones_above, bit_at-trailing_zeros, ones_shl}
use Rattle.std.proofs.lemmas.Nat.{and_mask}
use Rattle.bit_words.specs.Bits.{bits_of, IsFirstOne, HasNoOne, IsWordWithin}
use Rattle.bit_words.specs.Ones.{IsReading}
use Rattle.bit_words.proofs.WordRanges.{bit-of_word, first_one-word, no_one-word}

-- One less than a number has a 0 where the lowest 1 of the number stands,
less_one-lowest : (t v : ℕ) → bit_at v t ≡ 1 → ((i : ℕ) → i < t → bit_at v i ≡ 0) → bit_at (v - 1) t ≡ 0
less_one-lowest zero v one zeros = omega (arith, bit_at_lowest v, bit_at_lowest (v - 1))
less_one-lowest (suc t) v one zeros =
    let even : v % 2 ≡ 0 = omega (arith, bit_at_lowest v, zeros 0 (omega arith)) in
    bit_at-suc (v - 1) t ∙ ap (λ n. bit_at n t) (let e : (v - 1) / 2 ≡ v / 2 - 1 = omega arith in e)
    ∙ less_one-lowest t (v / 2) (sym (bit_at-suc v t) ∙ one) (λ i h. sym (bit_at-suc v i) ∙ zeros (suc i) (omega arith))

-- and the same bits above it.
less_one-above : (t v : ℕ) → bit_at v t ≡ 1 → ((i : ℕ) → i < t → bit_at v i ≡ 0) → (k : ℕ) → t < k → bit_at (v - 1) k ≡ bit_at v k
less_one-above t v one zeros zero h = absurd (omega arith)
less_one-above zero v one zeros (suc k) h =
    bit_at-suc (v - 1) k ∙ ap (λ n. bit_at n k) (let e : (v - 1) / 2 ≡ v / 2 = omega (arith, bit_at_lowest v) in e) ∙ sym (bit_at-suc v k)
less_one-above (suc t) v one zeros (suc k) h =
    let even : v % 2 ≡ 0 = omega (arith, bit_at_lowest v, zeros 0 (omega arith)) in
    bit_at-suc (v - 1) k ∙ ap (λ n. bit_at n k) (let e : (v - 1) / 2 ≡ v / 2 - 1 = omega arith in e)
    ∙ less_one-above t (v / 2) (sym (bit_at-suc v t) ∙ one) (λ i g. sym (bit_at-suc v i) ∙ zeros (suc i) (omega arith)) k (omega arith)
    ∙ sym (bit_at-suc v k)

-- A whole word, where the range begins before it.
pub whole-word : (ws : List ℕ) (i at : ℕ) → at ≤ 64 * i → get_or ws i 0 < 2 ^ 64 → IsWordWithin (bits_of ws) i at (64 * i + 64) (get_or ws i 0)
whole-word ws i at h small = record {
  inside = λ k below after before. sym (bit-of_word ws i k below);
  before = λ k early. absurd (omega arith);
  behind = λ k late. bit_at_above (get_or ws i 0) 64 k small (omega arith);
}

-- A word from a place in it on.
pub word-from : (ws : List ℕ) (at : ℕ) → IsWordWithin (bits_of ws) (at / 64) at (64 * (at / 64) + 64) (bit_and (get_or ws (at / 64) 0) ((2 ^ 64 - 1) * 2 ^ (at % 64) % 2 ^ 64))
word-from ws at =
    let i : ℕ = at / 64 in
    let lo : ℕ = at % 64 in
    let w : ℕ = get_or ws i 0 in
    let bit : (k : ℕ) → bit_at (bit_and w ((2 ^ 64 - 1) * 2 ^ lo % 2 ^ 64)) k ≡ min (bit_at w k) (bit_at (2 ^ 64 - 2 ^ lo) k) =
    λ k. bit_at_and w ((2 ^ 64 - 1) * 2 ^ lo % 2 ^ 64) k ∙ ap (λ m. min (bit_at w k) (bit_at m k)) (ones_shl 64 lo (omega arith)) in
    record {
      inside = λ k below after before. omega (arith, bit k, bit_at-lt w k, bit_at_mask_inside lo 64 k (omega arith) below, bit-of_word ws i k below);
      before = λ k early. omega (arith, bit k, bit_at_mask_below lo 64 k (omega arith));
      behind = λ k late. omega (arith, bit k, bit_at_mask_above lo 64 k (omega arith));
    }

-- A word of a range without its lowest 1, behind this 1.
pub word-without_lowest : (bits : List ℕ) (i at to v : ℕ) → 0 < v → v < 2 ^ 64 → IsWordWithin bits i at to v
    → IsWordWithin bits i (64 * i + trailing_zeros w64 v + 1) to (bit_and v (v - 1))
word-without_lowest bits i at to v some small within =
    let t : ℕ = trailing_zeros w64 v in
    let lowest = bit_at-trailing_zeros w64 v some small in
    let bit : (k : ℕ) → bit_at (bit_and v (v - 1)) k ≡ min (bit_at v k) (bit_at (v - 1) k) = λ k. bit_at_and v (v - 1) k in
    let after : at ≤ 64 * i + t = elim (cases_lt (64 * i + t) at) [
      | inl early ↦ absurd (omega (arith, lowest.1, within.before t early))
      | inr h ↦ h
    ] in
    record {
      inside = λ k below behind before. omega (arith, bit k, less_one-above t v lowest.1 lowest.2 k (omega arith), within.inside k below (omega arith) before);
      before = λ k early. elim (cases_lt k t) [
        | inl under ↦ omega (arith, bit k, lowest.2 k under)
        | inr over ↦
            let same : k ≡ t = omega arith in
            ap (bit_at (bit_and v (v - 1))) same ∙ omega (arith, bit t, less_one-lowest t v lowest.1 lowest.2)
      ];
      behind = λ k late. omega (arith, bit k, within.behind k late);
    }

-- A word of a longer range, up to the end of this one.
pub word-before : (bits : List ℕ) (i at end v : ℕ) → IsWordWithin bits i at (64 * i + 64) v → IsWordWithin bits i at end (v % 2 ^ (end - 64 * i))
word-before bits i at end v within =
    let n : ℕ = end - 64 * i in
    let bit : (k : ℕ) → bit_at (v % 2 ^ n) k ≡ min (bit_at v k) (bit_at (2 ^ n - 1) k) =
    λ k. ap (λ w. bit_at w k) (sym (and_mask v n)) ∙ bit_at_and v (2 ^ n - 1) k in
    record {
      inside = λ k below after before. omega (arith, bit k, bit_at_ones n k (omega arith), bit_at-lt v k, within.inside k below after (omega arith));
      before = λ k early. omega (arith, bit k, within.before k early);
      behind = λ k late. omega (arith, bit k, bit_at_ones_above n k (omega arith));
    }

-- The lowest 1 of the word that is read is the first of the range.
pub first-read : (ws : List ℕ) (start rest at end : ℕ) → IsReading ws start rest at end → 0 < rest → rest < 2 ^ 64
    → IsFirstOne (bits_of ws) at end (start + trailing_zeros w64 rest)
first-read ws start rest at end is some small =
    let place : 64 * (start / 64) + trailing_zeros w64 rest ≡ start + trailing_zeros w64 rest = omega (arith, is.whole) in
    subst (λ p. IsFirstOne (bits_of ws) at end p) place
    (first_one-word (bits_of ws) (start / 64) at end rest some small is.word (λ q h g. is.passed q h (omega (arith, is.whole))))

-- Behind it the word is read without it.
pub reading-behind : (ws : List ℕ) (start rest at end : ℕ) → IsReading ws start rest at end → 0 < rest → rest < 2 ^ 64
    → IsReading ws start (bit_and rest (rest - 1)) (start + trailing_zeros w64 rest + 1) end
reading-behind ws start rest at end is some small =
    let place : 64 * (start / 64) + trailing_zeros w64 rest + 1 ≡ start + trailing_zeros w64 rest + 1 = omega (arith, is.whole) in
    record {
      whole = is.whole;
      started = is.started;
      reached = omega (arith, (first-read ws start rest at end is some small).before_end);
      near = omega (arith, (bit_at-trailing_zeros w64 rest some small).0);
      range = is.range;
      passed = λ q h g. absurd (omega arith);
      word = subst (λ a. IsWordWithin (bits_of ws) (start / 64) a end (bit_and rest (rest - 1))) place
          (word-without_lowest (bits_of ws) (start / 64) at end rest some small is.word);
    }

-- A word that is read has none left: no 1 of the range up to its end.
passed-word : (ws : List ℕ) (start rest at end : ℕ) → IsReading ws start rest at end → rest ≡ 0 → HasNoOne (bits_of ws) at (min (start + 64) end)
passed-word ws start rest at end is none q h g =
    no_one-word (bits_of ws) (start / 64) at end rest none is.word (λ p a b. is.passed p a (omega (arith, is.whole))) q h (omega (arith, is.whole))

pub all-read : (ws : List ℕ) (start rest at end : ℕ) → IsReading ws start rest at end → rest ≡ 0 → end ≤ start + 64 → HasNoOne (bits_of ws) at end
all-read ws start rest at end is none last q h g = passed-word ws start rest at end is none q h (omega arith)

-- Then the word behind it is read.
pub reading-next : (ws : List ℕ) (start rest at end more : ℕ) → IsReading ws start rest at end → rest ≡ 0 → start + 64 < end
    → get_or ws ((start + 64) / 64) 0 < 2 ^ 64 → more ≡ get_or ws ((start + 64) / 64) 0 % 2 ^ (end - (start + 64)) → IsReading ws (start + 64) more at end
reading-next ws start rest at end more is none far small made =
    let i : ℕ = (start + 64) / 64 in
    let whole : 64 * i ≡ start + 64 = omega (arith, is.whole) in
    record {
      whole = whole;
      started = omega arith;
      reached = is.reached;
      near = omega (arith, is.near);
      range = is.range;
      passed = λ q h g. passed-word ws start rest at end is none q h (omega arith);
      word = subst (λ v. IsWordWithin (bits_of ws) i at end v) (ap (λ n. get_or ws i 0 % 2 ^ (end - n)) whole ∙ sym made)
          (word-before (bits_of ws) i at end (get_or ws i 0) (whole-word ws i at (omega (arith, is.near)) small));
    }

-- A range begins within the word of its first place.
pub reading-from : (ws : List ℕ) (from to rest : ℕ) → from ≤ to → to ≤ 64 * length ws
    → rest ≡ bit_and (get_or ws (from / 64) 0) ((2 ^ 64 - 1) * 2 ^ (from % 64) % 2 ^ 64) % 2 ^ (to - from / 64 * 64) → IsReading ws (from / 64 * 64) rest from to
reading-from ws from to rest h fit made =
    let i : ℕ = from / 64 in
    let v : ℕ = bit_and (get_or ws i 0) ((2 ^ 64 - 1) * 2 ^ (from % 64) % 2 ^ 64) in
    let word : from / 64 * 64 / 64 ≡ from / 64 = omega arith in
    let start : 64 * i ≡ from / 64 * 64 = omega arith in
    record {
      whole = omega arith;
      started = omega arith;
      reached = h;
      near = omega arith;
      range = fit;
      passed = λ q g l. absurd (omega arith);
      word = subst (λ n. IsWordWithin (bits_of ws) n from to rest) (sym word)
          (subst (λ x. IsWordWithin (bits_of ws) i from to x) (ap (λ n. v % 2 ^ (to - n)) start ∙ sym made)
          (word-before (bits_of ws) i from to v (word-from ws from)));
    }

-- the lowest 1 of the word of a place from the place on
lowest-from : (ws : List ℕ) (from v : ℕ) → v ≡ bit_and (get_or ws (from / 64) 0) ((2 ^ 64 - 1) * 2 ^ (from % 64) % 2 ^ 64) → 0 < v → v < 2 ^ 64
    → IsFirstOne (bits_of ws) from (64 * (from / 64) + 64) (from / 64 * 64 + trailing_zeros w64 v)
lowest-from ws from v made some small =
    let i : ℕ = from / 64 in
    let place : 64 * i + trailing_zeros w64 v ≡ from / 64 * 64 + trailing_zeros w64 v = omega arith in
    subst (λ p. IsFirstOne (bits_of ws) from (64 * i + 64) p) place
    (first_one-word (bits_of ws) i from (64 * i + 64) v some small (subst (λ x. IsWordWithin (bits_of ws) i from (64 * i + 64) x) (sym made) (word-from ws from)) (λ q h g. absurd (omega arith)))

-- It is the first of a range that ends behind it,
pub first-from : (ws : List ℕ) (from to v : ℕ) → v ≡ bit_and (get_or ws (from / 64) 0) ((2 ^ 64 - 1) * 2 ^ (from % 64) % 2 ^ 64) → 0 < v → v < 2 ^ 64
    → from / 64 * 64 + trailing_zeros w64 v < to → IsFirstOne (bits_of ws) from to (from / 64 * 64 + trailing_zeros w64 v)
first-from ws from to v made some small inside =
    let first = lowest-from ws from v made some small in
    record { at_or_after = first.at_or_after; before_end = inside; one = first.one; first = first.first }

-- and there is none in one that ends before it.
pub none-from : (ws : List ℕ) (from to v : ℕ) → v ≡ bit_and (get_or ws (from / 64) 0) ((2 ^ 64 - 1) * 2 ^ (from % 64) % 2 ^ 64) → 0 < v → v < 2 ^ 64
    → to ≤ from / 64 * 64 + trailing_zeros w64 v → HasNoOne (bits_of ws) from to
none-from ws from to v made some small behind q h g = (lowest-from ws from v made some small).first q h (omega arith)

-- A range without a 1, under equal names.
pub same-none : {bits bits2 : List ℕ} {at at2 end end2 : ℕ} → bits ≡ bits2 → at ≡ at2 → end ≡ end2 → HasNoOne bits at end → HasNoOne bits2 at2 end2
same-none b a e h q l g = ap (λ xs. get_or xs q 0) (sym b) ∙ h q (omega arith) (omega arith)

pub same-first : {bits bits2 : List ℕ} {at at2 end end2 p : ℕ} → bits ≡ bits2 → at ≡ at2 → end ≡ end2 → IsFirstOne bits at end p → IsFirstOne bits2 at2 end2 p
same-first {p = p} b a e h = record {
  at_or_after = omega (arith, h.at_or_after);
  before_end = omega (arith, h.before_end);
  one = ap (λ xs. get_or xs p 0) (sym b) ∙ h.one;
  first = λ q l g. ap (λ xs. get_or xs q 0) (sym b) ∙ h.first q (omega arith) g;
}
