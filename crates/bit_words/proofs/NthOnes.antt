use Rattle.std.proofs.Common.{◌≡◌, ℕ, zero, suc, ◌+◌, ◌-◌, ◌*◌, ◌/◌, ◌%◌, ◌^◌, ◌<◌, ◌≤◌, min, List, [], ◌∷◌, length, get_or, refl, sym, ap, subst, ◌∙◌, arith, sum, bit_and, count_ones, inl, inr}
use Rattle.std.specs.Int.{bit_at, w64, trailing_zeros}
use Rattle.std.proofs.lemmas.Bool.{cases_lt}
use Rattle.std.proofs.lemmas.Nat.{and_le_l}
use Rattle.std.proofs.lemmas.Nat.Bits.{bit_at-lt, bit_at_and, bit_at_ones, bit_at_ones_above}
use Rattle.bit_words.specs.Bits.{field_bits, bits_of, ones_between, IsFirstOne, HasNoOne, IsNthOne, IsNthOneBack, IsWordWithin}
use Rattle.bit_words.proofs.Value.{length-bits_of}
use Rattle.bit_words.proofs.Ranges.{field-one, ones_between-more}
use Rattle.bit_words.proofs.WordRanges.{held, bit-of_word, ones-none, ones-within, ones-more, ones-whole, ones-joined, whole-within, no_one-word, first_one-word}
use Rattle.bit_words.proofs.WordOnes.{word-from, word-without_lowest}

absent-by : (bits : List ℕ) (from n : ℕ) → from + n ≤ length bits → HasNoOne bits from (from + n) → ones_between bits from (from + n) ≡ 0
absent-by bits from zero fit none = ap (ones_between bits from) (let e : from + 0 ≡ from = omega arith in e) ∙ ones-none bits from
absent-by bits from (suc n) fit none =
    ap (ones_between bits from) (let e : from + suc n ≡ from + n + 1 = omega arith in e)
    ∙ ones_between-more bits from (from + n) (omega arith) (omega arith)
    ∙ omega (arith, absent-by bits from n (omega arith) (λ q h g. none q h (omega arith)), field-one bits (from + n), none (from + n) (omega arith) (omega arith))

-- A range that has no 1 counts none.
pub ones-absent : (bits : List ℕ) (from to : ℕ) → from ≤ to → to ≤ length bits → HasNoOne bits from to → ones_between bits from to ≡ 0
ones-absent bits from to h fit none =
    let end : from + (to - from) ≡ to = omega arith in
    ap (ones_between bits from) (sym end) ∙ absent-by bits from (to - from) (omega arith) (λ q a b. none q a (omega arith))

-- Before the first 1 from a place on there are as many as before the place, and with it one more.
pub ones-first_one : (bits : List ℕ) (from at end p : ℕ) → from ≤ at → end ≤ length bits → IsFirstOne bits at end p → ones_between bits from p ≡ ones_between bits from at
ones-first_one bits from at end p h fit is =
    omega (
      arith,
      ones-joined bits from at p h is.at_or_after,
      ones-absent bits at p is.at_or_after (omega (arith, is.before_end)) is.first,
    )

pub ones-with_one : (bits : List ℕ) (from p : ℕ) → from ≤ p → p < length bits → get_or bits p 0 ≡ 1 → ones_between bits from (p + 1) ≡ ones_between bits from p + 1
ones-with_one bits from p h fit one = ones_between-more bits from p h fit ∙ omega (arith, field-one bits p, one)

-- A word without its j lowest ones, all of which stand before a place.
pub record IsWithout (word at j rest : ℕ) : Type 0 where
  pub within : IsWordWithin (bits_of (word ∷ [])) 0 at 64 rest
  pub near : at ≤ 64
  pub small : rest < 2 ^ 64
  pub passed : ones_between (bits_of (word ∷ [])) 0 at ≡ j

word-length : (word : ℕ) → length (bits_of (word ∷ [])) ≡ 64
word-length word = length-bits_of (word ∷ []) ∙ omega arith

word-whole : (word : ℕ) → word < 2 ^ 64 → IsWordWithin (bits_of (word ∷ [])) 0 0 64 word
word-whole word small = whole-within (word ∷ []) 0 0 64 (omega arith) (omega arith) small

pub without-none : (word : ℕ) → word < 2 ^ 64 → IsWithout word 0 0 word
without-none word small = record {
  within = word-whole word small;
  near = omega arith;
  small = small;
  passed = ones-none (bits_of (word ∷ [])) 0;
}

-- Where more than j bits are 1, there is a next one.
pub without-some : (word at j rest : ℕ) → word < 2 ^ 64 → IsWithout word at j rest → j < count_ones word → 0 < rest
without-some word at j zero small is some =
    let bits : List ℕ = bits_of (word ∷ []) in
    let none : HasNoOne bits at 64 = no_one-word bits 0 at 64 0 refl is.within (λ q h g. absurd (omega arith)) in
    let whole : ones_between bits 0 64 ≡ ones_between bits 0 0 + count_ones word = ones-whole (word ∷ []) 0 0 (omega arith) (omega arith) small in
    absurd (omega (
      arith,
      whole,
      ones-none bits 0,
      is.passed,
      ones-joined bits 0 at 64 (omega arith) is.near,
      ones-absent bits at 64 is.near (omega (arith, word-length word)) none,
    ))
without-some word at j (suc rest) small is some = omega arith

without-first : (word at j rest : ℕ) → IsWithout word at j rest → 0 < rest → IsFirstOne (bits_of (word ∷ [])) at 64 (64 * 0 + trailing_zeros w64 rest)
without-first word at j rest is some = first_one-word (bits_of (word ∷ [])) 0 at 64 rest some is.small is.within (λ q h g. absurd (omega arith))

pub without-next : (word at j rest : ℕ) → IsWithout word at j rest → 0 < rest → IsWithout word (64 * 0 + trailing_zeros w64 rest + 1) (j + 1) (bit_and rest (rest - 1))
without-next word at j rest is some =
    let bits : List ℕ = bits_of (word ∷ []) in
    let first = without-first word at j rest is some in
    let p : ℕ = 64 * 0 + trailing_zeros w64 rest in
    record {
      within = word-without_lowest bits 0 at 64 rest some is.small is.within;
      near = omega (arith, first.before_end);
      small = omega (arith, and_le_l rest (rest - 1), is.small);
      passed =
          ones-with_one bits 0 p (omega arith) (omega (arith, first.before_end, word-length word)) first.one
          ∙ ap (λ n. n + 1) (ones-first_one bits 0 at 64 p (omega arith) (omega (arith, word-length word)) first ∙ is.passed);
    }

-- The lowest 1 of the rest is the one before which j bits of the word are.
pub record IsNthOfWord (word n t : ℕ) : Type 0 where
  pub within : t < 64
  pub one : bit_at word t ≡ 1
  pub before : sum (field_bits t word) ≡ n

pub without-lowest : (word at j rest : ℕ) → word < 2 ^ 64 → IsWithout word at j rest → 0 < rest → IsNthOfWord word j (trailing_zeros w64 rest)
without-lowest word at j rest small is some =
    let bits : List ℕ = bits_of (word ∷ []) in
    let t : ℕ = trailing_zeros w64 rest in
    let first = without-first word at j rest is some in
    let below : t < 64 = omega (arith, first.before_end) in
    let counted = ones-within bits 0 0 64 word (omega arith) (omega (arith, word-length word)) (word-whole word small) t (omega arith) in
    let place : held 0 64 (64 * 0 + t) ≡ 64 * 0 + t = omega arith in
    let start : held 0 64 (64 * 0) ≡ 0 = omega arith in
    record {
      within = below;
      one = sym (bit-of_word (word ∷ []) 0 t below) ∙ first.one;
      before = omega (
        arith,
        counted,
        ap (ones_between bits 0) place,
        ap (ones_between bits 0) start,
        ones-none bits 0,
        ones-first_one bits 0 at 64 (64 * 0 + t) (omega arith) (omega (arith, word-length word)) first,
        is.passed,
      );
    }

-- The one before which n of a range are is sought from a word on: these of its ones are of the range, and so many lie before it.
pub record IsSeeking (vs : List ℕ) (from to n start rest left : ℕ) : Type 0 where
  pub whole : 64 * (start / 64) ≡ start
  pub begun : from < start + 64
  pub ended : start < to
  pub range : to ≤ 64 * length vs
  pub ordered : from ≤ to
  pub small : rest < 2 ^ 64
  pub word : IsWordWithin (bits_of vs) (start / 64) from (64 * length vs) rest
  pub count : ones_between (bits_of vs) from (held from (64 * length vs) start) + left ≡ n

-- the word of a place from this place on, in a longer range
widened : (bits : List ℕ) (i from to end v : ℕ) → to ≤ end → to ≡ 64 * i + 64 → v < 2 ^ 64 → IsWordWithin bits i from to v → IsWordWithin bits i from end v
widened bits i from to end v h whole small is = record {
  inside = λ k below after before. is.inside k below after (omega arith);
  before = is.before;
  behind = λ k late. is.behind k (omega arith);
}

pub seeking-start : (vs : List ℕ) (from to n w : ℕ) → from < to → to ≤ 64 * length vs → w ≡ get_or vs (from / 64) 0 → w < 2 ^ 64
    → IsSeeking vs from to n (from / 64 * 64) (bit_and w ((2 ^ 64 - 1) * 2 ^ (from % 64) % 2 ^ 64)) n
seeking-start vs from to n w h fit is small =
    let v : ℕ = bit_and w ((2 ^ 64 - 1) * 2 ^ (from % 64) % 2 ^ 64) in
    let less : v < 2 ^ 64 = omega (arith, and_le_l w ((2 ^ 64 - 1) * 2 ^ (from % 64) % 2 ^ 64)) in
    let here : from / 64 ≡ from / 64 * 64 / 64 = omega arith in
    let word : IsWordWithin (bits_of vs) (from / 64) from (64 * (from / 64) + 64) v =
    subst (λ x. IsWordWithin (bits_of vs) (from / 64) from (64 * (from / 64) + 64) (bit_and x ((2 ^ 64 - 1) * 2 ^ (from % 64) % 2 ^ 64))) (sym is) (word-from vs from) in
    let at : held from (64 * length vs) (from / 64 * 64) ≡ from = omega arith in
    record {
      whole = omega arith;
      begun = omega arith;
      ended = omega arith;
      range = fit;
      ordered = omega arith;
      small = less;
      word = subst (λ i. IsWordWithin (bits_of vs) i from (64 * length vs) v) here (widened (bits_of vs) (from / 64) from (64 * (from / 64) + 64) (64 * length vs) v (omega arith) refl less word);
      count = omega (arith, ap (ones_between (bits_of vs) from) at, ones-none (bits_of vs) from);
    }

-- the ones up to the end of the word
seeking-more : (vs : List ℕ) (from to n start rest left : ℕ) → IsSeeking vs from to n start rest left → count_ones rest ≤ left
    → ones_between (bits_of vs) from (start + 64) + (left - count_ones rest) ≡ n
seeking-more vs from to n start rest left is few =
    let i : ℕ = start / 64 in
    let more = ones-more vs i from (64 * length vs) rest (omega (arith, is.ordered, is.range)) (omega arith) is.small is.word in
    let next : held from (64 * length vs) (64 * (i + 1)) ≡ start + 64 = omega (arith, is.whole, is.begun, is.ended, is.range) in
    omega (arith, more, ap (λ p. ones_between (bits_of vs) from (held from (64 * length vs) p)) is.whole, ap (ones_between (bits_of vs) from) next, is.count, few)

pub seeking-next : (vs : List ℕ) (from to n start rest left : ℕ) → IsSeeking vs from to n start rest left → count_ones rest ≤ left → start + 64 < to
    → get_or vs ((start + 64) / 64) 0 < 2 ^ 64 → IsSeeking vs from to n (start + 64) (get_or vs ((start + 64) / 64) 0) (left - count_ones rest)
seeking-next vs from to n start rest left is few more small =
    let whole : 64 * ((start + 64) / 64) ≡ start + 64 = omega (arith, is.whole) in
    let at : held from (64 * length vs) (start + 64) ≡ start + 64 = omega (arith, is.begun, is.range) in
    record {
      whole = whole;
      begun = omega (arith, is.begun);
      ended = more;
      range = is.range;
      ordered = is.ordered;
      small = small;
      word = whole-within vs ((start + 64) / 64) from (64 * length vs) (omega (arith, is.begun, whole)) (omega (arith, is.range, whole)) small;
      count = omega (arith, ap (ones_between (bits_of vs) from) at, seeking-more vs from to n start rest left is few);
    }

pub seeking-none : (vs : List ℕ) (from to n start rest left : ℕ) → IsSeeking vs from to n start rest left → count_ones rest ≤ left → to ≤ start + 64
    → ones_between (bits_of vs) from to ≤ n
seeking-none vs from to n start rest left is few last =
    omega (arith, seeking-more vs from to n start rest left is few, ones-joined (bits_of vs) from to (start + 64) is.ordered last)

-- The place of the one that is sought, by its place in the word.
pub seeking-found : (vs : List ℕ) (from to n start rest left t : ℕ) → IsSeeking vs from to n start rest left → IsNthOfWord rest left t → start + t < to
    → IsNthOne (bits_of vs) from to n (start + t)
seeking-found vs from to n start rest left t is nth inside =
    let i : ℕ = start / 64 in
    let place : 64 * i + t ≡ start + t = omega (arith, is.whole) in
    let after : from ≤ start + t = elim (cases_lt (start + t) from) [
      | inl early ↦ absurd (omega (arith, nth.one, is.word.before t (omega (arith, place))))
      | inr h ↦ h
    ] in
    let counted = ones-within (bits_of vs) i from (64 * length vs) rest (omega (arith, is.ordered, is.range)) (omega (arith, length-bits_of vs)) is.word t (omega (arith, nth.within)) in
    let there : held from (64 * length vs) (64 * i + t) ≡ start + t = omega (arith, place, is.range) in
    record {
      at_or_after = after;
      before_end = inside;
      one = ap (λ p. get_or (bits_of vs) p 0) (sym place) ∙ sym (is.word.inside t nth.within (omega (arith, place)) (omega (arith, place, is.range))) ∙ nth.one;
      before = omega (arith, counted, ap (λ p. ones_between (bits_of vs) from (held from (64 * length vs) p)) is.whole, ap (ones_between (bits_of vs) from) there, is.count, nth.before);
    }

pub seeking-behind : (vs : List ℕ) (from to n start rest left t : ℕ) → IsSeeking vs from to n start rest left → IsNthOfWord rest left t → to ≤ start + t
    → ones_between (bits_of vs) from to ≤ n
seeking-behind vs from to n start rest left t is nth late =
    let wide : IsSeeking vs from (64 * length vs) n start rest left = record {
      whole = is.whole;
      begun = is.begun;
      ended = omega (arith, is.ended, is.range);
      range = omega arith;
      ordered = omega (arith, is.ordered, is.range);
      small = is.small;
      word = is.word;
      count = is.count;
    } in
    let found = seeking-found vs from (64 * length vs) n start rest left t wide nth (omega (arith, is.whole, is.ended, is.range, nth.within)) in
    omega (arith, found.before, ones-joined (bits_of vs) from to (start + t) is.ordered late)

-- The one before which so many are from a place on, where the ones from there to the end are counted.
pub nth-back : (bits : List ℕ) (from at to n behind p : ℕ) → to ≤ length bits → from ≤ at → behind ≡ ones_between bits at to → n < behind → IsNthOne bits at to (behind - 1 - n) p
    → IsNthOneBack bits from to n p
nth-back bits from at to n behind p fit h is more nth = record {
  at_or_after = omega (arith, nth.at_or_after);
  before_end = nth.before_end;
  one = nth.one;
  behind =
      omega (
        arith,
        is,
        ones-with_one bits at p nth.at_or_after (omega (arith, nth.before_end)) nth.one,
        nth.before,
        ones-joined bits at (p + 1) to (omega (arith, nth.at_or_after)) (omega (arith, nth.before_end)),
      );
}

-- The ones of a range within one word are those of the word under two masks.
pub ones-inside : (ws : List ℕ) (from to w mask : ℕ) → from ≤ to → to ≤ 64 * length ws → to ≤ 64 * (from / 64) + 64 → w ≡ get_or ws (from / 64) 0 → w < 2 ^ 64
    → mask ≡ 2 ^ (to - from / 64 * 64) - 1
    → count_ones (bit_and (bit_and w ((2 ^ 64 - 1) * 2 ^ (from % 64) % 2 ^ 64)) mask) ≡ ones_between (bits_of ws) from to
ones-inside ws from to w mask h fit near is small masks =
    let bits : List ℕ = bits_of ws in
    let i : ℕ = from / 64 in
    let width : ℕ = to - from / 64 * 64 in
    let v0 : ℕ = bit_and w ((2 ^ 64 - 1) * 2 ^ (from % 64) % 2 ^ 64) in
    let v : ℕ = bit_and v0 mask in
    let word : IsWordWithin bits i from (64 * i + 64) v0 =
    subst (λ x. IsWordWithin bits i from (64 * i + 64) (bit_and x ((2 ^ 64 - 1) * 2 ^ (from % 64) % 2 ^ 64))) (sym is) (word-from ws from) in
    let bit : (k : ℕ) → bit_at v k ≡ min (bit_at v0 k) (bit_at (2 ^ width - 1) k) = λ k. bit_at_and v0 mask k ∙ ap (λ m. min (bit_at v0 k) (bit_at m k)) masks in
    let within : IsWordWithin bits i from to v = record {
      inside = λ k below after before. omega (arith, bit k, bit_at_ones width k (omega arith), bit_at-lt v0 k, word.inside k below after (omega arith));
      before = λ k early. omega (arith, bit k, word.before k early);
      behind = λ k late. omega (arith, bit k, bit_at_ones_above width k (omega arith));
    } in
    let less : v < 2 ^ 64 = omega (arith, and_le_l v0 mask, and_le_l w ((2 ^ 64 - 1) * 2 ^ (from % 64) % 2 ^ 64)) in
    let more = ones-more ws i from to v h fit less within in
    let there : held from to (64 * (i + 1)) ≡ to = omega arith in
    let here : held from to (64 * i) ≡ from = omega arith in
    omega (arith, more, ap (ones_between bits from) there, ap (ones_between bits from) here, ones-none bits from)
