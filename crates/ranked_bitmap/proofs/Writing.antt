use Rattle.std.proofs.Common.{◌≡◌, ℕ, zero, suc, ◌+◌, ◌-◌, ◌*◌, ◌/◌, ◌<◌, ◌≤◌, cond, List, ◌++◌, length, take, drop, get_or, sum, sym, ap, ◌∙◌, subst, arith, inl, inr}
use Rattle.std.specs.List.{flat_map}
use Rattle.std.specs.List.Sorted.{IsStrictlyIncreasing}
use Rattle.std.proofs.lemmas.Bool.{cases_lt, false_from_ne_true}
use Rattle.std.proofs.lemmas.List.{length-append, length-drop, get_or-drop, length-take-le, take_all}
use Rattle.std.proofs.Math.Nat.{mul-le-mul_left}
use Rattle.bit_words.specs.Bits.{AppendsBits, field_bits}
use Rattle.bit_words.proofs.Pieces.{length-fields}
use Rattle.bit_words.proofs.Prefixes.{appends-prefix, appends-behind, appends-both, pieces-more, pieces-prefix}
use Rattle.bit_words.proofs.OnesWritten.{IsOneNext}
use Rattle.bit_words.proofs.Value.{each_bit}
use Rattle.part_cost.proofs.Numbers.{rises}
use Rattle.part_cost.specs.Payload.{digits}
use Rattle.part_cost.specs.Span.{past, AreRelative}
use Rattle.part_cost.proofs.Parts.{past-number, relative-past, past-is}
use Rattle.ranked_bitmap.specs.MapBits.{marks, map_samples, map_bits}
use Rattle.ranked_bitmap.proofs.Ones.{AreBelow, one_count, count-below}
use Rattle.ranked_bitmap.proofs.Marks.{has_number, has_number-at, found-number, length-marks, mark-at, bits-marks, marks-are-ones}
use Rattle.ranked_bitmap.proofs.Reading.{below-universe, counts, length-counts, length-samples, samples-are, part-is}

-- the marks before a place are as many as the numbers below it
pub marks-below : (ys : List ℕ) (u p : ℕ) → AreRelative u (length ys) ys → AreBelow ys p (sum (take p (marks ys u)))
marks-below ys u p h =
    count-below (marks ys u) ys p (each_bit (marks ys u) (bits-marks ys u)) (marks-are-ones ys u h.rising (λ k lt. below-universe u (length ys) ys h k lt))

-- no number lies between one and the next
between-numbers : (ys : List ℕ) → IsStrictlyIncreasing ys → (k : ℕ) → k < length ys → (q : ℕ) → past ys k ≤ q → q < get_or ys k 0
    → (i : ℕ) → i < length ys → get_or ys i 0 ≡ q → ⊥
between-numbers ys up zero lt q from to i within is = omega (arith, rises ys up 0 i (omega arith) within)
between-numbers ys up (suc k) lt q from to i within is =
    elim (cases_lt i (suc k)) [
      | inl less ↦ omega (arith, rises ys up i k (omega arith) (omega arith))
      | inr more ↦ omega (arith, rises ys up (suc k) i more within)
    ]

-- behind the marks up to the first numbers, the next one is that of the next
pub next-mark : (ys : List ℕ) (k : ℕ) → IsStrictlyIncreasing ys → 0 < length ys → k < length ys → IsOneNext (marks ys (past ys (length ys))) (past ys k) (get_or ys k 0 - past ys k)
next-mark ys k up some lt =
    let u : ℕ = past ys (length ys) in
    let place : past ys k + (get_or ys k 0 - past ys k) ≡ get_or ys k 0 = let h = past-number ys up k lt in omega arith in
    let below : get_or ys k 0 < u = below-universe u (length ys) ys (relative-past ys up some) k lt in
    record {
      within = omega (arith, length-marks ys u);
      clear = λ q from to.
          mark-at ys u q (omega arith)
          ∙ ap (λ b. cond b 1 0)
          (false_from_ne_true (has_number q ys) (λ set. let found = found-number q ys set in between-numbers ys up k lt q from (omega arith) found.0 found.1 found.2));
      one = mark-at ys u (past ys k + (get_or ys k 0 - past ys k)) (omega arith) ∙ ap (λ b. cond b 1 0) (has_number-at (past ys k + (get_or ys k 0 - past ys k)) ys k lt (sym place));
    }

-- the first samples
abbrev pub first_samples : ℕ → List ℕ → ℕ → ℕ → List ℕ
first_samples q ys u j = flat_map (field_bits (digits (length ys))) (take j (counts q ys u))

pub samples-all : (q : ℕ) (ys : List ℕ) (u j : ℕ) → j ≡ (u - 1) / q → first_samples q ys u j ≡ map_samples q ys u
samples-all q ys u j e =
    ap (flat_map (field_bits (digits (length ys)))) (take_all j (counts q ys u) (omega (arith, length-counts q ys u))) ∙ samples-are q ys u

pub length-first_samples : (q : ℕ) (ys : List ℕ) (u j : ℕ) → j ≤ (u - 1) / q → length (first_samples q ys u j) ≡ digits (length ys) * j
length-first_samples q ys u j h =
    length-fields (digits (length ys)) (take j (counts q ys u))
    ∙ ap (λ n. digits (length ys) * n) (length-take-le j (counts q ys u) (omega (arith, length-counts q ys u)))

-- one more sample
pub sample-more : (old to : List ℕ) (q : ℕ) (ys : List ℕ) (u j count : ℕ) → j < (u - 1) / q → count ≡ get_or (counts q ys u) j 0
    → to ≡ old ++ first_samples q ys u j → to ++ field_bits (digits (length ys)) count ≡ old ++ first_samples q ys u (j + 1)
sample-more old to q ys u j count lt is e =
    let width : ℕ = digits (length ys) in
    ap (λ n. to ++ field_bits width n) is ∙ pieces-more (field_bits width) old to (counts q ys u) j 0 (omega (arith, length-counts q ys u)) e

-- the first samples are a prefix of all
pub samples-prefix : (old to : List ℕ) (q : ℕ) (ys : List ℕ) (u j : ℕ) → to ≡ old ++ first_samples q ys u j → AppendsBits old to (map_samples q ys u)
samples-prefix old to q ys u j e =
    subst (λ xs. AppendsBits old to xs) (samples-are q ys u) (pieces-prefix (field_bits (digits (length ys))) old to (counts q ys u) j e)

-- a sample has room behind those before it
pub room-more : (width j n : ℕ) → j < n → width * j + width ≤ width * n
room-more width j n h = omega (arith, mul-le-mul_left {m = j + 1} {n = n} width (omega arith))

pub sample-room : (q : ℕ) (ys : List ℕ) (u j width most : ℕ) (old to : List ℕ) → j < (u - 1) / q → to ≡ old ++ first_samples q ys u j
    → width ≡ digits (length ys) → length old + length (map_samples q ys u) < most → length to + width < most
sample-room q ys u j width most old to lt e wide room =
    omega (
      arith,
      ap length e,
      length-append old (first_samples q ys u j),
      length-first_samples q ys u j (omega arith),
      length-samples q ys u,
      room-more (digits (length ys)) j ((u - 1) / q) lt,
    )

-- the numbers that were found to lie below a place are all that do
pub found-below : (ys : List ℕ) (u end count : ℕ) → AreRelative u (length ys) ys → count ≤ length ys → ((i : ℕ) → i < count → get_or ys i 0 < end)
    → (count < length ys → end ≤ get_or ys count 0) → count ≡ sum (take end (marks ys u))
found-below ys u end count h fit below next =
    one_count ys end count (sum (take end (marks ys u)))
    record {
      fit = fit;
      below = below;
      above = λ k more within. (let first = next (omega arith) in omega (arith, rises ys h.rising count k more within));
    }
    (marks-below ys u end h)

-- behind the numbers that are known to lie below a place, those that were found to
pub found-behind : (ys : List ℕ) (end count more : ℕ) → count ≤ length ys → ((i : ℕ) → i < count → get_or ys i 0 < end)
    → more ≤ length (drop count ys) → ((i : ℕ) → i < more → get_or (drop count ys) i 0 < end)
    → (more < length (drop count ys) → end ≤ get_or (drop count ys) more 0)
    → (count + more ≤ length ys) × ((i : ℕ) → i < count + more → get_or ys i 0 < end) × (count + more < length ys → end ≤ get_or ys (count + more) 0)
found-behind ys end count more fit known within below next = (
  omega (arith, length-drop count ys),
  λ i lt.
      elim (cases_lt i count) [
        | inl less ↦ known i less
        | inr behind ↦
            let place : count + (i - count) ≡ i = omega arith in
            omega (arith, below (i - count) (omega arith), get_or-drop count ys (i - count) 0, ap (λ n. get_or ys n 0) place)
      ],
  λ lt. omega (arith, next (omega (arith, length-drop count ys)), get_or-drop count ys more 0),
)

-- the marks of a part are those of its numbers up to the last
pub marks-of : (u : ℕ) (old new ys : List ℕ) → AreRelative u (length ys) ys → new ≡ old ++ marks ys (past ys (length ys)) → new ≡ old ++ marks ys u
marks-of u old new ys h e = e ∙ ap (λ v. old ++ marks ys v) (past-is u ys h)

-- the marks and then the samples are the part
pub part-whole : (q u : ℕ) (old mid new ys : List ℕ) → mid ≡ old ++ marks ys u → new ≡ mid ++ map_samples q ys u → new ≡ old ++ map_bits q ys u
part-whole q u old mid new ys first second =
    appends-both old mid new (marks ys u) (map_samples q ys u) first second ∙ ap (λ xs. old ++ xs) (sym (part-is q u ys))

pub part-prefix : (q u : ℕ) (old new ys : List ℕ) → AppendsBits old new (marks ys u) → AppendsBits old new (map_bits q ys u)
part-prefix q u old new ys h = subst (λ xs. AppendsBits old new xs) (sym (part-is q u ys)) (appends-prefix old new (marks ys u) (map_samples q ys u) h)

pub part-behind : (q u : ℕ) (old mid new ys : List ℕ) → mid ≡ old ++ marks ys u → AppendsBits mid new (map_samples q ys u) → AppendsBits old new (map_bits q ys u)
part-behind q u old mid new ys first h =
    subst (λ xs. AppendsBits old new xs) (sym (part-is q u ys)) (appends-behind old mid new (marks ys u) (map_samples q ys u) first h)

pub length-both : (q u : ℕ) (ys : List ℕ) → length (map_bits q ys u) ≡ length (marks ys u) + length (map_samples q ys u)
length-both q u ys = ap length (part-is q u ys) ∙ length-append (marks ys u) (map_samples q ys u)
