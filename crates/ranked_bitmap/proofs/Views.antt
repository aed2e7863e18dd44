use Rattle.std.proofs.Common.{◌≡◌, ℕ, ◌+◌, ◌-◌, ◌*◌, ◌/◌, ◌<◌, ◌≤◌, List, length, get_or, refl, sym, ap, ◌∙◌, subst, arith, inl, inr}
use Rattle.std.proofs.lemmas.Bool.{cases_lt}
use Rattle.std.proofs.Math.Nat.{div-mul-le_self, mul-le-mul_right}
use Rattle.std.proofs.lemmas.List.Elements.{All-append}
use Rattle.bit_words.specs.Bits.{AreBits, bits_of, ones_between, IsFirstOne, IsNthOne, HasNoOne}
use Rattle.bit_words.proofs.Value.{bits-bits_of, length-bits_of}
use Rattle.bit_words.proofs.AllBits.{bits-fields}
use Rattle.part_cost.proofs.Numbers.{rises}
use Rattle.part_cost.specs.Payload.{digits}
use Rattle.part_cost.specs.Stored.{IsFirstAtLeast}
use Rattle.part_cost.specs.Laws.{DigitsHold}
use Rattle.ranked_bitmap.specs.declared.MapView.{MapView}
use Rattle.ranked_bitmap.specs.MapBits.{marks, map_samples, map_bits}
use Rattle.ranked_bitmap.specs.MapPlaces.{AreSampled}
use Rattle.ranked_bitmap.specs.MapView.{Holds, IsWithin}
use Rattle.ranked_bitmap.proofs.Marks.{bits-marks}
use Rattle.ranked_bitmap.proofs.OneList.{view-read, read-view}
use Rattle.ranked_bitmap.proofs.Reading.{counts, samples-are, part-is, below-universe, first-number, some-number, ones-on, ones-absent, count-next, count-number, next-is, here-is, read-checked, counted-all, last-set, samples-read}

-- what is held lies within the words
pub within-held : (q : ℕ) (v : MapView q) (ys : List ℕ) → Holds q v ys → IsWithin q v
within-held q v ys h = omega (arith, (view-read q v ys h).room, length-bits_of v.part.bits.words.now)

-- all pieces are bits
pub part-is-bits : (q u : ℕ) (ys : List ℕ) → AreBits (map_bits q ys u)
part-is-bits q u ys =
    subst (λ xs. AreBits xs) (sym (part-is q u ys))
    (All-append (λ b. b < 2) (marks ys u) (map_samples q ys u) (bits-marks ys u)
    (subst (λ xs. AreBits xs) (samples-are q ys u) (bits-fields (digits (length ys)) (counts q ys u))))

-- what is read of the numbers that a view holds
pub number-found : (q : ℕ) (v : MapView q) (ys : List ℕ) → Holds q v ys → (least p : ℕ) → least < v.part.u
    → IsFirstOne (bits_of v.part.bits.words.now) (v.part.place + least) (v.part.place + v.part.u) p → p - v.part.place ≡ get_or ys (ones_between (bits_of v.part.bits.words.now) v.part.place (v.part.place + least)) 0
number-found q v ys h least p lt first =
    first-number (bits_of v.part.bits.words.now) v.part.place v.part.u v.part.m q ys (bits-bits_of v.part.bits.words.now) (view-read q v ys h) least p first (omega arith)

pub number-there : (q : ℕ) (v : MapView q) (ys : List ℕ) → Holds q v ys → (least : ℕ) → least < v.part.u
    → HasNoOne (bits_of v.part.bits.words.now) (v.part.place + least) (v.part.place + v.part.u) → ⊥
number-there q v ys h least lt none = some-number (bits_of v.part.bits.words.now) v.part.place v.part.u v.part.m q ys (view-read q v ys h) least lt none

-- the number whose one is found by how many come before it from a place on
pub number-numbered : (q : ℕ) (v : MapView q) (ys : List ℕ) → Holds q v ys → (k at below p : ℕ) → at < v.part.u → below ≡ ones_between (bits_of v.part.bits.words.now) v.part.place (v.part.place + at)
    → below ≤ k → IsNthOne (bits_of v.part.bits.words.now) (v.part.place + at) (v.part.place + v.part.u) (k - below) p → p - v.part.place ≡ get_or ys k 0
number-numbered q v ys h k at below p lt rank few nth =
    let bits : List ℕ = bits_of v.part.bits.words.now in
    let n : ℕ = p - v.part.place in
    let place : v.part.place + n ≡ p = omega (arith, nth.at_or_after) in
    let within : n < v.part.u = omega (arith, nth.before_end, place) in
    let first : IsFirstOne bits (v.part.place + n) (v.part.place + v.part.u) p = record {
      at_or_after = omega (arith, place);
      before_end = nth.before_end;
      one = nth.one;
      first = λ r after before. absurd (omega (arith, place));
    } in
    let more : k - below ≡ ones_between bits (v.part.place + at) (v.part.place + n) = sym (ap (ones_between bits (v.part.place + at)) place ∙ nth.before) in
    let count : ones_between bits v.part.place (v.part.place + n) ≡ k =
    sym (ones-on bits v.part.place at n below (k - below) (omega (arith, nth.at_or_after)) rank more) ∙ omega arith in
    number-found q v ys h n p within first ∙ ap (λ i. get_or ys i 0) count

-- and there is one
pub numbered-there : (q : ℕ) (v : MapView q) (ys : List ℕ) → Holds q v ys → (k at below : ℕ) → at < v.part.u → below ≡ ones_between (bits_of v.part.bits.words.now) v.part.place (v.part.place + at)
    → below ≤ k → k < v.part.m → ones_between (bits_of v.part.bits.words.now) (v.part.place + at) (v.part.place + v.part.u) ≤ k - below → ⊥
numbered-there q v ys h k at below lt rank few within none =
    let bits : List ℕ = bits_of v.part.bits.words.now in
    omega (
      arith,
      none,
      ones-on bits v.part.place at v.part.u below (ones_between bits (v.part.place + at) (v.part.place + v.part.u)) (omega arith) rank refl,
      counted-all bits v.part.place v.part.u v.part.m q ys (bits-bits_of v.part.bits.words.now) (view-read q v ys h),
    )

-- the start of a run lies within the part
pub run-within : (q run u : ℕ) → 1 ≤ u → run ≤ (u - 1) / q → q * run < u
run-within q run u some h = omega (arith, mul-le-mul_right q h, div-mul-le_self (u - 1) q)

-- a place lies before the start of the next run but one
pub run-behind : (q n : ℕ) → 1 ≤ q → n ≤ q * (n / q + 2)
run-behind q n some = omega (arith, some)

-- no more numbers lie below the end of a gap than below its start
pub gap-count : (q : ℕ) (v : MapView q) (ys : List ℕ) → Holds q v ys → (least end : ℕ) → least ≤ end → end ≤ v.part.u
    → HasNoOne (bits_of v.part.bits.words.now) (v.part.place + least) (v.part.place + end)
    → ones_between (bits_of v.part.bits.words.now) v.part.place (v.part.place + least) ≡ ones_between (bits_of v.part.bits.words.now) v.part.place (v.part.place + end)
gap-count q v ys h least end up fit none =
    let bits : List ℕ = bits_of v.part.bits.words.now in
    let read = view-read q v ys h in
    let absent : 0 ≡ ones_between bits (v.part.place + least) (v.part.place + end) = sym (ones-absent bits (v.part.place + least) (v.part.place + end) (omega arith) (omega (arith, read.room)) none) in
    let same = ones-on bits v.part.place least end (ones_between bits v.part.place (v.part.place + least)) 0 up refl absent in
    omega (arith, same)

-- so many numbers lie below a place, and there are more
pub more-numbers : (q : ℕ) (v : MapView q) (ys : List ℕ) → Holds q v ys → (at : ℕ) → at < v.part.u → ones_between (bits_of v.part.bits.words.now) v.part.place (v.part.place + at) < v.part.m
more-numbers q v ys h at lt =
    let next = next-is (bits_of v.part.bits.words.now) v.part.place v.part.u v.part.m q ys (bits-bits_of v.part.bits.words.now) (view-read q v ys h) 0 at lt (omega arith) in
    omega (arith, next.within, h.values.count)

pub number-below : (q : ℕ) (v : MapView q) (ys : List ℕ) → Holds q v ys → (k : ℕ) → k < v.part.m → get_or ys k 0 < v.part.u
number-below q v ys h k lt = below-universe v.part.u v.part.m ys h.values k lt

pub next-below : (q : ℕ) (v : MapView q) (ys : List ℕ) → Holds q v ys → (k : ℕ) → k + 1 < v.part.m → get_or ys k 0 + 1 < v.part.u
next-below q v ys h k lt =
    omega (arith, rises ys h.values.rising k (k + 1) (omega arith) (omega (arith, h.values.count)), number-below q v ys h (k + 1) lt)

pub next-number : (q : ℕ) (v : MapView q) (ys : List ℕ) → Holds q v ys → (k number : ℕ) → k < v.part.m → number ≡ get_or ys k 0
    → ones_between (bits_of v.part.bits.words.now) v.part.place (v.part.place + (number + 1)) ≡ k + 1
next-number q v ys h k number lt is =
    ap (λ n. ones_between (bits_of v.part.bits.words.now) v.part.place (v.part.place + (n + 1))) is
    ∙ count-next (bits_of v.part.bits.words.now) v.part.place v.part.u v.part.m q ys (bits-bits_of v.part.bits.words.now) (view-read q v ys h) k lt

-- so many numbers lie below number k
pub before-number : (q : ℕ) (v : MapView q) (ys : List ℕ) → Holds q v ys → (k number : ℕ) → k < v.part.m → number ≡ get_or ys k 0
    → ones_between (bits_of v.part.bits.words.now) v.part.place (v.part.place + number) ≡ k
before-number q v ys h k number lt is =
    ap (λ n. ones_between (bits_of v.part.bits.words.now) v.part.place (v.part.place + n)) is
    ∙ count-number (bits_of v.part.bits.words.now) v.part.place v.part.u v.part.m q ys (bits-bits_of v.part.bits.words.now) (view-read q v ys h) k lt

pub first-at-least : (q : ℕ) (v : MapView q) (ys : List ℕ) → Holds q v ys → (from x : ℕ) → x < v.part.u
    → from ≤ ones_between (bits_of v.part.bits.words.now) v.part.place (v.part.place + x) → IsFirstAtLeast ys from x (ones_between (bits_of v.part.bits.words.now) v.part.place (v.part.place + x))
first-at-least q v ys h from x reached ahead =
    next-is (bits_of v.part.bits.words.now) v.part.place v.part.u v.part.m q ys (bits-bits_of v.part.bits.words.now) (view-read q v ys h) from x reached ahead

pub first-is-here : (q : ℕ) (v : MapView q) (ys : List ℕ) → Holds q v ys → (from x : ℕ) → x < v.part.u → from < v.part.m
    → ones_between (bits_of v.part.bits.words.now) v.part.place (v.part.place + x) ≤ from → IsFirstAtLeast ys from x from
first-is-here q v ys h from x reached within passed =
    here-is (bits_of v.part.bits.words.now) v.part.place v.part.u v.part.m q ys (bits-bits_of v.part.bits.words.now) (view-read q v ys h) from x reached within passed

-- a view whose bits pass the check holds some numbers
pub checked-holds : (q : ℕ) (v : MapView q) → IsWithin q v → ones_between (bits_of v.part.bits.words.now) v.part.place (v.part.place + v.part.u) ≡ v.part.m
    → get_or (bits_of v.part.bits.words.now) (v.part.place + (v.part.u - 1)) 0 ≡ 1 → AreSampled q (bits_of v.part.bits.words.now) v.part.place v.part.u v.part.m
    → (ys : List ℕ) × Holds q v ys
checked-holds q v within all last sampled =
    let found = read-checked (bits_of v.part.bits.words.now) v.part.place v.part.u v.part.m q (bits-bits_of v.part.bits.words.now) v.part.some (let e : 1 ≤ v.part.u = omega (arith, v.part.some, v.part.fit) in e)
    (omega (arith, within, length-bits_of v.part.bits.words.now)) all last sampled in
    (found.0, read-view q v found.0 found.1)

-- and what holds some numbers passes it
pub held-all : (q : ℕ) (v : MapView q) (ys : List ℕ) → Holds q v ys → ones_between (bits_of v.part.bits.words.now) v.part.place (v.part.place + v.part.u) ≡ v.part.m
held-all q v ys h = counted-all (bits_of v.part.bits.words.now) v.part.place v.part.u v.part.m q ys (bits-bits_of v.part.bits.words.now) (view-read q v ys h)

pub held-last : (q : ℕ) (v : MapView q) (ys : List ℕ) → Holds q v ys → get_or (bits_of v.part.bits.words.now) (v.part.place + (v.part.u - 1)) 0 ≡ 1
held-last q v ys h = last-set (bits_of v.part.bits.words.now) v.part.place v.part.u v.part.m q ys (view-read q v ys h)

pub held-samples : DigitsHold → (q : ℕ) (v : MapView q) (ys : List ℕ) → Holds q v ys → AreSampled q (bits_of v.part.bits.words.now) v.part.place v.part.u v.part.m
held-samples hold q v ys h =
    samples-read hold (bits_of v.part.bits.words.now) v.part.place v.part.u v.part.m q ys (bits-bits_of v.part.bits.words.now) v.spacing (omega (arith, v.part.fit, v.part.in_range)) (view-read q v ys h)

-- the first one from a place on, in whatever range, lies in the part, whose last place has one
pub first-within : (q : ℕ) (v : MapView q) (ys : List ℕ) → Holds q v ys → (least end p : ℕ) → least < v.part.u
    → IsFirstOne (bits_of v.part.bits.words.now) (v.part.place + least) end p → IsFirstOne (bits_of v.part.bits.words.now) (v.part.place + least) (v.part.place + v.part.u) p
first-within q v ys h least end p lt first = record {
  at_or_after = first.at_or_after;
  before_end = elim (cases_lt p (v.part.place + v.part.u)) [
    | inl less ↦ less
    | inr more ↦
        let unset = first.first (v.part.place + (v.part.u - 1)) (omega arith) (omega arith) in
        let set = held-last q v ys h in
        absurd (omega arith)
  ];
  one = first.one;
  first = first.first;
}
