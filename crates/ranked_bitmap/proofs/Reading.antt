-- What the bits of a part say, place by place, and how many they are.
use Rattle.std.proofs.Common.{◌≡◌, ℕ, zero, suc, ◌+◌, ◌-◌, ◌*◌, ◌/◌, ◌%◌, ◌^◌, ◌<◌, ◌≤◌, List, ◌++◌, length, map, take, drop, get_or, sum, refl, sym, ap, ◌∙◌, subst, arith, inl, inr, add-one}
use Rattle.std.specs.List.{range_with_len, flat_map}
use Rattle.std.proofs.lemmas.Bool.{cases_lt}
use Rattle.std.proofs.lemmas.List.{length-append, length-take, length-drop, take-take, get_or-take, get_or-drop, drop-take, drop-drop}
use Rattle.std.proofs.lemmas.List.Sums.{sum_by-take-drop}
use Rattle.std.proofs.lemmas.List.Folds.{flat_map-map}
use Rattle.std.proofs.lemmas.List.FromFn.{length-map-range_with_len, get_or-map-range_with_len}
use Rattle.std.proofs.Math.Nat.{mod-eq_of_lt}
use Rattle.bit_words.specs.Bits.{field_bits, field_at, ones_between, IsFirstOne, HasNoOne}
use Rattle.bit_words.proofs.Value.{EachBit, bits-take, bits-drop}
use Rattle.bit_words.proofs.Ranges.{bit-below, field-one, ones_between-more}
use Rattle.bit_words.proofs.Pieces.{StandAt, stands-first, stands-second, stands-both, stands-within, field-fits, length-fields, fields-stand, stands-fields}
use Rattle.part_cost.proofs.Numbers.{rises, sampled-within}
use Rattle.part_cost.specs.Payload.{digits, bitmap_spacing, bitmap_payload}
use Rattle.part_cost.specs.Span.{AreRelative}
use Rattle.part_cost.specs.Stored.{HoldsPart, IsFirstAtLeast}
use Rattle.part_cost.specs.Laws.{DigitsHold}
use Rattle.ranked_bitmap.specs.MapBits.{marks, map_samples, map_bits}
use Rattle.ranked_bitmap.specs.MapPlaces.{map_length, sample_at, AreSampled}
use Rattle.ranked_bitmap.proofs.Ones.{AreOnes, AreBelow, sum-suc, one_count, below-number, below-next, set-within, count-below, count-all, places_of, all-ones, one_list_of}
use Rattle.ranked_bitmap.proofs.Marks.{length-marks, marks-are-ones, ones-are-marks}

-- the numbers in the samples
abbrev pub counts : ℕ → List ℕ → ℕ → List ℕ
counts q ys u = map (λ j. sum (take (q * j) (marks ys u))) (range_with_len 1 ((u - 1) / q))

pub samples-are : (q : ℕ) (ys : List ℕ) (u : ℕ) → flat_map (field_bits (digits (length ys))) (counts q ys u) ≡ map_samples q ys u
samples-are q ys u = flat_map-map (field_bits (digits (length ys))) (λ j. sum (take (q * j) (marks ys u))) (range_with_len 1 ((u - 1) / q))

pub length-counts : (q : ℕ) (ys : List ℕ) (u : ℕ) → length (counts q ys u) ≡ (u - 1) / q
length-counts q ys u = length-map-range_with_len (λ j. sum (take (q * j) (marks ys u))) 1 ((u - 1) / q)

pub count-at : (q : ℕ) (ys : List ℕ) (u j : ℕ) → j < (u - 1) / q → get_or (counts q ys u) j 0 ≡ sum (take (q * (j + 1)) (marks ys u))
count-at q ys u j lt = get_or-map-range_with_len (λ j. sum (take (q * j) (marks ys u))) 1 ((u - 1) / q) j (j + 1) 0 lt (omega arith)

pub length-samples : (q : ℕ) (ys : List ℕ) (u : ℕ) → length (map_samples q ys u) ≡ digits (length ys) * ((u - 1) / q)
length-samples q ys u =
    sym (ap length (samples-are q ys u))
    ∙ length-fields (digits (length ys)) (counts q ys u)
    ∙ ap (λ n. digits (length ys) * n) (length-counts q ys u)

pub part-is : (q u : ℕ) (ys : List ℕ) → map_bits q ys u ≡ marks ys u ++ map_samples q ys u
unfolding map_bits
part-is q u ys = refl

same_sum : (u w n : ℕ) → u + w * n ≡ u + n * w
same_sum u w n = omega arith

pub length-pieces : (q u : ℕ) (ys : List ℕ) → length (marks ys u ++ map_samples q ys u) ≡ map_length q u (length ys)
length-pieces q u ys =
    length-append (marks ys u) (map_samples q ys u)
    ∙ ap (λ n. n + length (map_samples q ys u)) (length-marks ys u)
    ∙ ap (λ n. u + n) (length-samples q ys u)
    ∙ same_sum u (digits (length ys)) ((u - 1) / q)

pub length-part : (q u : ℕ) (ys : List ℕ) → length (map_bits q ys u) ≡ map_length q u (length ys)
length-part q u ys = ap length (part-is q u ys) ∙ length-pieces q u ys

-- at the spacing of the format, as many as the part costs
pub takes-its-payload : (u m : ℕ) (ys : List ℕ) → AreRelative u m ys → length (map_bits bitmap_spacing ys u) ≡ bitmap_payload u m
unfolding bitmap_payload
takes-its-payload u m ys h = length-part bitmap_spacing u ys ∙ ap (λ n. map_length bitmap_spacing u n) h.count

-- the bits of the places
abbrev pub window : List ℕ → ℕ → ℕ → List ℕ
window bits place u = take u (drop place bits)

pub length-window : (bits : List ℕ) (place u : ℕ) → place + u ≤ length bits → length (window bits place u) ≡ u
length-window bits place u fit = omega (arith, length-take u (drop place bits), length-drop place bits)

pub bits-window : (bits : List ℕ) (place u : ℕ) → EachBit bits → EachBit (window bits place u)
bits-window bits place u each = bits-take u (drop place bits) (bits-drop place bits each)

pub window-at : (bits : List ℕ) (place u i : ℕ) → i < u → get_or (window bits place u) i 0 ≡ get_or bits (place + i) 0
window-at bits place u i lt = get_or-take u (drop place bits) i 0 lt ∙ get_or-drop place bits i 0

pub ones-in-window : (bits : List ℕ) (place u n : ℕ) → n ≤ u → ones_between bits place (place + n) ≡ sum (take n (window bits place u))
ones-in-window bits place u n fit =
    ap (λ k. sum (take k (drop place bits))) (let e : place + n - place ≡ n = omega arith in e)
    ∙ ap sum (sym (take-take n u (drop place bits) fit))

-- What a part says: which places hold a one, and the samples.
pub record IsRead (bits : List ℕ) (place u m q : ℕ) (ys : List ℕ) : Type 0 where
  pub values : AreRelative u m ys
  pub room : place + map_length q u m ≤ length bits
  pub ones : AreOnes (window bits place u) ys
  pub sample : (j : ℕ) → j < (u - 1) / q → sample_at bits place u m j ≡ ones_between bits place (place + q * (j + 1)) % 2 ^ digits m

pub below-universe : (u m : ℕ) (ys : List ℕ) → AreRelative u m ys → (k : ℕ) → k < m → get_or ys k 0 < u
below-universe u m ys h k lt =
    let count : length ys ≡ m = h.count in
    let last : get_or ys (m - 1) 0 + 1 ≡ u = h.last in
    omega (arith, rises ys h.rising k (m - 1) (omega arith) (omega arith))

-- bits that are a part's are read so
pub read-pieces : (bits : List ℕ) (place u q : ℕ) (ys : List ℕ) → place ≤ length bits → 1 ≤ q → AreRelative u (length ys) ys
    → StandAt bits place (marks ys u ++ map_samples q ys u) → IsRead bits place u (length ys) q ys
read-pieces bits place u q ys placed some h stands =
    let width : ℕ = digits (length ys) in
    let any : 1 ≤ u = omega (arith, h.last) in
    let prefix : StandAt bits place (marks ys u) = stands-first bits place (marks ys u) (map_samples q ys u) stands in
    let is : window bits place u ≡ marks ys u = ap (λ n. take n (drop place bits)) (sym (length-marks ys u)) ∙ prefix in
    let rest : StandAt bits (place + length (marks ys u)) (flat_map (field_bits width) (counts q ys u)) =
    subst (λ xs. StandAt bits (place + length (marks ys u)) xs) (sym (samples-are q ys u)) (stands-second bits place (marks ys u) (map_samples q ys u) stands) in
    record {
      values = h;
      room = omega (arith, length-pieces q u ys, stands-within bits place (marks ys u ++ map_samples q ys u) stands placed);
      ones = subst (λ xs. AreOnes xs ys) (sym is) (marks-are-ones ys u h.rising (λ k lt. below-universe u (length ys) ys h k lt));
      sample = λ j lt.
          ap (λ p. field_at bits (p + width * j) width) (let e : place + u ≡ place + length (marks ys u) = omega (arith, length-marks ys u) in e)
          ∙ fields-stand bits (place + length (marks ys u)) width (counts q ys u) rest j (omega (arith, length-counts q ys u))
          ∙ ap (λ v. v % 2 ^ width)
          (count-at q ys u j lt
          ∙ ap (λ xs. sum (take (q * (j + 1)) xs)) (sym is)
          ∙ sym (ones-in-window bits place u (q * (j + 1)) (omega (arith, sampled-within q u j some any lt))));
    }

-- and bits that are read so are the part's
pub pieces-read : (bits : List ℕ) (place u q : ℕ) (ys : List ℕ) → EachBit bits → 1 ≤ q → IsRead bits place u (length ys) q ys
    → StandAt bits place (marks ys u ++ map_samples q ys u)
pieces-read bits place u q ys each some h =
    let width : ℕ = digits (length ys) in
    let any : 1 ≤ u = omega (arith, h.values.last) in
    let is : window bits place u ≡ marks ys u =
    ones-are-marks (window bits place u) ys u (bits-window bits place u each) h.ones (length-window bits place u (omega arith)) in
    let rest : StandAt bits (place + length (marks ys u)) (flat_map (field_bits width) (counts q ys u)) =
    stands-fields bits (place + length (marks ys u)) width (counts q ys u) each (omega (arith, length-marks ys u, ap (λ n. width * n) (length-counts q ys u)))
    (λ j lt.
    let within : j < (u - 1) / q = omega (arith, length-counts q ys u) in
    ap (λ p. field_at bits (p + width * j) width) (let e : place + length (marks ys u) ≡ place + u = omega (arith, length-marks ys u) in e)
    ∙ h.sample j within
    ∙ ap (λ v. v % 2 ^ width)
    (ones-in-window bits place u (q * (j + 1)) (omega (arith, sampled-within q u j some any within))
    ∙ ap (λ xs. sum (take (q * (j + 1)) xs)) is
    ∙ sym (count-at q ys u j within))) in
    stands-both bits place (marks ys u) (map_samples q ys u)
    (ap (λ n. take n (drop place bits)) (length-marks ys u) ∙ is)
    (subst (λ xs. StandAt bits (place + length (marks ys u)) xs) (samples-are q ys u) rest)

-- both for what a view holds
pub read-held : (bits : List ℕ) (place u m q : ℕ) (ys : List ℕ) → place ≤ length bits → 1 ≤ q → HoldsPart (map_bits q) bits place u m ys
    → IsRead bits place u m q ys
read-held bits place u m q ys placed some h =
    subst (λ n. IsRead bits place u n q ys) h.values.count
    (read-pieces bits place u q ys placed some (subst (λ n. AreRelative u n ys) (sym h.values.count) h.values)
    (subst (λ xs. StandAt bits place xs) (part-is q u ys) h.stored))

pub held-read : (bits : List ℕ) (place u m q : ℕ) (ys : List ℕ) → EachBit bits → 1 ≤ q → IsRead bits place u m q ys → HoldsPart (map_bits q) bits place u m ys
held-read bits place u m q ys each some h = record {
  values = h.values;
  stored = subst (λ xs. StandAt bits place xs) (sym (part-is q u ys))
      (pieces-read bits place u q ys each some (subst (λ n. IsRead bits place u n q ys) (sym h.values.count) h));
}

-- how many numbers lie below a place, and in all
pub counted : (bits : List ℕ) (place u m q : ℕ) (ys : List ℕ) → EachBit bits → IsRead bits place u m q ys
    → (n : ℕ) → n ≤ u → AreBelow ys n (ones_between bits place (place + n))
counted bits place u m q ys each h n fit =
    subst (λ r. AreBelow ys n r) (sym (ones-in-window bits place u n fit)) (count-below (window bits place u) ys n (bits-window bits place u each) h.ones)

ones-in-all : (bits : List ℕ) (place u : ℕ) → place + u ≤ length bits
    → ones_between bits place (place + u) ≡ sum (take (length (window bits place u)) (window bits place u))
ones-in-all bits place u fit =
    ones-in-window bits place u u (omega arith) ∙ ap (λ n. sum (take n (window bits place u))) (sym (length-window bits place u fit))

pub counted-all : (bits : List ℕ) (place u m q : ℕ) (ys : List ℕ) → EachBit bits → IsRead bits place u m q ys → ones_between bits place (place + u) ≡ m
counted-all bits place u m q ys each h =
    ones-in-all bits place u (omega arith)
    ∙ count-all (window bits place u) ys (bits-window bits place u each) h.ones ∙ h.values.count

-- the last place holds a one
pub last-set : (bits : List ℕ) (place u m q : ℕ) (ys : List ℕ) → IsRead bits place u m q ys → get_or bits (place + (u - 1)) 0 ≡ 1
last-set bits place u m q ys h =
    let some : 0 < m = h.values.some in
    sym (window-at bits place u (u - 1) (omega arith))
    ∙ ap (λ i. get_or (window bits place u) i 0) (let e : u - 1 ≡ get_or ys (m - 1) 0 = omega arith in e)
    ∙ h.ones.one (m - 1) (omega arith)

-- a sample has room for its number
pub samples-read : DigitsHold → (bits : List ℕ) (place u m q : ℕ) (ys : List ℕ) → EachBit bits → 1 ≤ q → m < 2 ^ 64 → IsRead bits place u m q ys
    → AreSampled q bits place u m
samples-read hold bits place u m q ys each some small h j lt =
    let any : 1 ≤ u = omega (arith, h.values.last) in
    let within = sampled-within q u j some any lt in
    let below = counted bits place u m q ys each h (q * (j + 1)) (omega arith) in
    let fits : ones_between bits place (place + q * (j + 1)) < 2 ^ digits m = omega (arith, below.fit, h.values.count, hold m small) in
    h.sample j lt ∙ mod-eq_of_lt fits

-- bits that pass the check are those of the places of their ones
pub read-checked : (bits : List ℕ) (place u m q : ℕ) → EachBit bits → 1 ≤ m → 1 ≤ u → place + map_length q u m ≤ length bits
    → ones_between bits place (place + u) ≡ m → get_or bits (place + (u - 1)) 0 ≡ 1 → AreSampled q bits place u m
    → (ys : List ℕ) × IsRead bits place u m q ys
read-checked bits place u m q each some any room all last sampled =
    let w : List ℕ = window bits place u in
    let ys : List ℕ = places_of w (length w) in
    let h : AreOnes w ys = all-ones w in
    let long : length w ≡ u = length-window bits place u (omega arith) in
    let count : length ys ≡ m = sym (count-all w ys (bits-window bits place u each) h) ∙ sym (ones-in-all bits place u (omega arith)) ∙ all in
    let found = h.only (u - 1) (window-at bits place u (u - 1) (omega arith) ∙ last) in
    let below : get_or ys (m - 1) 0 < u = omega (arith, set-within w (get_or ys (m - 1) 0) (h.one (m - 1) (omega arith))) in
    let far = rises ys h.rising found.0 (m - 1) (omega (arith, found.1)) (omega arith) in
    let is_last : get_or ys (m - 1) 0 + 1 ≡ u = omega (arith, found.2) in (
      ys,
      record {
        values = record { rising = h.rising; count = count; some = omega arith; last = is_last };
        room = room;
        ones = h;
        sample = λ j lt.
            sym (field-fits bits (place + u + digits m * j) (digits m) each) ∙ ap (λ n. n % 2 ^ digits m) (sampled j lt);
      },
    )

pub one_list-read : (bits : List ℕ) (place u m q : ℕ) (xs ys : List ℕ) → EachBit bits → IsRead bits place u m q xs → IsRead bits place u m q ys → xs ≡ ys
one_list-read bits place u m q xs ys each h g = one_list_of (window bits place u) xs ys (bits-window bits place u each) h.ones g.ones

-- the first one from a place on is the number that comes after those below it
pub first-number : (bits : List ℕ) (place u m q : ℕ) (ys : List ℕ) → EachBit bits → IsRead bits place u m q ys → (least p : ℕ)
    → IsFirstOne bits (place + least) (place + u) p → least ≤ u → p - place ≡ get_or ys (ones_between bits place (place + least)) 0
first-number bits place u m q ys each h least p first fit =
    let r : ℕ = ones_between bits place (place + least) in
    let below : AreBelow ys least r = counted bits place u m q ys each h least fit in
    let after = first.at_or_after in
    let before = first.before_end in
    let within : p - place < u = omega arith in
    let set : get_or (window bits place u) (p - place) 0 ≡ 1 =
    window-at bits place u (p - place) within ∙ ap (λ n. get_or bits n 0) (let e : place + (p - place) ≡ p = omega arith in e) ∙ first.one in
    let found = h.ones.only (p - place) set in
    let same : found.0 ≡ r = elim (cases_lt found.0 r) [
      | inl less ↦ (let under = below.below found.0 less in omega (arith, found.2))
      | inr more ↦ elim (cases_lt r found.0) [
        | inl passed ↦
            let some : r < length ys = omega (arith, found.1) in
            let over = below.above r (omega arith) some in
            let rise = rises ys h.ones.rising r found.0 (omega arith) found.1 in
            let zero_here = first.first (place + get_or ys r 0) (omega arith) (omega (arith, found.2)) in
            let one_here = h.ones.one r some in
            let read = window-at bits place u (get_or ys r 0) (omega (arith, found.2)) in
            absurd (omega arith)
        | inr not_passed ↦ omega arith
      ]
    ] in
    sym found.2 ∙ ap (λ n. get_or ys n 0) same

-- and there is one, up to the last
pub some-number : (bits : List ℕ) (place u m q : ℕ) (ys : List ℕ) → IsRead bits place u m q ys → (least : ℕ) → least < u
    → HasNoOne bits (place + least) (place + u) → ⊥
some-number bits place u m q ys h least lt none =
    let unset = none (place + (u - 1)) (omega arith) (omega arith) in
    let set = last-set bits place u m q ys h in
    omega arith

-- the ones up to and with a number
pub count-next : (bits : List ℕ) (place u m q : ℕ) (ys : List ℕ) → EachBit bits → IsRead bits place u m q ys → (k : ℕ) → k < m
    → ones_between bits place (place + (get_or ys k 0 + 1)) ≡ k + 1
count-next bits place u m q ys each h k lt =
    let low = below-universe u m ys h.values k lt in
    one_count ys (get_or ys k 0 + 1) (ones_between bits place (place + (get_or ys k 0 + 1))) (k + 1)
    (counted bits place u m q ys each h (get_or ys k 0 + 1) (omega arith))
    (below-next ys h.values.rising k (omega (arith, h.values.count)))

-- the ones before a number
pub count-number : (bits : List ℕ) (place u m q : ℕ) (ys : List ℕ) → EachBit bits → IsRead bits place u m q ys → (k : ℕ) → k < m
    → ones_between bits place (place + get_or ys k 0) ≡ k
count-number bits place u m q ys each h k lt =
    let low = below-universe u m ys h.values k lt in
    one_count ys (get_or ys k 0) (ones_between bits place (place + get_or ys k 0)) k
    (counted bits place u m q ys each h (get_or ys k 0) (omega arith))
    (below-number ys h.values.rising k (omega (arith, h.values.count)))

-- so many numbers lie below x, and the next is the first that is at least x
pub next-is : (bits : List ℕ) (place u m q : ℕ) (ys : List ℕ) → EachBit bits → IsRead bits place u m q ys → (from x : ℕ) → x < u
    → from ≤ ones_between bits place (place + x) → IsFirstAtLeast ys from x (ones_between bits place (place + x))
next-is bits place u m q ys each h from x reached ahead =
    let r : ℕ = ones_between bits place (place + x) in
    let below : AreBelow ys x r = counted bits place u m q ys each h x (omega arith) in
    let some : r < length ys = elim (cases_lt r (length ys)) [
      | inl less ↦ less
      | inr more ↦ (let under = below.below (m - 1) (omega arith) in omega arith)
    ] in
    record {
      at_or_after = ahead;
      within = some;
      at_least = below.above r (omega arith) some;
      first = λ k after less. below.below k less;
    }

-- where no more lie below x than come before a place, its number is at least x
pub here-is : (bits : List ℕ) (place u m q : ℕ) (ys : List ℕ) → EachBit bits → IsRead bits place u m q ys → (from x : ℕ) → x < u
    → from < m → ones_between bits place (place + x) ≤ from → IsFirstAtLeast ys from x from
here-is bits place u m q ys each h from x reached within passed =
    let below : AreBelow ys x (ones_between bits place (place + x)) = counted bits place u m q ys each h x (omega arith) in
    record {
      at_or_after = omega arith;
      within = omega arith;
      at_least = below.above from passed (omega arith);
      first = λ k after less. absurd (omega arith);
    }

-- the ones of two ranges, one behind the other
ones-add : (xs : List ℕ) (n k : ℕ) → sum (take (n + k) xs) ≡ sum (take n xs) + sum (take k (drop n xs))
ones-add xs n k =
    sym (sum_by-take-drop (λ x. x) (take (n + k) xs) n)
    ∙ ap (λ s. s + sum (drop n (take (n + k) xs))) (ap sum (take-take n (n + k) xs (omega arith)))
    ∙ ap (λ ys. sum (take n xs) + sum ys) (drop-take n k xs)

pub ones-more : (bits : List ℕ) (place n k : ℕ) → ones_between bits place (place + (n + k)) ≡ ones_between bits place (place + n) + ones_between bits (place + n) (place + n + k)
ones-more bits place n k =
    ap (λ i. sum (take i (drop place bits))) (let e : place + (n + k) - place ≡ n + k = omega arith in e)
    ∙ ones-add (drop place bits) n k
    ∙ ap (λ i. sum (take i (drop place bits)) + sum (take k (drop n (drop place bits)))) (let e : n ≡ place + n - place = omega arith in e)
    ∙ ap (λ ys. ones_between bits place (place + n) + sum (take k ys)) (drop-drop n place bits)
    ∙ ap (λ i. ones_between bits place (place + n) + sum (take i (drop (place + n) bits))) (let e : k ≡ place + n + k - (place + n) = omega arith in e)

pub few-ones : (bits : List ℕ) → EachBit bits → (n : ℕ) → sum (take n bits) ≤ n
few-ones bits each zero = omega arith
few-ones bits each (suc n) =
    subst (λ i. sum (take i bits) ≤ i) (add-one n) (let sum_is = sum-suc n bits in let bit = bit-below bits n each in let before = few-ones bits each n in omega arith)

pub ones-few : (bits : List ℕ) (place n : ℕ) → EachBit bits → ones_between bits place (place + n) ≤ n
ones-few bits place n each =
    subst (λ i. sum (take i (drop place bits)) ≤ n) (let e : n ≡ place + n - place = omega arith in e) (few-ones (drop place bits) (bits-drop place bits each) n)

-- the ones before a place: those before another, and those between
pub ones-on : (bits : List ℕ) (place at to count more : ℕ) → at ≤ to → count ≡ ones_between bits place (place + at)
    → more ≡ ones_between bits (place + at) (place + to) → count + more ≡ ones_between bits place (place + to)
ones-on bits place at to count more ordered is between =
    let there : place + at + (to - at) ≡ place + to = omega arith in
    ap (λ n. n + more) is
    ∙ ap (λ n. ones_between bits place (place + at) + n) (between ∙ ap (λ n. ones_between bits (place + at) n) (sym there))
    ∙ sym (ones-more bits place at (to - at))
    ∙ ap (λ n. ones_between bits place (place + n)) (let e : at + (to - at) ≡ to = omega arith in e)

-- the ones before the next sample: those before the last one, and those of the run between
pub count-more : (bits : List ℕ) (place q j count more : ℕ) → count ≡ ones_between bits place (place + q * j)
    → more ≡ ones_between bits (place + q * j) (place + q * j + q) → count + more ≡ ones_between bits place (place + q * (j + 1))
count-more bits place q j count more is run =
    ap (λ n. n + more) is ∙ ap (λ n. ones_between bits place (place + q * j) + n) run
    ∙ sym (ones-more bits place (q * j) q)
    ∙ ap (λ n. ones_between bits place (place + n)) (let e : q * j + q ≡ q * (j + 1) = omega arith in e)

-- a range that has no one counts none
absent-by : (bits : List ℕ) (from n : ℕ) → from + n ≤ length bits → HasNoOne bits from (from + n) → ones_between bits from (from + n) ≡ 0
absent-by bits from zero fit none = ap (λ n. sum (take n (drop from bits))) (let e : from + 0 - from ≡ 0 = omega arith in e)
absent-by bits from (suc n) fit none =
    ap (ones_between bits from) (let e : from + suc n ≡ from + n + 1 = omega arith in e)
    ∙ ones_between-more bits from (from + n) (omega arith) (omega arith)
    ∙ omega (arith, absent-by bits from n (omega arith) (λ q h g. none q h (omega arith)), field-one bits (from + n), none (from + n) (omega arith) (omega arith))

pub ones-absent : (bits : List ℕ) (from to : ℕ) → from ≤ to → to ≤ length bits → HasNoOne bits from to → ones_between bits from to ≡ 0
ones-absent bits from to h fit none =
    let end : from + (to - from) ≡ to = omega arith in
    ap (ones_between bits from) (sym end) ∙ absent-by bits from (to - from) (omega arith) (λ q a b. none q a (omega arith))
