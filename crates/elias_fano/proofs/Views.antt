use Rattle.std.proofs.Common.{◌≡◌, ℕ, ◌+◌, ◌-◌, ◌*◌, ◌/◌, ◌^◌, ◌<◌, ◌≤◌, List, ◌++◌, length, get_or, sym, ap, ◌∙◌, subst, arith}
use Rattle.std.specs.List.{range_with_len}
use Rattle.std.proofs.lemmas.List.Elements.{All-append}
use Rattle.bit_words.specs.Bits.{AreBits, bits_of}
use Rattle.bit_words.proofs.Value.{length-bits_of}
use Rattle.bit_words.proofs.AllBits.{bits-test, bits-fields}
use Rattle.part_cost.specs.Payload.{digits, widest_low, ef_spacing, ef_payload, low_width_of}
use Rattle.part_cost.specs.Span.{AreRelative}
use Rattle.part_cost.specs.Laws.{LowWidthIsBest, DigitsHold}
use Rattle.elias_fano.specs.declared.EfView.{EfView}
use Rattle.elias_fano.specs.EfBits.{high_place, high_bits, low_fields, ef_samples, ef_bits}
use Rattle.elias_fano.specs.EfPlaces.{ef_length}
use Rattle.elias_fano.specs.EfView.{Holds, IsWithin}
use Rattle.elias_fano.specs.Laws.{PlacesFit}
use Rattle.elias_fano.proofs.HighBits.{has_one}
use Rattle.elias_fano.proofs.Rising.{place-within, relative-fit}
use Rattle.elias_fano.proofs.Reading.{IsRead, low_parts, sampled_places, low_fields-are, samples-are, pieces, part-is, length-part}
use Rattle.elias_fano.proofs.OneList.{view-read, read-view}

-- all pieces are bits
bits-high : (l u : ℕ) (ys : List ℕ) → AreBits (high_bits l u ys)
bits-high l u ys = bits-test (λ q. has_one l 0 q ys) (range_with_len 0 (length ys + (u - 1) / 2 ^ l))

bits-pieces : (q l u : ℕ) (ys : List ℕ) → AreBits (pieces q l ys u)
bits-pieces q l u ys =
    All-append (λ b. b < 2) (high_bits l u ys ++ low_fields l ys) (ef_samples q l ys)
    (All-append (λ b. b < 2) (high_bits l u ys) (low_fields l ys) (bits-high l u ys)
    (subst (λ xs. AreBits xs) (low_fields-are l ys) (bits-fields l (low_parts l ys))))
    (subst (λ xs. AreBits xs) (samples-are q l ys) (bits-fields (digits (3 * length ys)) (sampled_places q l ys)))

pub part-is-bits : (q u : ℕ) (ys : List ℕ) → AreBits (ef_bits q ys u)
part-is-bits q u ys = subst (λ xs. AreBits xs) (sym (part-is q u ys)) (bits-pieces q (low_width_of u (length ys)) u ys)

pub takes-its-payload : LowWidthIsBest → (u m : ℕ) (ys : List ℕ) → u ≤ 2 ^ widest_low → AreRelative u m ys → length (ef_bits ef_spacing ys u) ≡ ef_payload u m
unfolding ef_length
takes-its-payload best u m ys fit h =
    length-part ef_spacing u ys ∙ ap (λ n. ef_length ef_spacing u n) h.count
    ∙ sym (best u m (let some : 1 ≤ u = omega (arith, relative-fit u m ys h, h.some) in some) fit).takes

pub places-fit : LowWidthIsBest → DigitsHold → PlacesFit
places-fit best hold u m ys fit h k lt =
    let few = (best u m (let some : 1 ≤ u = omega (arith, relative-fit u m ys h, h.some) in some) fit).few in
    let below = hold (3 * m) (omega (arith, relative-fit u m ys h)) in
    omega (arith, place-within u m (low_width_of u m) ys h k lt)

-- at its low width
pub view-read-at : (q : ℕ) (v : EfView q) (ys : List ℕ) → Holds q v ys → IsRead (bits_of v.part.bits.words.now) v.part.place v.part.u v.part.m v.low q ys
view-read-at q v ys h = subst (λ n. IsRead (bits_of v.part.bits.words.now) v.part.place v.part.u v.part.m n q ys) (sym v.low_is) (view-read q v ys h)

pub read-view-at : (q : ℕ) (v : EfView q) (ys : List ℕ) → IsRead (bits_of v.part.bits.words.now) v.part.place v.part.u v.part.m v.low q ys → Holds q v ys
read-view-at q v ys h = read-view q v ys (subst (λ n. IsRead (bits_of v.part.bits.words.now) v.part.place v.part.u v.part.m n q ys) v.low_is h)

-- what is held lies within the words
pub within-held : (q : ℕ) (v : EfView q) (ys : List ℕ) → Holds q v ys → IsWithin q v
within-held q v ys h = omega (arith, (view-read-at q v ys h).room, length-bits_of v.part.bits.words.now)

pub places-fit-at : PlacesFit → (q : ℕ) (v : EfView q) (ys : List ℕ) → Holds q v ys → (k : ℕ) → k < v.part.m → high_place v.low k (get_or ys k 0) < 2 ^ digits (3 * v.part.m)
places-fit-at fit q v ys h k lt =
    subst (λ n. high_place n k (get_or ys k 0) < 2 ^ digits (3 * v.part.m)) (sym v.low_is) (fit v.part.u v.part.m ys v.part.in_range h.values k lt)
