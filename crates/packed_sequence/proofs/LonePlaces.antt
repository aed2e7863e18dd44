-- A sequence of one part, where its bits stand.
use Rattle.std.proofs.Common.{◌≡◌, ℕ, ◌+◌, ◌-◌, ◌%◌, ◌^◌, ◌<◌, ◌≤◌, List, [], ◌∷◌, length, take, drop, get_or, slice_index, refl, sym, ap, ◌∙◌, subst, arith}
use Rattle.std.specs.List.{All, slice_range}
use Rattle.std.proofs.Math.Nat.{mod-eq_of_lt}
use Rattle.std.proofs.lemmas.List.{length-append}
use Rattle.std.proofs.lemmas.List.Elements.{All-from_get_or}
use Rattle.bit_words.specs.Bits.{field_bits, field_at}
use Rattle.bit_words.proofs.Value.{EachBit, length-field_bits}
use Rattle.bit_words.proofs.Pieces.{StandAt, stands-first, stands-second, stands-both, stands-at, stands-from, field-stands, stands-field, field-fits, field-below}
use Rattle.collection_model.specs.FormatNumbers.{format_three}
use Rattle.part_cost.specs.Payload.{payload}
use Rattle.part_cost.specs.Span.{AreRelative, past}
use Rattle.part_cost.specs.Stored.{HoldsPart}
use Rattle.part_cost.specs.Partition.{IsPartition}
use Rattle.part_cost.proofs.Parts.{past-at, past-is, relative-past}
use Rattle.elias_fano.proofs.Rising.{below-last, relative-fit}
use Rattle.part_codec.specs.PartBits.{part_bits}
use Rattle.part_codec.specs.Laws.{TakesItsPayload}
use Rattle.packed_sequence.specs.declared.last_field.LastField.{LastField}
use Rattle.packed_sequence.specs.SequenceBits.{lone_part_bits, parted_bits, sequence_bits, IsStored}
use Rattle.packed_sequence.specs.SequencePlaces.{IsSequenceBefore}

-- bits from one place up to another, as a piece that stands there
pub piece-stands : (bits : List ℕ) (at : ℕ) (piece : List ℕ) → slice_range bits at (at + length piece) ≡ piece → StandAt bits at piece
piece-stands bits at piece h = ap (λ n. take n (drop at bits)) (let e : length piece ≡ at + length piece - at = omega arith in e) ∙ h

-- and how many bits one part takes
pub length-lone : (last : LastField) (xs : List ℕ) → length (lone_part_bits last xs) ≡ 1 + last.width + length (part_bits xs (past xs (length xs)))
length-lone last xs =
    let v : ℕ = past xs (length xs) - 1 - last.less in
    omega (arith, length-append (0 ∷ field_bits last.width v) (part_bits xs (past xs (length xs))), length-field_bits last.width v)

-- what stands at a place, as a range
pub stands-piece : (bits : List ℕ) (at : ℕ) (piece : List ℕ) → StandAt bits at piece → slice_range bits at (at + length piece) ≡ piece
stands-piece bits at piece h = ap (λ n. take n (drop at bits)) (let e : at + length piece - at ≡ length piece = omega arith in e) ∙ h

-- the first bit tells whether a sequence stands as one part
pub first-bit : (bits : List ℕ) (at : ℕ) (piece : List ℕ) → StandAt bits at piece → 0 < length piece → slice_index bits at ≡ get_or piece 0 0
first-bit bits at piece stands some = ap (slice_index bits) (let e : at ≡ at + 0 = omega arith in e) ∙ stands-at bits at piece 0 stands some

pub one-when-zero : (last : LastField) (m bound : ℕ) (bits : List ℕ) (at end : ℕ) (xs ends : List ℕ) → 1 ≤ m → slice_index bits at ≡ 0 → IsSequenceBefore last m bound bits at end xs ends → length ends ≡ 1
one-when-zero last m bound bits at end xs [] some flag h = absurd (omega (arith, h.stored.partition, some))
one-when-zero last m bound bits at end xs (e ∷ []) some flag h = omega arith
one-when-zero last m bound bits at end xs (e ∷ next ∷ ends) some flag h =
    absurd
    (let piece : List ℕ = parted_bits at xs (e ∷ next ∷ ends) in
    let one : slice_index bits at ≡ 1 = first-bit bits at piece (piece-stands bits at piece h.stands) (omega arith) in
    omega (arith, one, flag))

pub more-when-one : (last : LastField) (m bound : ℕ) (bits : List ℕ) (at end : ℕ) (xs ends : List ℕ) → 1 ≤ m → slice_index bits at ≡ 1 → IsSequenceBefore last m bound bits at end xs ends → 2 ≤ length ends
more-when-one last m bound bits at end xs [] some flag h = absurd (omega (arith, h.stored.partition, some))
more-when-one last m bound bits at end xs (e ∷ []) some flag h =
    absurd
    (let piece : List ℕ = lone_part_bits last xs in
    let zero : slice_index bits at ≡ 0 = first-bit bits at piece (piece-stands bits at piece h.stands) (omega arith) in
    omega (arith, zero, flag))
more-when-one last m bound bits at end xs (e ∷ next ∷ ends) some flag h = omega arith

-- what is known of one part that stands so
pub record LoneFacts (bits : List ℕ) (at end : ℕ) (last : LastField) (m bound : ℕ) (xs : List ℕ) : Type 0 where
  pub place : at + 1 + last.width ≤ end
  pub end_is : field_at bits (at + 1) last.width + last.less + 1 ≡ past xs (length xs)
  pub below : past xs (length xs) ≤ bound
  pub room : m ≤ past xs (length xs)
  pub behind : at + 1 + last.width + payload (past xs (length xs)) m ≤ end
  pub held : HoldsPart part_bits bits (at + 1 + last.width) (past xs (length xs)) m xs

as-lone : (last : LastField) (at : ℕ) (xs ends : List ℕ) → length ends ≡ 1 → sequence_bits last at xs ends ≡ lone_part_bits last xs
as-lone last at xs [] h = absurd (omega (arith, h))
as-lone last at xs (end ∷ []) h = refl
as-lone last at xs (end ∷ next ∷ ends) h = absurd (omega (arith, h))

pub relative : (last : LastField) (m : ℕ) (xs ends : List ℕ) → 1 ≤ m → IsStored last m xs ends → AreRelative (past xs (length xs)) m xs
relative last m xs ends some h = subst (λ k. AreRelative (past xs (length xs)) k xs) h.count (relative-past xs h.rising (omega (arith, h.count, some)))

pub lone-facts : TakesItsPayload → (last : LastField) (m bound : ℕ) (bits : List ℕ) (at end : ℕ) (xs ends : List ℕ) → 1 ≤ m → bound ≤ format_three.most_sum → slice_index bits at ≡ 0
    → IsSequenceBefore last m bound bits at end xs ends → LoneFacts bits at end last m bound xs
lone-facts payloads last m bound bits at end xs ends some bounded flag h =
    let one = one-when-zero last m bound bits at end xs ends some flag h in
    let is : sequence_bits last at xs ends ≡ lone_part_bits last xs = as-lone last at xs ends one in
    let w : ℕ = last.width in
    let u : ℕ = past xs (length xs) in
    let v : ℕ = u - 1 - last.less in
    let head : List ℕ = 0 ∷ field_bits w v in
    let low : last.less ≤ u - 1 = subst (λ n. last.less ≤ past xs n - 1) (sym h.stored.count) (h.stored.less one) in
    let fits : v < 2 ^ w = subst (λ n. past xs n - 1 - last.less < 2 ^ w) (sym h.stored.count) (h.stored.fits one) in
    let stands : StandAt bits at (lone_part_bits last xs) = subst (StandAt bits at) is (piece-stands bits at (sequence_bits last at xs ends) h.stands) in
    let first : StandAt bits at head = stands-first bits at head (part_bits xs u) stands in
    let field : StandAt bits (at + 1) (field_bits w v) = stands-second bits at (0 ∷ []) (field_bits w v) first in
    let value : field_at bits (at + 1) w ≡ v = field-stands bits (at + 1) w v field ∙ mod-eq_of_lt fits in
    let above = past-at xs (length xs) (omega (arith, h.stored.count, some)) in
    let inside = h.small (length xs - 1) 0 (omega (arith, h.stored.count, some)) in
    let size : length head ≡ w + 1 = omega (arith, length-field_bits w v) in
    let place : at + length head ≡ at + 1 + w = omega (arith, size) in
    let part : StandAt bits (at + 1 + w) (part_bits xs u) = subst (λ p. StandAt bits p (part_bits xs u)) place (stands-second bits at head (part_bits xs u) stands) in
    let r = relative last m xs ends some h.stored in
    let long : length (part_bits xs u) ≡ payload u m = payloads u m xs (omega (arith, above, inside, bounded)) r in
    record {
      place = omega (arith, h.within, ap length is, length-append head (part_bits xs u), size);
      end_is = omega (arith, value, low, above);
      below = omega (arith, above, inside);
      room = relative-fit u m xs r;
      behind = omega (arith, h.within, ap length is, length-append head (part_bits xs u), size, long);
      held = record { values = r; stored = part };
    }

-- values up to the last are below a bound
values-below : (u m bound : ℕ) (ys : List ℕ) → AreRelative u m ys → u ≤ bound → All (λ y. y < bound) ys
values-below u m bound ys r le =
    All-from_get_or (λ y. y < bound) ys 0 (λ k lt. omega (arith, below-last u m ys r k (omega (arith, lt, r.count)), relative-fit u m ys r, r.some, le))

-- what is found of one part
pub record LoneFound (bits : List ℕ) (at end : ℕ) (last : LastField) (m bound : ℕ) (ys : List ℕ) (behind : ℕ) : Type 0 where
  pub sequence : IsSequenceBefore last m bound bits at end ys (m ∷ [])
  pub behind_is : behind ≡ at + length (sequence_bits last at ys (m ∷ []))

pub lone-found : TakesItsPayload → (last : LastField) (m bound : ℕ) (bits : List ℕ) (at end field u behind : ℕ) (ys : List ℕ) → EachBit bits → 1 ≤ m → bound ≤ format_three.most_sum → at < end → end ≤ length bits
    → slice_index bits at ≡ 0 → field ≡ field_at bits (at + 1) last.width → u ≡ field + last.less + 1 → u ≤ bound → behind ≡ at + 1 + last.width + payload u m → behind ≤ end
    → HoldsPart part_bits bits (at + 1 + last.width) u m ys → LoneFound bits at end last m bound ys behind
lone-found payloads last m bound bits at end field u behind ys each some bounded inside fit flag is top le is_behind within held =
    let w : ℕ = last.width in
    let r = held.values in
    let here : past ys (length ys) ≡ u = past-is u ys (subst (λ k. AreRelative u k ys) (sym r.count) r) in
    let here_too : past ys m ≡ u = ap (past ys) (sym r.count) ∙ here in
    let v : ℕ = past ys (length ys) - 1 - last.less in
    let value : v ≡ field = omega (arith, here, top) in
    let head : List ℕ = 0 ∷ field_bits w v in
    let long : length (part_bits ys u) ≡ payload u m = payloads u m ys (omega (arith, le, bounded)) r in
    let zero : StandAt bits at (0 ∷ []) = stands-from bits at (0 ∷ []) (omega (arith, inside, fit)) (λ i lt. (let e : i ≡ 0 = omega (arith, lt) in ap (λ k. get_or bits (at + k) 0) e ∙ ap (λ k. get_or bits k 0) (let f : at + 0 ≡ at = omega arith in f) ∙ flag ∙ ap (λ k. get_or (0 ∷ []) k 0) (sym e))) in
    let same : field_at bits (at + 1) w ≡ v % 2 ^ w = sym (field-fits bits (at + 1) w each) ∙ ap (λ x. x % 2 ^ w) (sym is ∙ sym value) in
    let number : StandAt bits (at + 1) (field_bits w v) = stands-field bits (at + 1) w v each (omega (arith, within, fit, is_behind)) same in
    let first : StandAt bits at head = stands-both bits at (0 ∷ []) (field_bits w v) zero number in
    let size : length head ≡ w + 1 = omega (arith, length-field_bits w v) in
    let place : at + 1 + w ≡ at + length head = omega (arith, size) in
    let part : StandAt bits (at + length head) (part_bits ys (past ys (length ys))) =
    subst (λ p. StandAt bits p (part_bits ys (past ys (length ys)))) place (subst (λ x. StandAt bits (at + 1 + w) (part_bits ys x)) (sym here) held.stored) in
    let whole : StandAt bits at (lone_part_bits last ys) = stands-both bits at head (part_bits ys (past ys (length ys))) first part in
    let count : length (lone_part_bits last ys) ≡ 1 + w + payload u m = omega (arith, length-append head (part_bits ys (past ys (length ys))), size, ap (λ x. length (part_bits ys x)) here, long) in
    let below : field < 2 ^ w = subst (λ x. x < 2 ^ w) (sym is) (field-below bits (at + 1) w each) in
    record {
      sequence = record {
        stored = record {
          rising = r.rising;
          below = values-below u m format_three.most_sum ys r (omega (arith, le, bounded));
          count = r.count;
          partition = (omega (arith, some), refl);
          less = λ one. omega (arith, here_too, top);
          fits = λ one. omega (arith, here_too, top, below);
        };
        small = values-below u m bound ys r le;
        within = omega (arith, count, is_behind, within);
        stands = stands-piece bits at (lone_part_bits last ys) whole;
      };
      behind_is = omega (arith, count, is_behind);
    }

-- how long one part is that stands so, and its one end
pub lone-size : TakesItsPayload → (last : LastField) (m bound : ℕ) (bits : List ℕ) (at end : ℕ) (xs ends : List ℕ) → 1 ≤ m → bound ≤ format_three.most_sum → slice_index bits at ≡ 0
    → IsSequenceBefore last m bound bits at end xs ends → at + 1 + last.width + payload (past xs (length xs)) m ≡ at + length (sequence_bits last at xs ends)
lone-size payloads last m bound bits at end xs ends some bounded flag h =
    let is : sequence_bits last at xs ends ≡ lone_part_bits last xs = as-lone last at xs ends (one-when-zero last m bound bits at end xs ends some flag h) in
    let w : ℕ = last.width in
    let u : ℕ = past xs (length xs) in
    let v : ℕ = u - 1 - last.less in
    let above = past-at xs (length xs) (omega (arith, h.stored.count, some)) in
    let inside = h.small (length xs - 1) 0 (omega (arith, h.stored.count, some)) in
    let long : length (part_bits xs u) ≡ payload u m = payloads u m xs (omega (arith, above, inside, bounded)) (relative last m xs ends some h.stored) in
    omega (arith, ap length is, length-append (0 ∷ field_bits w v) (part_bits xs u), length-field_bits w v, long)

pub one-end : (m : ℕ) (ends : List ℕ) → IsPartition m ends → length ends ≡ 1 → ends ≡ m ∷ []
one-end m [] h one = absurd (omega (arith, one))
one-end m (end ∷ []) h one = ap (λ e. e ∷ []) h.1
one-end m (end ∷ next ∷ ends) h one = absurd (omega (arith, one))

-- the bits of a sequence are not none
pub some-bits : (last : LastField) (m bound : ℕ) (bits : List ℕ) (at end : ℕ) (xs ends : List ℕ) → 1 ≤ m → IsSequenceBefore last m bound bits at end xs ends → at < end
some-bits last m bound bits at end xs [] some h = absurd (omega (arith, h.stored.partition, some))
some-bits last m bound bits at end xs (e ∷ []) some h = omega (arith, h.within)
some-bits last m bound bits at end xs (e ∷ next ∷ ends) some h = omega (arith, h.within)
