-- A sequence of several parts, where its bits stand.
use Rattle.std.proofs.Common.{◌≡◌, ℕ, ◌+◌, ◌-◌, ◌*◌, ◌/◌, ◌%◌, ◌^◌, ◌<◌, ◌≤◌, List, [], ◌∷◌, ◌++◌, length, take, drop, get_or, slice_index, replicate, refl, sym, ap, ◌∙◌, subst, arith, append-nil}
use Rattle.std.specs.List.{All, slice_range}
use Rattle.std.proofs.Math.Nat.{mod-eq_of_lt}
use Rattle.std.proofs.lemmas.List.{length-append, length-replicate, length-take, length-take-le, length-drop, get_or-replicate, take-take, take-append-drop, take_at, drop_at}
use Rattle.std.proofs.lemmas.List.Elements.{All-drop}
use Rattle.bit_words.specs.Bits.{field_bits, field_at, bits_of, padding, HasNoOne}
use Rattle.bit_words.specs.Laws.{BitsOfAppended, WordsOfBits}
use Rattle.bit_words.proofs.Value.{EachBit, length-field_bits, length-bits_of}
use Rattle.bit_words.proofs.Pieces.{StandAt, stands-first, stands-second, stands-both, stands-at, stands-from, field-stands, stands-field, field-fits, field-below}
use Rattle.collection_model.specs.FormatNumbers.{format_three}
use Rattle.part_cost.specs.Payload.{digits}
use Rattle.part_cost.specs.Partition.{IsPartition}
use Rattle.part_cost.proofs.DigitCounts.{digits-hold}
use Rattle.part_cost.proofs.Partitions.{few-parts}
use Rattle.two_level.specs.SequenceWords.{sequence_words, BeginsSequence}
use Rattle.packed_sequence.specs.declared.last_field.LastField.{LastField}
use Rattle.packed_sequence.specs.SequenceBits.{parted_bits, sequence_bits}
use Rattle.packed_sequence.specs.SequencePlaces.{IsSequenceBefore, IsPartedHead}
use Rattle.packed_sequence.specs.Laws.{SequenceWordsFit}
use Rattle.packed_sequence.proofs.LonePlaces.{piece-stands}
use Rattle.packed_sequence.proofs.LonePlaces.{stands-piece, more-when-one}
use Rattle.packed_sequence.proofs.OneSequenceBits.{words-prefix-of}

-- a range is a piece that stands where it begins
pub range-stands : (bits : List ℕ) (at end : ℕ) (piece : List ℕ) → end ≡ at + length piece → slice_range bits at end ≡ piece → StandAt bits at piece
range-stands bits at end piece e h = piece-stands bits at piece (ap (slice_range bits at) (sym e) ∙ h)

pub stands-range : (bits : List ℕ) (at end : ℕ) (piece : List ℕ) → end ≡ at + length piece → StandAt bits at piece → slice_range bits at end ≡ piece
stands-range bits at end piece e h = ap (slice_range bits at) e ∙ stands-piece bits at piece h

-- zeros in a range
pub zeros-range : (bits : List ℕ) (from to n : ℕ) → to ≡ from + n → to ≤ length bits → HasNoOne bits from to → slice_range bits from to ≡ replicate n 0
zeros-range bits from to n e fit none =
    let count : length (replicate {A = ℕ} n 0) ≡ n = length-replicate {A = ℕ} n 0 in
    stands-range bits from to (replicate n 0) (omega (arith, e, count))
    (stands-from bits from (replicate n 0) (omega (arith, e, count, fit))
    (λ i lt. none (from + i) (omega arith) (omega (arith, lt, count, e)) ∙ sym (get_or-replicate n i 0 0 (omega (arith, lt, count)))))

pub zero-in-range : (bits : List ℕ) (from to n p : ℕ) → to ≡ from + n → slice_range bits from to ≡ replicate n 0 → from ≤ p → p < to → slice_index bits p ≡ 0
zero-in-range bits from to n p e h after before =
    let count : length (replicate {A = ℕ} n 0) ≡ n = length-replicate {A = ℕ} n 0 in
    let stands : StandAt bits from (replicate n 0) = range-stands bits from to (replicate n 0) (omega (arith, e, count)) h in
    let i : ℕ = p - from in
    ap (slice_index bits) (let f : p ≡ from + i = omega (arith, after) in f) ∙ stands-at bits from (replicate n 0) i stands (omega (arith, e, count, after, before))
    ∙ get_or-replicate n i 0 0 (omega (arith, e, after, before))

-- what is read of the number of parts and of the word behind it
pub record HeadRead (m : ℕ) (bits : List ℕ) (at parts start : ℕ) : Type 0 where
  pub parts_are : parts ≡ field_at bits (at + 1) (digits m)
  pub start_is : start ≡ (at + 1 + digits m + 63) / 64

pub head-read : (m : ℕ) (bits : List ℕ) (at end parts start : ℕ) → IsPartedHead m bits at end parts start → HeadRead m bits at parts start
head-read m bits at end parts start h =
    let w : ℕ = digits m in
    let stands : StandAt bits (at + 1) (field_bits w parts) = range-stands bits (at + 1) (at + 1 + w) (field_bits w parts) (omega (arith, length-field_bits w parts)) h.number in
    record {
      parts_are = sym (field-stands bits (at + 1) w parts stands ∙ mod-eq_of_lt h.few);
      start_is = omega (arith, h.word);
    }

pub read-head : (m : ℕ) (bits : List ℕ) (at end parts start : ℕ) → EachBit bits → end ≤ length bits → start ≡ (at + 1 + digits m + 63) / 64 → 64 * start ≤ end → parts ≡ field_at bits (at + 1) (digits m) → 2 ≤ parts
    → HasNoOne bits (at + 1 + digits m) (64 * start) → IsPartedHead m bits at end parts start
read-head m bits at end parts start each fit is within value some none =
    let w : ℕ = digits m in
    let word : 64 * start ≡ at + 1 + w + padding (at + 1 + w) = omega (arith, is) in
    let stands : StandAt bits (at + 1) (field_bits w parts) = stands-field bits (at + 1) w parts each (omega (arith, word, within, fit)) (sym (field-fits bits (at + 1) w each) ∙ ap (λ v. v % 2 ^ w) (sym value)) in
    record {
      some = some;
      few = subst (λ v. v < 2 ^ w) (sym value) (field-below bits (at + 1) w each);
      number = stands-range bits (at + 1) (at + 1 + w) (field_bits w parts) (omega (arith, length-field_bits w parts)) stands;
      word = word;
      zeros = zeros-range bits (at + 1 + w) (64 * start) (padding (at + 1 + w)) word (omega (arith, within, fit)) none;
      within = within;
    }

-- a sequence in several parts
as-parted : (last : LastField) (at : ℕ) (xs ends : List ℕ) → 2 ≤ length ends → sequence_bits last at xs ends ≡ parted_bits at xs ends
as-parted last at xs [] h = absurd (omega (arith, h))
as-parted last at xs (end ∷ []) h = absurd (omega (arith, h))
as-parted last at xs (end ∷ next ∷ ends) h = refl

-- its bits, by the number of its values
abbrev parted-of : ℕ → ℕ → List ℕ → List ℕ → List ℕ
parted-of at m xs ends = (1 ∷ field_bits (digits m) (length ends)) ++ replicate (padding (at + 1 + digits m)) 0 ++ bits_of (sequence_words format_three xs ends)

parted-by : (last : LastField) (at m : ℕ) (xs ends : List ℕ) → length xs ≡ m → 2 ≤ length ends → sequence_bits last at xs ends ≡ parted-of at m xs ends
parted-by last at m xs ends count many = as-parted last at xs ends many ∙ ap (λ k. parted-of at k xs ends) count

length-parted-of : (at m : ℕ) (xs ends : List ℕ) → length (parted-of at m xs ends) ≡ 1 + digits m + padding (at + 1 + digits m) + 64 * length (sequence_words format_three xs ends)
length-parted-of at m xs ends =
    let zeros : List ℕ = replicate (padding (at + 1 + digits m)) 0 in
    omega (
      arith,
      length-append ((1 ∷ field_bits (digits m) (length ends)) ++ zeros) (bits_of (sequence_words format_three xs ends)),
      length-append (1 ∷ field_bits (digits m) (length ends)) zeros,
      length-field_bits (digits m) (length ends),
      length-replicate {A = ℕ} (padding (at + 1 + digits m)) 0,
      length-bits_of (sequence_words format_three xs ends),
    )

-- and where its pieces stand
record PartedPieces (bits : List ℕ) (at m : ℕ) (xs ends : List ℕ) : Type 0 where
  number : StandAt bits (at + 1) (field_bits (digits m) (length ends))
  zeros : StandAt bits (at + 1 + digits m) (replicate (padding (at + 1 + digits m)) 0)
  words : StandAt bits (at + 1 + digits m + padding (at + 1 + digits m)) (bits_of (sequence_words format_three xs ends))

parted-pieces : (bits : List ℕ) (at m : ℕ) (xs ends : List ℕ) → StandAt bits at (parted-of at m xs ends) → PartedPieces bits at m xs ends
parted-pieces bits at m xs ends whole =
    let w : ℕ = digits m in
    let head : List ℕ = 1 ∷ field_bits w (length ends) in
    let zeros : List ℕ = replicate (padding (at + 1 + w)) 0 in
    let ws : List ℕ = bits_of (sequence_words format_three xs ends) in
    let size : length head ≡ 1 + w = omega (arith, length-field_bits w (length ends)) in
    let both : length (head ++ zeros) ≡ 1 + w + padding (at + 1 + w) = omega (arith, size, length-append head zeros, length-replicate {A = ℕ} (padding (at + 1 + w)) 0) in
    let front : StandAt bits at (head ++ zeros) = stands-first bits at (head ++ zeros) ws whole in
    record {
      number = stands-second bits at (1 ∷ []) (field_bits w (length ends)) (stands-first bits at head zeros front);
      zeros = subst (λ k. StandAt bits k zeros) (let e : at + length head ≡ at + 1 + w = omega (arith, size) in e) (stands-second bits at head zeros front);
      words = subst (λ k. StandAt bits k ws) (let e : at + length (head ++ zeros) ≡ at + 1 + w + padding (at + 1 + w) = omega (arith, both) in e) (stands-second bits at (head ++ zeros) ws whole);
    }

-- the bits of words from one of them on
pub bits-behind : BitsOfAppended → (words : List ℕ) (p : ℕ) → p ≤ length words → drop (64 * p) (bits_of words) ≡ bits_of (drop p words)
bits-behind appended words p le =
    ap (λ ws. drop (64 * p) (bits_of ws)) (sym (take-append-drop p words)) ∙ ap (drop (64 * p)) (appended (take p words) (drop p words))
    ∙ drop_at (bits_of (take p words)) (bits_of (drop p words)) (64 * p) (length-bits_of (take p words) ∙ ap (λ k. 64 * k) (length-take-le p words le))

-- words that stand at a word
pub words-stand : BitsOfAppended → (words ws : List ℕ) (p : ℕ) → p ≤ length words → take (length ws) (drop p words) ≡ ws → StandAt (bits_of words) (64 * p) (bits_of ws)
words-stand appended words ws p le h =
    let rest : List ℕ = drop p words in
    let back : List ℕ = drop (length ws) rest in
    let split : bits_of rest ≡ bits_of ws ++ bits_of back = ap bits_of (sym (take-append-drop (length ws) rest)) ∙ appended (take (length ws) rest) back ∙ ap (λ zs. bits_of zs ++ bits_of back) h in
    ap (take (length (bits_of ws))) (bits-behind appended words p le ∙ split) ∙ take_at (bits_of ws) (bits_of back) (length (bits_of ws)) refl

-- what is found of several parts
pub record PartedFound (bits : List ℕ) (at end : ℕ) (last : LastField) (m bound : ℕ) (xs ends : List ℕ) (behind : ℕ) : Type 0 where
  pub sequence : IsSequenceBefore last m bound bits at end xs ends
  pub behind_is : behind ≡ at + length (sequence_bits last at xs ends)

pub parted-found : BitsOfAppended → (last : LastField) (m bound : ℕ) (words : List ℕ) (at end parts start q used : ℕ) (xs ends : List ℕ) → bound ≤ format_three.most_sum → end ≤ 64 * length words → at < end
    → slice_index (bits_of words) at ≡ 1 → IsPartedHead m (bits_of words) at end parts start → q ≡ end / 64 → BeginsSequence format_three m bound parts xs ends (slice_range words start q) used
    → PartedFound (bits_of words) at end last m bound xs ends (64 * (start + length (sequence_words format_three xs ends)))
parted-found appended last m bound words at end parts start q used xs ends bounded fit inside flag h at_end begun =
    let bits : List ℕ = bits_of words in
    let s = begun.sequence in
    let w : ℕ = digits m in
    let n : ℕ = length ends in
    let zeros : List ℕ = replicate (padding (at + 1 + w)) 0 in
    let ws : List ℕ = sequence_words format_three xs ends in
    let rest : List ℕ = drop start words in
    let all : length bits ≡ 64 * length words = length-bits_of words in
    let room : start ≤ q = omega (arith, h.within, at_end) in
    let lent : length (slice_range words start q) ≡ q - start = omega (arith, length-take (q - start) rest, length-drop start words, at_end, fit, room) in
    let used_is : used ≡ length ws = omega (arith, ap length s.spelled, length-take-le used (slice_range words start q) begun.within) in
    let stored : take (length ws) rest ≡ ws = ap (λ k. take k rest) (sym used_is) ∙ sym (take-take used (q - start) rest (omega (arith, begun.within, lent))) ∙ s.spelled in
    let many : 2 ≤ n = omega (arith, h.some, s.parts_count) in
    let first : StandAt bits at (1 ∷ []) = stands-from bits at (1 ∷ []) (omega (arith, inside, fit, all)) (λ i lt. (let e : i ≡ 0 = omega (arith, lt) in ap (λ k. get_or bits (at + k) 0) e ∙ ap (λ k. get_or bits k 0) (let f : at + 0 ≡ at = omega arith in f) ∙ flag ∙ ap (λ k. get_or (1 ∷ []) k 0) (sym e))) in
    let number : StandAt bits (at + 1) (field_bits w n) = subst (λ k. StandAt bits (at + 1) (field_bits w k)) (sym s.parts_count) (range-stands bits (at + 1) (at + 1 + w) (field_bits w parts) (omega (arith, length-field_bits w parts)) h.number) in
    let head : StandAt bits at (1 ∷ field_bits w n) = stands-both bits at (1 ∷ []) (field_bits w n) first number in
    let size : length (1 ∷ field_bits w n) ≡ 1 + w = omega (arith, length-field_bits w n) in
    let pad : StandAt bits (at + length (1 ∷ field_bits w n)) zeros = subst (λ k. StandAt bits k zeros) (let e : at + 1 + w ≡ at + length (1 ∷ field_bits w n) = omega (arith, size) in e)
    (range-stands bits (at + 1 + w) (64 * start) zeros (omega (arith, h.word, length-replicate {A = ℕ} (padding (at + 1 + w)) 0)) h.zeros) in
    let prefix : StandAt bits at ((1 ∷ field_bits w n) ++ zeros) = stands-both bits at (1 ∷ field_bits w n) zeros head pad in
    let place : 64 * start ≡ at + length ((1 ∷ field_bits w n) ++ zeros) = omega (arith, h.word, size, length-append (1 ∷ field_bits w n) zeros, length-replicate {A = ℕ} (padding (at + 1 + w)) 0) in
    let back : StandAt bits (at + length ((1 ∷ field_bits w n) ++ zeros)) (bits_of ws) = subst (λ k. StandAt bits k (bits_of ws)) place (words-stand appended words ws start (omega (arith, h.within, fit)) stored) in
    let whole : StandAt bits at (parted-of at m xs ends) = stands-both bits at ((1 ∷ field_bits w n) ++ zeros) (bits_of ws) prefix back in
    let is : sequence_bits last at xs ends ≡ parted-of at m xs ends = parted-by last at m xs ends s.count many in
    let long = length-parted-of at m xs ends in
    let ends_at : 64 * (start + length ws) ≡ at + length (sequence_bits last at xs ends) = omega (arith, ap length is, long, h.word) in
    record {
      sequence = record {
        stored = record {
          rising = s.rising;
          below = λ k d lt. omega (arith, s.below k d lt, bounded);
          count = s.count;
          partition = s.partition;
          less = λ one. absurd (omega (arith, one, many));
          fits = λ one. absurd (omega (arith, one, many));
        };
        small = s.below;
        within = omega (arith, ends_at, used_is, begun.within, lent, at_end, room);
        stands = stands-piece bits at (sequence_bits last at xs ends) (subst (StandAt bits at) (sym is) whole);
      };
      behind_is = ends_at;
    }

-- a sequence that stands in several parts begins so
pub parted-head : (last : LastField) (m bound : ℕ) (bits : List ℕ) (at end : ℕ) (xs ends : List ℕ) → 1 ≤ m → m < 2 ^ 32 → slice_index bits at ≡ 1 → IsSequenceBefore last m bound bits at end xs ends
    → IsPartedHead m bits at end (length ends) ((at + 1 + digits m + 63) / 64)
parted-head last m bound bits at end xs ends some few flag h =
    let many = more-when-one last m bound bits at end xs ends some flag h in
    let w : ℕ = digits m in
    let start : ℕ = (at + 1 + w + 63) / 64 in
    let is = parted-by last at m xs ends h.stored.count many in
    let pieces = parted-pieces bits at m xs ends (subst (StandAt bits at) is (piece-stands bits at (sequence_bits last at xs ends) h.stands)) in
    let room : m < 2 ^ w = digits-hold m (omega (arith, few)) in
    let word : 64 * start ≡ at + 1 + w + padding (at + 1 + w) = omega arith in
    record {
      some = many;
      few = omega (arith, few-parts 0 m ends h.stored.partition, room);
      number = stands-range bits (at + 1) (at + 1 + w) (field_bits w (length ends)) (omega (arith, length-field_bits w (length ends))) pieces.number;
      word = word;
      zeros = stands-range bits (at + 1 + w) (64 * start) (replicate (padding (at + 1 + w)) 0) (omega (arith, word, length-replicate {A = ℕ} (padding (at + 1 + w)) 0)) pieces.zeros;
      within = omega (arith, h.within, ap length is, length-parted-of at m xs ends, word);
    }

-- and its words are those of a sequence
pub parted-begins : BitsOfAppended → WordsOfBits → SequenceWordsFit → (last : LastField) (m bound : ℕ) (words : List ℕ) (at end parts start q : ℕ) (xs ends : List ℕ) → All (λ w. w < 2 ^ 64) words → 1 ≤ m → m < 2 ^ 32
    → end ≤ 64 * length words → slice_index (bits_of words) at ≡ 1 → IsSequenceBefore last m bound (bits_of words) at end xs ends → IsPartedHead m (bits_of words) at end parts start → q ≡ end / 64
    → BeginsSequence format_three m bound parts xs ends (slice_range words start q) (length (sequence_words format_three xs ends))
parted-begins appended whole fits last m bound words at end parts start q xs ends small some few fit flag h got at_end =
    let bits : List ℕ = bits_of words in
    let many = more-when-one last m bound bits at end xs ends some flag h in
    let ws : List ℕ = sequence_words format_three xs ends in
    let is = parted-by last at m xs ends h.stored.count many in
    let pieces = parted-pieces bits at m xs ends (subst (StandAt bits at) is (piece-stands bits at (sequence_bits last at xs ends) h.stands)) in
    let read = head-read m bits at end parts start got in
    let read_too = head-read m bits at end (length ends) ((at + 1 + digits m + 63) / 64) (parted-head last m bound bits at end xs ends some few flag h) in
    let count : length ends ≡ parts = omega (arith, read.parts_are, read_too.parts_are) in
    let piece : StandAt bits (64 * start) (bits_of ws) = subst (λ k. StandAt bits k (bits_of ws)) (sym got.word) pieces.words in
    let ends_at : 64 * start + 64 * length ws ≤ end = omega (arith, h.within, ap length is, length-parted-of at m xs ends, got.word) in
    let rest : List ℕ = drop start words in
    let prefix : take (length (bits_of ws)) (bits_of rest) ≡ bits_of ws = ap (take (length (bits_of ws))) (sym (bits-behind appended words start (omega (arith, ends_at, fit)))) ∙ piece in
    let split : bits_of ws ++ drop (length (bits_of ws)) (bits_of rest) ≡ bits_of rest ++ [] =
    ap (λ zs. zs ++ drop (length (bits_of ws)) (bits_of rest)) (sym prefix) ∙ take-append-drop (length (bits_of ws)) (bits_of rest) ∙ sym (append-nil (bits_of rest)) in
    let fit_words = fits xs ends h.stored.rising h.stored.below (omega (arith, h.stored.count, few)) (subst (λ k. IsPartition k ends) (sym h.stored.count) h.stored.partition) in
    let fit_rest : All (λ v. v < 2 ^ 64) rest = All-drop (λ v. v < 2 ^ 64) start words small in
    let le : length ws ≤ length rest = omega (arith, ends_at, fit, length-drop start words) in
    let stored : take (length ws) rest ≡ ws = words-prefix-of appended whole ws rest (drop (length (bits_of ws)) (bits_of rest)) [] fit_words fit_rest le split in
    record {
      within = omega (arith, ends_at, at_end, fit, length-take (q - start) rest, length-drop start words);
      sequence = record {
        rising = h.stored.rising;
        below = h.small;
        count = h.stored.count;
        few = few;
        partition = h.stored.partition;
        parts_count = count;
        spelled = take-take (length ws) (q - start) rest (omega (arith, ends_at, at_end)) ∙ stored;
      };
    }

-- and how long it is
pub parted-size : (last : LastField) (m bound : ℕ) (bits : List ℕ) (at end : ℕ) (xs ends : List ℕ) → 1 ≤ m → slice_index bits at ≡ 1 → IsSequenceBefore last m bound bits at end xs ends
    → 64 * ((at + 1 + digits m + 63) / 64 + length (sequence_words format_three xs ends)) ≡ at + length (sequence_bits last at xs ends)
parted-size last m bound bits at end xs ends some flag h =
    omega (arith, ap length (parted-by last at m xs ends h.stored.count (more-when-one last m bound bits at end xs ends some flag h)), length-parted-of at m xs ends)
