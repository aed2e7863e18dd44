-- A sequence is read back where its bits stand in words.
use Rattle.std.proofs.Common.{◌≡◌, ℕ, ◌+◌, ◌-◌, ◌*◌, ◌/◌, ◌^◌, ◌<◌, ◌≤◌, List, [], ◌∷◌, ◌++◌, length, take, drop, get_or, slice_index, replicate, sym, ap, ◌∙◌, subst, arith, append-nil}
use Rattle.std.specs.Prelude.{◌==◌, if◌then◌else◌}
use Rattle.std.specs.List.{All}
use Rattle.std.proofs.Math.Nat.{mod-eq_of_lt}
use Rattle.std.proofs.lemmas.List.{length-append, length-replicate, length-drop, take-append-drop, drop_at, length-take-le}
use Rattle.std.proofs.lemmas.List.Elements.{All-drop}
use Rattle.bit_words.specs.Bits.{field_bits, field_at, bits_of, padding}
use Rattle.bit_words.specs.Laws.{BitsOfAppended, WordsOfBits}
use Rattle.bit_words.proofs.Value.{length-bits_of, length-field_bits}
use Rattle.bit_words.proofs.Pieces.{StandAt, stands-first, stands-second, stands-at, field-stands}
use Rattle.collection_model.specs.FormatNumbers.{format_three}
use Rattle.part_cost.specs.Payload.{digits, payload}
use Rattle.part_cost.specs.Span.{AreRelative, past}
use Rattle.part_cost.specs.Stored.{HoldsPart}
use Rattle.part_cost.proofs.DigitCounts.{digits-hold}
use Rattle.part_cost.proofs.Parts.{past-at}
use Rattle.part_cost.proofs.Partitions.{few-parts}
use Rattle.part_codec.specs.PartBits.{part_bits}
use Rattle.part_codec.specs.PartValues.{values_at}
use Rattle.part_codec.specs.Laws.{TakesItsPayload, OneListAtPlace, ValuesStandAt}
use Rattle.two_level.specs.SequenceWords.{sequence_words, BeginsSequence}
use Rattle.two_level.specs.SequenceFault.{word_behind}
use Rattle.two_level.specs.SequenceView.{SequenceView, sequence_stated}
use Rattle.two_level.specs.Laws.{OneSequence, WordsState, SequencesPassChecks}
use Rattle.packed_sequence.specs.declared.last_field.LastField.{LastField}
use Rattle.packed_sequence.specs.SequenceBits.{lone_part_bits, parted_bits, sequence_bits, IsStored}
use Rattle.packed_sequence.specs.SequenceStated.{SequenceAt, lone_at, parted_at, sequence_at}
use Rattle.packed_sequence.specs.Laws.{SequenceWordsFit}
use Rattle.packed_sequence.proofs.OneSequenceBits.{relative, universe-fits, words-fit, words-prefix, begins}

-- what a sequence in its parts is, and the place behind its bits
abbrev pub stated : List ℕ → List ℕ → ℕ → SequenceAt
stated xs ends behind = record { view = record { format = format_three; values = xs; ends = ends }; behind = behind }

module _ (payloads : TakesItsPayload) (one_part : OneListAtPlace) (stand : ValuesStandAt) (appended : BitsOfAppended) (whole : WordsOfBits) (one : OneSequence format_three) (state : WordsState format_three) (passes : SequencesPassChecks format_three) (fit : SequenceWordsFit)
    (m : ℕ) (many : 2 ≤ m) (few : m < 2 ^ 32) (words : List ℕ) (small : All (λ w. w < 2 ^ 64) words) where
  abbrev bits : List ℕ
  bits = bits_of words

  -- one part
  lone-back : (last : LastField) (at : ℕ) (xs ends : List ℕ) → IsStored last m xs ends → length ends ≡ 1 → StandAt bits at (lone_part_bits last xs)
      → lone_at last m bits at ≡ stated xs (m ∷ []) (at + length (lone_part_bits last xs))
  lone-back last at xs ends h one_end stands =
      let w : ℕ = last.width in
      let u : ℕ = past xs (length xs) in
      let v : ℕ = u - 1 - last.less in
      let head : List ℕ = 0 ∷ field_bits w v in
      let low : last.less ≤ u - 1 = subst (λ n. last.less ≤ past xs n - 1) (sym h.count) (h.less one_end) in
      let fits : v < 2 ^ w = subst (λ n. past xs n - 1 - last.less < 2 ^ w) (sym h.count) (h.fits one_end) in
      let first : StandAt bits at head = stands-first bits at head (part_bits xs u) stands in
      let field : StandAt bits (at + 1) (field_bits w v) = stands-second bits at (0 ∷ []) (field_bits w v) first in
      let value : field_at bits (at + 1) w ≡ v = field-stands bits (at + 1) w v field ∙ mod-eq_of_lt fits in
      let above = past-at xs (length xs) (omega (arith, h.count, many)) in
      let end : field_at bits (at + 1) w + last.less ≡ u - 1 = omega (arith, value, low) in
      let next : field_at bits (at + 1) w + last.less + 1 ≡ u = omega (arith, end, above) in
      let size : length head ≡ w + 1 = omega (arith, length-field_bits w v) in
      let place : at + length head ≡ at + 1 + w = omega (arith, size) in
      let part : StandAt bits (at + 1 + w) (part_bits xs u) = subst (λ p. StandAt bits p (part_bits xs u)) place (stands-second bits at head (part_bits xs u) stands) in
      let r : AreRelative u m xs = relative payloads one_part appended whole one fit m many few last xs ends h in
      let long : length (part_bits xs u) ≡ payload u m = payloads u m xs (universe-fits payloads one_part appended whole one fit m many few last xs ends h) r in
      let held : HoldsPart part_bits bits (at + 1 + w) u m xs = record { values = r; stored = part } in
      let values : values_at bits (at + 1 + w) (field_at bits (at + 1) w + last.less + 1) m ≡ xs = ap (λ k. values_at bits (at + 1 + w) k m) next ∙ stand bits (at + 1 + w) u m xs held in
      let behind : at + 1 + w + payload (field_at bits (at + 1) w + last.less + 1) m ≡ at + length (lone_part_bits last xs) =
      omega (arith, ap (λ k. payload k m) next, long, length-append head (part_bits xs u), size) in
      ap (λ (zs : List ℕ). stated zs (m ∷ []) (at + 1 + w + payload (field_at bits (at + 1) w + last.less + 1) m)) values ∙ ap (stated xs (m ∷ [])) behind

  -- several parts
  parted-back : (last : LastField) (at : ℕ) (xs ends : List ℕ) → IsStored last m xs ends → StandAt bits at (parted_bits at xs ends) → at + length (parted_bits at xs ends) ≤ length bits
      → parted_at m words at ≡ stated xs ends (at + length (parted_bits at xs ends))
  parted-back last at xs ends h stands within =
      let w : ℕ = digits (length xs) in
      let n : ℕ = length ends in
      let ws : List ℕ = sequence_words format_three xs ends in
      let zeros : List ℕ = replicate (padding (at + 1 + w)) 0 in
      let head : List ℕ = 1 ∷ field_bits w n in
      let width : digits m ≡ w = ap digits (sym h.count) in
      let room : m < 2 ^ w = subst (λ d. m < 2 ^ d) width (digits-hold m (omega (arith, few))) in
      let parts = few-parts 0 m ends h.partition in
      let first : StandAt bits at head = stands-first bits at head zeros (stands-first bits at (head ++ zeros) (bits_of ws) stands) in
      let field : StandAt bits (at + 1) (field_bits w n) = stands-second bits at (1 ∷ []) (field_bits w n) first in
      let count : field_at bits (at + 1) (digits m) ≡ n = ap (field_at bits (at + 1)) width ∙ field-stands bits (at + 1) w n field ∙ mod-eq_of_lt (omega (arith, parts, room)) in
      let size : length (head ++ zeros) ≡ 1 + w + padding (at + 1 + w) = omega (arith, length-append head zeros, length-field_bits w n, length-replicate {A = ℕ} (padding (at + 1 + w)) 0) in
      let p : ℕ = (at + 1 + w + 63) / 64 in
      let word : at + length (head ++ zeros) ≡ 64 * p = omega (arith, size) in
      let long : length (parted_bits at xs ends) ≡ length (head ++ zeros) + 64 * length ws = omega (arith, length-append (head ++ zeros) (bits_of ws), length-bits_of ws) in
      let piece : StandAt bits (64 * p) (bits_of ws) = subst (λ q. StandAt bits q (bits_of ws)) word (stands-second bits at (head ++ zeros) (bits_of ws) stands) in
      let rest : List ℕ = drop p words in
      let room_words : p + length ws ≤ length words = omega (arith, word, long, within, length-bits_of words) in
      let tail : drop (64 * p) bits ≡ bits_of rest = bits-behind p (omega (arith, room_words)) in
      let prefix : take (length (bits_of ws)) (bits_of rest) ≡ bits_of ws = ap (take (length (bits_of ws))) (sym tail) ∙ piece in
      let split : bits_of ws ++ drop (length (bits_of ws)) (bits_of rest) ≡ bits_of rest ++ [] =
      ap (λ zs. zs ++ drop (length (bits_of ws)) (bits_of rest)) (sym prefix) ∙ take-append-drop (length (bits_of ws)) (bits_of rest) ∙ sym (append-nil (bits_of rest)) in
      let fits = words-fit payloads one_part appended whole one fit m many few last xs ends h in
      let fits_too : All (λ v. v < 2 ^ 64) rest = All-drop (λ v. v < 2 ^ 64) p words small in
      let le : length ws ≤ length rest = omega (arith, room_words, length-drop p words) in
      let stored : take (length ws) rest ≡ ws = words-prefix payloads one_part appended whole one fit m many few ws rest (drop (length (bits_of ws)) (bits_of rest)) [] fits fits_too le split in
      let begun : BeginsSequence format_three m format_three.most_sum n xs ends rest (length ws) = begins payloads one_part appended whole one fit m many few last xs ends rest h le stored in
      let view = state m format_three.most_sum n (length ws) xs ends rest (omega arith) begun in
      let used = (passes m format_three.most_sum n (length ws) xs ends rest (omega arith) begun).1 in
      let at_word : (at + 1 + digits m + 63) / 64 ≡ p = ap (λ d. (at + 1 + d + 63) / 64) width in
      let make : ℕ → ℕ → SequenceAt = λ q k. record { view = sequence_stated format_three (drop q words) k; behind = 64 * (q + word_behind format_three (drop q words) k) } in
      let behind : 64 * (p + word_behind format_three rest n) ≡ at + length (parted_bits at xs ends) = omega (arith, used, word, long) in
      let end : ℕ = 64 * (p + word_behind format_three rest n) in
      ◌∙◌ {b = stated xs ends end}
      (ap (λ q. make q (field_at bits (at + 1) (digits m))) at_word ∙ ap (make p) count ∙ ap (λ (v : SequenceView). record { view = v; behind = end }) view)
      (ap (stated xs ends) behind)
    where
      bits-behind : (p : ℕ) → p ≤ length words → drop (64 * p) (bits_of words) ≡ bits_of (drop p words)
      bits-behind p le =
          ap (λ ws. drop (64 * p) (bits_of ws)) (sym (take-append-drop p words)) ∙ ap (drop (64 * p)) (appended (take p words) (drop p words))
          ∙ drop_at (bits_of (take p words)) (bits_of (drop p words)) (64 * p) (length-bits_of (take p words) ∙ ap (λ k. 64 * k) (length-take-le p words le))

  flag-is : (at : ℕ) (piece : List ℕ) → StandAt bits at piece → 0 < length piece → slice_index bits at ≡ get_or piece 0 0
  flag-is at piece stands some = ap (slice_index bits) (let e : at ≡ at + 0 = omega arith in e) ∙ stands-at bits at piece 0 stands some

  -- a sequence in its parts
  pub sequence-back : (last : LastField) (at : ℕ) (xs ends : List ℕ) → IsStored last m xs ends → StandAt bits at (sequence_bits last at xs ends) → at + length (sequence_bits last at xs ends) ≤ length bits
      → sequence_at last m words at ≡ stated xs ends (at + length (sequence_bits last at xs ends))
  sequence-back last at xs [] h stands within = absurd (omega (arith, h.partition, many))
  sequence-back last at xs (end ∷ []) h stands within =
      let flag : slice_index bits at ≡ 0 = flag-is at (lone_part_bits last xs) stands (omega arith) in
      ap (λ (b : ℕ). if b == 1 then parted_at m words at else lone_at last m bits at) flag ∙ lone-back last at xs (end ∷ []) h (omega arith) stands
      ∙ ap (λ (e : ℕ). stated xs (e ∷ []) (at + length (lone_part_bits last xs))) (sym h.partition.1)
  sequence-back last at xs (end ∷ next ∷ ends) h stands within =
      let flag : slice_index bits at ≡ 1 = flag-is at (parted_bits at xs (end ∷ next ∷ ends)) stands (omega arith) in
      ap (λ (b : ℕ). if b == 1 then parted_at m words at else lone_at last m bits at) flag ∙ parted-back last at xs (end ∷ next ∷ ends) h stands within
