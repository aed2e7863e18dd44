-- Bits begin with one sequence in its parts only, as a packed list has it.
use Rattle.std.proofs.Common.{◌≡◌, ℕ, ◌+◌, ◌-◌, ◌*◌, ◌^◌, ◌<◌, ◌≤◌, List, [], ◌∷◌, ◌++◌, length, take, drop, get_or, slice_index, replicate, refl, sym, ap, ◌∙◌, subst, inl, inr, arith, append_assoc, mod-eq_of_lt}
use Rattle.std.specs.List.{All}
use Rattle.std.proofs.lemmas.Bool.{cases_lt}
use Rattle.std.proofs.lemmas.List.{length-replicate, length-take-le, take_at, drop_at, take_all, take-append-drop, get_or-take}
use Rattle.bit_words.specs.Bits.{bits_value, field_bits, bits_of, words_of, padding}
use Rattle.bit_words.specs.Laws.{BitsOfAppended, WordsOfBits}
use Rattle.bit_words.proofs.Value.{value-field_bits, length-field_bits, length-bits_of}
use Rattle.collection_model.specs.FormatNumbers.{format_three}
use Rattle.part_cost.specs.Payload.{digits, widest_low, payload}
use Rattle.part_cost.specs.Span.{AreRelative, past}
use Rattle.part_cost.specs.Partition.{IsPartition}
use Rattle.part_cost.specs.Stored.{HoldsPart}
use Rattle.part_cost.proofs.DigitCounts.{digits-hold}
use Rattle.part_cost.proofs.Parts.{past-at}
use Rattle.part_cost.proofs.Partitions.{few-parts}
use Rattle.part_codec.specs.PartBits.{part_bits}
use Rattle.part_codec.specs.Laws.{TakesItsPayload, OneListAtPlace}
use Rattle.two_level.specs.SequenceWords.{sequence_words, BeginsSequence}
use Rattle.two_level.specs.Laws.{OneSequence}
use Rattle.packed_sequence.specs.declared.last_field.LastField.{LastField}
use Rattle.packed_sequence.specs.SequenceBits.{lone_part_bits, parted_bits, sequence_bits, IsStored}
use Rattle.packed_sequence.specs.Laws.{SequenceWordsFit}

-- fields of one width before other bits are of one number only
pub one-field_prefix : (w v u : ℕ) (xs ys : List ℕ) → v < 2 ^ w → u < 2 ^ w → field_bits w v ++ xs ≡ field_bits w u ++ ys → (v ≡ u) × (xs ≡ ys)
one-field_prefix w v u xs ys fit also h =
    let same : field_bits w v ≡ field_bits w u = sym (take_at (field_bits w v) xs w (length-field_bits w v)) ∙ ap (take w) h ∙ take_at (field_bits w u) ys w (length-field_bits w u) in (
      sym (mod-eq_of_lt fit) ∙ sym (value-field_bits w v) ∙ ap bits_value same ∙ value-field_bits w u ∙ mod-eq_of_lt also,
      sym (drop_at (field_bits w v) xs w (length-field_bits w v)) ∙ ap (drop w) h ∙ drop_at (field_bits w u) ys w (length-field_bits w u),
    )

-- bits of one length before others
pub same-prefixes : (n : ℕ) (a b xs ys : List ℕ) → length a ≡ n → length b ≡ n → a ++ xs ≡ b ++ ys → (a ≡ b) × (xs ≡ ys)
same-prefixes n a b xs ys p q h = (sym (take_at a xs n p) ∙ ap (take n) h ∙ take_at b ys n q, sym (drop_at a xs n p) ∙ ap (drop n) h ∙ drop_at b ys n q)

-- the words of which the bits come first, among those of others
pub words-prefix-of : BitsOfAppended → WordsOfBits → (ws vs a b : List ℕ) → All (λ w. w < 2 ^ 64) ws → All (λ v. v < 2 ^ 64) vs → length ws ≤ length vs → bits_of ws ++ a ≡ bits_of vs ++ b → take (length ws) vs ≡ ws
words-prefix-of appended whole ws vs a b small tiny le e =
    let n : ℕ = length ws in
    let prefix : List ℕ = take n vs in
    let count : length prefix ≡ n = length-take-le n vs le in
    let split : bits_of vs ≡ bits_of prefix ++ bits_of (drop n vs) = ap bits_of (sym (take-append-drop n vs)) ∙ appended prefix (drop n vs) in
    let same = same-prefixes (64 * n) (bits_of ws) (bits_of prefix) a (bits_of (drop n vs) ++ b) (length-bits_of ws) (length-bits_of prefix ∙ ap (λ k. 64 * k) count)
    (e ∙ ap (λ bits. bits ++ b) split ∙ append_assoc (bits_of prefix) (bits_of (drop n vs)) b) in
    let narrow : All (λ v. v < 2 ^ 64) prefix = λ k d lt. (let inside = tiny k d (omega (arith, lt, count, le)) in omega (arith, inside, get_or-take n vs k d (omega (arith, lt, count)))) in
    sym (whole prefix narrow) ∙ ap words_of (sym same.0) ∙ whole ws small

module _ (payloads : TakesItsPayload) (one_part : OneListAtPlace) (appended : BitsOfAppended) (whole : WordsOfBits) (one : OneSequence format_three) (fit : SequenceWordsFit) (m : ℕ) (many : 2 ≤ m) (few : m < 2 ^ 32) where
  pub relative : (last : LastField) (xs ends : List ℕ) → IsStored last m xs ends → AreRelative (past xs (length xs)) m xs
  relative last xs ends h =
      let at = past-at xs (length xs) (omega (arith, h.count, many)) in record {
        rising = h.rising;
        count = h.count;
        some = omega (arith, many);
        last = (let e : slice_index xs (m - 1) ≡ slice_index xs (length xs - 1) = ap (λ k. slice_index xs (k - 1)) (sym h.count) in omega (arith, e, at));
      }

  pub universe-fits : (last : LastField) (xs ends : List ℕ) → IsStored last m xs ends → past xs (length xs) ≤ 2 ^ widest_low
  universe-fits last xs ends h =
      let at = past-at xs (length xs) (omega (arith, h.count, many)) in
      let below = h.below (length xs - 1) 0 (omega (arith, h.count, many)) in
      omega (arith, at, below)

  -- one part, by its last value
  one-lone : (last : LastField) (xs ys ends cuts a b : List ℕ) → IsStored last m xs ends → IsStored last m ys cuts → length ends ≡ 1 → length cuts ≡ 1 → lone_part_bits last xs ++ a ≡ lone_part_bits last ys ++ b → (xs ≡ ys) × (a ≡ b)
  one-lone last xs ys ends cuts a b h k first second e =
      let u : ℕ = past xs (length xs) in
      let v : ℕ = past ys (length ys) in
      let prefix = ap (drop 1) e in
      let split = one-field_prefix last.width (u - 1 - last.less) (v - 1 - last.less) (part_bits xs u ++ a) (part_bits ys v ++ b)
      (subst (λ n. past xs n - 1 - last.less < 2 ^ last.width) (sym h.count) (h.fits first))
      (subst (λ n. past ys n - 1 - last.less < 2 ^ last.width) (sym k.count) (k.fits second))
      (sym (append_assoc (field_bits last.width (u - 1 - last.less)) (part_bits xs u) a) ∙ prefix ∙ append_assoc (field_bits last.width (v - 1 - last.less)) (part_bits ys v) b) in
      let low : last.less ≤ u - 1 = subst (λ n. last.less ≤ past xs n - 1) (sym h.count) (h.less first) in
      let low_too : last.less ≤ v - 1 = subst (λ n. last.less ≤ past ys n - 1) (sym k.count) (k.less second) in
      let at = past-at xs (length xs) (omega (arith, h.count, many)) in
      let at_too = past-at ys (length ys) (omega (arith, k.count, many)) in
      let same : u ≡ v = omega (arith, split.0, low, low_too, at, at_too) in
      let r = relative last xs ends h in
      let s : AreRelative u m ys = subst (λ n. AreRelative n m ys) (sym same) (relative last ys cuts k) in
      let wide = universe-fits last xs ends h in
      let parts = same-prefixes (payload u m) (part_bits xs u) (part_bits ys u) a b (payloads u m xs wide r) (payloads u m ys wide s) (split.1 ∙ ap (λ n. part_bits ys n ++ b) (sym same)) in
      let bits : List ℕ = part_bits xs u in
      let first : HoldsPart part_bits bits 0 u m xs = record { values = r; stored = take_all (length bits) bits (omega arith) } in
      let second : HoldsPart part_bits bits 0 u m ys =
      record {
        values = s;
        stored = ap (λ n. take n bits) (ap length (sym parts.0)) ∙ take_all (length bits) bits (omega arith) ∙ parts.0;
      } in
      (one_part bits 0 u m xs ys first second, parts.1)

  -- several parts, spread out
  spread : (at : ℕ) (xs ends a : List ℕ) → length xs ≡ m
      → parted_bits at xs ends ++ a ≡ (1 ∷ field_bits (digits m) (length ends)) ++ (replicate (padding (at + 1 + digits m)) 0 ++ (bits_of (sequence_words format_three xs ends) ++ a))
  spread at xs ends a count =
      ap (λ n. ((1 ∷ field_bits (digits n) (length ends)) ++ replicate (padding (at + 1 + digits n)) 0 ++ bits_of (sequence_words format_three xs ends)) ++ a) count
      ∙ append_assoc ((1 ∷ field_bits (digits m) (length ends)) ++ replicate (padding (at + 1 + digits m)) 0) (bits_of (sequence_words format_three xs ends)) a
      ∙ append_assoc (1 ∷ field_bits (digits m) (length ends)) (replicate (padding (at + 1 + digits m)) 0) (bits_of (sequence_words format_three xs ends) ++ a)

  pub words-fit : (last : LastField) (xs ends : List ℕ) → IsStored last m xs ends → All (λ w. w < 2 ^ 64) (sequence_words format_three xs ends)
  words-fit last xs ends h = fit xs ends h.rising h.below (omega (arith, h.count, few)) (subst (λ n. IsPartition n ends) (sym h.count) h.partition)

  -- the words of which the bits come first, among those of others
  pub words-prefix : (ws vs a b : List ℕ) → All (λ w. w < 2 ^ 64) ws → All (λ v. v < 2 ^ 64) vs → length ws ≤ length vs → bits_of ws ++ a ≡ bits_of vs ++ b → take (length ws) vs ≡ ws
  words-prefix ws vs a b small tiny le e = words-prefix-of appended whole ws vs a b small tiny le e

  pub begins : (last : LastField) (xs ends words : List ℕ) → IsStored last m xs ends → length (sequence_words format_three xs ends) ≤ length words
      → take (length (sequence_words format_three xs ends)) words ≡ sequence_words format_three xs ends
      → BeginsSequence format_three m format_three.most_sum (length ends) xs ends words (length (sequence_words format_three xs ends))
  begins last xs ends words h le is = record {
    within = le;
    sequence = record { rising = h.rising; below = h.below; count = h.count; few = few; partition = h.partition; parts_count = refl; spelled = is };
  }

  ordered : (last : LastField) (xs ys ends cuts a b : List ℕ) → IsStored last m xs ends → IsStored last m ys cuts → length ends ≡ length cuts
      → length (sequence_words format_three xs ends) ≤ length (sequence_words format_three ys cuts)
      → bits_of (sequence_words format_three xs ends) ++ a ≡ bits_of (sequence_words format_three ys cuts) ++ b → (xs ≡ ys) × (ends ≡ cuts)
  ordered last xs ys ends cuts a b h k same le e =
      let ws : List ℕ = sequence_words format_three xs ends in
      let vs : List ℕ = sequence_words format_three ys cuts in
      let prefix = words-prefix ws vs a b (words-fit last xs ends h) (words-fit last ys cuts k) le e in
      let both = one m format_three.most_sum format_three.most_sum (length ends) (length ws) (length vs) xs ys ends cuts vs (omega arith) (omega arith) (begins last xs ends vs h le prefix)
      (subst (λ p. BeginsSequence format_three m format_three.most_sum p ys cuts vs (length vs)) (sym same) (begins last ys cuts vs k (omega arith) (take_all (length vs) vs (omega arith)))) in
      (both.0, both.1)

  -- several parts, by their number and their words
  one-parted : (last : LastField) (at : ℕ) (xs ys ends cuts a b : List ℕ) → IsStored last m xs ends → IsStored last m ys cuts → parted_bits at xs ends ++ a ≡ parted_bits at ys cuts ++ b
      → (xs ≡ ys) × (ends ≡ cuts) × (a ≡ b)
  one-parted last at xs ys ends cuts a b h k e =
      let w : ℕ = digits m in
      let zeros : List ℕ = replicate (padding (at + 1 + w)) 0 in
      let ws : List ℕ = sequence_words format_three xs ends in
      let vs : List ℕ = sequence_words format_three ys cuts in
      let room : m < 2 ^ w = digits-hold m (omega (arith, few)) in
      let parts = few-parts 0 m ends h.partition in
      let parts_too = few-parts 0 m cuts k.partition in
      let split = one-field_prefix w (length ends) (length cuts) (zeros ++ (bits_of ws ++ a)) (zeros ++ (bits_of vs ++ b)) (omega (arith, room, parts)) (omega (arith, room, parts_too))
      (ap (drop 1) (sym (spread at xs ends a h.count) ∙ e ∙ spread at ys cuts b k.count)) in
      let rest = same-prefixes (padding (at + 1 + w)) zeros zeros (bits_of ws ++ a) (bits_of vs ++ b) (length-replicate {A = ℕ} (padding (at + 1 + w)) 0) (length-replicate {A = ℕ} (padding (at + 1 + w)) 0) split.1 in
      let both : (xs ≡ ys) × (ends ≡ cuts) =
      elim (cases_lt (length vs) (length ws)) [
        | inl less ↦ (let t = ordered last ys xs cuts ends b a k h (sym split.0) (omega (arith, less)) (sym rest.1) in (sym t.0, sym t.1))
        | inr more ↦ ordered last xs ys ends cuts a b h k split.0 more rest.1
      ] in
      let same : ws ≡ vs = ap (λ zs. sequence_words format_three zs ends) both.0 ∙ ap (sequence_words format_three ys) both.1 in
      (both.0, both.1, (same-prefixes (length (bits_of ws)) (bits_of ws) (bits_of vs) a b refl (ap (λ zs. length (bits_of zs)) (sym same)) rest.1).1)

  -- a sequence in its parts
  pub one-sequence-bits : (last : LastField) (at : ℕ) (xs ys ends cuts a b : List ℕ) → IsStored last m xs ends → IsStored last m ys cuts
      → sequence_bits last at xs ends ++ a ≡ sequence_bits last at ys cuts ++ b → (xs ≡ ys) × (ends ≡ cuts) × (a ≡ b)
  one-sequence-bits last at xs ys [] cuts a b h k e = absurd (omega (arith, h.partition, many))
  one-sequence-bits last at xs ys (end ∷ ends) [] a b h k e = absurd (omega (arith, k.partition, many))
  one-sequence-bits last at xs ys (end ∷ []) (cut ∷ []) a b h k e =
      let t = one-lone last xs ys (end ∷ []) (cut ∷ []) a b h k (omega arith) (omega arith) e in
      (t.0, ap (λ n. n ∷ []) (h.partition.1 ∙ sym k.partition.1), t.1)
  one-sequence-bits last at xs ys (end ∷ []) (cut ∷ next ∷ cuts) a b h k e = absurd (let f : 0 ≡ 1 = ap (λ l. get_or l 0 0) e in omega (arith, f))
  one-sequence-bits last at xs ys (end ∷ next ∷ ends) (cut ∷ []) a b h k e = absurd (let f : 1 ≡ 0 = ap (λ l. get_or l 0 0) e in omega (arith, f))
  one-sequence-bits last at xs ys (end ∷ next ∷ ends) (cut ∷ other ∷ cuts) a b h k e = one-parted last at xs ys (end ∷ next ∷ ends) (cut ∷ other ∷ cuts) a b h k e
