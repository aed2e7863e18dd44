use Rattle.std.proofs.Common.{◌≡◌, ℕ, zero, suc, ◌+◌, ◌-◌, ◌*◌, ◌^◌, ◌<◌, ◌≤◌, List, [], ◌∷◌, ◌++◌, length, take, drop, map, get_or, refl, sym, ap, ◌∙◌, subst, arith, append_assoc}
use Rattle.std.specs.List.{All, slice_range}
use Rattle.std.specs.List.Sorted.{IsStrictlyIncreasing}
use Rattle.std.proofs.lemmas.List.{length-append, append-nil, drop_more, drop_all, get_or-take, get_or-drop, take_more, take_at, take-append-drop, map-append}
use Rattle.std.proofs.lemmas.List.Elements.{All-take}
use Rattle.std.proofs.Math.Seq.{take-append-add}
use Rattle.collection_model.specs.FormatNumbers.{FormatNumbers}
use Rattle.bit_words.specs.Bits.{AppendsBits, AreBits, bits_of, words_of}
use Rattle.bit_words.proofs.WordsBehind.{words-behind}
use Rattle.part_cost.specs.Payload.{widest_low}
use Rattle.part_cost.specs.Span.{past, universe, payload_of_part, relative_values, AreRelative}
use Rattle.part_cost.specs.Formats.{HasRoom}
use Rattle.part_cost.specs.Partition.{IsPartitionFrom, IsPartition, cost_from, partition_cost}
use Rattle.part_cost.specs.Laws.{PartHasRoom, PartIsWithin, PartIsRelative}
use Rattle.part_cost.specs.StoredLaws.{PayloadsAreShort}
use Rattle.part_codec.specs.PartBits.{part_bits}
use Rattle.part_cost.proofs.Growth.{payload-short}
use Rattle.part_cost.proofs.Partitions.{ends-within}
use Rattle.sequence_words.specs.EntryWords.{entry}
use Rattle.sequence_words.specs.EntryFacts.{most_offset}
use Rattle.sequence_words.specs.SequenceWords.{directory_from, payload_from, Extends}
use Rattle.sequence_words.proofs.Lengths.{PartLaws, length-payload}
use Rattle.sequence_words.proofs.StatedParts.{below-bound}

-- a part ends past the value before it, and no further than the bound
pub past-less : PartHasRoom → (xs : List ℕ) → IsStrictlyIncreasing xs → (i end : ℕ) → i < end → end ≤ length xs → past xs i + (end - i) ≤ past xs end
past-less room xs up i end lt fit = omega (arith, room xs up i end lt fit)

pub past-most : PartIsWithin → (bound : ℕ) (xs : List ℕ) → All (λ x. x < bound) xs → (end : ℕ) → end ≤ length xs → past xs end ≤ bound
past-most within bound xs below zero fit = omega arith
past-most within bound xs below (suc k) fit = omega (arith, within bound xs below 0 (suc k) (omega arith) fit)

-- each value of a part lies past the value before it
pub above-part : PartHasRoom → (xs : List ℕ) → IsStrictlyIncreasing xs → (i end k : ℕ) → k < end - i → end ≤ length xs → past xs i ≤ get_or (slice_range xs i end) k 0
above-part room xs up i end k lt fit =
    let at : get_or (slice_range xs i end) k 0 ≡ get_or xs (i + k) 0 = get_or-take (end - i) (drop i xs) k 0 lt ∙ get_or-drop i xs k 0 in
    let less : past xs i + (suc (i + k) - i) ≤ past xs (suc (i + k)) = past-less room xs up i (suc (i + k)) (omega arith) (omega arith) in
    omega (arith, at, less)

-- one more relative value
pub relative-more : (span : List ℕ) (past k : ℕ) (part : List ℕ) → k < length span → part ≡ map (λ x. x - past) (take k span)
    → part ++ (get_or span k 0 - past) ∷ [] ≡ map (λ x. x - past) (take (k + 1) span)
relative-more span past k part lt e =
    ap (λ ys. ys ++ (get_or span k 0 - past) ∷ []) e
    ∙ sym (ap (map (λ x. x - past)) (take_more span k 0 lt) ∙ map-append (λ x. x - past) (take k span) (get_or span k 0 ∷ []))

-- what a loop over the ends meets at its end k
pub record NextPart (xs ends : List ℕ) (from end k : ℕ) : Type 0 where
  pub some : from < end
  pub within : end ≤ length xs
  pub rest : IsPartitionFrom end (length xs) (drop (k + 1) ends)

pub next-part : (xs ends : List ℕ) (from k : ℕ) → k < length ends → IsPartitionFrom from (length xs) (drop k ends) → NextPart xs ends from (get_or ends k 0) k
next-part xs ends from k lt h =
    let both = subst (IsPartitionFrom from (length xs)) (drop_more ends k 0 lt) h in
    record { some = both.0; within = ends-within (get_or ends k 0) (length xs) (drop (k + 1) ends) both.1; rest = both.1 }

-- an entry more
pub directory-more : (format : FormatNumbers) (xs ends words whole : List ℕ) (from offset last k : ℕ) → k < length ends → last ≡ past xs (get_or ends k 0) - 1
    → words ++ directory_from format xs from offset (drop k ends) ≡ whole
    → (words ++ entry format last (get_or ends k 0) offset) ++ directory_from format xs (get_or ends k 0) (offset + payload_of_part xs from (get_or ends k 0)) (drop (k + 1) ends) ≡ whole
directory-more format xs ends words whole from offset last k lt e h =
    let end : ℕ = get_or ends k 0 in
    let rest : List ℕ = directory_from format xs end (offset + payload_of_part xs from end) (drop (k + 1) ends) in
    append_assoc words (entry format last end offset) rest
    ∙ ap (λ v. words ++ (entry format v end offset ++ rest)) e
    ∙ sym (ap (λ es. words ++ directory_from format xs from offset es) (drop_more ends k 0 lt))
    ∙ h

pub directory-all : (format : FormatNumbers) (xs ends words whole : List ℕ) (from offset k : ℕ) → length ends ≤ k → words ++ directory_from format xs from offset (drop k ends) ≡ whole → words ≡ whole
directory-all format xs ends words whole from offset k le h =
    sym (append-nil words) ∙ sym (ap (λ es. words ++ directory_from format xs from offset es) (drop_all k ends le)) ∙ h

-- a part's payload more
pub payload-more : (xs ends bits whole : List ℕ) (from k : ℕ) → k < length ends → bits ++ payload_from xs from (drop k ends) ≡ whole
    → (bits ++ part_bits (relative_values xs from (get_or ends k 0)) (universe xs from (get_or ends k 0))) ++ payload_from xs (get_or ends k 0) (drop (k + 1) ends) ≡ whole
payload-more xs ends bits whole from k lt h =
    let end : ℕ = get_or ends k 0 in
    append_assoc bits (part_bits (relative_values xs from end) (universe xs from end)) (payload_from xs end (drop (k + 1) ends))
    ∙ sym (ap (λ es. bits ++ payload_from xs from es) (drop_more ends k 0 lt)) ∙ h

pub payload-all : (xs ends bits whole : List ℕ) (from k : ℕ) → length ends ≤ k → bits ++ payload_from xs from (drop k ends) ≡ whole → bits ≡ whole
payload-all xs ends bits whole from k le h =
    sym (append-nil bits) ∙ sym (ap (λ es. bits ++ payload_from xs from es) (drop_all k ends le)) ∙ h

-- what the parts before a place take, and those from it on, is what all parts take
pub payloads-more : (xs ends : List ℕ) (from offset k whole : ℕ) → k < length ends → offset + cost_from (payload_of_part xs) from (drop k ends) ≡ whole
    → offset + payload_of_part xs from (get_or ends k 0) + cost_from (payload_of_part xs) (get_or ends k 0) (drop (k + 1) ends) ≡ whole
payloads-more xs ends from offset k whole lt h = omega (arith, ap (cost_from (payload_of_part xs) from) (drop_more ends k 0 lt), h)

-- so the payload bits before a part are below the greatest offset of an entry
pub payloads-short : PayloadsAreShort → (format : FormatNumbers) → HasRoom format → (xs ends : List ℕ) → IsStrictlyIncreasing xs → All (λ x. x < format.most_sum) xs → length xs ≤ format.most_documents
    → IsPartition (length xs) ends → partition_cost (payload_of_part xs) ends < most_offset
payloads-short short format room xs ends up below few h =
    short xs ends up (below-bound format.most_sum (2 ^ widest_low) xs room.sums below) (omega (arith, few, room.fit)) h

-- the payload of all parts from a place on takes at most two bits for each place behind it
pub payloads-at_most : PartHasRoom → (xs : List ℕ) → IsStrictlyIncreasing xs → (i : ℕ) (ends : List ℕ) → IsPartitionFrom i (length xs) ends
    → cost_from (payload_of_part xs) i ends + 2 * past xs i ≤ 2 * past xs (length xs)
payloads-at_most room xs up i [] h = omega (arith, ap (past xs) h)
payloads-at_most room xs up i (end ∷ ends) h =
    let fit : end ≤ length xs = ends-within end (length xs) ends h.1 in
    omega (arith, payload-short (universe xs i end) (end - i), past-less room xs up i end h.0 fit, payloads-at_most room xs up end ends h.1)

-- so all bits of a sequence are few
pub whole-short : PartLaws → (xs : List ℕ) → IsStrictlyIncreasing xs → All (λ x. x < 2 ^ widest_low) xs → (ends : List ℕ) → IsPartitionFrom 0 (length xs) ends
    → length (payload_from xs 0 ends) ≤ 2 * 2 ^ widest_low
whole-short laws xs up below ends h =
    omega (arith, length-payload laws xs up below 0 ends h, payloads-at_most laws.room xs up 0 ends h, past-most laws.within (2 ^ widest_low) xs below (length xs) (omega arith))

-- a part of bits that fit fits behind those before it
pub part-fits : (xs ends bits whole : List ℕ) (from k most : ℕ) → k < length ends → bits ++ payload_from xs from (drop k ends) ≡ whole → length whole < most
    → length bits + length (part_bits (relative_values xs from (get_or ends k 0)) (universe xs from (get_or ends k 0))) < most
part-fits xs ends bits whole from k most lt h short =
    let end : ℕ = get_or ends k 0 in
    let piece : List ℕ = part_bits (relative_values xs from end) (universe xs from end) in
    omega (arith, ap length (payload-more xs ends bits whole from k lt h), length-append (bits ++ piece) (payload_from xs end (drop (k + 1) ends)), length-append bits piece)

-- what is written of some bits behind others is a prefix of them
pub prefix-of : (old whole bits rest : List ℕ) → bits ++ rest ≡ old ++ whole → length old ≤ length bits → AppendsBits old bits whole
prefix-of old whole bits rest e grown =
    let n : ℕ = length bits - length old in (
      n,
      omega (arith, ap length e, length-append bits rest, length-append old whole),
      sym (take_at bits rest (length bits) refl) ∙ ap (take (length bits)) e
          ∙ ap (λ m. take m (old ++ whole)) (let e : length bits ≡ length old + n = omega arith in e) ∙ take-append-add old whole n,
    )

-- and so it is with a prefix of a part more
pub prefix-part : (xs ends old bits new whole : List ℕ) (from k : ℕ) → k < length ends → bits ++ payload_from xs from (drop k ends) ≡ old ++ whole → length old ≤ length bits
    → AppendsBits bits new (part_bits (relative_values xs from (get_or ends k 0)) (universe xs from (get_or ends k 0))) → AppendsBits old new whole
prefix-part xs ends old bits new whole from k lt h grown prefix =
    let end : ℕ = get_or ends k 0 in
    let piece : List ℕ = part_bits (relative_values xs from end) (universe xs from end) in
    let begun : List ℕ = take prefix.0 piece in
    let left : List ℕ = drop prefix.0 piece in
    let rest : List ℕ = payload_from xs end (drop (k + 1) ends) in
    let both : begun ++ left ≡ piece = take-append-drop prefix.0 piece in
    let behind : (bits ++ begun) ++ (left ++ rest) ≡ old ++ whole =
    sym (append_assoc (bits ++ begun) left rest) ∙ ap (λ ys. ys ++ rest) (append_assoc bits begun left ∙ ap (λ ys. bits ++ ys) both) ∙ payload-more xs ends bits (old ++ whole) from k lt h in
    prefix-of old whole new (left ++ rest) (ap (λ ys. ys ++ (left ++ rest)) prefix.2 ∙ behind) (omega (arith, ap length prefix.2, length-append bits begun))

-- bits that were written behind those of words are in the words behind these
pub words-written : (ws result start new payload : List ℕ) → All (λ w. w < 2 ^ 64) ws → AreBits payload → start ≡ bits_of ws → new ≡ start ++ payload → result ≡ words_of new
    → result ≡ ws ++ words_of payload
words-written ws result start new payload fit are from e words = words ∙ ap words_of (e ∙ ap (λ b. b ++ payload) from) ∙ words-behind ws payload fit are

-- and so is a prefix of them
pub prefix-written : (ws result start new payload : List ℕ) → All (λ w. w < 2 ^ 64) ws → AreBits payload → start ≡ bits_of ws → AppendsBits start new payload → result ≡ words_of new
    → Extends ws result
prefix-written ws result start new payload fit are from prefix words =
    let begun : List ℕ = take prefix.0 payload in
    (words_of begun, words-written ws result start new begun fit (All-take (λ b. b < 2) prefix.0 payload are) from prefix.2 words)

-- words that are extended twice
pub extends-twice : (old mid new more : List ℕ) → mid ≡ old ++ more → Extends mid new → Extends old new
extends-twice old mid new more e h = (more ++ h.0, h.1 ∙ ap (λ xs. xs ++ h.0) e ∙ append_assoc old more h.0)

pub extends-more : (old mid new more : List ℕ) → Extends old mid → new ≡ mid ++ more → Extends old new
extends-more old mid new more h e = extends-twice old mid new h.0 h.1 (more, e)

pub extends-same : (old new : List ℕ) → new ≡ old → Extends old new
extends-same old new e = ([], e ∙ sym (append-nil old))

-- they begin with those that there were
pub extended-prefix : (old new : List ℕ) → Extends old new → take (length old) new ≡ old
extended-prefix old new h = ap (take (length old)) h.1 ∙ take_at old h.0 (length old) refl

-- the relative values that a part is written from
pub relative-given : PartIsRelative → (xs : List ℕ) → IsStrictlyIncreasing xs → (i end u : ℕ) (ys : List ℕ) → i < end → end ≤ length xs → u ≡ universe xs i end → ys ≡ relative_values xs i end
    → AreRelative u (length ys) ys
relative-given relative xs up i end u ys lt fit eu ey =
    let r : AreRelative (universe xs i end) (end - i) (relative_values xs i end) = relative xs up i end lt fit in
    let base : AreRelative (universe xs i end) (length (relative_values xs i end)) (relative_values xs i end) =
    subst (λ n. AreRelative (universe xs i end) n (relative_values xs i end)) (sym r.count) r in
    subst (λ w. AreRelative w (length ys) ys) (sym eu) (subst (λ zs. AreRelative (universe xs i end) (length zs) zs) (sym ey) base)
