use Rattle.std.proofs.Common.{◌≡◌, ℕ, suc, ◌+◌, ◌-◌, ◌*◌, ◌<◌, ◌≤◌, List, [], ◌∷◌, ◌++◌, length, take, drop, map, replicate, get_or, refl, sym, ap, ◌∙◌, subst, arith, add-one, append_assoc}
use Rattle.std.specs.List.{All, flat_map, range_with_len, slice_range}
use Rattle.std.proofs.lemmas.List.{length-take-le, length-drop, length-map, get_or-take, get_or-drop, get_or-map, ext_get_or, drop-drop, drop_all, take-append-drop}
use Rattle.std.proofs.lemmas.List.Folds.{drop_split}
use Rattle.std.proofs.Math.Seq.{drop-append_seam}
use Rattle.collection_model.specs.FormatNumbers.{FormatNumbers, entry_words}
use Rattle.bit_words.specs.Bits.{AreBits, bits_of, padding, words_of}
use Rattle.bit_words.specs.Laws.{BitsOfAppended, BitsOfWords}
use Rattle.bit_words.proofs.Value.{length-bits_of}
use Rattle.bit_words.proofs.Pieces.{StandAt, stands-first, stands-second, stands-between}
use Rattle.part_cost.specs.Payload.{payload}
use Rattle.part_cost.specs.Formats.{HasRoom}
use Rattle.part_cost.specs.Span.{past, universe, payload_of_part, relative_values}
use Rattle.part_cost.specs.Partition.{IsPartitionFrom, cost_from}
use Rattle.part_cost.specs.Stored.{HoldsPart}
use Rattle.part_codec.specs.PartBits.{part_bits}
use Rattle.part_codec.specs.PartValues.{values_at}
use Rattle.part_codec.specs.Laws.{ValuesStandAt}
use Rattle.sequence_words.specs.EntryWords.{entry}
use Rattle.sequence_words.specs.EntryFacts.{most_offset, EntryStates}
use Rattle.sequence_words.specs.SequenceWords.{directory_from, payload_from, sequence_words, IsSequence, BeginsSequence}
use Rattle.sequence_words.specs.SequenceFault.{stated_last, stated_end, stated_offset, end_before, past_before, stated_count, stated_universe, payload_before, first_bit}
use Rattle.sequence_words.specs.SequenceView.{SequenceView, ends_stated, part_stated, sequence_stated}
use Rattle.sequence_words.specs.Laws.{OneSequence, WordsState}
use Rattle.part_cost.proofs.Partitions.{ends-within}
use Rattle.sequence_words.proofs.Lengths.{PartLaws, AreValues, part-takes, bits-payload, length-directory, are-values}
use Rattle.sequence_words.proofs.StatedParts.{below-bound}
use Rattle.sequence_words.proofs.EntryLaws.{entry-is-whole, entry-reads-back}

-- entry q stands at the front of the words from its place on
pub record DirectoryAt (format : FormatNumbers) (words : List ℕ) (q : ℕ) (directory : List ℕ) : Type 0 where
  pub behind : List ℕ
  pub is : drop (entry_words format * q) words ≡ directory ++ behind

-- behind an entry stands the next
pub words-behind : (format : FormatNumbers) (words : List ℕ) (q last end offset : ℕ) (rest : List ℕ)
    → drop (entry_words format * q) words ≡ entry format last end offset ++ rest → drop (entry_words format * suc q) words ≡ rest
words-behind format words q last end offset rest h =
    ap (λ n. drop n words) (let e : entry_words format * suc q ≡ entry_words format * q + entry_words format = omega arith in e)
    ∙ sym (drop-drop (entry_words format) (entry_words format * q) words)
    ∙ ap (drop (entry_words format)) h
    ∙ ap (λ n. drop n (entry format last end offset ++ rest)) (sym (entry-is-whole format last end offset))
    ∙ drop-append_seam (entry format last end offset) rest

-- what one entry of a sequence states
pub record EntryIs (format : FormatNumbers) (words xs : List ℕ) (q i end : ℕ) : Type 0 where
  pub ends : stated_end format words q ≡ end
  pub lasts : stated_last format words q + 1 ≡ past xs end
  pub offsets : stated_offset format words q ≡ payload_before format words q
  pub counts : stated_count format words q ≡ end - i
  pub universes : stated_universe format words q ≡ universe xs i end

-- the parts of a sequence from place i on, whose entries stand from entry q on
pub record StandsFrom (format : FormatNumbers) (words xs : List ℕ) (base q i : ℕ) (ends : List ℕ) : Type 0 where
  pub parts : IsPartitionFrom i (length xs) ends
  pub start : end_before format words q ≡ i
  pub begins : past_before format words q ≡ past xs i
  pub directory : DirectoryAt format words q (directory_from format xs i (payload_before format words q) ends)
  pub payload_bits : StandAt (bits_of words) (base + payload_before format words q) (payload_from xs i ends)
  pub short : payload_before format words q + cost_from (payload_of_part xs) i ends < most_offset
  pub room : HasRoom format

-- past the last value of a part
pub past-part : (format : FormatNumbers) → PartLaws → (xs : List ℕ) → AreValues format xs → (i end : ℕ) → i < end → end ≤ length xs → past xs i < past xs end
past-part format laws xs v i end lt fit = omega (arith, laws.room xs v.rising i end lt fit)

pub past-bounded : PartLaws → (bound : ℕ) (xs : List ℕ) → All (λ x. x < bound) xs → (end : ℕ) → 0 < end → end ≤ length xs → past xs end ≤ bound
past-bounded laws bound xs below end lt fit = omega (arith, laws.within bound xs below 0 end lt fit)

pub entry-is : (format : FormatNumbers) → PartLaws → (words xs : List ℕ) → AreValues format xs → (base q i end : ℕ) (ends : List ℕ) → StandsFrom format words xs base q i (end ∷ ends) → EntryIs format words xs q i end
entry-is format laws words xs v base q i end ends h =
    let fit : end ≤ length xs = ends-within end (length xs) ends h.parts.1 in
    let lt : i < end = h.parts.0 in
    let less : past xs i < past xs end = past-part format laws xs v i end lt fit in
    let most : past xs end ≤ format.most_sum = past-bounded laws format.most_sum xs v.below end (omega arith) fit in
    let o : ℕ = payload_before format words q in
    let rest : List ℕ = directory_from format xs end (o + payload_of_part xs i end) ends in
    let stands : drop (entry_words format * q) words ≡ entry format (past xs end - 1) end o ++ (rest ++ h.directory.behind) =
    h.directory.is ∙ append_assoc (entry format (past xs end - 1) end o) rest h.directory.behind in
    let states : EntryStates format words (entry_words format * q) (past xs end - 1) end o =
    entry-reads-back format h.room words (rest ++ h.directory.behind) (entry_words format * q) (past xs end - 1) end o (omega (arith, most, less)) (omega (arith, h.short)) stands in
    let up : stated_last format words q + 1 ≡ past xs end = omega (arith, states.last_is, less) in
    record {
      ends = states.end_is;
      lasts = up;
      offsets = states.offset_is;
      counts = ap (λ n. n - end_before format words q) states.end_is ∙ ap (λ n. end - n) h.start;
      universes = ap (λ n. n - past_before format words q) up ∙ ap (λ n. past xs end - n) h.begins;
    }

-- the payload before the next part
pub payload-next : (format : FormatNumbers) (words xs : List ℕ) (q i end : ℕ) → EntryIs format words xs q i end
    → payload_before format words (suc q) ≡ payload_before format words q + payload_of_part xs i end
payload-next format words xs q i end h =
    ap (λ n. payload_before format words q + n)
    (ap (λ u. payload u (stated_count format words q)) h.universes ∙ ap (payload (universe xs i end)) h.counts)

pub stands-next : (format : FormatNumbers) → PartLaws → (words xs : List ℕ) → AreValues format xs → (base q i end : ℕ) (ends : List ℕ) → StandsFrom format words xs base q i (end ∷ ends)
    → EntryIs format words xs q i end → StandsFrom format words xs base (suc q) end ends
stands-next format laws words xs v base q i end ends h k =
    let o : ℕ = payload_before format words q in
    let next : payload_before format words (suc q) ≡ o + payload_of_part xs i end = payload-next format words xs q i end k in
    let piece : List ℕ = part_bits (relative_values xs i end) (universe xs i end) in
    let takes : length piece ≡ payload_of_part xs i end = part-takes laws xs v.rising v.in_range i end h.parts.0 (ends-within end (length xs) ends h.parts.1) in
    let place : base + o + length piece ≡ base + payload_before format words (suc q) = omega (arith, next, takes) in
    let rest : List ℕ = directory_from format xs end (o + payload_of_part xs i end) ends in
    record {
      parts = h.parts.1;
      start = k.ends;
      begins = k.lasts;
      directory = record {
        behind = h.directory.behind;
        is =
            words-behind format words q (past xs end - 1) end o (rest ++ h.directory.behind)
            (h.directory.is ∙ append_assoc (entry format (past xs end - 1) end o) rest h.directory.behind)
            ∙ ap (λ n. directory_from format xs end n ends ++ h.directory.behind) (sym next);
      };
      payload_bits = subst (λ n. StandAt (bits_of words) n (payload_from xs end ends)) place (stands-second (bits_of words) (base + o) piece (payload_from xs end ends) h.payload_bits);
      short = omega (arith, next, h.short);
      room = h.room;
    }

-- the payload of all parts
pub payload-all : (format : FormatNumbers) → PartLaws → (words xs : List ℕ) → AreValues format xs → (base q i : ℕ) (ends : List ℕ) → StandsFrom format words xs base q i ends
    → payload_before format words (q + length ends) ≡ payload_before format words q + cost_from (payload_of_part xs) i ends
payload-all format laws words xs v base q i [] h =
    ap (payload_before format words) (let e : q + 0 ≡ q = omega arith in e) ∙ (let e : payload_before format words q ≡ payload_before format words q + 0 = omega arith in e)
payload-all format laws words xs v base q i (end ∷ ends) h =
    let k : EntryIs format words xs q i end = entry-is format laws words xs v base q i end ends h in
    let rest = payload-all format laws words xs v base (suc q) end ends (stands-next format laws words xs v base q i end ends h k) in
    ap (payload_before format words) (let e : q + suc (length ends) ≡ suc q + length ends = omega arith in e)
    ∙ rest ∙ omega (arith, payload-next format words xs q i end k)

-- the bits of part q are those of its relative values
pub holds-part : (format : FormatNumbers) → PartLaws → (words xs : List ℕ) → AreValues format xs → (base q i end : ℕ) (ends : List ℕ) → StandsFrom format words xs base q i (end ∷ ends)
    → HoldsPart part_bits (bits_of words) (base + payload_before format words q) (universe xs i end) (end - i) (relative_values xs i end)
holds-part format laws words xs v base q i end ends h = record {
  values = laws.relative xs v.rising i end h.parts.0 (ends-within end (length xs) ends h.parts.1);
  stored = stands-first (bits_of words) (base + payload_before format words q) (part_bits (relative_values xs i end) (universe xs i end)) (payload_from xs end ends) h.payload_bits;
}

-- a part is its relative values, counted from where it begins
pub restored : (format : FormatNumbers) → PartLaws → (xs : List ℕ) → AreValues format xs → (i end : ℕ) → i < end → end ≤ length xs
    → map (λ y. y + past xs i) (relative_values xs i end) ≡ slice_range xs i end
restored format laws xs v i end lt fit =
    let part : List ℕ = slice_range xs i end in
    let count : length part ≡ end - i = length-take-le (end - i) (drop i xs) (omega (arith, length-drop i xs)) in
    let same : length (map (λ y. y + past xs i) (relative_values xs i end)) ≡ length part =
    length-map (relative_values xs i end) (λ y. y + past xs i) ∙ length-map part (λ x. x - past xs i) in
    ext_get_or 0 (map (λ y. y + past xs i) (relative_values xs i end)) part same
    (λ k h.
    let short : k < length part = omega arith in
    let inner : k < length (relative_values xs i end) = omega (arith, length-map part (λ x. x - past xs i)) in
    let at : get_or part k 0 ≡ get_or xs (i + k) 0 = get_or-take (end - i) (drop i xs) k 0 (omega arith) ∙ get_or-drop i xs k 0 in
    let above : past xs i < past xs (suc (i + k)) = past-part format laws xs v i (suc (i + k)) (omega arith) (omega arith) in
    get_or-map (λ y. y + past xs i) (relative_values xs i end) k 0 0 inner
    ∙ ap (λ y. y + past xs i) (get_or-map (λ x. x - past xs i) part k 0 0 short)
    ∙ omega (arith, at, above))

-- what the words state from entry q on
pub ends-are : (format : FormatNumbers) → PartLaws → (words xs : List ℕ) → AreValues format xs → (base q i : ℕ) (ends : List ℕ) → StandsFrom format words xs base q i ends
    → map (stated_end format words) (range_with_len q (length ends)) ≡ ends
ends-are format laws words xs v base q i [] h = refl
ends-are format laws words xs v base q i (end ∷ ends) h =
    let k : EntryIs format words xs q i end = entry-is format laws words xs v base q i end ends h in
    ap (λ a. stated_end format words q ∷ map (stated_end format words) (range_with_len a (length ends))) (add-one q)
    ∙ ap (λ e. e ∷ map (stated_end format words) (range_with_len (suc q) (length ends))) k.ends
    ∙ ap (λ es. end ∷ es) (ends-are format laws words xs v base (suc q) end ends (stands-next format laws words xs v base q i end ends h k))

pub part-stated : (format : FormatNumbers) → PartLaws → ValuesStandAt → (words xs : List ℕ) → AreValues format xs → (parts q i end : ℕ) (ends : List ℕ)
    → StandsFrom format words xs (first_bit format parts) q i (end ∷ ends) → EntryIs format words xs q i end → part_stated format words parts q ≡ slice_range xs i end
part-stated format laws stand words xs v parts q i end ends h k =
    let place : ℕ = first_bit format parts + payload_before format words q in
    let ys : List ℕ = relative_values xs i end in
    let are : values_at (bits_of words) place (stated_universe format words q) (stated_count format words q) ≡ ys =
    ap (λ u. values_at (bits_of words) place u (stated_count format words q)) k.universes
    ∙ ap (values_at (bits_of words) place (universe xs i end)) k.counts
    ∙ stand (bits_of words) place (universe xs i end) (end - i) ys (holds-part format laws words xs v (first_bit format parts) q i end ends h) in
    ap (map (λ y. y + past_before format words q)) are ∙ ap (λ p. map (λ y. y + p) ys) h.begins
    ∙ restored format laws xs v i end h.parts.0 (ends-within end (length xs) ends h.parts.1)

pub values-are : (format : FormatNumbers) → PartLaws → ValuesStandAt → (words xs : List ℕ) → AreValues format xs → (parts q i : ℕ) (ends : List ℕ)
    → StandsFrom format words xs (first_bit format parts) q i ends → flat_map (part_stated format words parts) (range_with_len q (length ends)) ≡ drop i xs
values-are format laws stand words xs v parts q i [] h = sym (drop_all i xs (let e : length xs ≤ i = omega (arith, h.parts) in e))
values-are format laws stand words xs v parts q i (end ∷ ends) h =
    let base : ℕ = first_bit format parts in
    let k : EntryIs format words xs q i end = entry-is format laws words xs v base q i end ends h in
    let rest = values-are format laws stand words xs v parts (suc q) end ends (stands-next format laws words xs v base q i end ends h k) in
    ap (λ a. part_stated format words parts q ++ flat_map (part_stated format words parts) (range_with_len a (length ends))) (add-one q)
    ∙ ap (λ ys. ys ++ flat_map (part_stated format words parts) (range_with_len (suc q) (length ends))) (part-stated format laws stand words xs v parts q i end ends h k)
    ∙ ap (λ ys. slice_range xs i end ++ ys) rest
    ∙ sym (drop_split xs i end (let e : i ≤ end = omega (arith, h.parts.0) in e))

-- the bits of words that begin with a sequence: those of the directory, the payload with its zeros, and what is behind
pub split-bits : PartLaws → BitsOfAppended → BitsOfWords → (words directory payload behind : List ℕ) → AreBits payload
    → words ≡ (directory ++ words_of payload) ++ behind → bits_of words ≡ bits_of directory ++ (payload ++ (replicate (padding (length payload)) 0 ++ bits_of behind))
split-bits laws appended filled words directory payload behind bits e =
    let zeros : List ℕ = replicate (padding (length payload)) 0 in
    ap bits_of e ∙ appended (directory ++ words_of payload) behind
    ∙ ap (λ xs. xs ++ bits_of behind) (appended directory (words_of payload) ∙ ap (λ xs. bits_of directory ++ xs) (filled payload bits))
    ∙ append_assoc (bits_of directory) (payload ++ zeros) (bits_of behind)
    ∙ ap (λ xs. bits_of directory ++ xs) (append_assoc payload zeros (bits_of behind))

-- the values of a sequence below a bound of the format
pub values-of : (format : FormatNumbers) (room : HasRoom format) (m bound parts : ℕ) (xs ends words : List ℕ) → bound ≤ format.most_sum → IsSequence format m bound parts xs ends words → AreValues format xs
values-of format room m bound parts xs ends words fits s = are-values format room xs s.rising (below-bound bound format.most_sum xs fits s.below)

pub begins-split : (words sequence : List ℕ) (used : ℕ) → take used words ≡ sequence → words ≡ sequence ++ drop used words
begins-split words sequence used e = sym (take-append-drop used words) ∙ ap (λ xs. xs ++ drop used words) e

pub stands-whole : (format : FormatNumbers) → HasRoom format → PartLaws → BitsOfAppended → BitsOfWords → (m bound parts used : ℕ) (xs ends words : List ℕ) → bound ≤ format.most_sum
    → BeginsSequence format m bound parts xs ends words used → StandsFrom format words xs (first_bit format parts) 0 0 ends
stands-whole format room laws appended filled m bound parts used xs ends words fits b =
    let s = b.sequence in
    let directory : List ℕ = directory_from format xs 0 0 ends in
    let payload : List ℕ = payload_from xs 0 ends in
    let behind : List ℕ = drop used words in
    let split : words ≡ (directory ++ words_of payload) ++ behind = begins-split words (directory ++ words_of payload) used s.spelled in
    let zeros : List ℕ = replicate (padding (length payload)) 0 in
    let bits : bits_of words ≡ bits_of directory ++ (payload ++ (zeros ++ bits_of behind)) =
    split-bits laws appended filled words directory payload behind (bits-payload laws xs 0 ends) split in
    let base : length (bits_of directory) ≡ first_bit format parts + 0 = omega (arith, length-bits_of directory, length-directory format xs 0 0 ends, ap (λ n. entry_words format * n) s.parts_count) in
    record {
      parts = subst (λ n. IsPartitionFrom 0 n ends) (sym s.count) s.partition;
      start = refl;
      begins = refl;
      directory = record {
        behind = words_of payload ++ behind;
        is = ap (λ n. drop n words) (let e : entry_words format * 0 ≡ 0 = omega arith in e) ∙ split ∙ append_assoc directory (words_of payload) behind;
      };
      payload_bits = subst (λ xs. StandAt xs (first_bit format parts + 0) payload) (sym bits) (stands-between (bits_of directory) payload (zeros ++ bits_of behind) (first_bit format parts + 0) base);
      short = (let v : AreValues format xs = values-of format room m bound parts xs ends (take used words) fits s in
          omega (arith, laws.short xs ends s.rising v.in_range (omega (arith, s.count, s.few)) (subst (λ n. IsPartitionFrom 0 n ends) (sym s.count) s.partition)));
      room = room;
    }

-- words that begin with a sequence state it
pub stated-is : (format : FormatNumbers) (room : HasRoom format) → PartLaws → BitsOfAppended → BitsOfWords → ValuesStandAt → (m bound parts used : ℕ) (xs ends words : List ℕ) → bound ≤ format.most_sum
    → BeginsSequence format m bound parts xs ends words used
    → (flat_map (part_stated format words parts) (range_with_len 0 parts) ≡ xs) × (ends_stated format words parts ≡ ends)
stated-is format room laws appended filled stand m bound parts used xs ends words fits b =
    let v : AreValues format xs = values-of format room m bound parts xs ends (take used words) fits b.sequence in
    let whole = stands-whole format room laws appended filled m bound parts used xs ends words fits b in (
      ap (λ n. flat_map (part_stated format words parts) (range_with_len 0 n)) (sym b.sequence.parts_count) ∙ values-are format laws stand words xs v parts 0 0 ends whole,
      ap (λ n. map (stated_end format words) (range_with_len 0 n)) (sym b.sequence.parts_count) ∙ ends-are format laws words xs v (first_bit format parts) 0 0 ends whole,
    )

pub one-sequence : (format : FormatNumbers) (room : HasRoom format) → PartLaws → BitsOfAppended → BitsOfWords → ValuesStandAt → OneSequence format
one-sequence format room laws appended filled stand m bound other parts used taken xs ys ends cuts words fits fit b c =
    let x = stated-is format room laws appended filled stand m bound parts used xs ends words fits b in
    let y = stated-is format room laws appended filled stand m other parts taken ys cuts words fit c in
    let same : xs ≡ ys = sym x.0 ∙ y.0 in
    let same_ends : ends ≡ cuts = sym x.1 ∙ y.1 in
    let long : used ≡ length (sequence_words format xs ends) = sym (length-take-le used words b.within) ∙ ap length b.sequence.spelled in
    let short : taken ≡ length (sequence_words format ys cuts) = sym (length-take-le taken words c.within) ∙ ap length c.sequence.spelled in (
      same,
      same_ends,
      long ∙ ap (λ zs. length (sequence_words format zs ends)) same ∙ ap (λ es. length (sequence_words format ys es)) same_ends ∙ sym short,
    )

pub view-is : (format : FormatNumbers) (room : HasRoom format) → PartLaws → BitsOfAppended → BitsOfWords → ValuesStandAt → WordsState format
unfolding sequence_stated
view-is format room laws appended filled stand m bound parts used xs ends words fits b =
    let make : List ℕ → List ℕ → SequenceView = λ xs ends. record { format = format; values = xs; ends = ends } in
    let both = stated-is format room laws appended filled stand m bound parts used xs ends words fits b in
    ap (λ xs. make xs (ends_stated format words parts)) both.0 ∙ ap (make xs) both.1
