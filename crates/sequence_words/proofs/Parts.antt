use Rattle.std.proofs.Common.{◌≡◌, ℕ, zero, suc, ◌+◌, ◌-◌, ◌*◌, ◌<◌, ◌≤◌, List, [], ◌∷◌, length, take, drop, get_or, slice_index, refl, sym, ap, ◌∙◌, subst, arith}
use Rattle.std.specs.List.{slice_range}
use Rattle.std.proofs.lemmas.List.{length-take-le, length-drop, get_or-take, get_or-drop, get_or-map}
use Rattle.collection_model.specs.FormatNumbers.{FormatNumbers, entry_words, part_charge}
use Rattle.bit_words.specs.Bits.{bits_of}
use Rattle.bit_words.specs.Laws.{BitsOfAppended, BitsOfWords}
use Rattle.part_cost.specs.Formats.{HasRoom}
use Rattle.part_cost.specs.Span.{past, universe, relative_values, payload_of_part, cost_of_part}
use Rattle.part_cost.specs.Partition.{cost_from, partition_cost}
use Rattle.part_cost.specs.Stored.{HoldsPart}
use Rattle.part_codec.specs.PartBits.{part_bits}
use Rattle.sequence_words.specs.SequenceWords.{sequence_words, BeginsSequence}
use Rattle.sequence_words.specs.SequenceFault.{stated_end, end_before, payload_before, word_behind, first_bit, PassChecks}
use Rattle.sequence_words.specs.SequenceView.{SequenceView, BeginWith, sequence_stated, words_used}
use Rattle.sequence_words.specs.SequenceParts.{StatesPart, Restores}
use Rattle.sequence_words.specs.Laws.{DirectoryStates}
use Rattle.part_cost.proofs.Partitions.{ends-within, charges}
use Rattle.sequence_words.proofs.Lengths.{PartLaws, AreValues, length-sequence}
use Rattle.sequence_words.proofs.Stated.{EntryIs, StandsFrom, past-part, past-bounded, entry-is, stands-next, payload-all, holds-part, values-of, stands-whole}
use Rattle.std.proofs.lemmas.Bool.{eq-eqb}
use Rattle.sequence_words.proofs.Follows.{fits-begun, some-parts, follows-at}
use Rattle.sequence_words.proofs.Entries.{payload-rises}

-- part q stands from where the entry before it says up to where its own says
pub record PartStands (format : FormatNumbers) (words xs : List ℕ) (parts q : ℕ) : Type 0 where
  pub rest : List ℕ
  pub stands : StandsFrom format words xs (first_bit format parts) q (end_before format words q) (stated_end format words q ∷ rest)

pub part-stands : (format : FormatNumbers) → PartLaws → (words xs : List ℕ) → AreValues format xs → (parts q i : ℕ) (ends : List ℕ) → StandsFrom format words xs (first_bit format parts) q i ends
    → (j : ℕ) → j < length ends → PartStands format words xs parts (q + j)
part-stands format laws words xs v parts q i [] h j lt = absurd (omega (arith, lt))
part-stands format laws words xs v parts q i (end ∷ ends) h zero lt =
    let base : ℕ = first_bit format parts in
    let k : EntryIs format words xs q i end = entry-is format laws words xs v base q i end ends h in
    let here : PartStands format words xs parts q =
    record {
      rest = ends;
      stands =
          subst (λ e. StandsFrom format words xs base q (end_before format words q) (e ∷ ends)) (sym k.ends)
          (subst (λ b. StandsFrom format words xs base q b (end ∷ ends)) (sym h.start) h);
    } in
    subst (PartStands format words xs parts) (let e : q ≡ q + 0 = omega arith in e) here
part-stands format laws words xs v parts q i (end ∷ ends) h (suc j) lt =
    let base : ℕ = first_bit format parts in
    let k : EntryIs format words xs q i end = entry-is format laws words xs v base q i end ends h in
    subst (PartStands format words xs parts) (let e : suc q + j ≡ q + suc j = omega arith in e)
    (part-stands format laws words xs v parts (suc q) end ends (stands-next format laws words xs v base q i end ends h k) j (omega (arith, lt)))

-- a value of a part, by its relative value
pub restored-at : (format : FormatNumbers) → PartLaws → (xs : List ℕ) → AreValues format xs → (i end j : ℕ) → i + j < end → end ≤ length xs
    → slice_index (relative_values xs i end) j + past xs i ≡ slice_index xs (i + j)
restored-at format laws xs v i end k h fit =
    let part : List ℕ = slice_range xs i end in
    let count : length part ≡ end - i = length-take-le (end - i) (drop i xs) (omega (arith, length-drop i xs)) in
    let short : k < length part = omega arith in
    let at : get_or part k 0 ≡ get_or xs (i + k) 0 = get_or-take (end - i) (drop i xs) k 0 (omega arith) ∙ get_or-drop i xs k 0 in
    let above : past xs i < past xs (suc (i + k)) = past-part format laws xs v i (suc (i + k)) (omega arith) (omega arith) in
    omega (arith, get_or-map (λ x. x - past xs i) part k 0 0 short, at, above)

-- entry q of words that begin with a sequence states its part
pub states-part : (format : FormatNumbers) (room : HasRoom format) → PartLaws → BitsOfAppended → BitsOfWords → (m bound parts used : ℕ) (xs ends words : List ℕ) → bound ≤ format.most_sum
    → BeginsSequence format m bound parts xs ends words used → (q : ℕ) → q < parts → StatesPart format words xs parts q
states-part format room laws appended filled m bound parts used xs ends words fits b q lt =
    let base : ℕ = first_bit format parts in
    let a : AreValues format xs = values-of format room m bound parts xs ends (take used words) fits b.sequence in
    let whole = stands-whole format room laws appended filled m bound parts used xs ends words fits b in
    let pass : PassChecks format words parts m bound = fits-begun format room laws appended filled m bound parts used xs ends words fits b in
    let p : PartStands format words xs parts (0 + q) = part-stands format laws words xs a parts 0 0 ends whole q (omega (arith, lt, b.sequence.parts_count)) in
    let p : PartStands format words xs parts q = subst (PartStands format words xs parts) (let e : 0 + q ≡ q = omega arith in e) p in
    let i : ℕ = end_before format words q in
    let end : ℕ = stated_end format words q in
    let h = p.stands in
    let k : EntryIs format words xs q i end = entry-is format laws words xs a base q i end p.rest h in
    let some : i < end = h.parts.0 in
    let fit : end ≤ length xs = ends-within end (length xs) p.rest h.parts.1 in
    let less : past xs i < past xs end = past-part format laws xs a i end some fit in
    let most : past xs end ≤ format.most_sum = past-bounded laws format.most_sum xs a.below end (omega arith) fit in
    let wide : end - i ≤ universe xs i end = laws.room xs a.rising i end some fit in
    let held : HoldsPart part_bits (bits_of words) (base + payload_before format words q) (universe xs i end) (end - i) (relative_values xs i end) = holds-part format laws words xs a base q i end p.rest h in
    let rises = payload-rises format words (suc q) (parts - suc q) in
    let all = ap (payload_before format words) (let e : suc q + (parts - suc q) ≡ parts = omega (arith, lt) in e) in
    record {
      some = some;
      within = fit;
      before = h.begins;
      last = k.lasts;
      small = omega (arith, k.lasts, most);
      offset = k.offsets;
      room = omega (arith, k.lasts, h.begins, wide);
      above = omega (arith, k.lasts, h.begins, less);
      place = omega (arith, pass.within, rises, all);
      held =
          subst (λ u. HoldsPart part_bits (bits_of words) (base + payload_before format words q) u (end - i) (relative_values xs i end)) (sym k.universes) held;
      restored = subst (Restores xs i end) (sym h.begins) (λ j less. restored-at format laws xs a i end j less fit);
    }

module _ (format : FormatNumbers) (room : HasRoom format) (laws : PartLaws) (appended : BitsOfAppended) (filled : BitsOfWords) (m bound parts used : ℕ) (xs ends words : List ℕ) (fits : bound ≤ format.most_sum) (b : BeginsSequence format m bound parts xs ends words used) where
  are : AreValues format xs
  are = values-of format room m bound parts xs ends (take used words) fits b.sequence

  whole : StandsFrom format words xs (first_bit format parts) 0 0 ends
  whole = stands-whole format room laws appended filled m bound parts used xs ends words fits b

  payload-is : payload_before format words parts ≡ cost_from (payload_of_part xs) 0 ends
  payload-is =
      let total : payload_before format words (0 + length ends) ≡ 0 + cost_from (payload_of_part xs) 0 ends = payload-all format laws words xs are (first_bit format parts) 0 0 ends whole in
      let count : 0 + length ends ≡ parts = omega (arith, b.sequence.parts_count) in
      omega (arith, total, ap (payload_before format words) count)

  -- how many words a sequence takes
  pub used-is : length (sequence_words format xs ends) ≡ word_behind format words parts
  used-is = omega (arith, length-sequence format laws xs are ends whole.parts, payload-is, ap (λ n. entry_words format * n) b.sequence.parts_count)

  -- what its parts cost
  pub cost-is : partition_cost (cost_of_part (part_charge format) xs) ends ≡ first_bit format parts + payload_before format words parts
  cost-is = omega (arith, charges format xs 0 ends, payload-is, ap (λ n. entry_words format * n) b.sequence.parts_count)

end-whole : (format : FormatNumbers) (words : List ℕ) (parts m bound : ℕ) → PassChecks format words parts m bound → (ends : List ℕ) → (length ends ≡ 0 → m ≡ 0) → length ends ≡ parts → end_before format words parts ≡ m
end-whole format words zero m bound pass ends none count = sym (none count)
end-whole format words (suc q) m bound pass ends none count = (follows-at format words (suc q) m bound q (pass.entries q (omega arith))).whole (eq-eqb (q + 1) (suc q) (omega arith))

-- the view that words state is in their format
in-format : (format : FormatNumbers) (words : List ℕ) (parts m : ℕ) → BeginWith words parts m (sequence_stated format words parts)
    → (bound : ℕ) × (used : ℕ) × (bound ≤ format.most_sum) × BeginsSequence format m bound parts (sequence_stated format words parts).values (sequence_stated format words parts).ends words used
unfolding sequence_stated
in-format format words parts m b = b

words-in-format : (format : FormatNumbers) (words : List ℕ) (parts : ℕ)
    → words_used (sequence_stated format words parts) ≡ length (sequence_words format (sequence_stated format words parts).values (sequence_stated format words parts).ends)
unfolding sequence_stated
words-in-format format words parts = refl

-- the directory of words that begin with a sequence states its parts
pub directory-states : (format : FormatNumbers) (room : HasRoom format) → PartLaws → BitsOfAppended → BitsOfWords → DirectoryStates format
directory-states format room laws appended filled words parts m b =
    let begun = in-format format words parts m b in
    let bound = begun.0 in
    let used = begun.1 in
    let s = begun.3.sequence in
    let v : SequenceView = sequence_stated format words parts in
    let a : AreValues format v.values = values-of format room m bound parts v.values v.ends (take used words) begun.2 s in
    let pass : PassChecks format words parts m bound = fits-begun format room laws appended filled m bound parts used v.values v.ends words begun.2 begun.3 in
    record {
      rising = a.rising;
      below = a.below;
      room = pass.room;
      end = end-whole format words parts m bound pass v.ends (some-parts m v.ends s.partition) s.parts_count ∙ sym s.count;
      used = words-in-format format words parts ∙ used-is format room laws appended filled m bound parts used v.values v.ends words begun.2 begun.3;
      cost = cost-is format room laws appended filled m bound parts used v.values v.ends words begun.2 begun.3;
      part = states-part format room laws appended filled m bound parts used v.values v.ends words begun.2 begun.3;
    }
