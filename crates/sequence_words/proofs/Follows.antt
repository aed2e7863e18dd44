use Rattle.std.proofs.Common.{◌≡◌, ℕ, zero, suc, ◌+◌, ◌-◌, ◌*◌, ◌/◌, ◌%◌, ◌<◌, ◌≤◌, Bool, true, false, List, [], ◌∷◌, ◌++◌, length, take, drop, replicate, get_or, refl, inl, inr, sym, ap, ◌∙◌, subst, arith}
use Rattle.std.specs.Prelude.{◌||◌, ◌&&◌, ◌==◌, not, nat_le, nat_lt, MatchBool}
use Rattle.std.specs.List.{All}
use Rattle.std.proofs.lemmas.Bool.{both_ways, not-false, and_parts, and_from, or_from, leb-true, ltb-true, le-leb, le-ltb, lt-ltb, eqb-true, eq-eqb, not_from_true}
use Rattle.std.proofs.lemmas.Bool.Decides.{nat_tests}
use Rattle.std.proofs.lemmas.List.{length-replicate, get_or-append_right, get_or_append_left, get_or-replicate, length-take-le}
use Rattle.collection_model.specs.FormatNumbers.{FormatNumbers, entry_words}
use Rattle.bit_words.specs.Bits.{bits_of, padding, words_of, HasNoOne}
use Rattle.bit_words.specs.Laws.{BitsOfAppended, BitsOfWords}
use Rattle.bit_words.proofs.Value.{length-bits_of}
use Rattle.part_cost.specs.Formats.{HasRoom}
use Rattle.part_cost.specs.Span.{past, universe, payload_of_part, relative_values}
use Rattle.part_cost.specs.Partition.{IsPartitionFrom, cost_from}
use Rattle.part_cost.proofs.Partitions.{ends-within, few-parts}
use Rattle.part_cost.specs.Stored.{HoldsPart}
use Rattle.part_codec.specs.PartBits.{part_bits}
use Rattle.sequence_words.specs.declared.check.Check.{Check}
use Rattle.sequence_words.specs.declared.check.Check.TheVariants.{K6, K7, K8, K9}
use Rattle.sequence_words.specs.SequenceWords.{directory_from, payload_from, BeginsSequence}
use Rattle.sequence_words.specs.SequenceFault.{OrElse, FirstOf, stated_last, stated_end, stated_offset, end_before, past_before, stated_count, stated_universe, payload_before, word_behind, first_bit, parts_fit, may_follow, entry_breaks, IsPartStored, PassChecks, IsSequenceFault}
use Rattle.sequence_words.proofs.Choices.{unmatch}
use Rattle.sequence_words.proofs.Lengths.{PartLaws, AreValues, length-payload, bits-payload, length-directory, length-sequence}
use Rattle.sequence_words.proofs.Stated.{EntryIs, StandsFrom, past-part, past-bounded, entry-is, stands-next, payload-all, holds-part, split-bits, values-of, begins-split, stands-whole}

-- a test that counts only where another is true
implied : (a b : Bool) → (not a || b) ≡ true → a ≡ true → b ≡ true
implied true b h k = h
implied false b h k = cc

from-implied : (a b : Bool) → (a ≡ true → b ≡ true) → (not a || b) ≡ true
from-implied true b h = h refl
from-implied false b h = refl

-- an entry that follows what is before it
pub record Follows (m bound before past bits : ℕ) (is_last : Bool) (end last offset : ℕ) : Type 0 where
  pub up : before < end
  pub within : end ≤ m
  pub below : last < bound
  pub above : past ≤ last
  pub room : end - before ≤ last + 1 - past
  pub offsets : offset ≡ bits
  pub whole : is_last ≡ true → end ≡ m

-- all of seven tests
seven : (a b c d e f g : Bool) → (a && b && c && d && e && f && g) ≡ true → (a ≡ true) × (b ≡ true) × (c ≡ true) × (d ≡ true) × (e ≡ true) × (f ≡ true) × (g ≡ true)
seven a b c d e f g h =
    let g7 = and_parts (a && b && c && d && e && f) g h in
    let g6 = and_parts (a && b && c && d && e) f g7.0 in
    let g5 = and_parts (a && b && c && d) e g6.0 in
    let g4 = and_parts (a && b && c) d g5.0 in
    let g3 = and_parts (a && b) c g4.0 in
    let g2 = and_parts a b g3.0 in
    (g2.0, g2.1, g3.1, g4.1, g5.1, g6.1, g7.1)

seven-true : (a b c d e f g : Bool) → a ≡ true → b ≡ true → c ≡ true → d ≡ true → e ≡ true → f ≡ true → g ≡ true → (a && b && c && d && e && f && g) ≡ true
seven-true a b c d e f g ha hb hc hd he hf hg =
    and_from (a && b && c && d && e && f) g
    (and_from (a && b && c && d && e) f (and_from (a && b && c && d) e (and_from (a && b && c) d (and_from (a && b) c (and_from a b ha hb) hc) hd) he) hf) hg

pub follows-from : (m bound before past bits : ℕ) (is_last : Bool) (end last offset : ℕ) → may_follow m bound before past bits is_last end last offset ≡ true
    → Follows m bound before past bits is_last end last offset
follows-from m bound before past bits is_last end last offset h =
    let t = seven (nat_lt before end) (nat_le end m) (nat_lt last bound) (nat_le past last) (nat_le (end - before) (last + 1 - past)) (offset == bits) (not is_last || end == m) h in
    record {
      up = ltb-true before end t.0;
      within = leb-true end m t.1;
      below = ltb-true last bound t.2;
      above = leb-true past last t.3;
      room = leb-true (end - before) (last + 1 - past) t.4;
      offsets = eqb-true offset bits t.5;
      whole = λ k. eqb-true end m (implied is_last (end == m) t.6 k);
    }

pub follows-test : (m bound before past bits : ℕ) (is_last : Bool) (end last offset : ℕ) → Follows m bound before past bits is_last end last offset
    → may_follow m bound before past bits is_last end last offset ≡ true
follows-test m bound before past bits is_last end last offset h =
    seven-true (nat_lt before end) (nat_le end m) (nat_lt last bound) (nat_le past last) (nat_le (end - before) (last + 1 - past)) (offset == bits) (not is_last || end == m)
    (lt-ltb before end h.up) (le-leb end m h.within) (lt-ltb last bound h.below) (le-leb past last h.above) (le-leb (end - before) (last + 1 - past) h.room) (eq-eqb offset bits h.offsets)
    (from-implied is_last (end == m) (λ k. eq-eqb end m (h.whole k)))

-- entry q of the words follows the entries before it
abbrev pub FollowsAt : FormatNumbers → List ℕ → ℕ → ℕ → ℕ → ℕ → Type 0
FollowsAt format words parts m bound q =
    Follows m bound (end_before format words q) (past_before format words q) (payload_before format words q) (q + 1 == parts)
    (stated_end format words q) (stated_last format words q) (stated_offset format words q)

pub follows-at : (format : FormatNumbers) (words : List ℕ) (parts m bound q : ℕ) → entry_breaks format words parts m bound q ≡ false → FollowsAt format words parts m bound q
follows-at format words parts m bound q h =
    let before : ℕ = end_before format words q in
    let past : ℕ = past_before format words q in
    let bits : ℕ = payload_before format words q in
    let end : ℕ = stated_end format words q in
    let last : ℕ = stated_last format words q in
    let offset : ℕ = stated_offset format words q in
    follows-from m bound before past bits (q + 1 == parts) end last offset (not-false (may_follow m bound before past bits (q + 1 == parts) end last offset) h)

pub at-follows : (format : FormatNumbers) (words : List ℕ) (parts m bound q : ℕ) → FollowsAt format words parts m bound q → entry_breaks format words parts m bound q ≡ false
at-follows format words parts m bound q h =
    ap not
    (follows-test m bound (end_before format words q) (past_before format words q) (payload_before format words q) (q + 1 == parts)
    (stated_end format words q) (stated_last format words q) (stated_offset format words q) h)

-- the checks, from the last one
abbrev pub Found : Check → ℕ → Check → ℕ → Type 0
Found check part k q = (check ≡ k) × (part ≡ q)

abbrev pub PaddingStep : FormatNumbers → List ℕ → ℕ → Check → ℕ → Type 0
PaddingStep format words parts check part =
    OrElse (¬ HasNoOne (bits_of words) (first_bit format parts + payload_before format words parts) (64 * word_behind format words parts)) (Found check part K9 0) ⊥

abbrev pub PartsStep : FormatNumbers → List ℕ → ℕ → Check → ℕ → Type 0
PartsStep format words parts check part = FirstOf (λ q. ¬ IsPartStored format words parts q) parts (Found check part K8) (PaddingStep format words parts check part)

abbrev pub BehindStep : FormatNumbers → List ℕ → ℕ → Check → ℕ → Type 0
BehindStep format words parts check part =
    MatchBool (nat_lt (length words) (word_behind format words parts)) (Found check part K7 parts) (PartsStep format words parts check part)

abbrev pub EntriesStep : FormatNumbers → List ℕ → ℕ → ℕ → ℕ → Check → ℕ → Type 0
EntriesStep format words parts m bound check part =
    FirstOf (λ q. entry_breaks format words parts m bound q ≡ true) parts (Found check part K7) (BehindStep format words parts check part)

pub prefix-test : (format : FormatNumbers) (words : List ℕ) (parts m : ℕ) → parts_fit m parts ≡ true → entry_words format * parts ≤ length words → (not (parts_fit m parts) || nat_lt (length words) (entry_words format * parts)) ≡ false
prefix-test format words parts m h k = or_from (not (parts_fit m parts)) (nat_lt (length words) (entry_words format * parts)) (not_from_true (parts_fit m parts) h) (le-ltb (length words) (entry_words format * parts) k)

pub no-fault : (format : FormatNumbers) (words : List ℕ) (parts m bound : ℕ) (check : Check) (part : ℕ) → PassChecks format words parts m bound → IsSequenceFault format words parts m bound check part → ⊥
no-fault format words parts m bound check part fit h =
    let first : EntriesStep format words parts m bound check part =
    unmatch (not (parts_fit m parts) || nat_lt (length words) (entry_words format * parts)) ((check ≡ K6) × (part ≡ 0)) (EntriesStep format words parts m bound check part) (prefix-test format words parts m fit.parts_are fit.room) h in
    elim first [
      | inl (q, lt, breaks, before, found) ↦ both_ways (entry_breaks format words parts m bound q) (fit.entries q lt) breaks
      | inr (none, later) ↦
          let parts_step : PartsStep format words parts check part =
          unmatch (nat_lt (length words) (word_behind format words parts)) (Found check part K7 parts) (PartsStep format words parts check part) (le-ltb (length words) (word_behind format words parts) fit.within) later in
          elim parts_step [
            | inl (q, lt, missing, before, found) ↦ missing (fit.stored q lt)
            | inr (none, later) ↦ elim later [ inl (ones, found) ↦ ones fit.filled | inr (zeros, nothing) ↦ nothing ]
          ]
    ]

-- how many parts there are
pub some-parts : (n : ℕ) (ends : List ℕ) → IsPartitionFrom 0 n ends → length ends ≡ 0 → n ≡ 0
some-parts n [] h e = sym h
some-parts n (end ∷ ends) h e = absurd (omega (arith, e))

pub count-fits : (m parts : ℕ) → parts ≤ m → (parts ≡ 0 → m ≡ 0) → parts_fit m parts ≡ true
count-fits zero zero h k = refl
count-fits zero (suc parts) h k = absurd (omega (arith, h))
count-fits (suc m) zero h k = absurd (let e : suc m ≡ 0 = k refl in omega (arith, e))
count-fits (suc m) (suc parts) h k = grind (arith, nat_tests)

pub last-end : (end n : ℕ) (ends : List ℕ) → length ends ≡ 0 → IsPartitionFrom end n ends → end ≡ n
last-end end n [] e h = h
last-end end n (next ∷ ends) e h = absurd (omega (arith, e))

-- the entries of a sequence follow each other
pub entry-follows : (format : FormatNumbers) → PartLaws → (words xs : List ℕ) → AreValues format xs → (bound : ℕ) → All (λ x. x < bound) xs → (base parts q i end : ℕ) (ends : List ℕ) → q + suc (length ends) ≡ parts
    → StandsFrom format words xs base q i (end ∷ ends) → FollowsAt format words parts (length xs) bound q
entry-follows format laws words xs v bound below base parts q i end ends count h =
    let k : EntryIs format words xs q i end = entry-is format laws words xs v base q i end ends h in
    let fit : end ≤ length xs = ends-within end (length xs) ends h.parts.1 in
    let lt : i < end = h.parts.0 in
    let less : past xs i < past xs end = past-part format laws xs v i end lt fit in
    let most : past xs end ≤ bound = past-bounded laws bound xs below end (omega arith) fit in
    let room : end - i ≤ universe xs i end = laws.room xs v.rising i end lt fit in
    record {
      up = omega (arith, h.start, k.ends, lt);
      within = omega (arith, k.ends, fit);
      below = omega (arith, k.lasts, most);
      above = omega (arith, k.lasts, h.begins, less);
      room = omega (arith, k.lasts, h.begins, k.ends, h.start, room);
      offsets = k.offsets;
      whole =
          λ t.
          let last : q + 1 ≡ parts = eqb-true (q + 1) parts t in
          k.ends ∙ last-end end (length xs) ends (omega (arith, last, count)) h.parts.1;
    }

pub entries-follow : (format : FormatNumbers) → PartLaws → (words xs : List ℕ) → AreValues format xs → (bound : ℕ) → All (λ x. x < bound) xs → (base parts q i : ℕ) (ends : List ℕ) → q + length ends ≡ parts
    → StandsFrom format words xs base q i ends → (j : ℕ) → j < length ends → FollowsAt format words parts (length xs) bound (q + j)
entries-follow format laws words xs v bound below base parts q i [] count h j lt = absurd (omega (arith, lt))
entries-follow format laws words xs v bound below base parts q i (end ∷ ends) count h zero lt =
    subst (FollowsAt format words parts (length xs) bound) (let e : q ≡ q + 0 = omega arith in e) (entry-follows format laws words xs v bound below base parts q i end ends count h)
entries-follow format laws words xs v bound below base parts q i (end ∷ ends) count h (suc j) lt =
    let k : EntryIs format words xs q i end = entry-is format laws words xs v base q i end ends h in
    subst (FollowsAt format words parts (length xs) bound) (let e : suc q + j ≡ q + suc j = omega arith in e)
    (entries-follow format laws words xs v bound below base parts (suc q) end ends (omega (arith, count)) (stands-next format laws words xs v base q i end ends h k) j (omega (arith, lt)))

-- the parts of a sequence are stored
pub parts-stored : (format : FormatNumbers) → PartLaws → (words xs : List ℕ) → AreValues format xs → (parts q i : ℕ) (ends : List ℕ) → StandsFrom format words xs (first_bit format parts) q i ends
    → (j : ℕ) → j < length ends → IsPartStored format words parts (q + j)
parts-stored format laws words xs v parts q i [] h j lt = absurd (omega (arith, lt))
parts-stored format laws words xs v parts q i (end ∷ ends) h zero lt =
    let base : ℕ = first_bit format parts in
    let k : EntryIs format words xs q i end = entry-is format laws words xs v base q i end ends h in
    let ys : List ℕ = relative_values xs i end in
    let place : ℕ = base + payload_before format words q in
    let held : HoldsPart part_bits (bits_of words) place (universe xs i end) (end - i) ys = holds-part format laws words xs v base q i end ends h in
    let stated : HoldsPart part_bits (bits_of words) place (stated_universe format words q) (stated_count format words q) ys =
    subst (λ u. HoldsPart part_bits (bits_of words) place u (stated_count format words q) ys) (sym k.universes)
    (subst (λ n. HoldsPart part_bits (bits_of words) place (universe xs i end) n ys) (sym k.counts) held) in
    subst (IsPartStored format words parts) (let e : q ≡ q + 0 = omega arith in e) (ys, stated)
parts-stored format laws words xs v parts q i (end ∷ ends) h (suc j) lt =
    let base : ℕ = first_bit format parts in
    let k : EntryIs format words xs q i end = entry-is format laws words xs v base q i end ends h in
    subst (IsPartStored format words parts) (let e : suc q + j ≡ q + suc j = omega arith in e)
    (parts-stored format laws words xs v parts (suc q) end ends (stands-next format laws words xs v base q i end ends h k) j (omega (arith, lt)))

-- behind bits and others, zeros up to the end of a word
pub zeros-behind : (before payload rest : List ℕ) (q from : ℕ) → from ≡ length before + length payload → from ≤ q → q < from + padding (length payload)
    → get_or (before ++ (payload ++ (replicate (padding (length payload)) 0 ++ rest))) q 0 ≡ 0
zeros-behind before payload rest q from e le lt =
    let k : ℕ = padding (length payload) in
    let zeros : List ℕ = replicate k 0 in
    get_or-append_right before (payload ++ (zeros ++ rest)) (length before) q 0 refl (omega (arith, e, le))
    ∙ get_or-append_right payload (zeros ++ rest) (length payload) (q - length before) 0 refl (omega (arith, e, le))
    ∙ get_or_append_left zeros rest 0 (q - length before - length payload) (omega (arith, e, le, lt, length-replicate {A = ℕ} k 0))
    ∙ get_or-replicate k (q - length before - length payload) 0 0 (omega (arith, e, le, lt))

word-end : (n p q : ℕ) → q < 64 * (n + (p + 63) / 64) → q < 64 * n + p + (64 - p % 64) % 64
word-end n p q h = omega (arith, h)

-- words that begin with a sequence pass every check
pub fits-begun : (format : FormatNumbers) (room : HasRoom format) → PartLaws → BitsOfAppended → BitsOfWords → (m bound parts used : ℕ) (xs ends words : List ℕ) → bound ≤ format.most_sum
    → BeginsSequence format m bound parts xs ends words used → PassChecks format words parts m bound
fits-begun format room laws appended filled m bound parts used xs ends words fits b =
    let s = b.sequence in
    let v : AreValues format xs = values-of format room m bound parts xs ends (take used words) fits s in
    let whole = stands-whole format room laws appended filled m bound parts used xs ends words fits b in
    let base : ℕ = first_bit format parts in
    let directory : List ℕ = directory_from format xs 0 0 ends in
    let payload : List ℕ = payload_from xs 0 ends in
    let behind : List ℕ = drop used words in
    let total : payload_before format words (0 + length ends) ≡ 0 + cost_from (payload_of_part xs) 0 ends = payload-all format laws words xs v base 0 0 ends whole in
    let count : 0 + length ends ≡ parts = omega (arith, s.parts_count) in
    let takes : length payload ≡ payload_before format words parts = omega (arith, length-payload laws xs v.rising v.in_range 0 ends whole.parts, total, ap (payload_before format words) count) in
    let counted : entry_words format * length ends ≡ entry_words format * parts = ap (λ n. entry_words format * n) s.parts_count in
    let long : used ≡ entry_words format * parts + (payload_before format words parts + 63) / 64 =
    omega (arith, length-take-le used words b.within, ap length s.spelled, length-sequence format laws xs v ends whole.parts, length-payload laws xs v.rising v.in_range 0 ends whole.parts, takes, counted) in
    let bits : bits_of words ≡ bits_of directory ++ (payload ++ (replicate (padding (length payload)) 0 ++ bits_of behind)) =
    split-bits laws appended filled words directory payload behind (bits-payload laws xs 0 ends) (begins-split words (directory ++ words_of payload) used s.spelled) in
    let from : base + payload_before format words parts ≡ length (bits_of directory) + length payload =
    omega (arith, length-bits_of directory, length-directory format xs 0 0 ends, counted, takes) in
    record {
      parts_are = count-fits m parts (omega (arith, few-parts 0 m ends s.partition, s.parts_count)) (λ e. some-parts m ends s.partition (s.parts_count ∙ e));
      room = omega (arith, b.within, long);
      entries =
          λ q lt.
          at-follows format words parts m bound q
          (subst (λ n. FollowsAt format words parts n bound q) s.count
          (subst (FollowsAt format words parts (length xs) bound) (let e : 0 + q ≡ q = omega arith in e)
          (entries-follow format laws words xs v bound s.below base parts 0 0 ends count whole q (omega (arith, lt, count)))));
      within = omega (arith, b.within, long);
      stored = λ q lt. subst (IsPartStored format words parts) (let e : 0 + q ≡ q = omega arith in e) (parts-stored format laws words xs v parts 0 0 ends whole q (omega (arith, lt, count)));
      filled =
          λ q le lt.
          ap (λ xs. get_or xs q 0) bits
          ∙ zeros-behind (bits_of directory) payload (bits_of behind) q (base + payload_before format words parts) from le
          (let e : q < 64 * (entry_words format * parts) + payload_before format words parts + (64 - payload_before format words parts % 64) % 64 =
          word-end (entry_words format * parts) (payload_before format words parts) q lt in
          subst (λ n. q < base + payload_before format words parts + padding n) (sym takes) (omega (arith, e)));
    }
