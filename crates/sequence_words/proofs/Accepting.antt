use Rattle.std.proofs.Common.{◌≡◌, ℕ, zero, suc, ◌+◌, ◌-◌, ◌*◌, ◌/◌, ◌^◌, ◌<◌, ◌≤◌, true, false, cond, List, [], ◌∷◌, ◌++◌, length, take, drop, map, replicate, get_or, refl, inl, inr, sym, ap, ◌∙◌, subst, arith, append_assoc}
use Rattle.std.specs.Prelude.{◌==◌}
use Rattle.std.specs.List.{All, slice_range}
use Rattle.std.specs.List.Sorted.{IsStrictlyIncreasing}
use Rattle.std.proofs.lemmas.Bool.{cases_lt, eq-eqb}
use Rattle.std.proofs.lemmas.Bool.Decides.{nat_tests}
use Rattle.std.proofs.lemmas.List.{length-append, length-take-le, length-drop, length-map, length-replicate, take-take, take_all, take_at, drop_at, drop-take, take-append-drop, get_or-take, get_or-map, get_or_append_left, get_or-append_right, get_or-replicate, get_or_default, ext_get_or}
use Rattle.std.proofs.Math.Seq.{take-append-add}
use Rattle.std.proofs.lemmas.List.Elements.{All-nil, All-append, All-map, All-take, All-drop}
use Rattle.collection_model.specs.FormatNumbers.{FormatNumbers, entry_words}
use Rattle.bit_words.specs.Bits.{bits_of, padding, padded, words_of, AreBits}
use Rattle.bit_words.specs.Laws.{BitsOfAppended, WordsOfBits, WordsOfPadded}
use Rattle.bit_words.proofs.Value.{length-bits_of}
use Rattle.bit_words.proofs.Pieces.{StandAt, stands-both, stands-at}
use Rattle.part_cost.proofs.Numbers.{rises}
use Rattle.part_cost.specs.Formats.{HasRoom}
use Rattle.part_cost.specs.Payload.{payload}
use Rattle.part_cost.specs.Span.{past, universe, payload_of_part, relative_values, AreRelative}
use Rattle.part_cost.specs.Partition.{IsPartitionFrom}
use Rattle.part_cost.specs.Stored.{HoldsPart}
use Rattle.part_cost.proofs.Parts.{past-at}
use Rattle.part_codec.specs.PartBits.{part_bits}
use Rattle.sequence_words.specs.EntryWords.{entry}
use Rattle.sequence_words.specs.SequenceWords.{directory_from, payload_from, BeginsSequence}
use Rattle.sequence_words.specs.SequenceFault.{entry_breaks, stated_last, stated_end, stated_offset, end_before, past_before, stated_count, stated_universe, payload_before, word_behind, first_bit, parts_fit, IsPartStored, PassChecks}
use Rattle.sequence_words.proofs.EntryLaws.{entry-is-whole, entry-is-of-words}
use Rattle.sequence_words.proofs.Lengths.{PartLaws, bits-payload}
use Rattle.sequence_words.proofs.StatedParts.{entry-within}
use Rattle.sequence_words.proofs.Follows.{FollowsAt, follows-at}

-- a list that rises, and another whose values lie past it
pub rises-append : (xs ys : List ℕ) → IsStrictlyIncreasing xs → IsStrictlyIncreasing ys → ((k : ℕ) → k < length ys → past xs (length xs) ≤ get_or ys k 0) → IsStrictlyIncreasing (xs ++ ys)
rises-append xs ys up rise past_all k lt =
    let n : ℕ = length xs in
    let long : k + 1 < n + length ys = omega (arith, lt, length-append xs ys) in
    elim (cases_lt (k + 1) n) [
      | inl less ↦
          omega (arith, get_or_append_left xs ys 0 k (omega (arith, less)), get_or_append_left xs ys 0 (k + 1) less, up k less)
      | inr more ↦
          elim (cases_lt k n) [
            | inl here ↦
                let same : k ≡ n - 1 = omega (arith, more, here) in
                omega (
                  arith,
                  get_or_append_left xs ys 0 k here,
                  get_or-append_right xs ys n (k + 1) 0 refl more,
                  past-at xs n (omega (arith, here)),
                  ap (λ i. get_or xs i 0) same,
                  past_all (k + 1 - n) (omega (arith, long, more)),
                )
            | inr behind ↦
                let next : k - n + 1 ≡ k + 1 - n = omega (arith, behind) in
                omega (
                  arith,
                  get_or-append_right xs ys n k 0 refl behind,
                  get_or-append_right xs ys n (k + 1) 0 refl more,
                  ap (λ i. get_or ys i 0) next,
                  rise (k - n) (omega (arith, long, behind)),
                )
          ]
    ]

pub shifted-at : (p : ℕ) (ys : List ℕ) (k : ℕ) → k < length ys → get_or (map (λ y. y + p) ys) k 0 ≡ get_or ys k 0 + p
shifted-at p ys k lt = get_or-map (λ y. y + p) ys k 0 0 lt

pub shifted-rises : (p : ℕ) (ys : List ℕ) → IsStrictlyIncreasing ys → IsStrictlyIncreasing (map (λ y. y + p) ys)
shifted-rises p ys up k lt =
    let long : k + 1 < length ys = omega (arith, lt, length-map ys (λ y. y + p)) in
    omega (arith, shifted-at p ys k (omega (arith, long)), shifted-at p ys (k + 1) long, up k long)

pub unshifted : (p : ℕ) (ys : List ℕ) → map (λ x. x - p) (map (λ y. y + p) ys) ≡ ys
unshifted p [] = refl
unshifted p (y ∷ ys) =
    ap (λ v. v ∷ map (λ x. x - p) (map (λ y. y + p) ys)) (let e : y + p - p ≡ y = omega arith in e) ∙ ap (λ vs. y ∷ vs) (unshifted p ys)

-- the value before a place stands in the prefix up to it
pub past-take : (n : ℕ) (xs : List ℕ) → past (take n xs) n ≡ past xs n
past-take zero xs = refl
past-take (suc n) xs = ap (λ x. x + 1) (get_or-take (suc n) xs n 0 (omega arith))

-- values that stand before part q
pub record Prefix (format : FormatNumbers) (words : List ℕ) (bound q : ℕ) (pre : List ℕ) : Type 0 where
  pub count : length pre ≡ end_before format words q
  pub begins : past pre (length pre) ≡ past_before format words q
  pub rising : IsStrictlyIncreasing pre
  pub below : All (λ x. x < bound) pre

-- a relative value is below the universe
pub below-universe : (u m : ℕ) (ys : List ℕ) → AreRelative u m ys → (k : ℕ) → k < length ys → get_or ys k 0 + 1 ≤ u
below-universe u m ys r k lt =
    omega (arith, rises ys r.rising k (m - 1) (omega (arith, lt, r.count)) (omega (arith, lt, r.count)), r.last)

-- the last value of one part more is the one that its entry states
pub begins-more : (format : FormatNumbers) (words : List ℕ) (parts m bound q : ℕ) (pre ys : List ℕ) → FollowsAt format words parts m bound q
    → AreRelative (stated_universe format words q) (stated_count format words q) ys
    → past (pre ++ map (λ y. y + past_before format words q) ys) (length (pre ++ map (λ y. y + past_before format words q) ys)) ≡ past_before format words (suc q)
begins-more format words parts m bound q pre ys k r =
    let p : ℕ = past_before format words q in
    let zs : List ℕ = map (λ y. y + p) ys in
    let n : ℕ = length pre in
    let some : 0 < length ys = omega (arith, r.some, r.count) in
    let long : length (pre ++ zs) ≡ n + length ys = omega (arith, length-append pre zs, length-map ys (λ y. y + p)) in
    let back : length (pre ++ zs) - 1 - n ≡ length ys - 1 = omega (arith, long, some) in
    omega (
      arith,
      past-at (pre ++ zs) (length (pre ++ zs)) (omega (arith, long, some)),
      get_or-append_right pre zs n (length (pre ++ zs) - 1) 0 refl (omega (arith, long, some)),
      ap (λ i. get_or zs i 0) back,
      shifted-at p ys (length ys - 1) (omega (arith, some)),
      ap (λ i. get_or ys (i - 1) 0) r.count,
      r.last,
      k.above,
    )

-- one part more
pub prefix-more : (format : FormatNumbers) (words : List ℕ) (parts m bound q : ℕ) (pre ys : List ℕ) → Prefix format words bound q pre → FollowsAt format words parts m bound q
    → AreRelative (stated_universe format words q) (stated_count format words q) ys → Prefix format words bound (suc q) (pre ++ map (λ y. y + past_before format words q) ys)
prefix-more format words parts m bound q pre ys f k r =
    let p : ℕ = past_before format words q in
    let zs : List ℕ = map (λ y. y + p) ys in
    let n : ℕ = length pre in
    let many : length zs ≡ stated_end format words q - end_before format words q = length-map ys (λ y. y + p) ∙ r.count in
    let whole : length (pre ++ zs) ≡ stated_end format words q = omega (arith, length-append pre zs, many, f.count, k.up) in
    record {
      count = whole;
      begins = begins-more format words parts m bound q pre ys k r;
      rising = rises-append pre zs f.rising (shifted-rises p ys r.rising) (λ i lt. omega (arith, f.begins, shifted-at p ys i (omega (arith, lt, length-map ys (λ y. y + p)))));
      below =
          All-append (λ x. x < bound) pre zs f.below
          (All-map (λ x. x < bound) (λ y. y + p) ys
          (λ i d lt. omega (arith, get_or_default ys i d 0 lt, below-universe (stated_universe format words q) (stated_count format words q) ys r i lt, k.below, k.above)));
    }

-- a sequence that the words from entry q on go on to
pub record Built (format : FormatNumbers) (words : List ℕ) (parts m bound q : ℕ) (pre : List ℕ) : Type 0 where
  pub values : List ℕ
  pub ends : List ℕ
  pub prefix : take (length pre) values ≡ pre
  pub rising : IsStrictlyIncreasing values
  pub below : All (λ x. x < bound) values
  pub count : length values ≡ m
  pub partition : IsPartitionFrom (end_before format words q) m ends
  pub many : q + length ends ≡ parts
  pub directory : take (entry_words format * length ends) (drop (entry_words format * q) words) ≡ directory_from format values (end_before format words q) (payload_before format words q) ends
  pub payload_bits : StandAt (bits_of words) (first_bit format parts + payload_before format words q) (payload_from values (end_before format words q) ends)
  pub takes : payload_before format words q + length (payload_from values (end_before format words q) ends) ≡ payload_before format words parts

-- the words of an entry, and those behind it
pub entry-prefix : (format : FormatNumbers) (words : List ℕ) (q n : ℕ) → All (λ w. w < 2 ^ 64) words → entry_words format * q + entry_words format ≤ length words
    → take (entry_words format * suc n) (drop (entry_words format * q) words)
    ≡ entry format (stated_last format words q) (stated_end format words q) (stated_offset format words q) ++ take (entry_words format * n) (drop (entry_words format * suc q) words)
entry-prefix format words q n small room =
    let at : ℕ = entry_words format * q in
    let rest : List ℕ = drop (at + entry_words format) words in
    let these : List ℕ = entry format (stated_last format words q) (stated_end format words q) (stated_offset format words q) in
    let whole : length these ≡ entry_words format = entry-is-whole format (stated_last format words q) (stated_end format words q) (stated_offset format words q) in
    ap (take (entry_words format * suc n)) (entry-is-of-words format words at small (omega (arith, room)))
    ∙ ap (λ i. take i (these ++ rest)) (let e : entry_words format * suc n ≡ length these + entry_words format * n = omega (arith, whole) in e)
    ∙ take-append-add these rest (entry_words format * n)
    ∙ ap (λ i. these ++ take (entry_words format * n) (drop i words)) (let e : at + entry_words format ≡ entry_words format * suc q = omega arith in e)

pub built-more : (format : FormatNumbers) (room : HasRoom format) → PartLaws → (words : List ℕ) (parts m bound q : ℕ) (pre ys : List ℕ) → bound ≤ format.most_sum → All (λ w. w < 2 ^ 64) words → entry_words format * q + entry_words format ≤ length words → Prefix format words bound q pre → FollowsAt format words parts m bound q
    → HoldsPart part_bits (bits_of words) (first_bit format parts + payload_before format words q) (stated_universe format words q) (stated_count format words q) ys
    → Built format words parts m bound (suc q) (pre ++ map (λ y. y + past_before format words q) ys) → Built format words parts m bound q pre
built-more format room laws words parts m bound q pre ys fits small within f k held b =
    let p : ℕ = past_before format words q in
    let o : ℕ = payload_before format words q in
    let i : ℕ = end_before format words q in
    let end : ℕ = stated_end format words q in
    let u : ℕ = stated_universe format words q in
    let n : ℕ = stated_count format words q in
    let base : ℕ = first_bit format parts in
    let zs : List ℕ = map (λ y. y + p) ys in
    let xs : List ℕ = b.values in
    let next : Prefix format words bound (suc q) (pre ++ zs) = prefix-more format words parts m bound q pre ys f k held.values in
    let prefix : take (length pre) xs ≡ pre =
    sym (take-take (length pre) (length (pre ++ zs)) xs (omega (arith, length-append pre zs))) ∙ ap (take (length pre)) b.prefix ∙ take_at pre zs (length pre) refl in
    let here : past xs i ≡ p =
    ap (past xs) (sym f.count) ∙ sym (past-take (length pre) xs) ∙ ap (λ ws. past ws (length pre)) prefix ∙ f.begins in
    let there : past xs end ≡ stated_last format words q + 1 =
    ap (past xs) (sym next.count) ∙ sym (past-take (length (pre ++ zs)) xs) ∙ ap (λ ws. past ws (length (pre ++ zs))) b.prefix ∙ next.begins in
    let same_universe : universe xs i end ≡ u = ap (λ v. v - past xs i) there ∙ ap (λ v. stated_last format words q + 1 - v) here in
    let span : slice_range xs i end ≡ zs =
    sym (drop-take i (end - i) xs)
    ∙ ap (λ v. drop i (take v xs)) (let e : i + (end - i) ≡ length (pre ++ zs) = omega (arith, next.count, k.up) in e)
    ∙ ap (drop i) b.prefix ∙ drop_at pre zs i f.count in
    let same_values : relative_values xs i end ≡ ys = ap (λ v. map (λ x. x - v) (slice_range xs i end)) here ∙ ap (map (λ x. x - p)) span ∙ unshifted p ys in
    let piece : List ℕ = part_bits (relative_values xs i end) (universe xs i end) in
    let same_piece : piece ≡ part_bits ys u = ap (λ vs. part_bits vs (universe xs i end)) same_values ∙ ap (part_bits ys) same_universe in
    let stands : StandAt (bits_of words) (base + o) piece = subst (StandAt (bits_of words) (base + o)) (sym same_piece) held.stored in
    let long : length piece ≡ payload u n = ap length same_piece ∙ laws.takes u n ys (omega (arith, fits, room.sums, k.below)) held.values in
    let later : payload_before format words (suc q) ≡ o + length piece = ap (λ v. o + v) (sym long) in
    let charge : o + payload_of_part xs i end ≡ payload_before format words (suc q) = ap (λ v. o + payload v (end - i)) same_universe in
    let last : stated_last format words q ≡ past xs end - 1 = omega (arith, there) in
    let later_words : List ℕ = take (entry_words format * length b.ends) (drop (entry_words format * suc q) words) in
    record {
      values = xs;
      ends = end ∷ b.ends;
      prefix = prefix;
      rising = b.rising;
      below = b.below;
      count = b.count;
      partition = (k.up, b.partition);
      many = omega (arith, b.many);
      directory =
          entry-prefix format words q (length b.ends) small within
          ∙ ap (λ v. entry format v end (stated_offset format words q) ++ later_words) last
          ∙ ap (λ v. entry format (past xs end - 1) end v ++ later_words) k.offsets
          ∙ ap (λ vs. entry format (past xs end - 1) end o ++ vs) (b.directory ∙ ap (λ v. directory_from format xs end v b.ends) (sym charge));
      payload_bits =
          stands-both (bits_of words) (base + o) piece (payload_from xs end b.ends) stands
          (subst (λ v. StandAt (bits_of words) v (payload_from xs end b.ends)) (let e : base + payload_before format words (suc q) ≡ base + o + length piece = omega (arith, later) in e) b.payload_bits);
      takes = omega (arith, b.takes, later, length-append piece (payload_from xs end b.ends));
    }

-- behind the last part stand all values
not-none : (m : ℕ) → (suc m == 0) ≡ false
not-none m = grind (arith, nat_tests)

none-fit : (m : ℕ) → parts_fit m 0 ≡ true → m ≡ 0
none-fit zero h = refl
none-fit (suc m) h = let e : false ≡ true = subst (λ b. cond b true false ≡ true) (not-none m) h in cc

pub all-stand : (format : FormatNumbers) (words : List ℕ) (parts m bound : ℕ) → parts_fit m parts ≡ true
    → ((q : ℕ) → q < parts → entry_breaks format words parts m bound q ≡ false) → end_before format words parts ≡ m
all-stand format words zero m bound fit entries = sym (none-fit m fit)
all-stand format words (suc q) m bound fit entries =
    let k = follows-at format words (suc q) m bound q (entries q (omega arith)) in k.whole (eq-eqb (q + 1) (suc q) (omega arith))

pub build : (format : FormatNumbers) (room : HasRoom format) → PartLaws → (words : List ℕ) (parts m bound : ℕ) → bound ≤ format.most_sum → All (λ w. w < 2 ^ 64) words → PassChecks format words parts m bound → (n q : ℕ) → q + n ≡ parts → (pre : List ℕ) → Prefix format words bound q pre → Built format words parts m bound q pre
build format room laws words parts m bound fits are fit zero q e pre f =
    let last : q ≡ parts = omega (arith, e) in
    let all : end_before format words q ≡ m = ap (end_before format words) last ∙ all-stand format words parts m bound fit.parts_are fit.entries in
    record {
      values = pre;
      ends = [];
      prefix = take_all (length pre) pre (omega arith);
      rising = f.rising;
      below = f.below;
      count = f.count ∙ all;
      partition = all;
      many = e;
      directory = ap (λ i. take i (drop (entry_words format * q) words)) (let e : entry_words format * 0 ≡ 0 = omega arith in e);
      payload_bits = refl;
      takes = omega (arith, ap (payload_before format words) last);
    }
build format room laws words parts m bound fits are fit (suc n) q e pre f =
    let lt : q < parts = omega (arith, e) in
    let k : FollowsAt format words parts m bound q = follows-at format words parts m bound q (fit.entries q lt) in
    let stored : IsPartStored format words parts q = fit.stored q lt in
    let next = prefix-more format words parts m bound q pre stored.0 f k stored.1.values in
    built-more format room laws words parts m bound q pre stored.0 fits are (omega (arith, fit.room, entry-within format q parts lt)) f k stored.1
    (build format room laws words parts m bound fits are fit n (suc q) (omega (arith, e)) (pre ++ map (λ y. y + past_before format words q) stored.0) next)

-- words with this payload and zeros behind it
pub payload-words : PartLaws → BitsOfAppended → WordsOfBits → WordsOfPadded → (words before tail behind bits : List ℕ) → words ≡ before ++ (tail ++ behind)
    → AreBits bits → All (λ w. w < 2 ^ 64) tail → length tail ≡ (length bits + 63) / 64 → StandAt (bits_of words) (64 * length before) bits
    → ((q : ℕ) → 64 * length before + length bits ≤ q → q < 64 * (length before + length tail) → get_or (bits_of words) q 0 ≡ 0) → tail ≡ words_of bits
payload-words laws appended back filled words before tail behind bits split are fit count stands zeros =
    let k : ℕ = padding (length bits) in
    let base : ℕ = 64 * length before in
    let whole : bits_of words ≡ bits_of before ++ (bits_of tail ++ bits_of behind) =
    ap bits_of split ∙ appended before (tail ++ behind) ∙ ap (λ xs. bits_of before ++ xs) (appended tail behind) in
    let long : length (bits_of tail) ≡ length bits + k = omega (arith, length-bits_of tail, count) in
    let at : (i : ℕ) → i < length (bits_of tail) → get_or (bits_of tail) i 0 ≡ get_or (bits_of words) (base + i) 0 =
    λ i lt. sym (ap (λ xs. get_or xs (base + i) 0) whole
    ∙ get_or-append_right (bits_of before) (bits_of tail ++ bits_of behind) base (base + i) 0 (length-bits_of before) (omega arith)
    ∙ ap (λ j. get_or (bits_of tail ++ bits_of behind) j 0) (let e : base + i - base ≡ i = omega arith in e)
    ∙ get_or_append_left (bits_of tail) (bits_of behind) 0 i lt) in
    let same : bits_of tail ≡ padded bits =
    ext_get_or 0 (bits_of tail) (padded bits) (long ∙ sym (length-append bits (replicate k 0) ∙ ap (λ v. length bits + v) (length-replicate {A = ℕ} k 0)))
    (λ i lt.
    elim (cases_lt i (length bits)) [
      | inl less ↦ at i lt ∙ stands-at (bits_of words) base bits i stands less ∙ sym (get_or_append_left bits (replicate k 0) 0 i less)
      | inr more ↦
          at i lt ∙ zeros (base + i) (omega (arith, more)) (omega (arith, lt, length-bits_of tail))
          ∙ sym (get_or-append_right bits (replicate k 0) (length bits) i 0 refl more ∙ get_or-replicate k (i - length bits) 0 0 (omega (arith, lt, long, more)))
    ]) in
    sym (back tail fit) ∙ ap words_of same ∙ filled bits are

-- words that pass every check begin with a sequence
pub accepted-begins : (format : FormatNumbers) (room : HasRoom format) → PartLaws → BitsOfAppended → WordsOfBits → WordsOfPadded → (words : List ℕ) (parts m bound : ℕ) → m < 2 ^ 32 → bound ≤ format.most_sum → All (λ w. w < 2 ^ 64) words → PassChecks format words parts m bound
    → (xs ends : List ℕ) × BeginsSequence format m bound parts xs ends words (word_behind format words parts)
accepted-begins format room laws appended back filled words parts m bound few fits are fit =
    let none : Prefix format words bound 0 [] = record { count = refl; begins = refl; rising = (λ k lt. absurd (omega (arith, lt))); below = All-nil (λ x. x < bound) } in
    let b = build format room laws words parts m bound fits are fit parts 0 (omega arith) [] none in
    let used : ℕ = word_behind format words parts in
    let prefix : List ℕ = take used words in
    let before : List ℕ = take (entry_words format * parts) prefix in
    let tail : List ℕ = drop (entry_words format * parts) prefix in
    let behind : List ℕ = drop used words in
    let bits : List ℕ = payload_from b.values 0 b.ends in
    let many : length b.ends ≡ parts = omega (arith, b.many) in
    let takes : length bits ≡ payload_before format words parts = omega (arith, b.takes) in
    let long : length prefix ≡ used = length-take-le used words fit.within in
    let early : length before ≡ entry_words format * parts = length-take-le (entry_words format * parts) prefix (omega (arith, long)) in
    let late : length tail ≡ (length bits + 63) / 64 = omega (arith, length-drop (entry_words format * parts) prefix, long, takes) in
    let split : words ≡ before ++ (tail ++ behind) =
    sym (ap (λ xs. xs ++ behind) (take-append-drop (entry_words format * parts) prefix) ∙ take-append-drop used words) ∙ append_assoc before tail behind in
    let entries : before ≡ directory_from format b.values 0 0 b.ends =
    take-take (entry_words format * parts) used words (omega arith) ∙ ap (λ n. take (entry_words format * n) words) (sym many)
    ∙ ap (λ n. take (entry_words format * length b.ends) (drop n words)) (let e : 0 ≡ entry_words format * 0 = omega arith in e) ∙ b.directory in
    let base : 64 * length before ≡ first_bit format parts = omega (arith, early) in
    let stored : tail ≡ words_of bits =
    payload-words laws appended back filled words before tail behind bits split (bits-payload laws b.values 0 b.ends)
    (All-drop (λ w. w < 2 ^ 64) (entry_words format * parts) prefix (All-take (λ w. w < 2 ^ 64) used words are)) late
    (subst (λ n. StandAt (bits_of words) n bits) (let e : first_bit format parts + 0 ≡ 64 * length before = omega (arith, base) in e) b.payload_bits)
    (λ q le lt. fit.filled q (omega (arith, le, base, takes)) (omega (arith, lt, early, late, takes))) in (
      b.values,
      b.ends,
      record {
        within = fit.within;
        sequence = record {
          rising = b.rising;
          below = b.below;
          count = b.count;
          few = few;
          partition = b.partition;
          parts_count = many;
          spelled = sym (take-append-drop (entry_words format * parts) prefix) ∙ ap (λ xs. xs ++ tail) entries ∙ ap (λ xs. directory_from format b.values 0 0 b.ends ++ xs) stored;
        };
      },
    )
