-- The words with which a sequence begins, whether they are lent or its one part stands alone.
use Rattle.std.proofs.Common.{◌≡◌, ℕ, zero, suc, ◌+◌, ◌-◌, ◌*◌, ◌^◌, ◌<◌, ◌≤◌, List, [], ◌∷◌, length, map, take, drop, get_or, slice_index, Option, Some, None, true, false, refl, sym, ap, ◌∙◌, subst, inl, inr, arith}
use Rattle.std.specs.Prelude.{◌==◌, if◌then◌else◌}
use Rattle.std.specs.List.{All}
use Rattle.std.specs.Option.{ForSome}
use Rattle.std.specs.List.Sorted.{IsStrictlyIncreasing}
use Rattle.std.proofs.lemmas.Bool.{cases_lt}
use Rattle.std.proofs.lemmas.Bool.Decides.{nat_tests}
use Rattle.std.proofs.lemmas.List.{take_all, drop_more}
use Rattle.collection_model.specs.FormatNumbers.{FormatNumbers, part_charge}
use Rattle.bit_words.specs.Bits.{bits_of}
use Rattle.part_cost.specs.Formats.{HasRoom, numbers_of}
use Rattle.part_cost.specs.Payload.{kind_of}
use Rattle.part_cost.specs.Span.{AreRelative, past, universe, relative_values}
use Rattle.part_cost.specs.Partition.{IsPartition}
use Rattle.part_cost.specs.Stored.{HoldsPart}
use Rattle.part_cost.proofs.Growth.{payload-short}
use Rattle.part_cost.proofs.Numbers.{rises}
use Rattle.part_cost.proofs.Parts.{past-at}
use Rattle.part_codec.specs.PartBits.{part_bits}
use Rattle.part_codec.specs.PartValues.{values_at}
use Rattle.part_codec.specs.Laws.{ValuesStandAt}
use Rattle.part_directory.specs.declared.alone.Alone.{Alone}
use Rattle.sequence_words.specs.SequenceWords.{sequence_words, BeginsSequence}
use Rattle.sequence_words.specs.SequenceView.{SequenceView, sequence_stated}
use Rattle.part_directory.specs.Alone.{alone_values, words_begun, StandsAlone}
use Rattle.part_directory.specs.declared.directory.Directory.{Directory}
use Rattle.part_directory.specs.DirectorySequence.{words_of, sequence_of}
use Rattle.sequence_words.specs.SequenceFault.{stated_last, stated_end, end_before}
use Rattle.sequence_words.specs.SequenceParts.{StatesPart, counted_from, Restores}
use Rattle.sequence_words.specs.Laws.{TakesItsCost}
use Rattle.sequence_words.proofs.StatedParts.{held-as}

-- where an entry stands before the first part, they are those that are lent
pub begun-lent : (format : FormatNumbers) (words : List ℕ) (m : ℕ) (alone : Option Alone) → alone ≡ None → words_begun format words m alone ≡ words
unfolding words_begun
begun-lent format words m alone is = ap (words_begun format words m) is

-- where there are several parts, none stands alone
pub lent-many : (format : FormatNumbers) (words : List ℕ) (m parts : ℕ) (alone : Option Alone) → ForSome alone (λ a. StandsAlone format words m parts a) → 2 ≤ parts → alone ≡ None
lent-many format words m parts None stands more = refl
lent-many format words m parts (Some a) stands more = absurd (let s = stands a refl in omega (arith, s.one, more))

-- the values of one part that stands alone: they rise, the last is known, and they are so many
pub record AreAlone (format : FormatNumbers) (xs : List ℕ) (m last : ℕ) : Type 0 where
  pub rising : IsStrictlyIncreasing xs
  pub below : All (λ x. x < format.most_sum) xs
  pub count : length xs ≡ m
  pub last_is : slice_index xs (m - 1) ≡ last

-- one number rises
one-rises : (x : ℕ) → IsStrictlyIncreasing (x ∷ [])
one-rises x k lt = absurd (let e : k + 1 < 1 = lt in omega (arith, e))

one-below : (bound x : ℕ) → x < bound → All (λ y. y < bound) (x ∷ [])
one-below bound x less zero d lt = less
one-below bound x less (suc k) d lt = absurd (let e : suc k < 1 = lt in omega (arith, e))

-- relative values from 0 on are below one past their last
relative-below : (bound m last : ℕ) (ys : List ℕ) → AreRelative (last + 1) m ys → last < bound → All (λ y. y < bound) ys
relative-below bound m last ys h less k d lt =
    let up = rises ys h.rising k (m - 1) (omega (arith, lt, h.count)) (omega (arith, h.some, h.count)) in
    let same : get_or ys k d ≡ get_or ys k 0 = default-free ys k d lt in
    omega (arith, up, same, h.last, less)
  where
    default-free : (zs : List ℕ) (i e : ℕ) → i < length zs → get_or zs i e ≡ get_or zs i 0
    default-free [] i e lt = absurd (let q : i < 0 = lt in omega (arith, q))
    default-free (z ∷ zs) zero e lt = refl
    default-free (z ∷ zs) (suc i) e lt = default-free zs i e (let q : suc i < suc (length zs) = lt in omega (arith, q))

-- the values of one value alone, and of more
pub one-value : (bits : List ℕ) (m : ℕ) (a : Alone) → m ≡ 1 → alone_values bits m a ≡ a.last ∷ []
one-value bits m a is = ap (λ b. if b then a.last ∷ [] else values_at bits a.place (a.last + 1) m) (let e : (m == 1) ≡ true = grind (arith, nat_tests) in e)

pub more-values : (bits : List ℕ) (m : ℕ) (a : Alone) → 2 ≤ m → alone_values bits m a ≡ values_at bits a.place (a.last + 1) m
more-values bits m a more = ap (λ b. if b then a.last ∷ [] else values_at bits a.place (a.last + 1) m) (let e : (m == 1) ≡ false = grind (arith, nat_tests) in e)

pub are-alone : ValuesStandAt → (format : FormatNumbers) (bits : List ℕ) (m : ℕ) (a : Alone) → 1 ≤ m → a.last < format.most_sum
    → (2 ≤ m → (ys : List ℕ) × HoldsPart part_bits bits a.place (a.last + 1) m ys) → AreAlone format (alone_values bits m a) m a.last
are-alone stand format bits m a some less part =
    elim (cases_lt 1 m) [
      | inl more ↦
          let h = part more in
          let is : alone_values bits m a ≡ h.0 = more-values bits m a more ∙ stand bits a.place (a.last + 1) m h.0 h.1 in
          subst (λ xs. AreAlone format xs m a.last) (sym is)
          (record {
            rising = h.1.values.rising;
            below = relative-below format.most_sum m a.last h.0 h.1.values less;
            count = h.1.values.count;
            last_is = (let e = h.1.values.last in omega (arith, e));
          })
      | inr one ↦
          let single : m ≡ 1 = omega (arith, some, one) in
          subst (λ xs. AreAlone format xs m a.last) (sym (one-value bits m a single))
          (record {
            rising = one-rises a.last;
            below = one-below format.most_sum a.last less;
            count = sym single;
            last_is = ap (λ n. slice_index (a.last ∷ []) n) (let e : m - 1 ≡ 0 = omega (arith, single) in e);
          })
    ]

-- the words that such a sequence would take begin with it
pub begins-alone : (format : FormatNumbers) (xs : List ℕ) (m last : ℕ) → m < 2 ^ 32 → 1 ≤ m → AreAlone format xs m last
    → BeginsSequence format m format.most_sum 1 xs (m ∷ []) (sequence_words format xs (m ∷ [])) (length (sequence_words format xs (m ∷ [])))
begins-alone format xs m last few some h = record {
  within = omega arith;
  sequence = record {
    rising = h.rising;
    below = h.below;
    count = h.count;
    few = few;
    partition = (some, refl);
    parts_count = refl;
    spelled = take_all _ _ (omega arith);
  };
}

-- they are few
pub few-words-alone : (format : FormatNumbers) → HasRoom format → TakesItsCost format → (xs : List ℕ) (m last : ℕ) → 1 ≤ m → part_charge format ≤ 256 → AreAlone format xs m last
    → length (sequence_words format xs (m ∷ [])) < 2 ^ 57
few-words-alone format room takes xs m last some cheap h =
    let cut : IsPartition (length xs) (m ∷ []) = subst (λ n. IsPartition n (m ∷ [])) (sym h.count) (some, refl) in
    let words = takes xs (m ∷ []) h.rising h.below cut in
    let short = payload-short (universe xs 0 m) (m - 0) in
    let wide : past xs m ≤ format.most_sum = past-below (m) some in
    omega (arith, words, short, wide, cheap, room.sums)
  where
    past-below : (n : ℕ) → 1 ≤ n → past xs m ≤ format.most_sum
    past-below n s = before-last m some (omega (arith, h.count))
      where
        before-last : (k : ℕ) → 1 ≤ k → k ≤ length xs → past xs k ≤ format.most_sum
        before-last zero one fit = absurd (omega (arith, one))
        before-last (suc k) one fit = (let b = h.below k 0 (omega (arith, fit)) in omega (arith, b))

-- numbers counted from 0 are themselves
less-none : (xs : List ℕ) → map (λ x. x - 0) xs ≡ xs
less-none [] = refl
less-none (x ∷ xs) = ap (λ y. y ∷ map (λ z. z - 0) xs) (let e : x - 0 ≡ x = omega arith in e) ∙ ap (λ ys. x ∷ ys) (less-none xs)

all-relative : (xs : List ℕ) (m : ℕ) → length xs ≡ m → relative_values xs 0 m ≡ xs
all-relative xs m count = less-none (take (m - 0) (drop 0 xs)) ∙ take_all (m - 0) xs (omega (arith, count))

-- the part of a sequence of two values and more that stands alone
pub held-alone : (format : FormatNumbers) (words : List ℕ) (m parts : ℕ) (alone : Option Alone) (a : Alone) → alone ≡ Some a → StandsAlone format words m parts a → 2 ≤ m
    → HoldsPart part_bits (bits_of words) a.place (a.last + 1) m (relative_values (sequence_stated format (words_begun format words m alone) parts).values 0 m)
held-alone format words m parts alone a is h more =
    let ys : List ℕ = values_at (bits_of words) a.place (a.last + 1) m in
    let held = h.part more in
    let values : (sequence_stated format (words_begun format words m alone) parts).values ≡ ys =
    ap (λ o. (sequence_stated format (words_begun format words m o) parts).values) is ∙ ap (λ (v : SequenceView). v.values) h.view ∙ more-values (bits_of words) m a more in
    subst (HoldsPart part_bits (bits_of words) a.place (a.last + 1) m) (sym (all-relative ys m held.values.count) ∙ ap (λ xs. relative_values xs 0 m) (sym values)) held

-- what the entry of such a part would state
pub last-alone : (format : FormatNumbers) (words : List ℕ) (m parts : ℕ) (alone : Option Alone) (a : Alone) → alone ≡ Some a → StandsAlone format words m parts a
    → past (sequence_stated format (words_begun format words m alone) parts).values m ≡ a.last + 1
last-alone format words m parts alone a is h =
    ap (λ o. past (sequence_stated format (words_begun format words m o) parts).values m) is ∙ ap (λ (v : SequenceView). past v.values m) h.view ∙ h.last

-- what the entry of a part that stands alone would state
pub record IsAlone (d : Directory) (a : Alone) : Type 0 where
  pub some : 0 < d.parts
  pub part : StatesPart (numbers_of d.format) (words_of d) (sequence_of d).values d.parts 0
  pub ends : stated_end (numbers_of d.format) (words_of d) 0 ≡ d.m
  pub last : stated_last (numbers_of d.format) (words_of d) 0 ≡ a.last
  pub reach : past (sequence_of d).values d.m ≡ a.last + 1
  pub many : 1 ≤ d.m
  pub place : a.place ≤ 64 * length d.words.now

pub is-alone : (d : Directory) (a : Alone) → d.alone ≡ Some a → IsAlone d a
is-alone d a is =
    let format = numbers_of d.format in
    let words : List ℕ = words_of d in
    let stands = d.stands a is in
    let some : 0 < d.parts = omega (arith, stands.one) in
    let p = d.stated.part 0 some in
    let ends : stated_end format words 0 ≡ d.m = ap (end_before format words) (sym stands.one) ∙ d.stated.end ∙ sym d.count in
    let reach = last-alone format d.words.now d.m d.parts d.alone a is stands in
    record {
      some = some;
      part = p;
      ends = ends;
      last = omega (arith, p.last, ap (past (sequence_of d).values) ends, reach);
      reach = reach;
      many = omega (arith, d.few_parts, stands.one);
      place = stands.place;
    }

-- one value, counted from itself
one-counted : (xs : List ℕ) (from to last : ℕ) → from + 1 ≡ to → to ≤ length xs → past xs to ≡ last + 1 → counted_from last xs from to ≡ 0 ∷ []
one-counted xs from to last one fit is =
    let at = past-at xs to (omega (arith, one)) in
    let here : slice_index xs (to - 1) ≡ get_or xs from 0 = ap (λ k. slice_index xs k) (let e : to - 1 ≡ from = omega (arith, one) in e) in
    ap (λ n. map (λ x. x - last) (take n (drop from xs))) (let e : to - from ≡ 1 = omega (arith, one) in e)
    ∙ ap (λ ys. map (λ x. x - last) (take 1 ys)) (drop_more xs from 0 (omega (arith, one, fit)))
    ∙ ap (λ y. y ∷ []) (let e : get_or xs from 0 - last ≡ 0 = omega (arith, at, here, is) in e)

zero-relative : AreRelative 1 1 (0 ∷ [])
zero-relative = record { rising = one-rises 0; count = refl; some = omega arith; last = refl }

-- it is a part of which all places are taken, whatever the bits
zero-held : (bits : List ℕ) (place : ℕ) → HoldsPart part_bits bits place 1 1 (0 ∷ [])
unfolding kind_of
zero-held bits place = record { values = zero-relative; stored = refl }

pub held-one : (bits : List ℕ) (place : ℕ) (xs : List ℕ) (from to last : ℕ) → from + 1 ≡ to → to ≤ length xs → past xs to ≡ last + 1
    → HoldsPart part_bits bits place 1 1 (counted_from last xs from to)
held-one bits place xs from to last one fit is = subst (HoldsPart part_bits bits place 1 1) (sym (one-counted xs from to last one fit is)) (zero-held bits place)

pub restored-one : (xs : List ℕ) (from to last : ℕ) → from + 1 ≡ to → to ≤ length xs → past xs to ≡ last + 1 → Restores xs from to last
restored-one xs from to last one fit is j lt =
    let at = past-at xs to (omega (arith, one)) in
    let first : j ≡ 0 = omega (arith, one, lt) in
    let zero_is : slice_index (counted_from last xs from to) j ≡ slice_index (0 ∷ []) j = ap (λ ys. slice_index ys j) (one-counted xs from to last one fit is) in
    let none : slice_index (0 ∷ []) j ≡ 0 = ap (λ k. slice_index (0 ∷ []) k) first in
    let here : slice_index xs (to - 1) ≡ slice_index xs (from + j) = ap (λ k. slice_index xs k) (let e : to - 1 ≡ from + j = omega (arith, one, first) in e) in
    omega (arith, zero_is, none, here, at, is)

-- the values of a part, counted from one past the value before it
pub held-counted : (words there : List ℕ) (place at u v m n : ℕ) (xs : List ℕ) (from to first : ℕ) → words ≡ there → place ≡ at → u ≡ v → m ≡ n → past xs from ≡ first
    → HoldsPart part_bits (bits_of words) place u m (relative_values xs from to) → HoldsPart part_bits (bits_of there) at v n (counted_from first xs from to)
held-counted words there place at u v m n xs from to first a b c d e held =
    subst (λ f. HoldsPart part_bits (bits_of there) at v n (counted_from f xs from to)) e (held-as words there place at u v m n (relative_values xs from to) a b c d held)
