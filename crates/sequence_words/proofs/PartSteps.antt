-- Lemmas on the steps of values in parts, found part by part.
use Rattle.std.proofs.Common.{◌≡◌, ℕ, suc, ◌+◌, ◌-◌, Bool, true, List, [], ◌∷◌, ◌++◌, length, map, max, refl, sym, ap, ◌∙◌, append-nil, arith}
use Rattle.std.specs.List.{flat_map, range_with_len}
use Rattle.std.proofs.lemmas.List.{map-id}
use Rattle.std.proofs.lemmas.List.FromFn.{map-range_with_len_more}
use Rattle.std.proofs.lemmas.List.Concat.{flat_map-append}
use Rattle.collection_model.specs.FormatNumbers.{FormatNumbers}
use Rattle.collection_model.specs.Collection.{greatest}
use Rattle.collection_model.specs.Sequences.{steps_from}
use Rattle.bit_words.specs.Bits.{bits_of}
use Rattle.part_cost.specs.Span.{past}
use Rattle.part_cost.specs.Stored.{HoldsPart}
use Rattle.part_codec.specs.PartBits.{part_bits}
use Rattle.part_codec.specs.Laws.{ValuesStandAt}
use Rattle.sequence_words.specs.SequenceFault.{past_before, stated_count, stated_universe, payload_before, first_bit}
use Rattle.sequence_words.specs.SequenceView.{part_stated}
use Rattle.sequence_words.proofs.Accepting.{begins-more}
use Rattle.sequence_words.proofs.Follows.{FollowsAt}

-- one past the last of some values, where so much stands before the first
behind : ℕ → List ℕ → ℕ
behind before [] = before
behind before (x ∷ xs) = behind (x + 1) xs

behind-past : (before x : ℕ) (xs : List ℕ) → behind before (x ∷ xs) ≡ past (x ∷ xs) (length (x ∷ xs))
unfolding behind
behind-past before x [] = refl
behind-past before x (y ∷ xs) = behind-past (x + 1) y xs

behind-none : (xs : List ℕ) → behind 0 xs ≡ past xs (length xs)
unfolding behind
behind-none [] = refl
behind-none (x ∷ xs) = behind-past 0 x xs

-- the steps of values behind others count from the last of these
steps-apart : (before : ℕ) (xs ys : List ℕ) → greatest (steps_from before (xs ++ ys)) ≡ max (greatest (steps_from before xs)) (greatest (steps_from (behind before xs) ys))
unfolding behind
steps-apart before [] ys = let e : greatest (steps_from before ys) ≡ max 0 (greatest (steps_from before ys)) = omega arith in e
steps-apart before (x ∷ xs) ys = omega (arith, steps-apart (x + 1) xs ys)

steps-behind : (xs ys : List ℕ) → greatest (steps_from 0 (xs ++ ys)) ≡ max (greatest (steps_from 0 xs)) (greatest (steps_from (past xs (length xs)) ys))
steps-behind xs ys =
    steps-apart 0 xs ys ∙ ap (λ n. max (greatest (steps_from 0 xs)) (greatest (steps_from n ys))) (behind-none xs)

-- the steps of values that are all moved by as much
steps-moved : (before p : ℕ) (ys : List ℕ) → steps_from (before + p) (map (λ y. y + p) ys) ≡ steps_from before ys
steps-moved before p [] = refl
steps-moved before p (y ∷ ys) =
    ap (λ n. n ∷ steps_from (y + p + 1) (map (λ y. y + p) ys)) (let e : y + p + 1 - (before + p) ≡ y + 1 - before = omega arith in e)
    ∙ ap (λ n. (y + 1 - before) ∷ steps_from n (map (λ y. y + p) ys)) (let e : y + p + 1 ≡ y + 1 + p = omega arith in e)
    ∙ ap (λ zs. (y + 1 - before) ∷ zs) (steps-moved (y + 1) p ys)

-- the values that the first q parts state
abbrev pub prefix_stated : FormatNumbers → List ℕ → ℕ → ℕ → List ℕ
prefix_stated format words parts q = flat_map (part_stated format words parts) (range_with_len 0 q)

parts-more : (q : ℕ) → range_with_len 0 (q + 1) ≡ range_with_len 0 q ++ q ∷ []
parts-more q =
    let e : 0 + q ≡ q = omega arith in
    sym (map-id (range_with_len 0 (q + 1))) ∙ map-range_with_len_more (λ k. k) 0 q q e ∙ ap (λ ds. ds ++ q ∷ []) (map-id (range_with_len 0 q))

prefix-next : (format : FormatNumbers) (words : List ℕ) (parts q : ℕ) → prefix_stated format words parts (q + 1) ≡ prefix_stated format words parts q ++ part_stated format words parts q
prefix-next format words parts q =
    ap (flat_map (part_stated format words parts)) (parts-more q)
    ∙ flat_map-append (part_stated format words parts) (range_with_len 0 q) (q ∷ [])
    ∙ ap (λ zs. prefix_stated format words parts q ++ zs) (append-nil (part_stated format words parts q))

-- those of one part more, where its bits are those of some values
pub prefix-more : ValuesStandAt → (format : FormatNumbers) (words : List ℕ) (parts q : ℕ) (ys : List ℕ)
    → HoldsPart part_bits (bits_of words) (first_bit format parts + payload_before format words q) (stated_universe format words q) (stated_count format words q) ys
    → prefix_stated format words parts (q + 1) ≡ prefix_stated format words parts q ++ map (λ y. y + past_before format words q) ys
prefix-more stand format words parts q ys held =
    prefix-next format words parts q
    ∙ ap (λ vs. prefix_stated format words parts q ++ map (λ y. y + past_before format words q) vs)
    (stand (bits_of words) (first_bit format parts + payload_before format words q) (stated_universe format words q) (stated_count format words q) ys held)

-- what is known of the values of the first q parts: their last one is stated, and where it is asked for their greatest step is this
pub record StepsOf (format : FormatNumbers) (words : List ℕ) (parts q : ℕ) (asked : Bool) (most : ℕ) : Type 0 where
  pub ends : past (prefix_stated format words parts q) (length (prefix_stated format words parts q)) ≡ past_before format words q
  pub largest : asked ≡ true → most ≡ greatest (steps_from 0 (prefix_stated format words parts q))

pub steps-none : (format : FormatNumbers) (words : List ℕ) (parts : ℕ) (asked : Bool) → StepsOf format words parts 0 asked 0
steps-none format words parts asked = record { ends = refl; largest = (λ h. refl) }

-- one part more
pub part-steps : ValuesStandAt → (format : FormatNumbers) (words : List ℕ) (parts m bound q : ℕ) (asked : Bool) (most step : ℕ) (ys : List ℕ) → FollowsAt format words parts m bound q
    → HoldsPart part_bits (bits_of words) (first_bit format parts + payload_before format words q) (stated_universe format words q) (stated_count format words q) ys
    → (asked ≡ true → step ≡ greatest (steps_from 0 ys)) → StepsOf format words parts q asked most → StepsOf format words parts (q + 1) asked (max step most)
part-steps stand format words parts m bound q asked most step ys follows held is before =
    let p : ℕ = past_before format words q in
    let pre : List ℕ = prefix_stated format words parts q in
    let zs : List ℕ = map (λ y. y + p) ys in
    let whole : prefix_stated format words parts (q + 1) ≡ pre ++ zs = prefix-more stand format words parts q ys held in
    record {
      ends =
          ap (λ vs. past vs (length vs)) whole ∙ begins-more format words parts m bound q pre ys follows held.values
          ∙ ap (past_before format words) (let e : suc q ≡ q + 1 = omega arith in e);
      largest =
          λ h.
          let moved : steps_from p zs ≡ steps_from 0 ys = ap (λ n. steps_from n zs) (let e : p ≡ 0 + p = omega arith in e) ∙ steps-moved 0 p ys in
          omega (
            arith,
            is h,
            before.largest h,
            steps-behind pre zs,
            ap (λ n. greatest (steps_from n zs)) before.ends,
            ap greatest moved,
            ap (λ vs. greatest (steps_from 0 vs)) whole,
          );
    }
