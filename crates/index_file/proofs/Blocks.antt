-- Lemmas on the parts of the documents of a list, and on the frequencies in them.
use Rattle.std.proofs.Common.{◌≡◌, refl, sym, ap, ◌∙◌, ℕ, zero, suc, ◌+◌, ◌-◌, ◌^◌, ◌<◌, ◌≤◌, List, [], ◌∷◌, length, take, drop, get_or, slice_index, arith}
use Rattle.std.specs.List.{All}
use Rattle.std.proofs.lemmas.List.{take-map, drop-map}
use Rattle.std.proofs.lemmas.List.Elements.{All-head, All-tail, All-take, All-drop}
use Rattle.collection_model.specs.FormatNumbers.{FormatNumbers}
use Rattle.collection_model.specs.Collection.{Posting, WellFormed, IsPostingList, docs_of, freqs_of, greatest, greatest_freq, list_of}
use Rattle.collection_model.specs.Sequences.{freq_sequence, lessened, sums_from, steps_from}
use Rattle.collection_model.proofs.Lists.{docs_of-length, freqs_of-length}
use Rattle.collection_model.proofs.Sequences.{sums-length}
use Rattle.part_cost.specs.Formats.{numbers_of, HasRoom}
use Rattle.part_cost.specs.Span.{past}
use Rattle.part_cost.specs.Partition.{IsPartition}
use Rattle.part_cost.proofs.Rooms.{formats-have-room}
use Rattle.two_level.specs.Steps.{greatest_step}
use Rattle.two_level.specs.SequenceView.{start_of_part}
use Rattle.index_file.specs.FileWords.{ListParts, ArePartitions}
use Rattle.index_file.specs.IndexView.{IndexView, doc_ends_of}
use Rattle.index_file.proofs.Measured.{part-rises, part-begins}

-- the steps of the sums of numbers are the numbers
steps-prefix : (b n : ℕ) (fs : List ℕ) → All (λ f. 1 ≤ f) fs → steps_from b (take n (lessened (sums_from b fs))) ≡ take n fs
steps-prefix b zero [] some = refl
steps-prefix b zero (f ∷ fs) some = refl
steps-prefix b (suc n) [] some = refl
steps-prefix b (suc n) (f ∷ fs) some =
    let one : 1 ≤ f = All-head (λ x. 1 ≤ x) f fs some in
    let next : b + f - 1 + 1 ≡ b + f = omega (arith, one) in
    ap (λ v. (v - b) ∷ steps_from v (take n (lessened (sums_from (b + f) fs)))) next
    ∙ ap (λ v. v ∷ steps_from (b + f) (take n (lessened (sums_from (b + f) fs)))) (let e : b + f - b ≡ f = omega arith in e)
    ∙ ap (λ zs. f ∷ zs) (steps-prefix (b + f) n fs (All-tail (λ x. 1 ≤ x) f fs some))

-- one past the value before a place, where so much stands before the first
behind : ℕ → List ℕ → ℕ → ℕ
behind b xs zero = b
behind b xs (suc i) = slice_index xs i + 1

past-behind : (xs : List ℕ) (i : ℕ) → past xs i ≡ behind 0 xs i
unfolding behind
past-behind xs zero = refl
past-behind xs (suc i) = refl

steps-behind : (b from n : ℕ) (fs : List ℕ) → All (λ f. 1 ≤ f) fs → from ≤ length fs
    → steps_from (behind b (lessened (sums_from b fs)) from) (take n (drop from (lessened (sums_from b fs)))) ≡ take n (drop from fs)
unfolding behind
steps-behind b zero n fs some fit = steps-prefix b n fs some
steps-behind b (suc k) n [] some fit = absurd (omega (arith, fit))
steps-behind b (suc zero) n (f ∷ fs) some fit =
    let one : 1 ≤ f = All-head (λ x. 1 ≤ x) f fs some in
    let next : b + f - 1 + 1 ≡ b + f = omega (arith, one) in
    ap (λ v. steps_from v (take n (lessened (sums_from (b + f) fs)))) next ∙ steps-prefix (b + f) n fs (All-tail (λ x. 1 ≤ x) f fs some)
steps-behind b (suc (suc j)) n (f ∷ fs) some fit = steps-behind (b + f) (suc j) n fs (All-tail (λ x. 1 ≤ x) f fs some) (omega (arith, fit))

-- so the greatest step from one place up to another is the greatest frequency there
steps-of-list : (list : List Posting) (from to : ℕ) → All (λ f. 1 ≤ f) (freqs_of list) → from ≤ length list
    → greatest_step (freq_sequence list) from to ≡ greatest_freq (take (to - from) (drop from list))
steps-of-list list from to some fit =
    let xs : List ℕ = freq_sequence list in
    ap (λ b. greatest (steps_from b (take (to - from) (drop from xs)))) (past-behind xs from)
    ∙ ap greatest (steps-behind 0 from (to - from) (freqs_of list) some (omega (arith, fit, freqs_of-length list)))
    ∙ ap (λ zs. greatest (take (to - from) zs)) (drop-map (λ p. p.freq) from list)
    ∙ ap greatest (take-map (λ p. p.freq) (to - from) (drop from list))

greatest-small : (n : ℕ) (fs : List ℕ) → 0 < n → All (λ f. f < n) fs → greatest fs < n
greatest-small n [] some below = some
greatest-small n (f ∷ fs) some below =
    omega (arith, All-head (λ x. x < n) f fs below, greatest-small n fs some (All-tail (λ x. x < n) f fs below))

-- a part of the documents of a list
pub record BlockOf (list : List Posting) (ends : List ℕ) (q : ℕ) : Type 0 where
  pub some : start_of_part ends q < slice_index ends q
  pub within : slice_index ends q ≤ length list
  pub last : slice_index (docs_of list) (slice_index ends q - 1) < 2 ^ 32
  pub sums : length (freq_sequence list) ≡ length list
  pub steps : greatest_step (freq_sequence list) (start_of_part ends q) (slice_index ends q) ≡ greatest_freq (take (slice_index ends q - start_of_part ends q) (drop (start_of_part ends q) list))
  pub small : greatest_freq (take (slice_index ends q - start_of_part ends q) (drop (start_of_part ends q) list)) < 2 ^ 32

block-of : (format : FormatNumbers) → HasRoom format → (n : ℕ) (list : List Posting) (ends : List ℕ) (q : ℕ) → n ≤ format.most_documents → IsPostingList format n list → IsPartition (length list) ends → q < length ends
    → BlockOf list ends q
block-of format room n list ends q few h partition lt =
    let from : ℕ = start_of_part ends q in
    let to : ℕ = slice_index ends q in
    let rises = part-rises 0 (length list) ends partition q from lt (part-begins ends q) in
    let of_part : List Posting = take (to - from) (drop from list) in
    let freqs : freqs_of (take (to - from) (drop from list)) ≡ take (to - from) (drop from (freqs_of list)) =
    sym (ap (take (to - from)) (drop-map (λ p. p.freq) from list) ∙ take-map (λ p. p.freq) (to - from) (drop from list)) in
    let below : All (λ f. f < 2 ^ 32) (take (to - from) (drop from (freqs_of list))) =
    All-take (λ f. f < 2 ^ 32) (to - from) (drop from (freqs_of list)) (All-drop (λ f. f < 2 ^ 32) from (freqs_of list) h.fit) in
    let document = h.in_range (to - 1) 0 (omega (arith, rises.0, rises.1, docs_of-length list)) in
    record {
      some = rises.0;
      within = rises.1;
      last = omega (arith, document, few, room.fit);
      sums = omega (arith, sums-length 0 (freqs_of list), freqs_of-length list);
      steps = steps-of-list list from to h.not_zero (omega (arith, rises.0, rises.1));
      small = omega (arith, greatest-small (2 ^ 32) (take (to - from) (drop from (freqs_of list))) (omega arith) below, ap greatest freqs);
    }

-- the parts of a list of an index
pub partition-at : (lists : List (List Posting)) (parts : List ListParts) (none : ListParts) → ArePartitions lists parts → (t : ℕ) → t < length lists
    → IsPartition (length (get_or lists t [])) (get_or parts t none).doc_ends
partition-at [] parts none h t lt = absurd (omega (arith, lt))
partition-at (list ∷ lists) [] none h t lt = absurd h
partition-at (list ∷ lists) (p ∷ parts) none h zero lt = h.0
partition-at (list ∷ lists) (p ∷ parts) none h (suc t) lt = partition-at lists parts none h.2 t (omega (arith, lt))

pub block-of-index : (i : IndexView) → WellFormed (numbers_of i.format) i.collection → ArePartitions i.collection.lists i.parts → (t q : ℕ) → t < length i.collection.lists → q < length (doc_ends_of i t)
    → BlockOf (list_of i.collection t) (doc_ends_of i t) q
block-of-index i well_formed partitions t q lt part =
    let none : ListParts = record { doc_ends = []; freq_ends = [] } in
    block-of (numbers_of i.format) (formats-have-room i.format) i.collection.documents (list_of i.collection t) (doc_ends_of i t) q well_formed.documents (well_formed.lists t [] lt)
    (partition-at i.collection.lists i.parts none partitions t lt) part

-- the value whose place is one past it
pub last-value : (xs : List ℕ) (last end : ℕ) → last + 1 ≡ past xs end → last ≡ slice_index xs (end - 1)
last-value xs last zero is = absurd (omega (arith, is))
last-value xs last (suc k) is = omega (arith, is, ap (slice_index xs) (let e : suc k - 1 ≡ k = omega arith in e))
