-- Lemmas on what is summed over the parts of an index.
use Rattle.std.proofs.Common.{◌≡◌, ℕ, zero, suc, ◌+◌, ◌-◌, ◌*◌, ◌/◌, ◌^◌, ◌<◌, ◌≤◌, Bool, true, false, cond, List, [], ◌∷◌, length, drop, get_or, map, refl, sym, ap, ◌∙◌, subst, arith, add-one, drop-cons}
use Rattle.std.specs.Prelude.{count_by, flat_map, sum_by, slice_index}
use Rattle.std.specs.List.{All, sum}
use Rattle.std.specs.List.Sorted.{IsStrictlyIncreasing}
use Rattle.std.proofs.lemmas.List.{get_or-drop}
use Rattle.std.proofs.lemmas.List.Elements.{All-weaker}
use Rattle.std.proofs.lemmas.List.Sums.{sum_by-cons, sum_by-append, sum-map}
use Rattle.collection_model.specs.FormatNumbers.{FormatNumbers, part_charge}
use Rattle.collection_model.specs.Collection.{Collection, list_of}
use Rattle.collection_model.specs.Sequences.{doc_sequence, freq_sequence}
use Rattle.part_cost.specs.declared.kinds.Kind.{Kind}
use Rattle.part_cost.specs.declared.kinds.Kind.TheVariants.{Ones, Bitmap, Ef}
use Rattle.part_cost.specs.Formats.{HasRoom}
use Rattle.part_cost.specs.Payload.{payload, kind_of, widest_low}
use Rattle.part_cost.specs.Span.{universe, cost_of_part}
use Rattle.part_cost.specs.Partition.{IsPartition, IsPartitionFrom, cost_from, partition_cost}
use Rattle.postings.specs.Laws.{SequencesRise}
use Rattle.two_level.specs.Laws.{TakesItsCost}
use Rattle.two_level.specs.SequenceWords.{sequence_words}
use Rattle.two_level.specs.SequenceView.{start_of_part}
use Rattle.part_cost.proofs.Partitions.{few-parts}
use Rattle.index_file.specs.FileWords.{CutList, ListParts, with_parts, doc_words, freq_words, lists_words, SpellsPlain}
use Rattle.index_file.specs.FirstBroken.{stated_documents}
use Rattle.index_file.specs.IndexView.{same_kind, kinds_from, kinds_of_list, docs_view, freqs_view}
use Rattle.index_file.specs.ListAt.{HasFrame, StandsAt, StandFrom, word_after}
use Rattle.index_file.specs.declared.measures.PartCounts.{PartCounts}
use Rattle.index_file.specs.Measures.{Measure, PartsOf, Payload, counted, measure_at, measure_of_part, measure_of_list, IsMeasured}
use Rattle.index_file.proofs.Lengths.{some-charge}
use Rattle.index_file.proofs.Prefixes.{stand-from, prefix-pieces, length-lists}
use Rattle.index_file.proofs.StatedIndex.{opened}
use Rattle.index_file.proofs.Reading.{stand-at}

-- what each of the counts is, for every measure
pub every : (c : PartCounts) (f : Measure → ℕ) → c.ones_parts ≡ f (PartsOf Ones) → c.bitmap_parts ≡ f (PartsOf Bitmap) → c.ef_parts ≡ f (PartsOf Ef) → c.payload_bits ≡ f Payload → (m : Measure) → counted c m ≡ f m
every c f ones bitmaps efs bits (PartsOf Ones) = ones
every c f ones bitmaps efs bits (PartsOf Bitmap) = bitmaps
every c f ones bitmaps efs bits (PartsOf Ef) = efs
every c f ones bitmaps efs bits Payload = bits

-- a part adds at most one more than its payload
one-at_most : (b : Bool) (p : ℕ) → cond b 1 0 ≤ 1 + p
one-at_most true p = omega arith
one-at_most false p = omega arith

pub part-at_most : (measure : Measure) (u m : ℕ) → measure_at measure u m ≤ 1 + payload u m
part-at_most (PartsOf kind) u m = one-at_most (same_kind kind (kind_of u m)) (payload u m)
part-at_most Payload u m = omega arith

-- so parts add at most what they cost
parts-at_most : (measure : Measure) (charge : ℕ) → 1 ≤ charge → (xs : List ℕ) (i : ℕ) (ends : List ℕ)
    → cost_from (measure_of_part measure xs) i ends ≤ cost_from (cost_of_part charge xs) i ends
parts-at_most measure charge some xs i [] = omega arith
parts-at_most measure charge some xs i (end ∷ ends) =
    let first : measure_of_part measure xs i end ≤ 1 + payload (universe xs i end) (end - i) = part-at_most measure (universe xs i end) (end - i) in
    let rest : cost_from (measure_of_part measure xs) end ends ≤ cost_from (cost_of_part charge xs) end ends = parts-at_most measure charge some xs end ends in
    omega (arith, some, first, rest)

bits-at_least : (added cost count : ℕ) → added ≤ cost → count ≡ (cost + 63) / 64 → added ≤ 64 * count
bits-at_least added cost count most is = omega arith

-- what a sequence adds is no more than the bits of its words
pub sequence-at_most : (format : FormatNumbers) → TakesItsCost format → (measure : Measure) (xs ends : List ℕ) → IsStrictlyIncreasing xs → All (λ x. x < format.most_sum) xs → IsPartition (length xs) ends
    → partition_cost (measure_of_part measure xs) ends ≤ 64 * length (sequence_words format xs ends)
sequence-at_most format takes measure xs ends rising below partition =
    let cost : ℕ = partition_cost (cost_of_part (part_charge format) xs) ends in
    let most : partition_cost (measure_of_part measure xs) ends ≤ partition_cost (cost_of_part (part_charge format) xs) ends =
    parts-at_most measure (part_charge format) (some-charge format) xs 0 ends in
    let words : length (sequence_words format xs ends) ≡ (partition_cost (cost_of_part (part_charge format) xs) ends + 63) / 64 = takes xs ends rising below partition in
    bits-at_least (partition_cost (measure_of_part measure xs) ends) cost (length (sequence_words format xs ends)) most words

-- the two sequences of a list that stands can be measured
pub record MeasuredList (format : FormatNumbers) (measure : Measure) (c : CutList) : Type 0 where
  pub docs : IsMeasured measure (docs_view format c)
  pub freqs : IsMeasured measure (freqs_view format c)
  pub most : measure_of_list measure c ≤ 64 * (length (doc_words format c) + length (freq_words format c))

pub stands-measured : (format : FormatNumbers) (room : HasRoom format) → TakesItsCost format → SequencesRise → (words : List ℕ) (t p : ℕ) (c : CutList) → HasFrame format words → length words < 2 ^ 57
    → StandsAt format words t p c → (measure : Measure) → MeasuredList format measure c
stands-measured format room takes rise words t p c frame few h measure =
    let n : ℕ = stated_documents words in
    let r = rise format n c.list h.list in
    let docs : List ℕ = doc_sequence c.list in
    let freqs : List ℕ = freq_sequence c.list in
    let doc_parts : IsPartition (length docs) c.parts.doc_ends = subst (λ k. IsPartition k c.parts.doc_ends) (sym r.docs_count) h.doc_parts in
    let freq_parts : IsPartition (length freqs) c.parts.freq_ends = subst (λ k. IsPartition k c.parts.freq_ends) (sym r.sums_count) h.freq_parts in
    let docs_below : All (λ x. x < format.most_sum) docs = All-weaker (λ d. d < stated_documents words) (λ d. d < format.most_sum) (λ d l. omega (arith, l, frame.documents, room.documents)) docs r.docs_below in
    let small : (x : ℕ) → x < format.most_sum → x < 2 ^ widest_low = λ x l. omega (arith, l, room.sums) in
    let docs_most : partition_cost (measure_of_part measure docs) c.parts.doc_ends ≤ 64 * length (doc_words format c) =
    sequence-at_most format takes measure docs c.parts.doc_ends r.docs_rise docs_below doc_parts in
    let freqs_most : partition_cost (measure_of_part measure freqs) c.parts.freq_ends ≤ 64 * length (freq_words format c) =
    sequence-at_most format takes measure freqs c.parts.freq_ends r.sums_rise r.sums_below freq_parts in
    record {
      docs = record {
        rising = r.docs_rise;
        below = All-weaker (λ d. d < format.most_sum) (λ d. d < 2 ^ widest_low) small docs docs_below;
        partition = doc_parts;
        small = omega (arith, docs_most, h.within, frame.whole, few);
      };
      freqs = record {
        rising = r.sums_rise;
        below = All-weaker (λ d. d < format.most_sum) (λ d. d < 2 ^ widest_low) small freqs r.sums_below;
        partition = freq_parts;
        small = omega (arith, freqs_most, h.within, frame.whole, few);
      };
      most = omega (arith, docs_most, freqs_most);
    }

-- lists that stand add no more than the bits of their words
lists-at_most : (format : FormatNumbers) (room : HasRoom format) → TakesItsCost format → SequencesRise → (words : List ℕ) (t p : ℕ) (cs : List CutList) → HasFrame format words → length words < 2 ^ 57
    → StandFrom format words t p cs → (measure : Measure) → sum_by (measure_of_list measure) cs ≤ 64 * length (lists_words format cs)
lists-at_most format room takes rise words t p [] frame few h measure = omega arith
lists-at_most format room takes rise words t p (c ∷ cs) frame few h measure =
    let first = stands-measured format room takes rise words t p c frame few h.0 measure in
    omega (
      arith,
      first.most,
      sum_by-cons (measure_of_list measure) c cs,
      length-lists format p c cs,
      lists-at_most format room takes rise words (t + 1) (word_after format p c) cs frame few h.1 measure,
    )

-- what all lists of an index add is a small number
pub index-at_most : (format : FormatNumbers) (room : HasRoom format) → TakesItsCost format → SequencesRise → (words : List ℕ) (c : Collection) (parts : List ListParts) → SpellsPlain format words c parts → length words < 2 ^ 57
    → (measure : Measure) → sum (map (measure_of_list measure) (with_parts c.lists parts)) < 2 ^ 63
index-at_most format room takes rise words c parts h few measure =
    let o = opened format words c parts h in
    let cs : List CutList = with_parts c.lists parts in
    let most : sum_by (measure_of_list measure) (with_parts c.lists parts) ≤ 64 * length (lists_words format (with_parts c.lists parts)) =
    lists-at_most format room takes rise words 0 2 cs o.laid.frame few (stand-from format words 0 2 cs (prefix-pieces format words cs o.prefix)) measure in
    omega (arith, sum-map (measure_of_list measure) cs, most, o.laid.sizes, o.laid.frame.whole, few)

-- a list of a plain file can be measured
pub plain-measured : (format : FormatNumbers) (room : HasRoom format) → TakesItsCost format → SequencesRise → (words : List ℕ) (c : Collection) (parts : List ListParts) (none : ListParts) → SpellsPlain format words c parts
    → length words < 2 ^ 57 → (measure : Measure) (t : ℕ) → t < length c.lists → MeasuredList format measure (record { list = list_of c t; parts = get_or parts t none })
plain-measured format room takes rise words c parts none h few measure t lt =
    let o = opened format words c parts h in
    let cs : List CutList = with_parts c.lists parts in
    let frame = o.laid.frame in
    let s = stand-at format words 0 2 cs (stand-from format words 0 2 cs (prefix-pieces format words cs o.prefix)) t (omega (arith, lt, o.count)) in
    let at : StandsAt format words t s.1 s.0 = subst (λ k. StandsAt format words k s.1 s.0) (let e : 0 + t ≡ t = omega arith in e) s.2 in
    let list : s.0.list ≡ list_of c t = sym s.3 ∙ ap (λ l. get_or l t []) o.lists in
    let its_parts : s.0.parts ≡ get_or parts t none = sym (s.4 none) ∙ ap (λ l. get_or l t none) o.parts_are in
    subst (λ l. MeasuredList format measure (record { list = l; parts = get_or parts t none })) list
    (subst (λ p. MeasuredList format measure (record { list = s.0.list; parts = p })) its_parts (stands-measured format room takes rise words t s.1 s.0 frame few at measure))

-- each part of a partition begins before its end, which is within the sequence
pub part-rises : (from n : ℕ) (ends : List ℕ) → IsPartitionFrom from n ends → (i before : ℕ) → i < length ends → before ≡ slice_index (from ∷ ends) i
    → (before < slice_index ends i) × (slice_index ends i ≤ n)
part-rises from n [] h i before lt e = absurd (omega arith)
part-rises from n (end ∷ ends) h zero before lt e =
    let last : end + length ends ≤ n = few-parts end n ends h.1 in
    (omega (arith, h.0, e), omega (arith, last))
part-rises from n (end ∷ ends) h (suc i) before lt e = part-rises end n ends h.1 i before (omega arith) e

pub part-begins : (ends : List ℕ) (i : ℕ) → start_of_part ends i ≡ slice_index (0 ∷ ends) i
part-begins ends zero = refl
part-begins ends (suc i) = refl

-- the cost from a part on
pub cost-next : (cost : ℕ → ℕ → ℕ) (ends : List ℕ) (i : ℕ) → i < length ends
    → cost_from cost (start_of_part ends i) (drop i ends) ≡ cost (start_of_part ends i) (slice_index ends i) + cost_from cost (start_of_part ends (i + 1)) (drop (i + 1) ends)
cost-next cost ends i lt =
    ap (cost_from cost (start_of_part ends i)) (drop-cons ends i 0 lt)
    ∙ ap (λ k. cost (start_of_part ends i) (slice_index ends i) + cost_from cost (start_of_part ends k) (drop k ends)) (sym (add-one i))

-- the parts of a kind, counted
kinds-counted : (kind : Kind) (xs : List ℕ) (i : ℕ) (ends : List ℕ) → cost_from (measure_of_part (PartsOf kind) xs) i ends ≡ count_by (same_kind kind) (kinds_from xs i ends)
kinds-counted kind xs i [] = refl
kinds-counted kind xs i (end ∷ ends) =
    let k : Kind = kind_of (universe xs i end) (end - i) in
    ap (λ n. cond (same_kind kind (kind_of (universe xs i end) (end - i))) 1 0 + n) (kinds-counted kind xs end ends)
    ∙ sym (sum_by-cons (λ x. cond (same_kind kind x) 1 0) k (kinds_from xs end ends))

pub kinds-are : (kind : Kind) (cs : List CutList) → sum_by (measure_of_list (PartsOf kind)) cs ≡ count_by (same_kind kind) (flat_map kinds_of_list cs)
kinds-are kind [] = refl
kinds-are kind (c ∷ cs) =
    let one : Kind → ℕ = λ x. cond (same_kind kind x) 1 0 in
    let docs : List Kind = kinds_from (doc_sequence c.list) 0 c.parts.doc_ends in
    let freqs : List Kind = kinds_from (freq_sequence c.list) 0 c.parts.freq_ends in
    let first : measure_of_list (PartsOf kind) c ≡ count_by (same_kind kind) (kinds_of_list c) =
    ap (λ n. n + partition_cost (measure_of_part (PartsOf kind) (freq_sequence c.list)) c.parts.freq_ends) (kinds-counted kind (doc_sequence c.list) 0 c.parts.doc_ends)
    ∙ ap (λ n. count_by (same_kind kind) docs + n) (kinds-counted kind (freq_sequence c.list) 0 c.parts.freq_ends)
    ∙ sym (sum_by-append one docs freqs) in
    sum_by-cons (measure_of_list (PartsOf kind)) c cs
    ∙ ap (λ n. n + sum_by (measure_of_list (PartsOf kind)) cs) first
    ∙ ap (λ n. count_by (same_kind kind) (kinds_of_list c) + n) (kinds-are kind cs)
    ∙ sym (sum_by-append one (kinds_of_list c) (flat_map kinds_of_list cs))

-- where all numbers from a place on are 0 the sum is whole there
none-all : (ns : List ℕ) → ((i : ℕ) → get_or ns i 0 ≡ 0) → sum ns ≡ 0
none-all [] h = refl
none-all (n ∷ ns) h = let first : n ≡ 0 = h 0 in omega (arith, first, sum_by-cons (λ x. x) n ns, none-all ns (λ i. h (suc i)))

none-behind : (ns : List ℕ) (k : ℕ) → ((i : ℕ) → k ≤ i → get_or ns i 0 ≡ 0) → sum (drop k ns) ≡ 0
none-behind ns k h = none-all (drop k ns) (λ i. get_or-drop k ns i 0 ∙ h (k + i) (omega arith))

pub whole-sum : (total : ℕ) (ns : List ℕ) (k : ℕ) → ((i : ℕ) → k ≤ i → get_or ns i 0 ≡ 0) → total + sum (drop k ns) ≡ sum ns → total ≡ sum ns
whole-sum total ns k h e = omega (arith, none-behind ns k h, e)
