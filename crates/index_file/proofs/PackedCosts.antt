-- That what the parts of packed lists cost is bounded by the bits of the lists.
use Rattle.std.proofs.Common.{◌≡◌, ℕ, ◌+◌, ◌-◌, ◌*◌, ◌^◌, ◌<◌, ◌≤◌, List, [], ◌∷◌, ◌++◌, length, replicate, refl, sym, ap, ◌∙◌, subst, arith, length-append}
use Rattle.std.specs.Prelude.{sum_by}
use Rattle.std.specs.List.{All}
use Rattle.std.specs.List.Sorted.{IsStrictlyIncreasing}
use Rattle.std.proofs.lemmas.List.Elements.{All-weaker, All-head, All-tail}
use Rattle.std.proofs.lemmas.List.Sums.{sum_by-cons}
use Rattle.bit_words.specs.Bits.{bits_of, one_after, field_bits, padding}
use Rattle.bit_words.proofs.Value.{length-bits_of}
use Rattle.collection_model.specs.FormatNumbers.{format_three}
use Rattle.collection_model.specs.Collection.{Posting, greatest_freq}
use Rattle.collection_model.specs.Sequences.{doc_sequence, freq_sequence}
use Rattle.part_cost.proofs.Growth.{one-number-is-short}
use Rattle.part_cost.proofs.Parts.{past-at, relative-past}
use Rattle.part_cost.proofs.Partitions.{ends-within}
use Rattle.part_cost.specs.Payload.{digits, payload, widest_low}
use Rattle.part_cost.specs.Span.{past, universe, payload_of_part, cost_of_part}
use Rattle.part_cost.specs.Partition.{IsPartition, cost_from, partition_cost}
use Rattle.part_codec.specs.PartBits.{part_bits}
use Rattle.part_codec.specs.Laws.{TakesItsPayload}
use Rattle.postings.specs.Laws.{SequencesRise}
use Rattle.two_level.specs.Laws.{TakesItsCost}
use Rattle.two_level.specs.SequenceWords.{sequence_words}
use Rattle.packed_list.specs.Gamma.{gamma}
use Rattle.packed_sequence.specs.SequenceBits.{sequence_bits}
use Rattle.packed_list.specs.ListBits.{head_bits, docs_bits, freqs_bits, list_bits, IsCutInto}
use Rattle.packed_list.proofs.GammaBack.{length-one_after}
use Rattle.index_file.specs.CutLists.{CutList, ListParts}
use Rattle.index_file.specs.PackedWords.{first_list_bit, bits_of_list, bits_of_lists}
use Rattle.index_file.proofs.PackedStated.{no-cut}

abbrev pub IsCut : ℕ → CutList → Type 0
IsCut n c = IsCutInto n c.list c.parts.doc_ends c.parts.freq_ends

-- Each part costs at most its payload and an entry.
abbrev pub CostLittle : (ℕ → ℕ → ℕ) → List ℕ → Type 0
CostLittle f xs = (i j : ℕ) → f i j ≤ 128 + payload_of_part xs i j

costs-below : (f : ℕ → ℕ → ℕ) (xs : List ℕ) → CostLittle f xs → (i : ℕ) (ends : List ℕ) → cost_from f i ends ≤ cost_from (cost_of_part 128 xs) i ends
costs-below f xs little i [] = omega arith
costs-below f xs little i (end ∷ ends) = omega (arith, little i end, costs-below f xs little end ends)

-- a sequence that stands as one part
lone-at_most : TakesItsPayload → (f : ℕ → ℕ → ℕ) (xs : List ℕ) → CostLittle f xs → (w v end : ℕ) → IsStrictlyIncreasing xs → All (λ x. x < format_three.most_sum) xs → 0 < end → end ≡ length xs
    → f 0 end + 0 ≤ 256 * length (0 ∷ field_bits w v ++ part_bits xs (past xs (length xs)))
lone-at_most takes f xs little w v end rising below some last =
    let m : ℕ = length xs in
    let u : ℕ = past xs (length xs) in
    let above = past-at xs m (omega (arith, some, last)) in
    let inside = below (m - 1) 0 (omega (arith, some, last)) in
    let long : length (part_bits xs (past xs (length xs))) ≡ payload (past xs (length xs)) (length xs) = takes u m xs (omega (arith, above, inside)) (relative-past xs rising (omega (arith, some, last))) in
    let span : universe xs 0 (length xs) ≡ past xs (length xs) = omega arith in
    let size : length xs - 0 ≡ length xs = omega arith in
    let same : payload (universe xs 0 end) (end - 0) ≡ payload (past xs (length xs)) (length xs) =
    ap (λ k. payload (universe xs 0 k) (k - 0)) last ∙ ap (λ k. payload k (length xs - 0)) span ∙ ap (payload (past xs (length xs))) size in
    omega (arith, little 0 end, same, long, length-append (0 ∷ field_bits w v) (part_bits xs u))

-- the parts of a sequence cost no more than 256 for each of its bits
sequence-at_most : TakesItsPayload → TakesItsCost format_three → (f : ℕ → ℕ → ℕ) (less width at : ℕ) (xs ends : List ℕ) → CostLittle f xs → IsStrictlyIncreasing xs
    → All (λ x. x < format_three.most_sum) xs → IsPartition (length xs) ends → partition_cost f ends ≤ 256 * length (sequence_bits (record { less = less; width = width }) at xs ends)
sequence-at_most takes cost f less width at xs [] little rising below h = omega arith
sequence-at_most takes cost f less width at xs (end ∷ []) little rising below h = lone-at_most takes f xs little width (past xs (length xs) - 1 - less) end rising below h.0 h.1
sequence-at_most takes cost f less width at xs (end ∷ next ∷ more) little rising below h =
    let ends : List ℕ = end ∷ next ∷ more in
    let w : ℕ = digits (length xs) in
    let zeros : List ℕ = replicate (padding (at + 1 + w)) 0 in
    let head : List ℕ = 1 ∷ field_bits w (length ends) in
    let ws : List ℕ = sequence_words format_three xs ends in
    omega (arith, costs-below f xs little 0 ends, cost xs ends rising below h, length-append (head ++ zeros) (bits_of ws), length-bits_of ws)

-- one number costs little
one-at_most : (f : ℕ → ℕ → ℕ) (xs ends : List ℕ) → CostLittle f xs → length xs ≡ 1 → All (λ x. x < 2 ^ widest_low) xs → IsPartition 1 ends → partition_cost f ends ≤ 256
one-at_most f xs [] little one below h = omega arith
one-at_most f xs (end ∷ []) little one below h =
    let is : end ≡ 1 = h.1 in
    let value = below 0 0 (omega (arith, one)) in
    let above = past-at xs 1 (omega arith) in
    let short : payload (universe xs 0 1) 1 ≤ widest_low + 1 = one-number-is-short widest_low (universe xs 0 1) (omega arith) (omega (arith, above)) (omega (arith, above, value)) in
    let same : payload (universe xs 0 end) (end - 0) ≡ payload (universe xs 0 1) 1 = ap (λ k. payload (universe xs 0 k) (k - 0)) is in
    omega (arith, little 0 end, same, short)
one-at_most f xs (end ∷ next ∷ more) little one below h = absurd (omega (arith, h.0, h.1.0, ends-within next 1 more h.1.1))

head-two : (list : List Posting) → 2 ≤ length (head_bits list)
head-two list =
    let d : ℕ = digits (length list) - 1 in
    let e : ℕ = digits (greatest_freq list) - 1 in
    omega (
      arith,
      length-append (gamma (length list)) (gamma (greatest_freq list)),
      length-append (one_after d) (field_bits d (length list - 2 ^ d)),
      length-append (one_after e) (field_bits e (greatest_freq list - 2 ^ e)),
      length-one_after d,
      length-one_after e,
    )

-- the two sequences of a list of a packed file
pub record CutSequences (c : CutList) : Type 0 where
  pub docs_rise : IsStrictlyIncreasing (doc_sequence c.list)
  pub docs_below : All (λ x. x < format_three.most_sum) (doc_sequence c.list)
  pub docs_count : length (doc_sequence c.list) ≡ length c.list
  pub docs_cut : IsPartition (length (doc_sequence c.list)) c.parts.doc_ends
  pub sums_rise : IsStrictlyIncreasing (freq_sequence c.list)
  pub sums_below : All (λ x. x < format_three.most_sum) (freq_sequence c.list)
  pub sums_count : length (freq_sequence c.list) ≡ length c.list
  pub sums_cut : IsPartition (length (freq_sequence c.list)) c.parts.freq_ends

pub cut-sequences : SequencesRise → (n : ℕ) (c : CutList) → n ≤ format_three.most_documents → IsCut n c → CutSequences c
cut-sequences rise n c few h =
    let r = rise format_three n c.list h.well_formed in
    record {
      docs_rise = r.docs_rise;
      docs_below = All-weaker (λ x. x < n) (λ x. x < format_three.most_sum) (λ x l. omega (arith, l, few)) (doc_sequence c.list) r.docs_below;
      docs_count = r.docs_count;
      docs_cut = subst (λ k. IsPartition k c.parts.doc_ends) (sym r.docs_count) h.docs;
      sums_rise = r.sums_rise;
      sums_below = r.sums_below;
      sums_count = r.sums_count;
      sums_cut = subst (λ k. IsPartition k c.parts.freq_ends) (sym r.sums_count) h.freqs;
    }

-- what the parts of the two sequences of a list cost
abbrev pub list_cost : (ℕ → ℕ → ℕ) → (ℕ → ℕ → ℕ) → CutList → ℕ
list_cost f g c = partition_cost f c.parts.doc_ends + partition_cost g c.parts.freq_ends

-- an empty list costs nothing
pub none-costs : (f g : ℕ → ℕ → ℕ) (list : List Posting) (p : ListParts) → list ≡ [] → IsPartition (length list) p.doc_ends → IsPartition (length list) p.freq_ends
    → list_cost f g (record { list = list; parts = p }) ≡ 0
none-costs f g list p e docs freqs =
    let d : p.doc_ends ≡ [] = no-cut p.doc_ends (subst (λ l. IsPartition (length l) p.doc_ends) e docs) in
    let s : p.freq_ends ≡ [] = no-cut p.freq_ends (subst (λ l. IsPartition (length l) p.freq_ends) e freqs) in
    ap (λ x. partition_cost f x + partition_cost g p.freq_ends) d ∙ ap (λ x. partition_cost f [] + partition_cost g x) s

-- a list costs no more than 256 for each of its bits
pub list-at_most : TakesItsPayload → TakesItsCost format_three → SequencesRise → (f g : ℕ → ℕ → ℕ) (n at : ℕ) (list : List Posting) (p : ListParts) → CostLittle f (doc_sequence list) → CostLittle g (freq_sequence list)
    → n ≤ format_three.most_documents → IsCutInto n list p.doc_ends p.freq_ends → list_cost f g (record { list = list; parts = p }) ≤ 256 * length (list_bits n at list p.doc_ends p.freq_ends)
list-at_most takes cost rise f g n at [] p little few_sums few h = omega (arith, none-costs f g [] p refl h.docs h.freqs)
list-at_most takes cost rise f g n at (x ∷ []) p little little_sums few h =
    let s = cut-sequences rise n (record { list = x ∷ []; parts = p }) few h in
    let docs = one-at_most f (doc_sequence (x ∷ [])) p.doc_ends little s.docs_count s.docs_below h.docs in
    let sums = one-at_most g (freq_sequence (x ∷ [])) p.freq_ends little_sums s.sums_count s.sums_below h.freqs in
    omega (arith, docs, sums, head-two (x ∷ []), length-append (head_bits (x ∷ [])) (field_bits (digits (n - 1)) x.doc))
list-at_most takes cost rise f g n at (x ∷ y ∷ list) p little little_sums few h =
    let xs : List Posting = x ∷ y ∷ list in
    let s = cut-sequences rise n (record { list = x ∷ y ∷ list; parts = p }) few h in
    let head : List ℕ = head_bits xs in
    let docs : List ℕ = docs_bits n (at + length head) xs p.doc_ends in
    let freqs : List ℕ = freqs_bits (at + length head + length docs) xs p.freq_ends in
    let a = sequence-at_most takes cost f 0 (digits (n - 1)) (at + length head) (doc_sequence xs) p.doc_ends little s.docs_rise s.docs_below s.docs_cut in
    let b = sequence-at_most takes cost g (length xs - 1) (digits (length xs * (greatest_freq xs - 1))) (at + length head + length docs) (freq_sequence xs) p.freq_ends little_sums s.sums_rise s.sums_below s.sums_cut in
    omega (arith, a, b, length-append (head ++ docs) freqs, length-append head docs)

-- and so do all lists
pub lists-at_most : TakesItsPayload → TakesItsCost format_three → SequencesRise → (f g : CutList → ℕ → ℕ → ℕ) → ((c : CutList) → CostLittle (f c) (doc_sequence c.list)) → ((c : CutList) → CostLittle (g c) (freq_sequence c.list))
    → (n at : ℕ) (cs : List CutList) → n ≤ format_three.most_documents → All (IsCut n) cs → sum_by (λ c. list_cost (f c) (g c) c) cs ≤ 256 * length (bits_of_lists n at cs)
lists-at_most takes cost rise f g little little_sums n at [] few h = omega arith
lists-at_most takes cost rise f g little little_sums n at (c ∷ cs) few h =
    let l : List ℕ = bits_of_list n at c in
    omega (
      arith,
      sum_by-cons (λ c. list_cost (f c) (g c) c) c cs,
      list-at_most takes cost rise (f c) (g c) n (first_list_bit + at) c.list c.parts (little c) (little_sums c) few (All-head (IsCut n) c cs h),
      lists-at_most takes cost rise f g little little_sums n (at + length l) cs few (All-tail (IsCut n) c cs h),
      length-append l (bits_of_lists n (at + length l) cs),
    )
