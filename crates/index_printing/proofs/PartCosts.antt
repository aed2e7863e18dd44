-- What the partitions of an index cost: the charge of each part and the payload of all, no more bits than its words have.
use Rattle.std.proofs.Common.{◌≡◌, refl, sym, ap, ◌∙◌, subst, ℕ, ◌+◌, ◌*◌, ◌/◌, ◌^◌, ◌≤◌, ◌<◌, cond, List, [], ◌∷◌, ◌++◌, length, length-append, arith}
use Rattle.std.specs.Prelude.{sum_by, count_by, flat_map}
use Rattle.std.specs.List.{All}
use Rattle.std.proofs.lemmas.List.Elements.{All-weaker, All-head, All-tail}
use Rattle.std.proofs.lemmas.List.Sums.{sum_by-cons}
use Rattle.std.proofs.Math.Nat.{mul-le-mul_right}
use Rattle.collection_model.specs.FormatNumbers.{FormatNumbers, format_three, entry_words, part_charge}
use Rattle.collection_model.specs.Collection.{Posting, Collection, WellFormed, IsPostingList}
use Rattle.collection_model.specs.Sequences.{doc_sequence, freq_sequence}
use Rattle.part_cost.specs.declared.kinds.Kind.{Kind}
use Rattle.part_cost.specs.declared.kinds.Kind.TheVariants.{Ones, Bitmap, Ef}
use Rattle.part_codec.specs.Laws.{TakesItsPayload}
use Rattle.part_cost.specs.declared.formats.Format.{Format}
use Rattle.part_cost.specs.declared.formats.Format.TheVariants.{One, Two, Three}
use Rattle.part_cost.specs.Formats.{HasRoom, numbers_of}
use Rattle.part_cost.specs.Span.{cost_of_part}
use Rattle.part_cost.specs.Partition.{IsPartition, partition_cost}
use Rattle.two_level.specs.Laws.{TakesItsCost}
use Rattle.part_cost.proofs.Partitions.{charges}
use Rattle.postings.specs.Laws.{SequencesRise}
use Rattle.index_file.specs.FileWords.{CutList, ListParts, ArePartitions, with_parts, doc_words, freq_words, lists_words, file_words}
use Rattle.index_file.specs.IndexView.{IndexView, cut_lists, same_kind, kinds_from, kinds_of_list, payload_of_list, parts_of_kind, payload_bits}
use Rattle.index_file.specs.PlainWords.{plain_words}
use Rattle.index_file.specs.PackedWords.{first_list_bit, bits_of_list, bits_of_lists, packed_words}
use Rattle.index_file.proofs.Lengths.{file-length, some-entry}
use Rattle.index_file.proofs.FittingFiles.{bits-within}
use Rattle.index_file.proofs.PackedCosts.{list-at_most as list-bits}
use Rattle.command_model.specs.GeneratedText.{cost_of_list, cost_of_lists}

-- ---- the parts

-- one for each part of a kind
abbrev one-of : Kind → Kind → ℕ
one-of kind k = cond (same_kind kind k) 1 0

-- each part is of one kind
each-kind : (kinds : List Kind) → count_by (same_kind Ones) kinds + count_by (same_kind Bitmap) kinds + count_by (same_kind Ef) kinds ≡ length kinds
each-kind [] = refl
each-kind (kind ∷ kinds) =
    let first : one-of Ones kind + one-of Bitmap kind + one-of Ef kind ≡ 1 = elim kind as (λ k. one-of Ones k + one-of Bitmap k + one-of Ef k ≡ 1) [ Ones ↦ refl | Bitmap ↦ refl | Ef ↦ refl ] in
    omega (arith, first, sum_by-cons (one-of Ones) kind kinds, sum_by-cons (one-of Bitmap) kind kinds, sum_by-cons (one-of Ef) kind kinds, each-kind kinds)

kinds-length : (xs : List ℕ) (i : ℕ) (ends : List ℕ) → length (kinds_from xs i ends) ≡ length ends
kinds-length xs i [] = refl
kinds-length xs i (end ∷ ends) = omega (arith, kinds-length xs end ends)

list-kinds-length : (c : CutList) → length (kinds_of_list c) ≡ length c.parts.doc_ends + length c.parts.freq_ends
list-kinds-length c =
    let docs : List Kind = kinds_from (doc_sequence c.list) 0 c.parts.doc_ends in
    let freqs : List Kind = kinds_from (freq_sequence c.list) 0 c.parts.freq_ends in
    omega (arith, length-append docs freqs, kinds-length (doc_sequence c.list) 0 c.parts.doc_ends, kinds-length (freq_sequence c.list) 0 c.parts.freq_ends)

-- ---- what they cost

list-cost : (format : FormatNumbers) (c : CutList) → cost_of_list format c ≡ 64 * (entry_words format * length (kinds_of_list c)) + payload_of_list c
list-cost format c =
    omega (
      arith,
      ap (λ n. entry_words format * n) (list-kinds-length c),
      charges format (doc_sequence c.list) 0 c.parts.doc_ends,
      charges format (freq_sequence c.list) 0 c.parts.freq_ends,
    )

lists-cost : (format : FormatNumbers) (cs : List CutList)
    → sum_by (cost_of_list format) cs ≡ 64 * (entry_words format * length (flat_map kinds_of_list cs)) + sum_by payload_of_list cs
lists-cost format [] = omega arith
lists-cost format (c ∷ cs) =
    let kinds : List Kind = kinds_of_list c in
    let rest : List Kind = flat_map kinds_of_list cs in
    omega (
      arith,
      sum_by-cons (cost_of_list format) c cs,
      sum_by-cons payload_of_list c cs,
      ap (λ n. entry_words format * n) (length-append kinds rest),
      list-cost format c,
      lists-cost format cs,
    )

-- the charge of each part and the payload of all
pub costs-are : (i : IndexView) (charge ones bitmaps efs : ℕ) → charge ≡ part_charge (numbers_of i.format)
    → ones ≡ parts_of_kind i Ones → bitmaps ≡ parts_of_kind i Bitmap → efs ≡ parts_of_kind i Ef
    → payload_bits i + charge * (ones + bitmaps + efs) ≡ cost_of_lists (numbers_of i.format) i.collection i.parts
costs-are i charge ones bitmaps efs is of_ones of_bitmaps of_efs =
    let format : FormatNumbers = numbers_of i.format in
    let kinds : List Kind = flat_map kinds_of_list (cut_lists i) in
    let parts : ones + bitmaps + efs ≡ length kinds = omega (arith, of_ones, of_bitmaps, of_efs, each-kind kinds) in
    let charged : charge * (ones + bitmaps + efs) ≡ part_charge format * length kinds = ap (λ n. n * (ones + bitmaps + efs)) is ∙ ap (λ n. part_charge format * n) parts in
    omega (arith, charged, lists-cost format (cut_lists i))

-- each part costs something
pub parts-at_most : (i : IndexView) → parts_of_kind i Ones + parts_of_kind i Bitmap + parts_of_kind i Ef ≤ cost_of_lists (numbers_of i.format) i.collection i.parts
parts-at_most i =
    let format : FormatNumbers = numbers_of i.format in
    let kinds : List Kind = flat_map kinds_of_list (cut_lists i) in
    omega (arith, each-kind kinds, mul-le-mul_right (length kinds) (some-entry format), lists-cost format (cut_lists i))

-- ---- the bits of their words

bits-of : (cost count : ℕ) → count ≡ (cost + 63) / 64 → cost ≤ 64 * count
bits-of cost count is = omega (arith, is)

list-at_most : (format : FormatNumbers) → HasRoom format → TakesItsCost format → SequencesRise → (n : ℕ) → n ≤ format.most_documents → (c : CutList) → IsPostingList format n c.list
    → IsPartition (length c.list) c.parts.doc_ends → IsPartition (length c.list) c.parts.freq_ends → cost_of_list format c ≤ 64 * (length (doc_words format c) + length (freq_words format c))
list-at_most format room takes rise n few c is docs_cut freqs_cut =
    let r = rise format n c.list is in
    let docs : List ℕ = doc_sequence c.list in
    let freqs : List ℕ = freq_sequence c.list in
    let below : All (λ d. d < format.most_sum) docs = All-weaker (λ d. d < n) (λ d. d < format.most_sum) (λ d l. omega (arith, l, few, room.documents)) docs r.docs_below in
    let docs_cost : ℕ = partition_cost (cost_of_part (part_charge format) docs) c.parts.doc_ends in
    let freqs_cost : ℕ = partition_cost (cost_of_part (part_charge format) freqs) c.parts.freq_ends in
    omega (
      arith,
      bits-of docs_cost (length (doc_words format c)) (takes docs c.parts.doc_ends r.docs_rise below (subst (λ k. IsPartition k c.parts.doc_ends) (sym r.docs_count) docs_cut)),
      bits-of freqs_cost (length (freq_words format c)) (takes freqs c.parts.freq_ends r.sums_rise r.sums_below (subst (λ k. IsPartition k c.parts.freq_ends) (sym r.sums_count) freqs_cut)),
    )

lists-at_most : (format : FormatNumbers) → HasRoom format → TakesItsCost format → SequencesRise → (n : ℕ) → n ≤ format.most_documents → (lists : List (List Posting)) (parts : List ListParts)
    → All (IsPostingList format n) lists → ArePartitions lists parts → sum_by (cost_of_list format) (with_parts lists parts) ≤ 64 * length (lists_words format (with_parts lists parts))
lists-at_most format room takes rise n few [] parts are cut = omega arith
lists-at_most format room takes rise n few (list ∷ lists) [] are cut = absurd cut
lists-at_most format room takes rise n few (list ∷ lists) (p ∷ parts) are cut =
    let c : CutList = record { list = list; parts = p } in
    let cs : List CutList = with_parts lists parts in
    omega (
      arith,
      sum_by-cons (cost_of_list format) c cs,
      length-append (doc_words format c ++ freq_words format c) (lists_words format cs),
      length-append (doc_words format c) (freq_words format c),
      list-at_most format room takes rise n few c (All-head (IsPostingList format n) list lists are) cut.0 cut.1,
      lists-at_most format room takes rise n few lists parts (All-tail (IsPostingList format n) list lists are) cut.2,
    )

-- partitions of a packed file, by the bits of its lists
packed-at_most : TakesItsPayload → TakesItsCost format_three → SequencesRise → (n at : ℕ) → n ≤ format_three.most_documents → (lists : List (List Posting)) (parts : List ListParts)
    → All (IsPostingList format_three n) lists → ArePartitions lists parts → sum_by (cost_of_list format_three) (with_parts lists parts) ≤ 256 * length (bits_of_lists n at (with_parts lists parts))
packed-at_most takes cost rise n at few [] parts are cut = omega arith
packed-at_most takes cost rise n at few (list ∷ lists) [] are cut = absurd cut
packed-at_most takes cost rise n at few (list ∷ lists) (p ∷ parts) are cut =
    let c : CutList = record { list = list; parts = p } in
    let cs : List CutList = with_parts lists parts in
    let l : List ℕ = bits_of_list n at c in
    let one = list-bits takes cost rise (cost_of_part 128 (doc_sequence list)) (cost_of_part 128 (freq_sequence list)) n (first_list_bit + at) list p (λ i j. omega arith) (λ i j. omega arith) few
    (record { well_formed = All-head (IsPostingList format_three n) list lists are; docs = cut.0; freqs = cut.1 }) in
    omega (
      arith,
      sum_by-cons (cost_of_list format_three) c cs,
      one,
      packed-at_most takes cost rise n (at + length l) few lists parts (All-tail (IsPostingList format_three n) list lists are) cut.2,
      length-append l (bits_of_lists n (at + length l) cs),
    )

plain-cost : (format : FormatNumbers) → HasRoom format → TakesItsCost format → SequencesRise → (c : Collection) (parts : List ListParts) → WellFormed format c → ArePartitions c.lists parts
    → cost_of_lists format c parts ≤ 2 ^ 14 * length (plain_words format c.documents (with_parts c.lists parts) c.sizes)
plain-cost format room takes rise c parts good cut =
    omega (
      arith,
      file-length format c.documents (with_parts c.lists parts) c.sizes,
      lists-at_most format room takes rise c.documents good.documents c.lists parts good.lists cut,
    )

packed-cost : TakesItsPayload → TakesItsCost format_three → SequencesRise → (c : Collection) (parts : List ListParts) → WellFormed format_three c → ArePartitions c.lists parts
    → cost_of_lists format_three c parts ≤ 2 ^ 14 * length (packed_words c.documents (with_parts c.lists parts) c.sizes)
packed-cost takes cost rise c parts good cut =
    let cs : List CutList = with_parts c.lists parts in
    omega (
      arith,
      packed-at_most takes cost rise c.documents 0 good.documents c.lists parts good.lists cut,
      bits-within c.documents cs c.sizes,
    )

-- partitions cost no more than 2 ^ 14 for each word of the file
pub costs-at_most : TakesItsPayload → (f : Format) → HasRoom (numbers_of f) → TakesItsCost (numbers_of f) → SequencesRise → (c : Collection) (parts : List ListParts) → WellFormed (numbers_of f) c
    → ArePartitions c.lists parts → cost_of_lists (numbers_of f) c parts ≤ 2 ^ 14 * length (file_words (numbers_of f) c parts)
costs-at_most takes One room cost rise c parts good cut = plain-cost (numbers_of One) room cost rise c parts good cut
costs-at_most takes Two room cost rise c parts good cut = plain-cost (numbers_of Two) room cost rise c parts good cut
costs-at_most takes Three room cost rise c parts good cut = packed-cost takes cost rise c parts good cut
