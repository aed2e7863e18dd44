-- What the words of a packed file state is what they are of.
use Rattle.std.proofs.Common.{◌≡◌, ℕ, zero, suc, ◌+◌, ◌-◌, ◌*◌, ◌/◌, ◌%◌, ◌^◌, ◌≤◌, ◌<◌, true, false, if◌then◌else◌, List, [], ◌∷◌, ◌++◌, length, take, drop, get_or, map, refl, sym, ap, ◌∙◌, subst, arith, length-append}
use Rattle.std.specs.Prelude.{slice_range, ◌==◌}
use Rattle.std.specs.List.{All, range_with_len}
use Rattle.std.proofs.lemmas.Bool.{eq-eqb, ne_eqb}
use Rattle.std.proofs.lemmas.List.{get_or-take, get_or-drop, length-map, ext_get_or}
use Rattle.std.proofs.lemmas.List.FromFn.{length-map-range_with_len, get_or-map-range_with_len}
use Rattle.bit_words.specs.Bits.{bits_of, one_after, field_bits}
use Rattle.bit_words.specs.Laws.{BitsOfAppended, BitsOfWords}
use Rattle.bit_words.proofs.Pieces.{StandAt, stands-within}
use Rattle.bit_words.proofs.Value.{length-bits_of}
use Rattle.collection_model.specs.FormatNumbers.{format_three}
use Rattle.collection_model.specs.Collection.{Posting, greatest_freq}
use Rattle.collection_model.specs.Sequences.{doc_sequence, freq_sequence}
use Rattle.part_cost.specs.Payload.{digits}
use Rattle.part_cost.specs.Partition.{IsPartition}
use Rattle.part_cost.proofs.Partitions.{ends-within}
use Rattle.part_codec.specs.Laws.{PartIsBits, TakesItsPayload, ValuesStandAt}
use Rattle.two_level.specs.SequenceView.{SequenceView}
use Rattle.postings.specs.Laws.{SequencesGiveTheirList}
use Rattle.packed_list.specs.Gamma.{gamma}
use Rattle.packed_list.specs.ListBits.{head_bits, docs_bits, freqs_bits, list_bits, IsCutInto}
use Rattle.packed_list.specs.ListStated.{ListStated, list_at, no_list}
use Rattle.packed_list.specs.Laws.{ListsStateBack}
use Rattle.packed_list.proofs.GammaBack.{length-one_after}
use Rattle.index_file.specs.CutLists.{CutList, ListParts}
use Rattle.index_file.specs.PlainWords.{sizes_words}
use Rattle.index_file.specs.PackedWords.{first_list_bit, bits_of_list}
use Rattle.index_file.specs.PackedLaws.{IsPackable}
use Rattle.index_file.specs.PackedAt.{packed_documents, packed_terms, packed_sizes, start_stated}
use Rattle.index_file.specs.PackedView.{size_at, sizes_at, packed_list_stated, packed_postings, packed_cuts, packed_collection, packed_parts}
use Rattle.index_file.proofs.CutLists.{lists_in, parts_in}
use Rattle.index_file.proofs.FilePieces.{half_of, sizes-back}
use Rattle.index_file.proofs.Lengths.{sizes-length}
use Rattle.index_file.proofs.PackedPieces.{PackedLaid}
use Rattle.index_file.proofs.PackedBack.{list-here, start-here, start-next}

-- a list of some postings has some bits
head-some : (list : List Posting) → 1 ≤ length (head_bits list)
head-some list =
    let d : ℕ = digits (length list) - 1 in
    omega (
      arith,
      length-append (gamma (length list)) (gamma (greatest_freq list)),
      length-append (one_after d) (field_bits d (length list - 2 ^ d)),
      length-one_after d,
    )

pub bits-some : (n at : ℕ) (p : Posting) (list : List Posting) (doc_ends freq_ends : List ℕ) → 1 ≤ length (list_bits n at (p ∷ list) doc_ends freq_ends)
bits-some n at p [] doc_ends freq_ends = omega (arith, head-some (p ∷ []), length-append (head_bits (p ∷ [])) (field_bits (digits (n - 1)) p.doc))
bits-some n at p (q ∷ list) doc_ends freq_ends =
    let head : List ℕ = head_bits (p ∷ q ∷ list) in
    let docs : List ℕ = docs_bits n (at + length head) (p ∷ q ∷ list) doc_ends in
    let freqs : List ℕ = freqs_bits (at + length head + length docs) (p ∷ q ∷ list) freq_ends in
    omega (arith, head-some (p ∷ q ∷ list), length-append (head ++ docs) freqs, length-append head docs)

pub no-cut : (ends : List ℕ) → IsPartition 0 ends → ends ≡ []
no-cut [] h = refl
no-cut (end ∷ ends) h = absurd (omega (arith, h.0, ends-within end 0 ends h.1))

-- what is stated of a list in its parts
abbrev pub stated-of : CutList → ListStated
stated-of c = record {
  most = greatest_freq c.list;
  docs = record { format = format_three; values = doc_sequence c.list; ends = c.parts.doc_ends };
  freqs = record { format = format_three; values = freq_sequence c.list; ends = c.parts.freq_ends };
}

abbrev seq-of : List ℕ → List ℕ → SequenceView
seq-of values ends = record { format = format_three; values = values; ends = ends }

view-of-none : (ends : List ℕ) → ends ≡ [] → (v : List ℕ) → v ≡ [] → ◌≡◌ {A = SequenceView} (record { format = format_three; values = []; ends = [] }) (record { format = format_three; values = v; ends = ends })
view-of-none ends e v f = ap (λ x. seq-of x []) (sym f) ∙ ap (seq-of v) (sym e)

-- a list between two places
between : ListsStateBack → (n from to : ℕ) (words : List ℕ) → n ≤ format_three.most_documents → All (λ w. w < 2 ^ 64) words → (c : CutList) → IsCutInto n c.list c.parts.doc_ends c.parts.freq_ends
    → to ≡ from + length (bits_of_list n from c) → first_list_bit + to ≤ 64 * length words → StandAt (bits_of words) (first_list_bit + from) (bits_of_list n from c)
    → (if from == to then no_list else list_at n words (first_list_bit + from)) ≡ stated-of c
between back n from to words small narrow c cut end fit stand = go c.list c.parts.doc_ends c.parts.freq_ends cut end stand
  where
    go : (list : List Posting) (doc_ends freq_ends : List ℕ) → IsCutInto n list doc_ends freq_ends → to ≡ from + length (list_bits n (first_list_bit + from) list doc_ends freq_ends)
        → StandAt (bits_of words) (first_list_bit + from) (list_bits n (first_list_bit + from) list doc_ends freq_ends)
        → (if from == to then no_list else list_at n words (first_list_bit + from)) ≡ stated-of (record { list = list; parts = record { doc_ends = doc_ends; freq_ends = freq_ends } })
    go [] doc_ends freq_ends cut end stand =
        let same : (from == to) ≡ true = eq-eqb from to (let e : from ≡ to = omega (arith, end) in e) in
        ap (λ b. if b then no_list else list_at n words (first_list_bit + from)) same
        ∙ ap (λ (v : SequenceView). record { most = 0; docs = v; freqs = record { format = format_three; values = []; ends = [] } }) (view-of-none doc_ends (no-cut doc_ends cut.docs) [] refl)
        ∙ ap (λ (v : SequenceView). record { most = 0; docs = record { format = format_three; values = []; ends = doc_ends }; freqs = v }) (view-of-none freq_ends (no-cut freq_ends cut.freqs) [] refl)
    go (p ∷ list) doc_ends freq_ends cut end stand =
        let at : ℕ = first_list_bit + from in
        let l : ℕ = length (list_bits n at (p ∷ list) doc_ends freq_ends) in
        let apart : (from == to) ≡ false = ne_eqb from to (λ e. omega (arith, e, end, bits-some n at p list doc_ends freq_ends)) in
        let range : slice_range (bits_of words) at (at + l) ≡ list_bits n at (p ∷ list) doc_ends freq_ends =
        ap (λ i. take i (drop at (bits_of words))) (let e : at + l - at ≡ l = omega arith in e) ∙ stand in
        ap (λ b. if b then no_list else list_at n words at) apart ∙ back n at words (p ∷ list) doc_ends freq_ends small narrow cut (omega arith) (omega (arith, end, fit)) range

module _ (appended : BitsOfAppended) (filled : BitsOfWords) (part : PartIsBits) (takes : TakesItsPayload) (values : ValuesStandAt) (back : ListsStateBack) (give : SequencesGiveTheirList) (words : List ℕ) (narrow : All (λ w. w < 2 ^ 64) words) (n : ℕ) (cs : List CutList) (xs : List ℕ) (fits : IsPackable n cs xs) (h : PackedLaid words n cs xs) where
  -- list k
  pub cut-here : (k : ℕ) (lt : k < packed_terms words) (c : CutList) → get_or cs k c ≡ c → IsCutInto n c.list c.parts.doc_ends c.parts.freq_ends
  cut-here k lt c e = subst (λ x. IsCutInto n x.list x.parts.doc_ends x.parts.freq_ends) e (fits.lists k c (omega (arith, lt, h.terms)))

  pub list-states : (k : ℕ) (lt : k < packed_terms words) (d : CutList) → packed_list_stated words k ≡ stated-of (get_or cs k d)
  list-states k lt d =
      let s = list-here appended filled part takes values words n cs xs fits h k lt in
      let c : CutList = s.cut in
      let here : start_stated words k ≡ s.from = start-here appended filled part takes values words n cs xs fits h k lt in
      let next : start_stated words (k + 1) ≡ s.from + length (bits_of_list n s.from c) = start-next appended filled part takes values words n cs xs fits h k lt in
      let room : first_list_bit + s.from ≤ length (bits_of words) = omega (arith, length-bits_of words, h.frame.whole, s.within, h.bits) in
      let fit : first_list_bit + start_stated words (k + 1) ≤ 64 * length words = omega (arith, next, stands-within (bits_of words) (first_list_bit + s.from) (bits_of_list n s.from c) s.stand room, length-bits_of words) in
      ap (λ m. if start_stated words k == start_stated words (k + 1) then no_list else list_at m words (first_list_bit + start_stated words k)) h.docs
      ∙ ap (λ i. if i == start_stated words (k + 1) then no_list else list_at n words (first_list_bit + i)) here
      ∙ between back n s.from (start_stated words (k + 1)) words fits.documents narrow c (cut-here k lt c (s.is c)) next fit s.stand
      ∙ ap stated-of (sym (s.is d))

  abbrev no-parts : ListParts
  no-parts = record { doc_ends = []; freq_ends = [] }

  abbrev none : CutList
  none = record { list = []; parts = record { doc_ends = []; freq_ends = [] } }

  at-map-list : (ds : List CutList) (k : ℕ) → get_or (lists_in ds) k [] ≡ (get_or ds k none).list
  at-map-list [] k = refl
  at-map-list (d ∷ ds) zero = refl
  at-map-list (d ∷ ds) (suc k) = at-map-list ds k

  at-map-parts : (ds : List CutList) (k : ℕ) → get_or (parts_in ds) k no-parts ≡ (get_or ds k none).parts
  at-map-parts [] k = refl
  at-map-parts (d ∷ ds) zero = refl
  at-map-parts (d ∷ ds) (suc k) = at-map-parts ds k

  lists-are : map (λ t. packed_postings (packed_list_stated words t)) (range_with_len 0 (packed_terms words)) ≡ lists_in cs
  lists-are =
      let f : ℕ → List Posting = λ t. packed_postings (packed_list_stated words t) in
      let terms : ℕ = packed_terms words in
      let count : length (map (λ t. packed_postings (packed_list_stated words t)) (range_with_len 0 (packed_terms words))) ≡ packed_terms words = length-map-range_with_len f 0 terms in
      ext_get_or [] (map f (range_with_len 0 terms)) (lists_in cs) (count ∙ h.terms ∙ sym (length-map cs (λ c. c.list)))
      (λ k lt. (let less : k < packed_terms words = omega (arith, lt, count) in
      let c : CutList = get_or cs k none in
      get_or-map-range_with_len f 0 terms k k [] less (omega arith) ∙ ap packed_postings (list-states k less none)
      ∙ give format_three n c.list (fits.lists k none (omega (arith, less, h.terms))).well_formed ∙ sym (at-map-list cs k)))

  pub parts-are : packed_parts words ≡ parts_in cs
  parts-are =
      let f : ℕ → ListParts = λ t. packed_cuts (packed_list_stated words t) in
      let terms : ℕ = packed_terms words in
      let count : length (packed_parts words) ≡ packed_terms words = length-map-range_with_len f 0 terms in
      ext_get_or no-parts (map f (range_with_len 0 terms)) (parts_in cs) (count ∙ h.terms ∙ sym (length-map cs (λ c. c.parts)))
      (λ k lt. (let less : k < packed_terms words = omega (arith, lt, count) in
      get_or-map-range_with_len f 0 terms k k no-parts less (omega arith) ∙ ap packed_cuts (list-states k less none) ∙ sym (at-map-parts cs k)))

  size-is : (d : ℕ) → d < n → size_at words (packed_sizes words) d ≡ get_or xs d 0
  size-is d lt =
      let z : List ℕ = sizes_words xs in
      let s : ℕ = packed_sizes words in
      let rest : List ℕ = drop (packed_sizes words) words in
      let within : d / 2 < length (sizes_words xs) = omega (arith, lt, sizes-length xs, fits.size_each) in
      ap (half_of (d % 2 == 0)) (sym (get_or-drop s words (d / 2) 0) ∙ sym (get_or-take (length z) rest (d / 2) 0 within) ∙ ap (λ ws. get_or ws (d / 2) 0) h.sizes_at)
      ∙ sizes-back xs fits.small_sizes d (omega (arith, lt, fits.size_each))

  sizes-are : sizes_at words (packed_sizes words) (packed_documents words) ≡ xs
  sizes-are =
      let f : ℕ → ℕ = size_at words (packed_sizes words) in
      let m : ℕ = packed_documents words in
      let count : length (sizes_at words (packed_sizes words) (packed_documents words)) ≡ packed_documents words = length-map-range_with_len f 0 m in
      ext_get_or 0 (map f (range_with_len 0 m)) xs (count ∙ h.docs ∙ sym fits.size_each)
      (λ i lt. get_or-map-range_with_len f 0 m i i 0 (omega (arith, lt, count)) (omega arith) ∙ size-is i (omega (arith, lt, count, h.docs)))

  pub collection-is : packed_collection words ≡ record { documents = n; lists = lists_in cs; sizes = xs }
  collection-is =
      ap (λ x. record { documents = x; lists = map (λ t. packed_postings (packed_list_stated words t)) (range_with_len 0 (packed_terms words)); sizes = sizes_at words (packed_sizes words) (packed_documents words) }) h.docs
      ∙ ap (λ x. record { documents = n; lists = x; sizes = sizes_at words (packed_sizes words) (packed_documents words) }) lists-are
      ∙ ap (λ x. record { documents = n; lists = lists_in cs; sizes = x }) sizes-are
