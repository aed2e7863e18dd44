-- Lemmas on what is summed over the parts of a file of either kind.
use Rattle.std.proofs.Common.{◌≡◌, ℕ, zero, suc, ◌+◌, ◌-◌, ◌^◌, ◌<◌, ◌≤◌, List, [], ◌∷◌, length, get_or, map, inl, inr, refl, sym, ap, ◌∙◌, subst, arith, length-append}
use Rattle.std.specs.List.{All, sum, sum_by}
use Rattle.std.proofs.lemmas.List.{length-map, get_or_past}
use Rattle.std.proofs.lemmas.Bool.{cases_lt}
use Rattle.std.proofs.lemmas.List.Sums.{sum-map, sum_by-cons}
use Rattle.collection_model.specs.FormatNumbers.{format_three}
use Rattle.collection_model.specs.Collection.{Posting, Collection, list_of}
use Rattle.collection_model.specs.Sequences.{doc_sequence, freq_sequence}
use Rattle.part_cost.specs.declared.formats.Format.{Format}
use Rattle.part_cost.specs.declared.formats.Format.TheVariants.{One, Two, Three}
use Rattle.part_cost.specs.Formats.{numbers_of}
use Rattle.part_cost.proofs.Rooms.{formats-have-room}
use Rattle.part_cost.specs.Span.{universe}
use Rattle.part_cost.specs.Partition.{partition_cost}
use Rattle.two_level.specs.Laws.{TakesItsCost}
use Rattle.two_level.specs.SequenceView.{SequenceView}
use Rattle.packed_list.specs.ListBits.{list_bits}
use Rattle.index_file.specs.CutLists.{CutList, ListParts, with_parts, ArePartitions}
use Rattle.index_file.specs.FileWords.{Spells}
use Rattle.index_file.specs.PackedWords.{first_list_bit, bits_of_list, bits_of_lists}
use Rattle.index_file.specs.IndexView.{list_of_kind, docs_view, freqs_view}
use Rattle.index_file.specs.Measures.{Measure, measure_of_part, measure_of_list, IsMeasured}
use Rattle.index_file.specs.Laws.{FileLaws}
use Rattle.index_file.proofs.Measured.{part-at_most, index-at_most, plain-measured}
use Rattle.index_file.proofs.StatedIndex.{lists-back}
use Rattle.index_file.proofs.PackedStated.{bits-some}
use Rattle.index_file.proofs.PackedIndex.{packable}
use Rattle.index_file.proofs.PackedCosts.{IsCut, CostLittle, cut-sequences, none-costs, list-at_most, lists-at_most}
use Rattle.index_file.proofs.FileKinds.{to-plain, to-packed, cut-of-term, list-read}

-- a part adds at most its payload and an entry
adds-little : (measure : Measure) (xs : List ℕ) → CostLittle (measure_of_part measure xs) xs
adds-little measure xs i j = omega (arith, part-at_most measure (universe xs i j) (j - i))

-- what all lists of an index add is a small number
pub sums-small : FileLaws → ((v : Format) → TakesItsCost (numbers_of v)) → (v : Format) (words : List ℕ) → length words < 2 ^ 57 → (c : Collection) (parts : List ListParts) → Spells (numbers_of v) words c parts
    → (measure : Measure) → sum (map (measure_of_list measure) (with_parts c.lists parts)) < 2 ^ 63
sums-small laws costs One words few c parts h measure = index-at_most (numbers_of One) (formats-have-room One) (costs One) (laws.sequences One).rise words c parts (to-plain One words c parts refl h) few measure
sums-small laws costs Two words few c parts h measure = index-at_most (numbers_of Two) (formats-have-room Two) (costs Two) (laws.sequences Two).rise words c parts (to-plain Two words c parts refl h) few measure
sums-small laws costs Three words few c parts h measure =
    let cs : List CutList = with_parts c.lists parts in
    let fits = packable words c parts (to-packed words c parts h) in
    omega (
      arith,
      sum-map (measure_of_list measure) cs,
      lists-at_most laws.takes (costs Three) (laws.sequences Three).rise (λ x. measure_of_part measure (doc_sequence x.list)) (λ x. measure_of_part measure (freq_sequence x.list))
          (λ x. adds-little measure (doc_sequence x.list)) (λ x. adds-little measure (freq_sequence x.list)) c.documents 0 cs fits.documents fits.lists,
      fits.fits,
    )

-- the two sequences of a list of an index can be measured
pub record AreMeasured (v : Format) (measure : Measure) (c : CutList) : Type 0 where
  pub docs : IsMeasured measure (docs_view (numbers_of v) c)
  pub freqs : IsMeasured measure (freqs_view (numbers_of v) c)

packed-measured : FileLaws → TakesItsCost format_three → (measure : Measure) (n : ℕ) (c : CutList) → n ≤ format_three.most_documents → IsCut n c → AreMeasured Three measure c
packed-measured laws cost measure n c few h =
    let rise = (laws.sequences Three).rise in
    let s = cut-sequences rise n c few h in
    let most = list-at_most laws.takes cost rise (measure_of_part measure (doc_sequence c.list)) (measure_of_part measure (freq_sequence c.list)) n 0 c.list c.parts (adds-little measure (doc_sequence c.list)) (adds-little measure (freq_sequence c.list)) few h in
    let short = laws.short n 0 c.list c.parts.doc_ends c.parts.freq_ends few h in
    record {
      docs = record { rising = s.docs_rise; below = s.docs_below; partition = s.docs_cut; small = omega (arith, most, short) };
      freqs = record { rising = s.sums_rise; below = s.sums_below; partition = s.sums_cut; small = omega (arith, most, short) };
    }

pub list-measured : FileLaws → ((v : Format) → TakesItsCost (numbers_of v)) → (v : Format) (words : List ℕ) → length words < 2 ^ 57 → (c : Collection) (parts : List ListParts) (none : ListParts)
    → Spells (numbers_of v) words c parts → (measure : Measure) (t : ℕ) → t < length c.lists → AreMeasured v measure (record { list = list_of c t; parts = get_or parts t none })
list-measured laws costs One words few c parts none h measure t lt =
    let m = plain-measured (numbers_of One) (formats-have-room One) (costs One) (laws.sequences One).rise words c parts none (to-plain One words c parts refl h) few measure t lt in
    record { docs = m.docs; freqs = m.freqs }
list-measured laws costs Two words few c parts none h measure t lt =
    let m = plain-measured (numbers_of Two) (formats-have-room Two) (costs Two) (laws.sequences Two).rise words c parts none (to-plain Two words c parts refl h) few measure t lt in
    record { docs = m.docs; freqs = m.freqs }
list-measured laws costs Three words few c parts none h measure t lt =
    let cs : List CutList = with_parts c.lists parts in
    let p = to-packed words c parts h in
    let fits = packable words c parts p in
    let x : CutList = record { list = list_of c t; parts = get_or parts t none } in
    let is : get_or cs t x ≡ x = cut-of-term c.lists parts x none p.partitions t lt in
    let count : t < length cs = omega (arith, lt, length-map cs (λ k. k.list), ap length (lists-back c.lists parts p.partitions)) in
    packed-measured laws (costs Three) measure c.documents x fits.documents (subst (IsCut c.documents) is (fits.lists t x count))

-- what one of the lists adds, and that an empty one adds nothing
pub adds-at : (measure : Measure) (lists : List (List Posting)) (parts : List ListParts) (none : ListParts) → ArePartitions lists parts → (t : ℕ) → t < length lists
    → get_or (map (measure_of_list measure) (with_parts lists parts)) t 0 ≡ measure_of_list measure (record { list = get_or lists t []; parts = get_or parts t none })
adds-at measure [] parts none h t lt = absurd (omega (arith, lt))
adds-at measure (l ∷ lists) [] none h t lt = absurd h
adds-at measure (l ∷ lists) (p ∷ parts) none h zero lt = refl
adds-at measure (l ∷ lists) (p ∷ parts) none h (suc t) lt = adds-at measure lists parts none h.2 t (omega (arith, lt))

pub empty-adds : (measure : Measure) (lists : List (List Posting)) (parts : List ListParts) → ArePartitions lists parts → (t : ℕ) → get_or lists t [] ≡ []
    → get_or (map (measure_of_list measure) (with_parts lists parts)) t 0 ≡ 0
empty-adds measure [] parts h t e = refl
empty-adds measure (l ∷ lists) [] h t e = absurd h
empty-adds measure (l ∷ lists) (p ∷ parts) h zero e = none-costs (measure_of_part measure (doc_sequence l)) (measure_of_part measure (freq_sequence l)) l p e h.0 h.1
empty-adds measure (l ∷ lists) (p ∷ parts) h (suc t) e = empty-adds measure lists parts h.2 t e

-- where there are no list bits all lists are empty
empty-cut : (n at : ℕ) (cs : List CutList) → length (bits_of_lists n at cs) ≡ 0 → (d : CutList) → d.list ≡ [] → (t : ℕ) → (get_or cs t d).list ≡ []
empty-cut n at [] none d e t = e
empty-cut n at (c ∷ cs) none d e zero = empty-here c.list (omega (arith, none, length-append (bits_of_list n at c) (bits_of_lists n (at + length (bits_of_list n at c)) cs)))
  where
    empty-here : (list : List Posting) → length (list_bits n (first_list_bit + at) list c.parts.doc_ends c.parts.freq_ends) ≤ 0 → list ≡ []
    empty-here [] h = refl
    empty-here (p ∷ list) h = absurd (omega (arith, h, bits-some n (first_list_bit + at) p list c.parts.doc_ends c.parts.freq_ends))
empty-cut n at (c ∷ cs) none d e (suc t) =
    let l : List ℕ = bits_of_list n at c in
    empty-cut n (at + length l) cs (omega (arith, none, length-append l (bits_of_lists n (at + length l) cs))) d e t

-- and where all lists are empty there are none
pub no-bits : (n at : ℕ) (lists : List (List Posting)) (parts : List ListParts) → sum_by length lists ≡ 0 → length (bits_of_lists n at (with_parts lists parts)) ≡ 0
no-bits n at [] parts none = refl
no-bits n at (l ∷ lists) [] none = refl
no-bits n at ([] ∷ lists) (p ∷ parts) none = no-bits n (at + 0) lists parts (omega (arith, none, sum_by-cons length [] lists))
no-bits n at ((x ∷ l) ∷ lists) (p ∷ parts) none = absurd (omega (arith, none, sum_by-cons length (x ∷ l) lists))

pub empty-lists : (n at : ℕ) (lists : List (List Posting)) (parts : List ListParts) → ArePartitions lists parts → length (bits_of_lists n at (with_parts lists parts)) ≡ 0 → (t : ℕ) → get_or lists t [] ≡ []
empty-lists n at lists parts h none t =
    let d : CutList = record { list = []; parts = record { doc_ends = []; freq_ends = [] } } in
    elim (cases_lt t (length lists)) [
      | inl lt ↦ sym (ap (λ (c : CutList). c.list) (cut-of-term lists parts d d.parts h t lt)) ∙ empty-cut n at (with_parts lists parts) none d refl t
      | inr ge ↦ get_or_past lists t [] ge
    ]

-- the two sequences that are read of a list of an index can be measured, and add together what the list adds
pub record MeasuredViews (measure : Measure) (v w : SequenceView) (added : ℕ) : Type 0 where
  pub docs : IsMeasured measure v
  pub freqs : IsMeasured measure w
  pub adds : partition_cost (measure_of_part measure v.values) v.ends + partition_cost (measure_of_part measure w.values) w.ends ≡ added

pub views-measured : FileLaws → ((v : Format) → TakesItsCost (numbers_of v)) → (measure : Measure) (format : Format) (words : List ℕ) → All (λ w. w < 2 ^ 64) words → length words < 2 ^ 57
    → (c : Collection) (parts : List ListParts) → Spells (numbers_of format) words c parts → (t : ℕ) → t < length c.lists → (v w : SequenceView)
    → v ≡ (list_of_kind (numbers_of format).kind (numbers_of format) words t).docs → w ≡ (list_of_kind (numbers_of format).kind (numbers_of format) words t).freqs
    → MeasuredViews measure v w (get_or (map (measure_of_list measure) (with_parts c.lists parts)) t 0)
views-measured laws costs measure format words narrow few c parts h t lt v w ev ew =
    let none : ListParts = record { doc_ends = []; freq_ends = [] } in
    let x : CutList = record { list = list_of c t; parts = get_or parts t none } in
    let read = list-read laws format words narrow c parts none h t lt in
    let are = list-measured laws costs format words few c parts none h measure t lt in
    let docs : v ≡ docs_view (numbers_of format) x = ev ∙ read.docs in
    let freqs : w ≡ freqs_view (numbers_of format) x = ew ∙ read.freqs in
    record {
      docs = subst (IsMeasured measure) (sym docs) are.docs;
      freqs = subst (IsMeasured measure) (sym freqs) are.freqs;
      adds = ap (λ y. partition_cost (measure_of_part measure y.values) y.ends + partition_cost (measure_of_part measure w.values) w.ends) docs
          ∙ ap (λ y. partition_cost (measure_of_part measure (doc_sequence x.list)) x.parts.doc_ends + partition_cost (measure_of_part measure y.values) y.ends) freqs
          ∙ sym (adds-at measure c.lists parts none h.partitions t lt);
    }

-- how many postings a list has
pub count-at : (lists : List (List Posting)) (t : ℕ) → t < length lists → get_or (map (length {A = Posting}) lists) t 0 ≡ length (get_or lists t [])
count-at [] t lt = absurd (omega (arith, lt))
count-at (l ∷ lists) zero lt = refl
count-at (l ∷ lists) (suc t) lt = count-at lists t (omega (arith, lt))

pub empty-count : (lists : List (List Posting)) (t : ℕ) → get_or lists t [] ≡ [] → get_or (map (length {A = Posting}) lists) t 0 ≡ 0
empty-count [] t e = refl
empty-count (l ∷ lists) zero e = ap (length {A = Posting}) e
empty-count (l ∷ lists) (suc t) e = empty-count lists t e
