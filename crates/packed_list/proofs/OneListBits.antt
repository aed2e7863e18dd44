-- Bits are those of one list in its parts only.
use Rattle.std.proofs.Common.{◌≡◌, ℕ, zero, suc, ◌+◌, ◌-◌, ◌*◌, ◌^◌, ◌<◌, ◌≤◌, max, List, [], ◌∷◌, ◌++◌, length, get_or, replicate, refl, sym, ap, ◌∙◌, subst, arith, append_assoc, append-nil}
use Rattle.std.specs.List.{All}
use Rattle.std.proofs.lemmas.Nat.{mul-le}
use Rattle.std.proofs.lemmas.List.{length-append, length-map}
use Rattle.bit_words.specs.Bits.{field_bits, one_after}
use Rattle.bit_words.specs.Laws.{BitsOfAppended, WordsOfBits}
use Rattle.collection_model.specs.FormatNumbers.{format_three}
use Rattle.collection_model.specs.Collection.{Posting, IsPostingList, docs_of, freqs_of, greatest, greatest_freq}
use Rattle.collection_model.specs.Sequences.{sums_from, lessened, doc_sequence, freq_sequence, postings_in}
use Rattle.collection_model.proofs.Lists.{rising-length}
use Rattle.part_cost.specs.Payload.{digits}
use Rattle.part_cost.specs.Partition.{IsPartition}
use Rattle.part_cost.proofs.DigitCounts.{digits-hold}
use Rattle.part_cost.proofs.Numbers.{rises}
use Rattle.part_cost.proofs.Parts.{past-at}
use Rattle.part_cost.proofs.Partitions.{ends-within}
use Rattle.part_codec.specs.Laws.{TakesItsPayload, OneListAtPlace}
use Rattle.two_level.specs.Laws.{OneSequence}
use Rattle.postings.specs.Laws.{SequencesGiveTheirList, SequencesRise}
use Rattle.packed_list.specs.Gamma.{gamma}
use Rattle.packed_sequence.specs.SequenceBits.{last_doc, last_sum, sequence_bits, IsStored}
use Rattle.packed_list.specs.ListBits.{head_bits, docs_bits, freqs_bits, list_bits, IsCutInto}
use Rattle.packed_sequence.specs.Laws.{SequenceWordsFit}
use Rattle.packed_list.specs.Laws.{OnePackedList}
use Rattle.packed_sequence.proofs.OneSequenceBits.{one-field_prefix}
use Rattle.packed_list.proofs.GammaCodes.{one-gamma}
use Rattle.packed_sequence.proofs.OneSequenceBits.{one-sequence-bits}

-- the greatest of some numbers is no less than each, and is among those below a bound
pub each-at_most : (fs : List ℕ) (k : ℕ) → k < length fs → get_or fs k 0 ≤ greatest fs
each-at_most [] k lt = absurd (omega (arith, lt))
each-at_most (f ∷ fs) zero lt = omega arith
each-at_most (f ∷ fs) (suc k) lt = omega (arith, each-at_most fs k (omega (arith, lt)))

greatest-below : (fs : List ℕ) (bound : ℕ) → 0 < bound → All (λ f. f < bound) fs → greatest fs < bound
greatest-below [] bound some all = some
greatest-below (f ∷ fs) bound some all =
    omega (arith, (let first : f < bound = all 0 0 (omega arith) in first), greatest-below fs bound some (λ k d lt. all (suc k) d (omega (arith, lt))))

-- sums of numbers up to h + 1, of which none is 0
sums-within : (fs : List ℕ) (s h k : ℕ) → All (λ f. 1 ≤ f) fs → ((j : ℕ) → j < length fs → get_or fs j 0 ≤ h + 1) → k < length fs
    → get_or (lessened (sums_from s fs)) k 0 + 1 ≤ s + (k + 1) * (h + 1)
sums-within [] s h k some most lt = absurd (omega (arith, lt))
sums-within (f ∷ fs) s h zero some most lt =
    let one : 1 ≤ f = some 0 0 (omega arith) in
    let few : f ≤ h + 1 = most 0 (omega arith) in
    let goal : s + f - 1 + 1 ≤ s + (0 + 1) * (h + 1) = omega (arith, one, few) in
    goal
sums-within (f ∷ fs) s h (suc k) some most lt =
    let few : f ≤ h + 1 = most 0 (omega arith) in
    let rest = sums-within fs (s + f) h k (λ j d less. some (suc j) d (omega (arith, less))) (λ j less. most (suc j) (omega (arith, less))) (omega (arith, lt)) in
    let goal : get_or (lessened (sums_from (s + f) fs)) k 0 + 1 ≤ s + (suc k + 1) * (h + 1) = omega (arith, rest, few) in
    goal

-- the one partition of one number, and of none
pub one-cut : (ends : List ℕ) → IsPartition 1 ends → ends ≡ 1 ∷ []
one-cut [] h = absurd (omega (arith, h))
one-cut (end ∷ []) h = ap (λ e. e ∷ []) h.1
one-cut (end ∷ next ∷ ends) h = absurd (omega (arith, h.0, h.1.0, ends-within next 1 ends h.1.1))

no-cut : (ends : List ℕ) → IsPartition 0 ends → ends ≡ []
no-cut [] h = refl
no-cut (end ∷ ends) h = absurd (omega (arith, h.0, ends-within end 0 ends h.1))

-- a list over n documents with some postings: how many there are, and its greatest frequency
pub record HasSome (n : ℕ) (list : List Posting) : Type 0 where
  pub some : 1 ≤ length list
  pub few : length list ≤ n
  pub least : 1 ≤ greatest_freq list
  pub most : greatest_freq list < 2 ^ 32

pub has-some : (n : ℕ) (list : List Posting) → IsPostingList format_three n list → 1 ≤ length list → HasSome n list
has-some n list good some =
    let docs : length (docs_of list) ≡ length list = length-map list (λ p. p.doc) in
    let freqs : length (freqs_of list) ≡ length list = length-map list (λ p. p.freq) in
    record {
      some = some;
      few = omega (arith, docs, rising-length (docs_of list) n good.rising good.in_range);
      least = omega (arith, good.not_zero 0 0 (omega (arith, freqs, some)), each-at_most (freqs_of list) 0 (omega (arith, freqs, some)));
      most = greatest-below (freqs_of list) (2 ^ 32) (omega arith) good.fit;
    }

-- its two sequences
pub docs-stored : (n : ℕ) (list : List Posting) (ends : List ℕ) → n ≤ format_three.most_documents → IsPostingList format_three n list → HasSome n list → IsPartition (length list) ends
    → IsStored (last_doc n) (length list) (doc_sequence list) ends
docs-stored n list ends small good has cut =
    let count : length (docs_of list) ≡ length list = length-map list (λ p. p.doc) in
    let at = past-at (docs_of list) (length list) has.some in
    let inside = good.in_range (length list - 1) 0 (omega (arith, count, has.some)) in
    let room : n - 1 < 2 ^ digits (n - 1) = digits-hold (n - 1) (omega (arith, small)) in
    record {
      rising = good.rising;
      below = λ k d lt. omega (arith, good.in_range k d lt, small);
      count = count;
      partition = cut;
      less = λ one. omega arith;
      fits = λ one. omega (arith, at, inside, room);
    }

pub freqs-stored : SequencesRise → (n : ℕ) (list : List Posting) (ends : List ℕ) → n ≤ format_three.most_documents → IsPostingList format_three n list → HasSome n list → IsPartition (length list) ends
    → IsStored (last_sum (length list) (greatest_freq list)) (length list) (freq_sequence list) ends
freqs-stored rise n list ends small good has cut =
    let s = rise format_three n list good in
    let m : ℕ = length list in
    let h : ℕ = greatest_freq list - 1 in
    let freqs : length (freqs_of list) ≡ m = length-map list (λ p. p.freq) in
    let at = past-at (freq_sequence list) m has.some in
    let up = rises (freq_sequence list) s.sums_rise 0 (m - 1) (omega arith) (omega (arith, s.sums_count, has.some)) in
    let within = sums-within (freqs_of list) 0 h (m - 1) good.not_zero (λ j lt. omega (arith, each-at_most (freqs_of list) j lt, has.least)) (omega (arith, freqs, has.some)) in
    let steps : (m - 1 + 1) * (h + 1) ≡ m * h + m = (let e : m - 1 + 1 ≡ m = omega (arith, has.some) in ap (λ x. x * (h + 1)) e ∙ (let f : m * (h + 1) ≡ m * h + m = omega arith in f)) in
    let large = mul-le m h (2 ^ 32 - 1) (2 ^ 32 - 1) (omega (arith, has.few, small)) (omega (arith, has.most)) in
    let room : m * h < 2 ^ digits (m * h) = digits-hold (m * h) (omega (arith, large)) in
    record {
      rising = s.sums_rise;
      below = s.sums_below;
      count = s.sums_count;
      partition = cut;
      less = λ one. omega (arith, at, up);
      fits = λ one. omega (arith, at, up, within, steps, room, has.some);
    }

-- what a list begins with tells its length and its greatest frequency
heads : (n : ℕ) (list other : List Posting) (a b : List ℕ) → n ≤ format_three.most_documents → HasSome n list → HasSome n other → head_bits list ++ a ≡ head_bits other ++ b
    → (length list ≡ length other) × (greatest_freq list ≡ greatest_freq other) × (a ≡ b)
heads n list other a b small has too e =
    let first = one-gamma (length list) (length other) _ _ has.some (omega (arith, has.few, small)) too.some (omega (arith, too.few, small))
    (sym (append_assoc (gamma (length list)) (gamma (greatest_freq list)) a) ∙ e ∙ append_assoc (gamma (length other)) (gamma (greatest_freq other)) b) in
    let second = one-gamma (greatest_freq list) (greatest_freq other) a b has.least (omega (arith, has.most)) too.least (omega (arith, too.most)) first.1 in
    (first.0, second.0, second.1)

-- a list with a posting takes some bits
some-bits : (list : List Posting) (a : List ℕ) → 1 ≤ length (head_bits list ++ a)
some-bits list a =
    let z : ℕ = digits (length list) - 1 in
    omega (
      arith,
      length-append (head_bits list) a,
      length-append (gamma (length list)) (gamma (greatest_freq list)),
      length-append (one_after z) (field_bits z (length list - 2 ^ z)),
      length-append {A = ℕ} (replicate z 0) (1 ∷ []),
    )

-- the bits of a list of two postings and more, spread out
pub spread : (n at : ℕ) (p q : Posting) (list : List Posting) (doc_ends freq_ends : List ℕ)
    → list_bits n at (p ∷ q ∷ list) doc_ends freq_ends
    ≡ head_bits (p ∷ q ∷ list) ++ (docs_bits n (at + length (head_bits (p ∷ q ∷ list))) (p ∷ q ∷ list) doc_ends
    ++ (freqs_bits (at + length (head_bits (p ∷ q ∷ list)) + length (docs_bits n (at + length (head_bits (p ∷ q ∷ list))) (p ∷ q ∷ list) doc_ends)) (p ∷ q ∷ list) freq_ends ++ []))
spread n at p q list doc_ends freq_ends =
    let head : List ℕ = head_bits (p ∷ q ∷ list) in
    let docs : List ℕ = docs_bits n (at + length head) (p ∷ q ∷ list) doc_ends in
    let freqs : List ℕ = freqs_bits (at + length head + length docs) (p ∷ q ∷ list) freq_ends in
    append_assoc head docs freqs ∙ ap (λ bits. head ++ (docs ++ bits)) (sym (append-nil freqs))

some-many : (n at : ℕ) (p q : Posting) (list : List Posting) (doc_ends freq_ends : List ℕ) → 1 ≤ length (list_bits n at (p ∷ q ∷ list) doc_ends freq_ends)
some-many n at p q list doc_ends freq_ends =
    let head : List ℕ = head_bits (p ∷ q ∷ list) in
    let docs : List ℕ = docs_bits n (at + length head) (p ∷ q ∷ list) doc_ends in
    omega (arith, ap length (spread n at p q list doc_ends freq_ends), some-bits (p ∷ q ∷ list) (docs ++ (freqs_bits (at + length head + length docs) (p ∷ q ∷ list) freq_ends ++ [])))

module _ (payloads : TakesItsPayload) (one_part : OneListAtPlace) (appended : BitsOfAppended) (whole : WordsOfBits) (one : OneSequence format_three) (fit : SequenceWordsFit) (give : SequencesGiveTheirList) (rise : SequencesRise) where
  -- two lists of two postings and more
  many-lists : (n at : ℕ) (p q r s : Posting) (list other : List Posting) (doc_ends freq_ends doc_cuts freq_cuts : List ℕ) → n ≤ format_three.most_documents
      → IsCutInto n (p ∷ q ∷ list) doc_ends freq_ends → IsCutInto n (r ∷ s ∷ other) doc_cuts freq_cuts
      → list_bits n at (p ∷ q ∷ list) doc_ends freq_ends ≡ list_bits n at (r ∷ s ∷ other) doc_cuts freq_cuts
      → ((p ∷ q ∷ list) ≡ (r ∷ s ∷ other)) × (doc_ends ≡ doc_cuts) × (freq_ends ≡ freq_cuts)
  many-lists n at p q r s list other doc_ends freq_ends doc_cuts freq_cuts small h k e =
      let xs : List Posting = p ∷ q ∷ list in
      let ys : List Posting = r ∷ s ∷ other in
      let m : ℕ = length xs in
      let has = has-some n xs h.well_formed (omega arith) in
      let too = has-some n ys k.well_formed (omega arith) in
      let split = heads n xs ys _ _ small has too (sym (spread n at p q list doc_ends freq_ends) ∙ e ∙ spread n at r s other doc_cuts freq_cuts) in
      let count : length ys ≡ m = sym split.0 in
      let top : greatest_freq ys ≡ greatest_freq xs = sym split.1 in
      let head : head_bits ys ≡ head_bits xs = ap (λ j. gamma j ++ gamma (greatest_freq ys)) count ∙ ap (λ j. gamma m ++ gamma j) top in
      let place : ℕ = at + length (head_bits xs) in
      let docs_here : docs_bits n (at + length (head_bits ys)) ys doc_cuts ≡ docs_bits n place ys doc_cuts = ap (λ bits. docs_bits n (at + length bits) ys doc_cuts) head in
      let stored = docs-stored n xs doc_ends small h.well_formed has h.docs in
      let stored_too : IsStored (last_doc n) m (doc_sequence ys) doc_cuts = subst (λ j. IsStored (last_doc n) j (doc_sequence ys) doc_cuts) count (docs-stored n ys doc_cuts small k.well_formed too k.docs) in
      let docs = one-sequence-bits payloads one_part appended whole one fit m (omega arith) (omega (arith, has.few, small)) (last_doc n) place (doc_sequence xs) (doc_sequence ys) doc_ends doc_cuts _ _ stored stored_too
      (split.2 ∙ ap (λ bits. bits ++ (freqs_bits (at + length (head_bits ys) + length (docs_bits n (at + length (head_bits ys)) ys doc_cuts)) ys freq_cuts ++ [])) docs_here) in
      let behind : ℕ = place + length (docs_bits n place xs doc_ends) in
      let same_docs : docs_bits n place ys doc_cuts ≡ docs_bits n place xs doc_ends =
      ap (λ zs. sequence_bits (last_doc n) place zs doc_cuts) (sym docs.0) ∙ ap (sequence_bits (last_doc n) place (doc_sequence xs)) (sym docs.1) in
      let place_too : at + length (head_bits ys) + length (docs_bits n (at + length (head_bits ys)) ys doc_cuts) ≡ behind =
      omega (arith, ap length head, ap length docs_here, ap length same_docs) in
      let freqs_here : freqs_bits (at + length (head_bits ys) + length (docs_bits n (at + length (head_bits ys)) ys doc_cuts)) ys freq_cuts ≡ sequence_bits (last_sum m (greatest_freq xs)) behind (freq_sequence ys) freq_cuts =
      ap (λ j. freqs_bits j ys freq_cuts) place_too
      ∙ ap (λ j. sequence_bits (last_sum j (greatest_freq ys)) behind (freq_sequence ys) freq_cuts) count
      ∙ ap (λ j. sequence_bits (last_sum m j) behind (freq_sequence ys) freq_cuts) top in
      let sums = freqs-stored rise n xs freq_ends small h.well_formed has h.freqs in
      let sums_too : IsStored (last_sum m (greatest_freq xs)) m (freq_sequence ys) freq_cuts =
      subst (λ j. IsStored (last_sum m j) m (freq_sequence ys) freq_cuts) top
      (subst (λ j. IsStored (last_sum j (greatest_freq ys)) j (freq_sequence ys) freq_cuts) count (freqs-stored rise n ys freq_cuts small k.well_formed too k.freqs)) in
      let freqs = one-sequence-bits payloads one_part appended whole one fit m (omega arith) (omega (arith, has.few, small)) (last_sum m (greatest_freq xs)) behind (freq_sequence xs) (freq_sequence ys) freq_ends freq_cuts [] [] sums sums_too
      (docs.2 ∙ ap (λ bits. bits ++ []) freqs_here) in (
        sym (give format_three n xs h.well_formed) ∙ ap (λ zs. postings_in zs (freq_sequence xs)) docs.0 ∙ ap (postings_in (doc_sequence ys)) freqs.0 ∙ give format_three n ys k.well_formed,
        docs.1,
        freqs.1,
      )

  -- two lists of one posting
  one-lists : (n at : ℕ) (p q : Posting) (doc_ends freq_ends doc_cuts freq_cuts : List ℕ) → n ≤ format_three.most_documents
      → IsCutInto n (p ∷ []) doc_ends freq_ends → IsCutInto n (q ∷ []) doc_cuts freq_cuts
      → list_bits n at (p ∷ []) doc_ends freq_ends ≡ list_bits n at (q ∷ []) doc_cuts freq_cuts → ((p ∷ []) ≡ (q ∷ [])) × (doc_ends ≡ doc_cuts) × (freq_ends ≡ freq_cuts)
  one-lists n at p q doc_ends freq_ends doc_cuts freq_cuts small h k e =
      let has = has-some n (p ∷ []) h.well_formed (omega arith) in
      let too = has-some n (q ∷ []) k.well_formed (omega arith) in
      let split = heads n (p ∷ []) (q ∷ []) _ _ small has too e in
      let doc : p.doc < n = h.well_formed.in_range 0 0 (omega arith) in
      let doc_too : q.doc < n = k.well_formed.in_range 0 0 (omega arith) in
      let room : n - 1 < 2 ^ digits (n - 1) = digits-hold (n - 1) (omega (arith, small)) in
      let docs = one-field_prefix (digits (n - 1)) p.doc q.doc [] [] (omega (arith, doc, room)) (omega (arith, doc_too, room)) (append-nil _ ∙ split.2 ∙ sym (append-nil _)) in
      let freq : p.freq ≡ q.freq = (let e : max p.freq 0 ≡ max q.freq 0 = split.1 in omega (arith, e)) in
      let same : p ≡ q = ap (λ (d : ℕ). record { doc = d; freq = p.freq }) docs.0 ∙ ap (λ (f : ℕ). record { doc = q.doc; freq = f }) freq in
      (ap (λ r. r ∷ []) same, one-cut doc_ends h.docs ∙ sym (one-cut doc_cuts k.docs), one-cut freq_ends h.freqs ∙ sym (one-cut freq_cuts k.freqs))

  pub one-packed-list : OnePackedList
  one-packed-list n at [] [] doc_ends freq_ends doc_cuts freq_cuts small h k e =
      (refl, no-cut doc_ends h.docs ∙ sym (no-cut doc_cuts k.docs), no-cut freq_ends h.freqs ∙ sym (no-cut freq_cuts k.freqs))
  one-packed-list n at [] (r ∷ []) doc_ends freq_ends doc_cuts freq_cuts small h k e =
      absurd (omega (arith, ap length e, some-bits (r ∷ []) (field_bits (digits (n - 1)) r.doc)))
  one-packed-list n at [] (r ∷ s ∷ other) doc_ends freq_ends doc_cuts freq_cuts small h k e =
      absurd (omega (arith, ap length e, some-many n at r s other doc_cuts freq_cuts))
  one-packed-list n at (p ∷ []) [] doc_ends freq_ends doc_cuts freq_cuts small h k e =
      absurd (omega (arith, ap length e, some-bits (p ∷ []) (field_bits (digits (n - 1)) p.doc)))
  one-packed-list n at (p ∷ q ∷ list) [] doc_ends freq_ends doc_cuts freq_cuts small h k e =
      absurd (omega (arith, ap length e, some-many n at p q list doc_ends freq_ends))
  one-packed-list n at (p ∷ []) (r ∷ []) doc_ends freq_ends doc_cuts freq_cuts small h k e = one-lists n at p r doc_ends freq_ends doc_cuts freq_cuts small h k e
  one-packed-list n at (p ∷ []) (r ∷ s ∷ other) doc_ends freq_ends doc_cuts freq_cuts small h k e =
      absurd
      (let split = heads n (p ∷ []) (r ∷ s ∷ other) _ _ small (has-some n (p ∷ []) h.well_formed (omega arith)) (has-some n (r ∷ s ∷ other) k.well_formed (omega arith)) (e ∙ spread n at r s other doc_cuts freq_cuts) in
      omega (arith, split.0))
  one-packed-list n at (p ∷ q ∷ list) (r ∷ []) doc_ends freq_ends doc_cuts freq_cuts small h k e =
      absurd
      (let split = heads n (p ∷ q ∷ list) (r ∷ []) _ _ small (has-some n (p ∷ q ∷ list) h.well_formed (omega arith)) (has-some n (r ∷ []) k.well_formed (omega arith)) (sym (spread n at p q list doc_ends freq_ends) ∙ e) in
      omega (arith, split.0))
  one-packed-list n at (p ∷ q ∷ list) (r ∷ s ∷ other) doc_ends freq_ends doc_cuts freq_cuts small h k e = many-lists n at p q r s list other doc_ends freq_ends doc_cuts freq_cuts small h k e
