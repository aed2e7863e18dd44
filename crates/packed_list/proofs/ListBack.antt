-- A list is read back where its bits stand in words.
use Rattle.std.proofs.Common.{◌≡◌, ℕ, ◌+◌, ◌-◌, ◌^◌, ◌<◌, ◌≤◌, max, Bool, false, List, [], ◌∷◌, ◌++◌, length, refl, sym, ap, ◌∙◌, subst, arith}
use Rattle.std.specs.Prelude.{◌==◌, if◌then◌else◌}
use Rattle.std.specs.List.{All}
use Rattle.std.proofs.Math.Nat.{mod-eq_of_lt}
use Rattle.std.proofs.lemmas.Bool.Decides.{nat_tests}
use Rattle.std.proofs.lemmas.List.{length-append}
use Rattle.bit_words.specs.Bits.{field_bits, field_at, bits_of}
use Rattle.bit_words.specs.Laws.{BitsOfAppended, WordsOfBits}
use Rattle.bit_words.proofs.Value.{length-bits_of}
use Rattle.bit_words.proofs.Pieces.{StandAt, stands-first, stands-second, field-stands}
use Rattle.collection_model.specs.FormatNumbers.{format_three}
use Rattle.collection_model.specs.Collection.{Posting, greatest_freq}
use Rattle.collection_model.specs.Sequences.{doc_sequence, freq_sequence}
use Rattle.part_cost.specs.Payload.{digits}
use Rattle.part_cost.proofs.DigitCounts.{digits-hold}
use Rattle.part_codec.specs.Laws.{TakesItsPayload, OneListAtPlace, ValuesStandAt}
use Rattle.two_level.specs.SequenceView.{SequenceView}
use Rattle.two_level.specs.Laws.{OneSequence, WordsState, SequencesPassChecks}
use Rattle.postings.specs.Laws.{SequencesRise}
use Rattle.packed_list.specs.Gamma.{gamma, gamma_at, behind_gamma}
use Rattle.packed_sequence.specs.SequenceBits.{last_doc, last_sum}
use Rattle.packed_list.specs.ListBits.{head_bits, docs_bits, freqs_bits, list_bits, IsCutInto}
use Rattle.packed_sequence.specs.SequenceStated.{SequenceAt, sequence_at}
use Rattle.packed_list.specs.ListStated.{ListStated, single_at, sequences_at, list_at}
use Rattle.packed_sequence.specs.Laws.{SequenceWordsFit}
use Rattle.packed_list.specs.Laws.{ListsStateBack}
use Rattle.packed_sequence.proofs.LonePlaces.{piece-stands}
use Rattle.packed_list.proofs.GammaBack.{gamma-back}
use Rattle.packed_list.proofs.OneListBits.{HasSome, has-some, docs-stored, freqs-stored, one-cut}
use Rattle.packed_sequence.proofs.SequenceBack.{sequence-back}

-- what a list states
abbrev listed : List Posting → List ℕ → List ℕ → ListStated
listed list doc_ends freq_ends = record {
  most = greatest_freq list;
  docs = record { format = format_three; values = doc_sequence list; ends = doc_ends };
  freqs = record { format = format_three; values = freq_sequence list; ends = freq_ends };
}

-- by its length, its greatest frequency, and the place behind them
abbrev by-head : ℕ → List ℕ → ℕ → ℕ → ℕ → ListStated
by-head n words m most behind = if m == 1 then single_at n most words behind else sequences_at n m most words behind

list-by-head : (n : ℕ) (words : List ℕ) (at : ℕ)
    → list_at n words at ≡ by-head n words (gamma_at (bits_of words) at) (gamma_at (bits_of words) (behind_gamma (bits_of words) at)) (behind_gamma (bits_of words) (behind_gamma (bits_of words) at))
unfolding list_at
list-by-head n words at = refl

-- what a list begins with is read back
head-back : (n : ℕ) (words : List ℕ) (at : ℕ) (list : List Posting) → n ≤ format_three.most_documents → HasSome n list → StandAt (bits_of words) at (head_bits list) → at + length (head_bits list) ≤ length (bits_of words)
    → list_at n words at ≡ by-head n words (length list) (greatest_freq list) (at + length (head_bits list))
head-back n words at list small has stands fit =
    let bits : List ℕ = bits_of words in
    let m : ℕ = length list in
    let g : ℕ = greatest_freq list in
    let sizes = length-append (gamma m) (gamma g) in
    let first = gamma-back bits at m has.some (omega (arith, has.few, small)) (stands-first bits at (gamma m) (gamma g) stands) (omega (arith, fit, sizes)) in
    let second = gamma-back bits (at + length (gamma m)) g has.least (omega (arith, has.most)) (stands-second bits at (gamma m) (gamma g) stands) (omega (arith, fit, sizes)) in
    let behind : behind_gamma bits (behind_gamma bits at) ≡ at + length (head_bits list) = ap (behind_gamma bits) first.1 ∙ second.1 ∙ (let e : at + length (gamma m) + length (gamma g) ≡ at + length (head_bits list) = omega (arith, sizes) in e) in
    let most : gamma_at bits (behind_gamma bits at) ≡ g = ap (gamma_at bits) first.1 ∙ second.0 in
    list-by-head n words at
    ∙ ap (λ (j : ℕ). by-head n words j (gamma_at bits (behind_gamma bits at)) (behind_gamma bits (behind_gamma bits at))) first.0
    ∙ ap (λ (j : ℕ). by-head n words m j (behind_gamma bits (behind_gamma bits at))) most
    ∙ ap (λ (j : ℕ). by-head n words m g j) behind

not-one : (k : ℕ) → 2 ≤ k → (k == 1) ≡ false
not-one k many = grind (arith, nat_tests)

-- a list of one posting
one-back : (n at : ℕ) (words : List ℕ) (p : Posting) (doc_ends freq_ends : List ℕ) → n ≤ format_three.most_documents → IsCutInto n (p ∷ []) doc_ends freq_ends
    → StandAt (bits_of words) at (list_bits n at (p ∷ []) doc_ends freq_ends) → at + length (list_bits n at (p ∷ []) doc_ends freq_ends) ≤ length (bits_of words)
    → list_at n words at ≡ listed (p ∷ []) doc_ends freq_ends
one-back n at words p doc_ends freq_ends small h stands fit =
    let bits : List ℕ = bits_of words in
    let w : ℕ = digits (n - 1) in
    let head : List ℕ = head_bits (p ∷ []) in
    let has = has-some n (p ∷ []) h.well_formed (omega arith) in
    let back = head-back n words at (p ∷ []) small has (stands-first bits at head (field_bits w p.doc) stands) (omega (arith, fit, length-append head (field_bits w p.doc))) in
    let inside : p.doc < n = h.well_formed.in_range 0 0 (omega arith) in
    let room : n - 1 < 2 ^ w = digits-hold (n - 1) (omega (arith, small)) in
    let doc : field_at bits (at + length head) w ≡ p.doc = field-stands bits (at + length head) w p.doc (stands-second bits at head (field_bits w p.doc) stands) ∙ mod-eq_of_lt (omega (arith, inside, room)) in
    let top : greatest_freq (p ∷ []) ≡ p.freq = (let e : max p.freq 0 ≡ p.freq = omega arith in e) in
    let make : ℕ → ℕ → List ℕ → List ℕ → ListStated = λ d f es fs. record {
      most = greatest_freq (p ∷ []);
      docs = record { format = format_three; values = d ∷ []; ends = es };
      freqs = record { format = format_three; values = f ∷ []; ends = fs };
    } in
    let sum : greatest_freq (p ∷ []) - 1 ≡ 0 + p.freq - 1 = omega (arith, top) in
    back ∙ ap (λ (d : ℕ). make d (greatest_freq (p ∷ []) - 1) (1 ∷ []) (1 ∷ [])) doc ∙ ap (λ (f : ℕ). make p.doc f (1 ∷ []) (1 ∷ [])) sum
    ∙ ap (λ (es : List ℕ). make p.doc (0 + p.freq - 1) es (1 ∷ [])) (sym (one-cut doc_ends h.docs))
    ∙ ap (λ (fs : List ℕ). make p.doc (0 + p.freq - 1) doc_ends fs) (sym (one-cut freq_ends h.freqs))

module _ (payloads : TakesItsPayload) (one_part : OneListAtPlace) (stand : ValuesStandAt) (appended : BitsOfAppended) (whole : WordsOfBits) (one : OneSequence format_three) (state : WordsState format_three) (passes : SequencesPassChecks format_three) (fit : SequenceWordsFit) (rise : SequencesRise) where
  -- a list of two postings and more
  many-back : (n at : ℕ) (words : List ℕ) (p q : Posting) (list : List Posting) (doc_ends freq_ends : List ℕ) → n ≤ format_three.most_documents → All (λ w. w < 2 ^ 64) words
      → IsCutInto n (p ∷ q ∷ list) doc_ends freq_ends → StandAt (bits_of words) at (list_bits n at (p ∷ q ∷ list) doc_ends freq_ends)
      → at + length (list_bits n at (p ∷ q ∷ list) doc_ends freq_ends) ≤ length (bits_of words) → list_at n words at ≡ listed (p ∷ q ∷ list) doc_ends freq_ends
  many-back n at words p q list doc_ends freq_ends small tiny h stands within =
      let bits : List ℕ = bits_of words in
      let xs : List Posting = p ∷ q ∷ list in
      let m : ℕ = length xs in
      let g : ℕ = greatest_freq xs in
      let head : List ℕ = head_bits xs in
      let docs : List ℕ = docs_bits n (at + length head) xs doc_ends in
      let freqs : List ℕ = freqs_bits (at + length head + length docs) xs freq_ends in
      let has = has-some n xs h.well_formed (omega arith) in
      let few : m < 2 ^ 32 = omega (arith, has.few, small) in
      let sizes = length-append (head ++ docs) freqs in
      let sizes_too = length-append head docs in
      let prefix : StandAt bits at (head ++ docs) = stands-first bits at (head ++ docs) freqs stands in
      let back = head-back n words at xs small has (stands-first bits at head docs prefix) (omega (arith, within, sizes, sizes_too)) in
      let here : ℕ = at + length head in
      let first = sequence-back payloads one_part stand appended whole one state passes fit m (omega arith) few words tiny (last_doc n) here (doc_sequence xs) doc_ends (docs-stored n xs doc_ends small h.well_formed has h.docs)
      (stands-second bits at head docs prefix) (omega (arith, within, sizes, sizes_too)) in
      let there : at + length (head ++ docs) ≡ here + length docs = omega (arith, sizes_too) in
      let behind : StandAt bits (here + length docs) freqs = subst (λ j. StandAt bits j freqs) there (stands-second bits at (head ++ docs) freqs stands) in
      let second = sequence-back payloads one_part stand appended whole one state passes fit m (omega arith) few words tiny (last_sum m g) (here + length docs) (freq_sequence xs) freq_ends (freqs-stored rise n xs freq_ends small h.well_formed has h.freqs)
      behind (omega (arith, within, sizes, sizes_too)) in
      let more : (m == 1) ≡ false = not-one m (omega arith) in
      let make : SequenceView → SequenceView → ListStated = λ d f. record { most = g; docs = d; freqs = f } in
      back ∙ ap (λ (b : Bool). if b then single_at n g words here else sequences_at n m g words here) more
      ∙ ap (λ (s : SequenceAt). make s.view (sequence_at (last_sum m g) m words s.behind).view) first
      ∙ ap (λ (s : SequenceAt). make (record { format = format_three; values = doc_sequence xs; ends = doc_ends }) s.view) second

  pub lists-state-back : ListsStateBack
  lists-state-back n at words [] doc_ends freq_ends small tiny h some within is = absurd (omega (arith, some))
  lists-state-back n at words (p ∷ []) doc_ends freq_ends small tiny h some within is =
      let piece : List ℕ = list_bits n at (p ∷ []) doc_ends freq_ends in
      one-back n at words p doc_ends freq_ends small h (piece-stands (bits_of words) at piece is) (omega (arith, within, length-bits_of words))
  lists-state-back n at words (p ∷ q ∷ list) doc_ends freq_ends small tiny h some within is =
      let piece : List ℕ = list_bits n at (p ∷ q ∷ list) doc_ends freq_ends in
      many-back n at words p q list doc_ends freq_ends small tiny h (piece-stands (bits_of words) at piece is) (omega (arith, within, length-bits_of words))
