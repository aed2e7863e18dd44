-- The head of a list with some postings: what is read there, and where its two sequences stand.
use Rattle.std.proofs.Common.{◌≡◌, ℕ, ◌+◌, ◌*◌, ◌/◌, ◌%◌, ◌^◌, ◌<◌, ◌≤◌, Bool, cond, not, Some, None, List, [], ◌∷◌, map, length, get_or, refl, sym, ap, ◌∙◌, subst, arith}
use Rattle.std.specs.Prelude.{nat_le, option_map}
use Rattle.std.specs.List.{All, slice_range, position_or_len, slice_get}
use Rattle.std.proofs.lemmas.Bool.{eq-eqb, ne_eqb}
use Rattle.std.proofs.lemmas.Option.{slice_get-map, slice_get_past}
use Rattle.std.proofs.lemmas.List.Elements.{All-from_get_or}
use Rattle.bit_words.specs.Bits.{bits_of}
use Rattle.bit_words.proofs.Value.{length-bits_of}
use Rattle.collection_model.specs.FormatNumbers.{format_three}
use Rattle.collection_model.specs.Collection.{Posting, docs_of, freqs_of, greatest_freq, IsPostingList}
use Rattle.collection_model.specs.Sequences.{doc_sequence, freq_sequence, steps_from}
use Rattle.collection_model.proofs.Lists.{freqs-of_postings}
use Rattle.collection_model.proofs.Sequences.{same-steps}
use Rattle.part_cost.specs.Payload.{digits}
use Rattle.part_cost.proofs.DigitCounts.{digits-are-fewest}
use Rattle.cursor_api.specs.NextGeq.{next_geq_place}
use Rattle.two_level.specs.SequenceView.{place_at_least}
use Rattle.postings.specs.Laws.{SequencesGiveTheirList, SequencesRise}
use Rattle.packed_sequence.specs.declared.last_field.LastField.{LastField}
use Rattle.packed_sequence.specs.SequenceBits.{last_doc, last_sum, sequence_bits}
use Rattle.packed_sequence.specs.SequencePlaces.{IsSequenceBefore}
use Rattle.packed_sequence.specs.SequenceStated.{SequenceAt, sequence_at}
use Rattle.packed_sequence.specs.Laws.{SequencesStateBack}
use Rattle.packed_list.specs.Gamma.{gamma, gamma_length, zeros_at, gamma_at, behind_gamma, IsGammaBefore}
use Rattle.packed_list.specs.ListBits.{list_bits}
use Rattle.packed_list.specs.ListPlaces.{IsTailBetween}
use Rattle.packed_list.specs.ListStated.{ListStated, list_at}
use Rattle.packed_list.specs.Laws.{ListsStateBack}
use Rattle.packed_list.proofs.GammaCodes.{some-digits, gamma-takes}
use Rattle.packed_list.proofs.GammaBack.{gamma-reads-back}
use Rattle.packed_list.proofs.ListPlaces.{facts-between, tail-facts, length-range, not-empty}
use Rattle.index_file.specs.PackedView.{packed_postings}
use Rattle.pefidx_c.specs.Heads.{sums_place, head_stated, head_between, IsListRange}

-- what a gamma code is that stands before a place
pub record CodeRead (bits : List ℕ) (at n : ℕ) : Type 0 where
  pub number : gamma_at bits at ≡ n
  pub length_is : gamma_length n ≡ 2 * zeros_at bits at + 1
  pub behind : behind_gamma bits at ≡ at + gamma_length n
  pub few : zeros_at bits at < 32

pub code-read : (bits : List ℕ) (at end n : ℕ) → end ≤ length bits → IsGammaBefore bits at end n → CodeRead bits at n
code-read bits at end n fit h =
    let some = some-digits n h.some (omega (arith, h.few)) in
    let few : digits n ≤ 32 = digits-are-fewest n 32 (omega (arith, h.few)) h.few in
    let long : length (gamma n) ≡ gamma_length n = gamma-takes.count n h.some (omega (arith, h.few)) in
    let stands : slice_range bits at (at + length (gamma n)) ≡ gamma n = subst (λ k. slice_range bits at (at + k) ≡ gamma n) (sym long) h.stands in
    let back = gamma-reads-back bits at n h.some (omega (arith, h.few)) (omega (arith, long, h.within, fit)) stands in
    record {
      number = back.0;
      length_is = omega (arith, back.1, long);
      behind = omega (arith, back.1, long);
      few = omega (arith, back.1, long, few, some);
    }

-- one number alone stands there
same-number : (bits : List ℕ) (at end n m : ℕ) → end ≤ length bits → IsGammaBefore bits at end n → IsGammaBefore bits at end m → n ≡ m
same-number bits at end n m fit h k = sym (code-read bits at end n fit h).number ∙ (code-read bits at end m fit k).number

-- the two numbers at the head of a list, and what stands behind them
pub record HeadRead (n : ℕ) (words : List ℕ) (from to : ℕ) (list : List Posting) (ends cuts : List ℕ) : Type 0 where
  pub count : CodeRead (bits_of words) from (length list)
  pub most : CodeRead (bits_of words) (behind_gamma (bits_of words) from) (greatest_freq list)
  pub count_stands : IsGammaBefore (bits_of words) from to (length list)
  pub most_stands : IsGammaBefore (bits_of words) (behind_gamma (bits_of words) from) to (greatest_freq list)
  pub within : behind_gamma (bits_of words) (behind_gamma (bits_of words) from) ≤ to
  pub tail : IsTailBetween n (length list) (greatest_freq list) (bits_of words) (behind_gamma (bits_of words) (behind_gamma (bits_of words) from)) to list ends cuts

pub head-read : (n : ℕ) (words : List ℕ) (from to : ℕ) → n ≤ format_three.most_documents → (from ≡ to → ⊥) → (h : IsListRange n words from to) → HeadRead n words from to h.list.0 h.list.1 h.list.2
head-read n words from to small apart h =
    let bits : List ℕ = bits_of words in
    let fit : to ≤ length bits = omega (arith, h.within, length-bits_of words) in
    let f = facts-between n words from to small apart h.ordered h.within h.list in
    let list : List Posting = h.list.0 in
    let count = code-read bits from to (length list) fit f.count in
    let place : from + gamma_length (length list) ≡ behind_gamma bits from = sym count.behind in
    let most_stands : IsGammaBefore bits (behind_gamma bits from) to (greatest_freq list) = subst (λ p. IsGammaBefore bits p to (greatest_freq list)) place f.most in
    let most = code-read bits (behind_gamma bits from) to (greatest_freq list) fit most_stands in
    let last : from + gamma_length (length list) + gamma_length (greatest_freq list) ≡ behind_gamma bits (behind_gamma bits from) = omega (arith, count.behind, most.behind) in
    record {
      count = count;
      most = most;
      count_stands = f.count;
      most_stands = most_stands;
      within = omega (arith, most.behind, most_stands.within);
      tail = subst (λ p. IsTailBetween n (length list) (greatest_freq list) bits p to list h.list.1 h.list.2) last f.tail;
    }

-- a sequence below a bound that ends before a place is below a greater one, and ends before a later
wider : (last : LastField) (m bound more : ℕ) (bits : List ℕ) (at end later : ℕ) (xs ends : List ℕ) → bound ≤ more → end ≤ later → IsSequenceBefore last m bound bits at end xs ends → IsSequenceBefore last m more bits at later xs ends
wider last m bound more bits at end later xs ends le le_too h = record { stored = h.stored; small = λ k d lt. omega (arith, h.small k d lt, le); within = omega (arith, h.within, le_too); stands = h.stands }

-- the two sequences of a list of two postings and more, where its head tells them
pub record SequencesStand (n : ℕ) (words : List ℕ) (from to : ℕ) (list : List Posting) (ends cuts : List ℕ) : Type 0 where
  pub docs : IsSequenceBefore (last_doc n) (length list) format_three.most_sum (bits_of words) (behind_gamma (bits_of words) (behind_gamma (bits_of words) from)) (64 * length words) (doc_sequence list) ends
  pub place : sums_place n words from ≡ behind_gamma (bits_of words) (behind_gamma (bits_of words) from) + length (sequence_bits (last_doc n) (behind_gamma (bits_of words) (behind_gamma (bits_of words) from)) (doc_sequence list) ends)
  pub sums : IsSequenceBefore (last_sum (length list) (greatest_freq list)) (length list) format_three.most_sum (bits_of words) (sums_place n words from) (64 * length words) (freq_sequence list) cuts
  pub within : sums_place n words from ≤ to

pub sequences-stand : SequencesRise → SequencesGiveTheirList → SequencesStateBack → (n : ℕ) (words : List ℕ) (from to : ℕ) (list : List Posting) (ends cuts : List ℕ) → n ≤ format_three.most_documents → All (λ w. w < 2 ^ 64) words
    → to ≤ 64 * length words → 2 ≤ length list → HeadRead n words from to list ends cuts → SequencesStand n words from to list ends cuts
sequences-stand rise give back n words from to list ends cuts small narrow within many h =
    let bits : List ℕ = bits_of words in
    let m : ℕ = length list in
    let g : ℕ = greatest_freq list in
    let last : ℕ = behind_gamma bits (behind_gamma bits from) in
    let fit : to ≤ length bits = omega (arith, within, length-bits_of words) in
    let t = tail-facts rise give n m g bits last to list ends cuts small many h.within fit h.tail in
    let docs : IsSequenceBefore (last_doc n) m format_three.most_sum bits last (64 * length words) (doc_sequence list) ends =
    wider (last_doc n) m n format_three.most_sum bits last to (64 * length words) (doc_sequence list) ends (omega (arith, small)) within t.docs in
    let behind : ℕ = last + length (sequence_bits (last_doc n) last (doc_sequence list) ends) in
    let stated = back (last_doc n) m last words (doc_sequence list) ends many h.count_stands.few narrow docs in
    let place : sums_place n words from ≡ behind = ap (λ j. (sequence_at (last_doc n) j words last).behind) h.count.number ∙ ap (λ (s : SequenceAt). s.behind) stated in
    record {
      docs = docs;
      place = place;
      sums =
          subst (λ p. IsSequenceBefore (last_sum m g) m format_three.most_sum bits p (64 * length words) (freq_sequence list) cuts) (sym place)
          (wider (last_sum m g) m format_three.most_sum format_three.most_sum bits behind to (64 * length words) (freq_sequence list) cuts (omega arith) within t.sums);
      within = omega (arith, place, t.sums.within);
    }

-- what was read of the head, code by code
pub record HeadTold (n : ℕ) (words : List ℕ) (from to count behind greatest last : ℕ) (list : List Posting) (ends cuts : List ℕ) : Type 0 where
  pub count_is : count ≡ length list
  pub behind_is : behind ≡ behind_gamma (bits_of words) from
  pub most_is : greatest ≡ greatest_freq list
  pub last_is : last ≡ behind_gamma (bits_of words) (behind_gamma (bits_of words) from)
  pub head : HeadRead n words from to list ends cuts

-- where the second code stands, by what was read of the first
pub second-stands : (n : ℕ) (words : List ℕ) (from to count behind : ℕ) (list : List Posting) (ends cuts : List ℕ) → to ≤ 64 * length words → IsGammaBefore (bits_of words) from to count → behind ≡ from + gamma_length count
    → HeadRead n words from to list ends cuts → (count ≡ length list) × (behind ≡ behind_gamma (bits_of words) from) × IsGammaBefore (bits_of words) behind to (greatest_freq list)
second-stands n words from to count behind list ends cuts within first is h =
    let bits : List ℕ = bits_of words in
    let fit : to ≤ length bits = omega (arith, within, length-bits_of words) in
    let count_is : count ≡ length list = same-number bits from to count (length list) fit first h.count_stands in
    let behind_is : behind ≡ behind_gamma bits from = is ∙ ap (λ k. from + gamma_length k) count_is ∙ sym h.count.behind in
    (count_is, behind_is, subst (λ p. IsGammaBefore bits p to (greatest_freq list)) (sym behind_is) h.most_stands)

pub head-told : (n : ℕ) (words : List ℕ) (from to count behind greatest last : ℕ) (list : List Posting) (ends cuts : List ℕ) → to ≤ 64 * length words → IsGammaBefore (bits_of words) from to count → behind ≡ from + gamma_length count
    → IsGammaBefore (bits_of words) behind to greatest → last ≡ behind + gamma_length greatest → HeadRead n words from to list ends cuts → HeadTold n words from to count behind greatest last list ends cuts
head-told n words from to count behind greatest last list ends cuts within first is second there h =
    let bits : List ℕ = bits_of words in
    let fit : to ≤ length bits = omega (arith, within, length-bits_of words) in
    let one = second-stands n words from to count behind list ends cuts within first is h in
    let most_is : greatest ≡ greatest_freq list = same-number bits behind to greatest (greatest_freq list) fit second one.2 in
    record {
      count_is = one.0;
      behind_is = one.1;
      most_is = most_is;
      last_is = there ∙ ap (λ p. p + gamma_length greatest) one.1 ∙ ap (λ k. behind_gamma bits from + gamma_length k) most_is ∙ sym h.most.behind;
      head = h;
    }

-- a sequence at other names of its last field, its length and its place
pub sequence-as : (like field : LastField) (m count at place : ℕ) (words xs ends : List ℕ) → field ≡ like → count ≡ m → place ≡ at
    → IsSequenceBefore like m format_three.most_sum (bits_of words) at (64 * length words) xs ends → IsSequenceBefore field count format_three.most_sum (bits_of words) place (64 * length words) xs ends
sequence-as like field m count at place words xs ends e f g h =
    subst (λ l. IsSequenceBefore l count format_three.most_sum (bits_of words) place (64 * length words) xs ends) (sym e)
    (subst (λ k. IsSequenceBefore like k format_three.most_sum (bits_of words) place (64 * length words) xs ends) (sym f)
    (subst (λ p. IsSequenceBefore like m format_three.most_sum (bits_of words) p (64 * length words) xs ends) (sym g) h))

-- and the place behind it
pub behind-as : (n : ℕ) (field : LastField) (at place : ℕ) (xs ends : List ℕ) → field ≡ last_doc n → place ≡ at → place + length (sequence_bits field place xs ends) ≡ at + length (sequence_bits (last_doc n) at xs ends)
behind-as n field at place xs ends e g = ap (λ l. place + length (sequence_bits l place xs ends)) e ∙ ap (λ p. p + length (sequence_bits (last_doc n) p xs ends)) g

-- what is kept of a list without postings, of one posting, and of several
pub head-none : (n : ℕ) (words : List ℕ) (from to : ℕ) → from ≡ to → head_between n words from to ≡ 0
head-none n words from to same = rw (eq-eqb from to same) refl

pub head-single : (n : ℕ) (words : List ℕ) (from to : ℕ) → (from ≡ to → ⊥) → gamma_at (bits_of words) from ≡ 1 → head_between n words from to ≡ 0
head-single n words from to apart one = rw (ne_eqb from to apart) (rw (eq-eqb (gamma_at (bits_of words) from) 1 one) refl)

pub head-several : (n : ℕ) (words : List ℕ) (from to : ℕ) → (from ≡ to → ⊥) → (gamma_at (bits_of words) from ≡ 1 → ⊥) → head_between n words from to ≡ head_stated n words from
head-several n words from to apart more = rw (ne_eqb from to apart) (rw (ne_eqb (gamma_at (bits_of words) from) 1 more) refl)

-- a head in one number, and what it holds
pub record Unpacked (head zeros others sums : ℕ) : Type 0 where
  pub zeros_is : head % 32 ≡ zeros
  pub others_is : head / 32 % 32 ≡ others
  pub sums_is : head / 32 / 32 ≡ sums

pub unpacked : (head zeros others sums : ℕ) → head ≡ zeros + 32 * (others + 32 * sums) → zeros < 32 → others < 32 → Unpacked head zeros others sums
unpacked head zeros others sums is few few_too =
    let rest : head / 32 ≡ others + 32 * sums = omega (arith, is, few) in
    record {
      zeros_is = omega (arith, is, few);
      others_is = omega (arith, rest, few_too);
      sums_is = omega (arith, rest, few_too);
    }

-- what a kept head tells of the list
pub record HeadPlaces (n : ℕ) (words : List ℕ) (from head : ℕ) : Type 0 where
  pub zeros_is : head % 32 ≡ zeros_at (bits_of words) from
  pub others_is : head / 32 % 32 ≡ zeros_at (bits_of words) (behind_gamma (bits_of words) from)
  pub sums_is : head / 32 / 32 ≡ sums_place n words from
  pub few : zeros_at (bits_of words) from < 32
  pub few_too : zeros_at (bits_of words) (behind_gamma (bits_of words) from) < 32
  pub within : behind_gamma (bits_of words) (behind_gamma (bits_of words) from) ≤ 64 * length words

pub head-places : (n : ℕ) (words : List ℕ) (from head : ℕ) → n ≤ format_three.most_documents → (to : ℕ) × (from < to) × IsListRange n words from to → head ≡ head_stated n words from → HeadPlaces n words from head
head-places n words from head small range is =
    let h = head-read n words from range.0 small (λ e. omega (arith, e, range.1)) range.2 in
    let u = unpacked head (zeros_at (bits_of words) from) (zeros_at (bits_of words) (behind_gamma (bits_of words) from)) (sums_place n words from) is h.count.few h.most.few in
    record {
      zeros_is = u.zeros_is;
      others_is = u.others_is;
      sums_is = u.sums_is;
      few = h.count.few;
      few_too = h.most.few;
      within = omega (arith, h.within, range.2.within);
    }

-- the list that its words state, and its two sequences
pub record ListRead (n : ℕ) (words : List ℕ) (from : ℕ) (list : List Posting) : Type 0 where
  pub stated : packed_postings (list_at n words from) ≡ list
  pub steps : steps_from 0 (freq_sequence list) ≡ freqs_of list
  pub docs_count : length (docs_of list) ≡ length list
  pub sums_count : length (freq_sequence list) ≡ length list
  pub good : IsPostingList format_three n list

pub list-read : SequencesRise → SequencesGiveTheirList → ListsStateBack → (n : ℕ) (words : List ℕ) (from to : ℕ) → n ≤ format_three.most_documents → All (λ w. w < 2 ^ 64) words → from < to → (h : IsListRange n words from to)
    → ListRead n words from h.list.0
list-read rise give back n words from to small narrow lt h =
    let bits : List ℕ = bits_of words in
    let list : List Posting = h.list.0 in
    let fit : to ≤ length bits = omega (arith, h.within, length-bits_of words) in
    let b = h.list.3 in
    let size : to ≡ from + length (list_bits n from list h.list.1 h.list.2) = omega (arith, ap length b.stands, length-range bits from to h.ordered fit, h.ordered) in
    let is = back n from words list h.list.1 h.list.2 small narrow b.cut (not-empty n bits from to list h.list.1 h.list.2 lt fit b) (omega (arith, size, h.within)) (ap (slice_range bits from) (sym size) ∙ b.stands) in
    let s = rise format_three n list b.cut.well_formed in
    let gives = give format_three n list b.cut.well_formed in
    let same : length (doc_sequence list) ≡ length (freq_sequence list) = s.docs_count ∙ sym s.sums_count in
    record {
      stated = ap (λ (l : ListStated). packed_postings l) is ∙ gives;
      steps = sym (freqs-of_postings (doc_sequence list) (steps_from 0 (freq_sequence list)) (same-steps (doc_sequence list) (freq_sequence list) same)) ∙ ap freqs_of gives;
      docs_count = s.docs_count;
      sums_count = s.sums_count;
      good = b.cut.well_formed;
    }

-- the next place in a list is found among its documents
position-map : {X Y : Type 0} (test : Y → Bool) (f : X → Y) (xs : List X) → position_or_len test (map f xs) ≡ position_or_len (λ x. test (f x)) xs
position-map test f [] = refl
position-map test f (x ∷ xs) = ap (λ n. cond (not (test (f x))) (1 + n) 0) (position-map test f xs)

pub next-among_docs : (list : List Posting) (d : ℕ) → place_at_least (docs_of list) 0 d ≡ next_geq_place list 0 d
next-among_docs list d = ap (λ n. 0 + n) (position-map (λ y. nat_le d y) (λ p. p.doc) list)

-- the document at a place, and none behind the last
pub doc-at : (list : List Posting) (place doc : ℕ) → slice_get (docs_of list) place ≡ Some doc → option_map (λ p. p.doc) (slice_get list place) ≡ Some doc
doc-at list place doc h = sym (slice_get-map (λ p. p.doc) list place) ∙ h

pub no-doc-at : (list : List Posting) (place : ℕ) → length (docs_of list) ≤ place → option_map (λ p. p.doc) (slice_get list place) ≡ None
no-doc-at list place le = sym (slice_get-map (λ p. p.doc) list place) ∙ slice_get_past (docs_of list) place le

-- words of 64 bits
pub narrow-words : (words : List ℕ) → ((k : ℕ) → get_or words k 0 < 2 ^ 64) → All (λ w. w < 2 ^ 64) words
narrow-words words small = All-from_get_or (λ w. w < 2 ^ 64) words 0 (λ k lt. small k)
