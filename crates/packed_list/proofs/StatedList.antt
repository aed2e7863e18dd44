-- A list that stands in words is the one that these state.
use Rattle.std.proofs.Common.{◌≡◌, ℕ, ◌+◌, ◌-◌, ◌*◌, ◌^◌, ◌<◌, ◌≤◌, max, List, [], ◌∷◌, length, get_or, refl, sym, ap, ◌∙◌, subst, arith}
use Rattle.std.specs.List.{All, slice_range}
use Rattle.std.proofs.Math.Nat.{mod-eq_of_lt}
use Rattle.std.proofs.lemmas.List.Elements.{All-from_get_or}
use Rattle.bit_words.specs.Bits.{field_bits, field_at, bits_of}
use Rattle.bit_words.proofs.Value.{length-field_bits, length-bits_of}
use Rattle.bit_words.proofs.Pieces.{StandAt, field-stands}
use Rattle.collection_model.specs.FormatNumbers.{format_three}
use Rattle.collection_model.specs.Collection.{Posting, greatest_freq}
use Rattle.collection_model.specs.Sequences.{doc_sequence, freq_sequence}
use Rattle.part_cost.specs.Payload.{digits}
use Rattle.part_cost.proofs.DigitCounts.{digits-hold}
use Rattle.packed_sequence.specs.declared.last_field.LastField.{LastField}
use Rattle.packed_list.specs.Gamma.{gamma_length, IsGammaBefore}
use Rattle.packed_list.specs.ListBits.{list_bits}
use Rattle.packed_sequence.specs.SequenceBits.{last_doc, last_sum, sequence_bits}
use Rattle.packed_sequence.specs.SequencePlaces.{IsSequenceBefore}
use Rattle.packed_list.specs.ListPlaces.{HoldsList, IsTailBetween, IsListBetween}
use Rattle.packed_list.specs.ListStated.{list_at}
use Rattle.packed_list.specs.Laws.{ListsStateBack}
use Rattle.packed_list.proofs.OneListBits.{one-cut}
use Rattle.packed_sequence.proofs.PartedPlaces.{range-stands}
use Rattle.packed_list.proofs.ListPlaces.{TailFacts, facts-between, are-read, before-as, length-range, not-empty, single-facts, tail-behind}

-- what one posting is, by the document that is read
pub record SingleRead (n most : ℕ) (bits : List ℕ) (at : ℕ) (list : List Posting) (ends cuts : List ℕ) : Type 0 where
  pub docs : doc_sequence list ≡ field_at bits at (digits (n - 1)) ∷ []
  pub sums : freq_sequence list ≡ (most - 1) ∷ []
  pub doc_end : ends ≡ 1 ∷ []
  pub sum_end : cuts ≡ 1 ∷ []

pub single-read : (n most : ℕ) (bits : List ℕ) (at to : ℕ) (list : List Posting) (ends cuts : List ℕ) → n ≤ format_three.most_documents → at ≤ to → to ≤ length bits → IsTailBetween n 1 most bits at to list ends cuts
    → SingleRead n most bits at list ends cuts
single-read n most bits at to [] ends cuts small le fit h = absurd (omega (arith, h.count))
single-read n most bits at to (p ∷ []) ends cuts small le fit h =
    let w : ℕ = digits (n - 1) in
    let f = single-facts n most bits at to (p ∷ []) ends cuts small le fit h in
    let doc : p.doc < n = h.cut.well_formed.in_range 0 0 (omega arith) in
    let room : n - 1 < 2 ^ w = digits-hold (n - 1) (omega (arith, small)) in
    let stands : StandAt bits at (field_bits w p.doc) = range-stands bits at to (field_bits w p.doc) (omega (arith, f.size, le, length-field_bits w p.doc)) h.stands in
    let value : field_at bits at w ≡ p.doc = field-stands bits at w p.doc stands ∙ mod-eq_of_lt (omega (arith, doc, room)) in
    let top : max p.freq 0 ≡ most = h.greatest_is in
    record {
      docs = ap (λ d. d ∷ []) (sym value);
      sums = ap (λ f. f ∷ []) (let e : 0 + p.freq - 1 ≡ most - 1 = omega (arith, top) in e);
      doc_end = one-cut ends h.cut.docs;
      sum_end = one-cut cuts h.cut.freqs;
    }
single-read n most bits at to (p ∷ q ∷ list) ends cuts small le fit h = absurd (omega (arith, h.count))

-- what the words state is the list
pub record StatesList (n : ℕ) (words : List ℕ) (from : ℕ) (list : List Posting) (ends cuts : List ℕ) : Type 0 where
  pub docs : (list_at n words from).docs ≡ record { format = format_three; values = doc_sequence list; ends = ends }
  pub freqs : (list_at n words from).freqs ≡ record { format = format_three; values = freq_sequence list; ends = cuts }
  pub most : (list_at n words from).most ≡ greatest_freq list

pub states-list : ListsStateBack → (n : ℕ) (words : List ℕ) (from to : ℕ) (list : List Posting) (ends cuts : List ℕ) → n ≤ format_three.most_documents → All (λ w. w < 2 ^ 64) words → from ≤ to → to ≤ 64 * length words → 1 ≤ length list
    → IsListBetween n (bits_of words) from to list ends cuts → StatesList n words from list ends cuts
states-list back n words from to list ends cuts small tiny le fit some h =
    let bits : List ℕ = bits_of words in
    let all : to ≤ length bits = omega (arith, fit, length-bits_of words) in
    let size : to ≡ from + length (list_bits n from list ends cuts) = omega (arith, ap length h.stands, length-range bits from to le all, le) in
    let is = back n from words list ends cuts small tiny h.cut some (omega (arith, size, fit)) (ap (slice_range bits from) (sym size) ∙ h.stands) in
    record {
      docs = ap (λ l. l.docs) is;
      freqs = ap (λ l. l.freqs) is;
      most = ap (λ l. l.most) is;
    }

-- a sequence that ends before one place ends before a later one
pub before-later : (last : LastField) (m bound : ℕ) (bits : List ℕ) (at end later : ℕ) (xs ends : List ℕ) → end ≤ later → IsSequenceBefore last m bound bits at end xs ends → IsSequenceBefore last m bound bits at later xs ends
before-later last m bound bits at end later xs ends le h = record { stored = h.stored; small = h.small; within = omega (arith, h.within, le); stands = h.stands }

-- and one below a bound is below a greater one
pub before-more : (last : LastField) (m bound more : ℕ) (bits : List ℕ) (at end : ℕ) (xs ends : List ℕ) → bound ≤ more → IsSequenceBefore last m bound bits at end xs ends → IsSequenceBefore last m more bits at end xs ends
before-more last m bound more bits at end xs ends le h = record { stored = h.stored; small = λ k d lt. omega (arith, h.small k d lt, le); within = h.within; stands = h.stands }

-- words are small
pub small-words : (words : List ℕ) → ((i : ℕ) → get_or words i 0 < 2 ^ 64) → All (λ w. w < 2 ^ 64) words
small-words words h = All-from_get_or (λ w. w < 2 ^ 64) words 0 (λ i lt. h i)

-- what was read of a list that stands in words, and what these state
pub record Seen (n : ℕ) (words : List ℕ) (from to m behind g last : ℕ) (h : HoldsList n (bits_of words) from to) : Type 0 where
  pub count : m ≡ length h.0
  pub most : g ≡ greatest_freq h.0
  pub tail : IsTailBetween n m g (bits_of words) last to h.0 h.1 h.2
  pub le : last ≤ to
  pub fit : to ≤ length (bits_of words)
  pub some : 1 ≤ m

pub seen : (n : ℕ) (words : List ℕ) (from to m behind g last : ℕ) → n ≤ format_three.most_documents → from < to → to ≤ 64 * length words → IsGammaBefore (bits_of words) from to m → behind ≡ from + gamma_length m → IsGammaBefore (bits_of words) behind to g
    → last ≡ behind + gamma_length g → (h : HoldsList n (bits_of words) from to) → Seen n words from to m behind g last h
seen n words from to m behind g last small lt within count is most there h =
    let fit : to ≤ length (bits_of words) = omega (arith, within, length-bits_of words) in
    let f = facts-between n words from to small (λ e. omega (arith, e, lt)) (omega (arith, lt)) within h in
    let r = are-read n (bits_of words) from to m behind g h.0 h.1 h.2 fit count is most f in
    let t = tail-behind n (bits_of words) from to m behind g last h.0 h.1 h.2 is there r f in
    record { count = r.count; most = r.most; tail = t; le = omega (arith, there, most.within); fit = fit; some = count.some }

-- and what its words state
pub stated : ListsStateBack → (n : ℕ) (words : List ℕ) (from to : ℕ) → n ≤ format_three.most_documents → All (λ w. w < 2 ^ 64) words → from < to → to ≤ 64 * length words → (h : HoldsList n (bits_of words) from to)
    → StatesList n words from h.0 h.1 h.2
stated back n words from to small tiny lt within h =
    let fit : to ≤ length (bits_of words) = omega (arith, within, length-bits_of words) in
    states-list back n words from to h.0 h.1 h.2 small tiny (omega (arith, lt)) within (not-empty n (bits_of words) from to h.0 h.1 h.2 lt fit h.3) h.3

-- the one posting of a list that has one
pub one-of : (n m g : ℕ) (bits : List ℕ) (last to : ℕ) (list : List Posting) (ends cuts : List ℕ) → m ≡ 1 → IsTailBetween n m g bits last to list ends cuts → IsTailBetween n 1 g bits last to list ends cuts
one-of n m g bits last to list ends cuts e h = subst (λ k. IsTailBetween n k g bits last to list ends cuts) e h

-- its two sequences stand as they are asked for
pub docs-stand : (n m g : ℕ) (words : List ℕ) (last to : ℕ) (field : LastField) (list : List Posting) (ends cuts : List ℕ) → n ≤ format_three.most_documents → to ≤ 64 * length words → field ≡ last_doc n → TailFacts n m g (bits_of words) last to list ends cuts
    → IsSequenceBefore field m format_three.most_sum (bits_of words) last (64 * length words) (doc_sequence list) ends
docs-stand n m g words last to field list ends cuts small within is t =
    before-as (last_doc n) field m format_three.most_sum format_three.most_sum (bits_of words) last (64 * length words) (doc_sequence list) ends (sym is) refl
    (before-more (last_doc n) m n format_three.most_sum (bits_of words) last (64 * length words) (doc_sequence list) ends (omega (arith, small)) (before-later (last_doc n) m n (bits_of words) last to (64 * length words) (doc_sequence list) ends within t.docs))

pub sums-stand : (n m g : ℕ) (words : List ℕ) (last to behind : ℕ) (field other : LastField) (list : List Posting) (ends cuts : List ℕ) → to ≤ 64 * length words → other ≡ last_doc n → field ≡ last_sum m g
    → behind ≡ last + length (sequence_bits other last (doc_sequence list) ends) → TailFacts n m g (bits_of words) last to list ends cuts
    → IsSequenceBefore field m format_three.most_sum (bits_of words) behind (64 * length words) (freq_sequence list) cuts
sums-stand n m g words last to behind field other list ends cuts within is also there t =
    let place : last + length (sequence_bits (last_doc n) last (doc_sequence list) ends) ≡ behind = ap (λ l. last + length (sequence_bits l last (doc_sequence list) ends)) (sym is) ∙ sym there in
    before-as (last_sum m g) field m format_three.most_sum format_three.most_sum (bits_of words) behind (64 * length words) (freq_sequence list) cuts (sym also) refl
    (before-later (last_sum m g) m format_three.most_sum (bits_of words) behind to (64 * length words) (freq_sequence list) cuts within
    (subst (λ p. IsSequenceBefore (last_sum m g) m format_three.most_sum (bits_of words) p to (freq_sequence list) cuts) place t.sums))
