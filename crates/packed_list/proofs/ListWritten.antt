-- The bits of a list as they are appended piece by piece.
use Rattle.std.proofs.Common.{◌≡◌, ℕ, ◌+◌, ◌-◌, ◌<◌, ◌≤◌, ◌^◌, List, ◌++◌, length, slice_index, sym, ap, ◌∙◌, subst, inl, inr, arith, append_assoc}
use Rattle.std.proofs.lemmas.Bool.{cases_lt}
use Rattle.std.proofs.lemmas.List.{length-append}
use Rattle.bit_words.specs.Bits.{AppendsBits, field_bits}
use Rattle.bit_words.proofs.Prefixes.{appends-prefix, appends-behind, appends-both}
use Rattle.collection_model.specs.FormatNumbers.{format_three}
use Rattle.collection_model.specs.Collection.{Posting, greatest_freq}
use Rattle.part_cost.specs.Payload.{digits}
use Rattle.postings.specs.Laws.{SequencesRise}
use Rattle.packed_sequence.specs.declared.last_field.LastField.{LastField}
use Rattle.packed_list.specs.declared.write.ListParts.{ListParts}
use Rattle.packed_list.specs.Gamma.{gamma, gamma_length}
use Rattle.packed_sequence.specs.SequenceBits.{last_doc, last_sum, sequence_bits, IsStored}
use Rattle.packed_list.specs.ListBits.{list_bits}
use Rattle.packed_list.specs.ListParts.{IsPartsOf}
use Rattle.packed_list.proofs.Appending.{appends-some}
use Rattle.packed_list.proofs.GammaCodes.{gamma-takes}
use Rattle.packed_list.proofs.OneListBits.{HasSome, has-some, docs-stored, freqs-stored}
use Rattle.packed_list.proofs.ListPieces.{head-of, docs-of, count-docs, single-of, many-of}

-- its parts, with some postings
pub has-parts : (n : ℕ) (p : ListParts) (list : List Posting) → IsPartsOf n p list → 1 ≤ length p.docs.now → HasSome n list
has-parts n p list h some = has-some n list h.cut.well_formed (omega (arith, some, count-docs list p.docs.now h.of_docs))

pub docs-are : (n : ℕ) (p : ListParts) (list : List Posting) → n ≤ format_three.most_documents → IsPartsOf n p list → 1 ≤ length p.docs.now
    → IsStored (last_doc n) (length p.docs.now) p.docs.now p.doc_ends.now
docs-are n p list small h some =
    subst (λ k. IsStored (last_doc n) k p.docs.now p.doc_ends.now) (sym (count-docs list p.docs.now h.of_docs))
    (subst (λ xs. IsStored (last_doc n) (length list) xs p.doc_ends.now) (sym h.of_docs)
    (docs-stored n list p.doc_ends.now small h.cut.well_formed (has-parts n p list h some) h.cut.docs))

pub sums-are : SequencesRise → (n : ℕ) (p : ListParts) (list : List Posting) → n ≤ format_three.most_documents → IsPartsOf n p list → 1 ≤ length p.docs.now
    → IsStored (last_sum (length p.docs.now) p.greatest) (length p.docs.now) p.sums.now p.sum_ends.now
sums-are rise n p list small h some =
    let m : length list ≡ length p.docs.now = sym (count-docs list p.docs.now h.of_docs) in
    subst (λ g. IsStored (last_sum (length p.docs.now) g) (length p.docs.now) p.sums.now p.sum_ends.now) (sym h.most)
    (subst (λ k. IsStored (last_sum k (greatest_freq list)) k p.sums.now p.sum_ends.now) m
    (subst (λ xs. IsStored (last_sum (length list) (greatest_freq list)) (length list) xs p.sum_ends.now) (sym h.of_sums)
    (freqs-stored rise n list p.sum_ends.now small h.cut.well_formed (has-parts n p list h some) h.cut.freqs)))

-- the same where the field is known by its own name
pub stored-by : (a b : LastField) (m k : ℕ) (xs ends : List ℕ) → a ≡ b → m ≡ k → IsStored b m xs ends → IsStored a k xs ends
stored-by a b m k xs ends is same h = subst (λ l. IsStored l k xs ends) (sym is) (subst (λ j. IsStored b j xs ends) same h)

-- a list with some postings begins with its head
pub with-head : (n at : ℕ) (p : ListParts) (list : List Posting) → IsPartsOf n p list → 1 ≤ length p.docs.now
    → (rest : List ℕ) × (list_bits n at list p.doc_ends.now p.sum_ends.now ≡ head-of (length p.docs.now) p.greatest ++ rest)
with-head n at p list h some =
    let ys : List ℕ = p.sums.now in
    let ends : List ℕ = p.doc_ends.now in
    let cuts : List ℕ = p.sum_ends.now in
    let g : ℕ = p.greatest in
    elim (cases_lt (length p.docs.now) 2) [
      | inl less ↦ (field_bits (digits (n - 1)) (slice_index p.docs.now 0), single-of n at g list p.docs.now ends cuts h.of_docs h.most (omega (arith, less, some)))
      | inr more ↦ (
        docs-of n at (length p.docs.now) g p.docs.now ends ++ sequence_bits (last_sum (length p.docs.now) g) (at + length (head-of (length p.docs.now) g) + length (docs-of n at (length p.docs.now) g p.docs.now ends)) ys cuts,
        many-of n at g list p.docs.now ys ends cuts h.of_docs h.of_sums h.most more
            ∙ append_assoc (head-of (length p.docs.now) g) (docs-of n at (length p.docs.now) g p.docs.now ends) (sequence_bits (last_sum (length p.docs.now) g) (at + length (head-of (length p.docs.now) g) + length (docs-of n at (length p.docs.now) g p.docs.now ends)) ys cuts),
      )
    ]

-- how long its head is
pub length-head-of : (m g : ℕ) → 1 ≤ m → m < 2 ^ 32 → 1 ≤ g → g < 2 ^ 32 → length (head-of m g) ≡ gamma_length m + gamma_length g
length-head-of m g some few one most =
    omega (arith, length-append (gamma m) (gamma g), gamma-takes.count m some (omega (arith, few)), gamma-takes.count g one (omega (arith, most)))

pub room-of-head : (n : ℕ) (p : ListParts) (list : List Posting) (old : List ℕ) → n ≤ format_three.most_documents → IsPartsOf n p list → 1 ≤ length p.docs.now
    → length old + gamma_length (length p.docs.now) + gamma_length p.greatest ≤ length old + length (list_bits n (length old) list p.doc_ends.now p.sum_ends.now)
room-of-head n p list old small h some =
    let has = has-parts n p list h some in
    omega (
      arith,
      ap length (with-head n (length old) p list h some).1,
      length-append (head-of (length p.docs.now) p.greatest) (with-head n (length old) p list h some).0,
      length-head-of (length p.docs.now) p.greatest some (omega (arith, has.few, count-docs list p.docs.now h.of_docs, small)) (omega (arith, has.least, h.most)) (omega (arith, has.most, h.most)),
    )

-- prefixes in the head
pub prefix-count : (n : ℕ) (p : ListParts) (list : List Posting) (old new : List ℕ) → IsPartsOf n p list → 1 ≤ length p.docs.now → AppendsBits old new (gamma (length p.docs.now))
    → AppendsBits old new (list_bits n (length old) list p.doc_ends.now p.sum_ends.now)
prefix-count n p list old new h some f =
    subst (AppendsBits old new) (sym (with-head n (length old) p list h some).1) (appends-prefix old new (head-of (length p.docs.now) p.greatest) (with-head n (length old) p list h some).0 (appends-prefix old new (gamma (length p.docs.now)) (gamma p.greatest) f))

pub prefix-most : (n : ℕ) (p : ListParts) (list : List Posting) (old a new : List ℕ) → IsPartsOf n p list → 1 ≤ length p.docs.now → a ≡ old ++ gamma (length p.docs.now) → (g : ℕ) → g ≡ p.greatest
    → AppendsBits a new (gamma g) → AppendsBits old new (list_bits n (length old) list p.doc_ends.now p.sum_ends.now)
prefix-most n p list old a new h some e g is f =
    subst (AppendsBits old new) (sym (with-head n (length old) p list h some).1)
    (appends-prefix old new (head-of (length p.docs.now) p.greatest) (with-head n (length old) p list h some).0 (appends-behind old a new (gamma (length p.docs.now)) (gamma p.greatest) e (subst (λ k. AppendsBits a new (gamma k)) is f)))

-- the whole head
pub head-whole : (old a b : List ℕ) (m j g : ℕ) → a ≡ old ++ gamma m → b ≡ a ++ gamma j → j ≡ g → b ≡ old ++ head-of m g
head-whole old a b m j g e f is = appends-both old a b (gamma m) (gamma g) e (f ∙ ap (λ k. a ++ gamma k) is)

pub length-behind : (old b : List ℕ) (m g : ℕ) → b ≡ old ++ head-of m g → length b ≡ length old + length (head-of m g)
length-behind old b m g e = ap length e ∙ length-append old (head-of m g)

-- one posting
pub single-whole : (n : ℕ) (p : ListParts) (list : List Posting) (old b new : List ℕ) (w : ℕ) → IsPartsOf n p list → length p.docs.now ≡ 1 → b ≡ old ++ head-of (length p.docs.now) p.greatest → w ≡ digits (n - 1)
    → new ≡ b ++ field_bits w (slice_index p.docs.now 0) → new ≡ old ++ list_bits n (length old) list p.doc_ends.now p.sum_ends.now
single-whole n p list old b new w h one e is f =
    appends-both old b new (head-of (length p.docs.now) p.greatest) (field_bits (digits (n - 1)) (slice_index p.docs.now 0)) e (f ∙ ap (λ k. b ++ field_bits k (slice_index p.docs.now 0)) is)
    ∙ ap (λ bits. old ++ bits) (sym (single-of n (length old) p.greatest list p.docs.now p.doc_ends.now p.sum_ends.now h.of_docs h.most one))

pub single-prefix : (n : ℕ) (p : ListParts) (list : List Posting) (old b new : List ℕ) → IsPartsOf n p list → length p.docs.now ≡ 1 → b ≡ old ++ head-of (length p.docs.now) p.greatest → new ≡ b
    → AppendsBits old new (list_bits n (length old) list p.doc_ends.now p.sum_ends.now)
single-prefix n p list old b new h one e f =
    subst (AppendsBits old new) (sym (single-of n (length old) p.greatest list p.docs.now p.doc_ends.now p.sum_ends.now h.of_docs h.most one))
    (appends-some old new (head-of (length p.docs.now) p.greatest) (field_bits (digits (n - 1)) (slice_index p.docs.now 0)) (f ∙ e))

-- two postings and more: the documents, and the sums behind them
docs-here : (n : ℕ) (p : ListParts) (old b : List ℕ) (last : LastField) → b ≡ old ++ head-of (length p.docs.now) p.greatest → last ≡ last_doc n
    → sequence_bits last (length b) p.docs.now p.doc_ends.now ≡ docs-of n (length old) (length p.docs.now) p.greatest p.docs.now p.doc_ends.now
docs-here n p old b last e is =
    ap (λ l. sequence_bits l (length b) p.docs.now p.doc_ends.now) is
    ∙ ap (λ k. sequence_bits (last_doc n) k p.docs.now p.doc_ends.now) (length-behind old b (length p.docs.now) p.greatest e)

pub docs-whole : (n : ℕ) (p : ListParts) (old b d : List ℕ) (last : LastField) → b ≡ old ++ head-of (length p.docs.now) p.greatest → last ≡ last_doc n
    → d ≡ b ++ sequence_bits last (length b) p.docs.now p.doc_ends.now
    → d ≡ old ++ (head-of (length p.docs.now) p.greatest ++ docs-of n (length old) (length p.docs.now) p.greatest p.docs.now p.doc_ends.now)
docs-whole n p old b d last e is f =
    appends-both old b d (head-of (length p.docs.now) p.greatest) (docs-of n (length old) (length p.docs.now) p.greatest p.docs.now p.doc_ends.now) e (f ∙ ap (λ bits. b ++ bits) (docs-here n p old b last e is))

sums-here : (n : ℕ) (p : ListParts) (old d : List ℕ) (last : LastField)
    → d ≡ old ++ (head-of (length p.docs.now) p.greatest ++ docs-of n (length old) (length p.docs.now) p.greatest p.docs.now p.doc_ends.now) → last ≡ last_sum (length p.docs.now) p.greatest
    → sequence_bits last (length d) p.sums.now p.sum_ends.now
    ≡ sequence_bits (last_sum (length p.docs.now) p.greatest)
    (length old + length (head-of (length p.docs.now) p.greatest) + length (docs-of n (length old) (length p.docs.now) p.greatest p.docs.now p.doc_ends.now)) p.sums.now p.sum_ends.now
sums-here n p old d last e is =
    let docs : List ℕ = docs-of n (length old) (length p.docs.now) p.greatest p.docs.now p.doc_ends.now in
    let place : length d ≡ length old + length (head-of (length p.docs.now) p.greatest) + length docs = omega (arith, ap length e, length-append old (head-of (length p.docs.now) p.greatest ++ docs), length-append (head-of (length p.docs.now) p.greatest) docs) in
    ap (λ l. sequence_bits l (length d) p.sums.now p.sum_ends.now) is ∙ ap (λ k. sequence_bits (last_sum (length p.docs.now) p.greatest) k p.sums.now p.sum_ends.now) place

-- what is appended last, and all of it
module _ (n : ℕ) (p : ListParts) (list : List Posting) (old : List ℕ) (h : IsPartsOf n p list) (many : 2 ≤ length p.docs.now) where
  abbrev m : ℕ
  m = length p.docs.now

  abbrev head : List ℕ
  head = head-of m p.greatest

  abbrev docs : List ℕ
  docs = docs-of n (length old) m p.greatest p.docs.now p.doc_ends.now

  abbrev sums : List ℕ
  sums = sequence_bits (last_sum m p.greatest) (length old + length head + length docs) p.sums.now p.sum_ends.now

  whole : list_bits n (length old) list p.doc_ends.now p.sum_ends.now ≡ head ++ docs ++ sums
  whole = many-of n (length old) p.greatest list p.docs.now p.sums.now p.doc_ends.now p.sum_ends.now h.of_docs h.of_sums h.most many

  pub docs-room : (b : List ℕ) (last : LastField) → b ≡ old ++ head → last ≡ last_doc n
      → length b + length (sequence_bits last (length b) p.docs.now p.doc_ends.now) ≤ length old + length (list_bits n (length old) list p.doc_ends.now p.sum_ends.now)
  docs-room b last e is =
      omega (
        arith,
        length-behind old b m p.greatest e,
        ap length (docs-here n p old b last e is),
        ap length whole,
        length-append (head ++ docs) sums,
        length-append head docs,
      )

  pub docs-prefix : (b new : List ℕ) (last : LastField) → b ≡ old ++ head → last ≡ last_doc n → AppendsBits b new (sequence_bits last (length b) p.docs.now p.doc_ends.now)
      → AppendsBits old new (list_bits n (length old) list p.doc_ends.now p.sum_ends.now)
  docs-prefix b new last e is f =
      subst (AppendsBits old new) (sym whole)
      (appends-prefix old new (head ++ docs) sums (appends-behind old b new head docs e (subst (AppendsBits b new) (docs-here n p old b last e is) f)))

  pub sums-room : (d : List ℕ) (last : LastField) → d ≡ old ++ (head ++ docs) → last ≡ last_sum m p.greatest
      → length d + length (sequence_bits last (length d) p.sums.now p.sum_ends.now) ≤ length old + length (list_bits n (length old) list p.doc_ends.now p.sum_ends.now)
  sums-room d last e is =
      omega (
        arith,
        ap length e,
        length-append old (head ++ docs),
        ap length (sums-here n p old d last e is),
        ap length whole,
        length-append (head ++ docs) sums,
      )

  pub sums-prefix : (d new : List ℕ) (last : LastField) → d ≡ old ++ (head ++ docs) → last ≡ last_sum m p.greatest → AppendsBits d new (sequence_bits last (length d) p.sums.now p.sum_ends.now)
      → AppendsBits old new (list_bits n (length old) list p.doc_ends.now p.sum_ends.now)
  sums-prefix d new last e is f =
      subst (AppendsBits old new) (sym whole) (appends-behind old d new (head ++ docs) sums e (subst (AppendsBits d new) (sums-here n p old d last e is) f))

  pub sums-whole : (d new : List ℕ) (last : LastField) → d ≡ old ++ (head ++ docs) → last ≡ last_sum m p.greatest → new ≡ d ++ sequence_bits last (length d) p.sums.now p.sum_ends.now
      → new ≡ old ++ list_bits n (length old) list p.doc_ends.now p.sum_ends.now
  sums-whole d new last e is f =
      appends-both old d new (head ++ docs) sums e (f ∙ ap (λ bits. d ++ bits) (sums-here n p old d last e is)) ∙ ap (λ bits. old ++ bits) (sym whole)
