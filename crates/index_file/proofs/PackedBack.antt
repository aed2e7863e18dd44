-- The words of a packed file pass its checks.
use Rattle.std.proofs.Common.{◌≡◌, ℕ, zero, suc, ◌+◌, ◌-◌, ◌*◌, ◌/◌, ◌^◌, ◌≤◌, ◌<◌, List, [], ◌∷◌, length, take, drop, get_or, replicate, refl, sym, ap, ◌∙◌, subst, arith, length-append}
use Rattle.std.specs.Prelude.{slice_index, slice_range}
use Rattle.std.proofs.lemmas.List.{get_or-take, get_or-drop}
use Rattle.bit_words.specs.Bits.{HasNoOne, bits_of, padded, padding}
use Rattle.bit_words.specs.Laws.{BitsOfAppended, BitsOfWords}
use Rattle.bit_words.proofs.Pieces.{StandAt, stands-first, stands-second}
use Rattle.part_cost.specs.Payload.{payload}
use Rattle.part_cost.specs.Span.{AreRelative}
use Rattle.part_codec.specs.PartBits.{part_bits}
use Rattle.part_codec.specs.Laws.{PartIsBits, TakesItsPayload, ValuesStandAt}
use Rattle.packed_list.specs.ListBits.{IsCutInto}
use Rattle.packed_list.specs.ListPlaces.{IsListBetween}
use Rattle.index_file.specs.CutLists.{CutList}
use Rattle.index_file.specs.PlainWords.{sizes_words}
use Rattle.index_file.specs.PackedWords.{first_list_bit, bits_of_list, bits_of_lists, starts_from, starts_bits, packed_words}
use Rattle.index_file.specs.PackedLaws.{IsPackable}
use Rattle.index_file.specs.PackedAt.{packed_terms, packed_bits, packed_sizes, packed_directory, starts_universe, AreStarts, HasStarts, starts_stated, start_stated, IsListAt, AreListsStored, PassesPackedClosing, PassesPacked}
use Rattle.index_file.proofs.FilePieces.{sizes-filled}
use Rattle.index_file.proofs.Lengths.{sizes-length}
use Rattle.index_file.proofs.OnePackedFile.{lists-are-bits, length-words, first-start, starts-relative}
use Rattle.index_file.proofs.PackedPieces.{no-one-of, bits-at, length-padded, length-starts, PackedLaid, packed-laid}

-- list k of some, which begin at a place: where its bits stand, and what the directory has of it
pub record StandsIn (bits : List ℕ) (n t at : ℕ) (cs : List CutList) (k : ℕ) : Type 0 where
  pub from : ℕ
  pub cut : CutList
  pub is : (d : CutList) → get_or cs k d ≡ cut
  pub here : get_or (starts_from n t at cs) k 0 ≡ from + t + k
  pub next : get_or (starts_from n t at cs) (k + 1) 0 ≡ from + length (bits_of_list n from cut) + t + k + 1
  pub stand : StandAt bits (first_list_bit + from) (bits_of_list n from cut)
  pub within : from ≤ at + length (bits_of_lists n at cs)

pub list-stands : (bits : List ℕ) (n t at : ℕ) (cs : List CutList) (k : ℕ) → k < length cs → StandAt bits (first_list_bit + at) (bits_of_lists n at cs) → StandsIn bits n t at cs k
list-stands bits n t at [] k lt h = absurd (omega (arith, lt))
list-stands bits n t at (c ∷ cs) zero lt h =
    let l : ℕ = length (bits_of_list n at c) in
    record {
      from = at;
      cut = c;
      is = λ d. refl;
      here = omega arith;
      next = omega (arith, first-start n (t + 1) (at + l) cs);
      stand = stands-first bits (first_list_bit + at) (bits_of_list n at c) (bits_of_lists n (at + l) cs) h;
      within = omega arith;
    }
list-stands bits n t at (c ∷ cs) (suc k) lt h =
    let l : ℕ = length (bits_of_list n at c) in
    let behind : StandAt bits (first_list_bit + (at + l)) (bits_of_lists n (at + l) cs) =
    subst (λ p. StandAt bits p (bits_of_lists n (at + l) cs)) (let e : first_list_bit + at + l ≡ first_list_bit + (at + l) = omega arith in e)
    (stands-second bits (first_list_bit + at) (bits_of_list n at c) (bits_of_lists n (at + l) cs) h) in
    let r = list-stands bits n (t + 1) (at + l) cs k (omega (arith, lt)) behind in
    let place : get_or (starts_from n t at (c ∷ cs)) (suc k + 1) 0 ≡ get_or (starts_from n (t + 1) (at + l) cs) (k + 1) 0 =
    ap (λ i. get_or (starts_from n t at (c ∷ cs)) i 0) (let e : suc k + 1 ≡ suc (k + 1) = omega arith in e) in
    record {
      from = r.from;
      cut = r.cut;
      is = r.is;
      here = omega (arith, r.here);
      next = omega (arith, r.next, place);
      stand = r.stand;
      within = omega (arith, r.within, length-append (bits_of_list n at c) (bits_of_lists n (at + l) cs));
    }

-- the bits of the lists, and the zeros behind them
lists-stand : BitsOfAppended → BitsOfWords → PartIsBits → (words : List ℕ) (n : ℕ) (cs : List CutList) (xs : List ℕ) → PackedLaid words n cs xs → StandAt (bits_of words) 128 (padded (bits_of_lists n 0 cs))
lists-stand appended filled part words n cs xs h = bits-at appended filled words (bits_of_lists n 0 cs) 2 (lists-are-bits part n 0 cs) (omega (arith, h.frame.some)) h.lists_at

module _ (appended : BitsOfAppended) (filled : BitsOfWords) (part : PartIsBits) (takes : TakesItsPayload) (values : ValuesStandAt) (words : List ℕ) (n : ℕ) (cs : List CutList) (xs : List ℕ) (fits : IsPackable n cs xs) (h : PackedLaid words n cs xs) where
  abbrev b : List ℕ
  b = bits_of_lists n 0 cs

  universe-is : starts_universe (packed_bits words) (packed_terms words) ≡ length (bits_of_lists n 0 cs) + length cs + 1
  universe-is = omega (arith, h.bits, h.terms)

  stand-here : StandAt (bits_of words) 128 (bits_of_lists n 0 cs)
  stand-here = stands-first (bits_of words) 128 b (replicate (padding (length b)) 0) (lists-stand appended filled part words n cs xs h)

  directory-within : packed_directory words ≤ length words
  directory-within = omega (arith, h.frame.whole)

  directory-stands : StandAt (bits_of words) (64 * packed_directory words) (padded (starts_bits n cs))
  directory-stands = bits-at appended filled words (starts_bits n cs) (packed_directory words) (part (length b + length cs + 1) (starts_from n 0 0 cs)) directory-within h.directory_at

  pub starts-are : AreStarts words (starts_from n 0 0 cs)
  starts-are =
      let d : List ℕ = starts_bits n cs in
      let bits : List ℕ = bits_of words in
      let place : ℕ = 64 * packed_directory words in
      let ys : List ℕ = starts_from n 0 0 cs in
      let u : ℕ = length (bits_of_lists n 0 cs) + length cs + 1 in
      let stored : StandAt bits place (part_bits ys u) = stands-first bits place d (replicate (padding (length d)) 0) directory-stands in record {
        values = subst (λ x. AreRelative x (packed_terms words + 1) ys) (sym universe-is) (subst (λ m. AreRelative u (m + 1) ys) (sym h.terms) (starts-relative n cs));
        stored = subst (λ x. StandAt bits place (part_bits ys x)) (sym universe-is) stored;
      }

  pub starts-stated : starts_stated words ≡ starts_from n 0 0 cs
  starts-stated = values (bits_of words) (64 * packed_directory words) (starts_universe (packed_bits words) (packed_terms words)) (packed_terms words + 1) (starts_from n 0 0 cs) starts-are

  payload-is : length (starts_bits n cs) ≡ payload (starts_universe (packed_bits words) (packed_terms words)) (packed_terms words + 1)
  payload-is =
      length-starts takes n cs (omega (arith, fits.fits, fits.terms)) ∙ ap (λ u. payload u (length cs + 1)) (sym universe-is)
      ∙ ap (λ m. payload (starts_universe (packed_bits words) (packed_terms words)) (m + 1)) (sym h.terms)

  pub has-starts : HasStarts words
  has-starts =
      let d : List ℕ = starts_bits n cs in
      let bits : List ℕ = bits_of words in
      let place : ℕ = 64 * packed_directory words in
      let z : ℕ = padding (length d) in
      let zeros : HasNoOne bits (place + length d) (64 * (length words - 4)) =
      no-one-of bits (place + length d) (64 * (length words - 4)) z
      (let e : 64 * (length words - 4) ≡ place + length d + z = omega (arith, h.frame.whole, payload-is, length-padded d, length-append d (replicate z 0), length-words d) in e)
      (stands-second bits place d (replicate z 0) directory-stands) in record {
        starts = starts_from n 0 0 cs;
        stand = starts-are;
        first = first-start n 0 0 cs;
        filled = subst (λ k. HasNoOne bits (place + k) (64 * (length words - 4))) payload-is zeros;
      }

  -- list k of the file
  pub list-here : (k : ℕ) → k < packed_terms words → StandsIn (bits_of words) n 0 0 cs k
  list-here k lt = list-stands (bits_of words) n 0 0 cs k (omega (arith, lt, h.terms)) stand-here

  pub start-here : (k : ℕ) (lt : k < packed_terms words) → start_stated words k ≡ (list-here k lt).from
  start-here k lt = let s = list-here k lt in omega (arith, s.here, ap (λ ys. get_or ys k 0) starts-stated)

  pub start-next : (k : ℕ) (lt : k < packed_terms words) → start_stated words (k + 1) ≡ (list-here k lt).from + length (bits_of_list n (list-here k lt).from (list-here k lt).cut)
  start-next k lt = let s = list-here k lt in omega (arith, s.next, ap (λ ys. get_or ys (k + 1) 0) starts-stated)

  -- its bits are those of the list that was written
  pub list-at : (k : ℕ) (lt : k < packed_terms words) → IsListAt words k (list-here k lt).cut.list
  list-at k lt =
      let s = list-here k lt in
      let bits : List ℕ = bits_of words in
      let c : CutList = s.cut in
      let l : ℕ = length (bits_of_list n s.from c) in
      let at : ℕ = first_list_bit + s.from in
      let cut : IsCutInto n c.list c.parts.doc_ends c.parts.freq_ends = subst (λ x. IsCutInto n x.list x.parts.doc_ends x.parts.freq_ends) (s.is c) (fits.lists k c (omega (arith, lt, h.terms))) in
      let range : slice_range bits at (at + l) ≡ bits_of_list n s.from c = ap (λ i. take i (drop at bits)) (let e : at + l - at ≡ l = omega arith in e) ∙ s.stand in
      let between : IsListBetween n bits at (at + l) c.list c.parts.doc_ends c.parts.freq_ends = record { cut = cut; stands = range } in (
        c.parts.doc_ends,
        c.parts.freq_ends,
        subst (λ m. IsListBetween m bits (first_list_bit + start_stated words k) (first_list_bit + start_stated words (k + 1)) c.list c.parts.doc_ends c.parts.freq_ends) (sym h.docs)
            (subst (λ i. IsListBetween n bits (first_list_bit + i) (first_list_bit + start_stated words (k + 1)) c.list c.parts.doc_ends c.parts.freq_ends) (sym (start-here k lt))
            (subst (λ i. IsListBetween n bits at i c.list c.parts.doc_ends c.parts.freq_ends) (let e : at + l ≡ first_list_bit + start_stated words (k + 1) = omega (arith, start-next k lt) in e) between)),
      )

  pub list-stored : AreListsStored words (packed_terms words)
  list-stored k lt = let at = list-at k lt in ((list-here k lt).cut.list, at.0, at.1, at.2)

  pub closing-passes : PassesPackedClosing words
  closing-passes =
      let bits : List ℕ = bits_of words in
      let z : ℕ = padding (length b) in
      let zs : List ℕ = sizes_words xs in
      let zeros : HasNoOne bits (128 + length b) (64 * packed_sizes words) =
      no-one-of bits (128 + length b) (64 * packed_sizes words) z
      (let e : 64 * packed_sizes words ≡ 128 + length b + z = omega (arith, h.bits, length-padded b, length-append b (replicate z 0), length-words b) in e)
      (stands-second bits 128 b (replicate z 0) (lists-stand appended filled part words n cs xs h)) in record {
        lists = subst (λ k. HasNoOne bits (first_list_bit + k) (64 * packed_sizes words)) (sym h.bits) zeros;
        sizes = λ odd.
            let count : ℕ = (length xs + 1) / 2 in
            let some : count - 1 < length zs = omega (arith, sizes-length xs, odd, h.docs, fits.size_each) in
            let here : slice_index words (packed_directory words - 1) ≡ slice_index zs (count - 1) =
            ap (slice_index words) (let e : packed_directory words - 1 ≡ packed_sizes words + (count - 1) = omega (arith, odd, h.docs, fits.size_each) in e)
            ∙ sym (get_or-drop (packed_sizes words) words (count - 1) 0) ∙ sym (get_or-take (length zs) (drop (packed_sizes words) words) (count - 1) 0 some)
            ∙ ap (λ ws. get_or ws (count - 1) 0) h.sizes_at in
            ap (λ w. w / 2 ^ 32) here ∙ sizes-filled xs fits.small_sizes (omega (arith, odd, h.docs, fits.size_each));
      }

  pub all-pass : PassesPacked words
  all-pass = record { frame = h.frame; starts = has-starts; lists = list-stored; closing = closing-passes }

pub packed-passes : BitsOfAppended → BitsOfWords → PartIsBits → TakesItsPayload → ValuesStandAt → (words : List ℕ) (n : ℕ) (cs : List CutList) (xs : List ℕ) → IsPackable n cs xs
    → words ≡ packed_words n cs xs → PassesPacked words
packed-passes appended filled part takes values words n cs xs fits same = all-pass appended filled part takes values words n cs xs fits (packed-laid takes words n cs xs fits same)
