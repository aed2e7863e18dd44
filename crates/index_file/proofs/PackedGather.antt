-- Words that pass the checks of a packed file are the words of one.
use Rattle.std.proofs.Common.{◌≡◌, ℕ, zero, suc, ◌+◌, ◌-◌, ◌*◌, ◌/◌, ◌%◌, ◌^◌, ◌≤◌, ◌<◌, List, [], ◌∷◌, length, take, drop, get_or, map, replicate, refl, sym, ap, ◌∙◌, subst, arith, length-append}
use Rattle.std.specs.Prelude.{slice_index, slice_range, ◌==◌}
use Rattle.std.specs.List.{All, range_with_len}
use Rattle.std.proofs.lemmas.List.{get_or-drop, length-drop, drop_all}
use Rattle.std.proofs.Math.Seq.{drop-cons}
use Rattle.std.proofs.lemmas.List.Elements.{All-nil, All-cons, All-from_get_or}
use Rattle.std.proofs.lemmas.List.FromFn.{length-map-range_with_len, get_or-map-range_with_len}
use Rattle.bit_words.specs.Bits.{HasNoOne, bits_of, words_of, padding}
use Rattle.bit_words.specs.Laws.{BitsOfAppended, WordsOfBits, WordsOfPadded}
use Rattle.bit_words.proofs.Pieces.{StandAt, stands-both}
use Rattle.bit_words.proofs.Value.{length-bits_of}
use Rattle.part_cost.specs.Payload.{payload}
use Rattle.part_codec.specs.PartBits.{part_bits}
use Rattle.part_codec.specs.Laws.{PartIsBits, TakesItsPayload, ValuesStandAt}
use Rattle.packed_list.specs.ListBits.{IsCutInto}
use Rattle.packed_list.proofs.ListPlaces.{length-range}
use Rattle.index_file.specs.CutLists.{CutList}
use Rattle.index_file.specs.PlainWords.{sizes_words}
use Rattle.index_file.specs.PackedWords.{first_list_bit, bits_of_list, bits_of_lists, starts_from, starts_bits, packed_words}
use Rattle.index_file.specs.PackedLaws.{IsPackable}
use Rattle.index_file.specs.PackedAt.{packed_documents, packed_terms, packed_bits, packed_sizes, packed_directory, starts_universe, starts_stated, start_stated, PassesPacked}
use Rattle.index_file.proofs.FilePieces.{half, sizes-stand}
use Rattle.index_file.proofs.Spelling.{half-small}
use Rattle.index_file.proofs.OnePackedFile.{lists-are-bits, length-words}
use Rattle.index_file.proofs.PackedPieces.{of-no-one, words-at, length-padded, length-starts, packed-words}
use Rattle.index_file.proofs.PackedStarts.{stands, first-start, IsStart, start-lies, lists-within}

abbrev pub IsCut : ℕ → CutList → Type 0
IsCut n c = IsCutInto n c.list c.parts.doc_ends c.parts.freq_ends

-- the lists from term t on
pub record Gathered (words : List ℕ) (t : ℕ) (cs : List CutList) : Type 0 where
  pub cut : All (IsCut (packed_documents words)) cs
  pub starts : starts_from (packed_documents words) t (start_stated words t) cs ≡ drop t (starts_stated words)
  pub stand : StandAt (bits_of words) (first_list_bit + start_stated words t) (bits_of_lists (packed_documents words) (start_stated words t) cs)
  pub total : start_stated words t + length (bits_of_lists (packed_documents words) (start_stated words t) cs) ≡ packed_bits words

module _ (values : ValuesStandAt) (words : List ℕ) (pass : PassesPacked words) where
  abbrev n : ℕ
  n = packed_documents words

  lies : (t : ℕ) → t ≤ packed_terms words → IsStart words t
  lies t le = start-lies values words pass.starts t le

  count : length (starts_stated words) ≡ packed_terms words + 1
  count = (stands values words pass.starts).values.count

  here : (t : ℕ) → t ≤ packed_terms words → start_stated words t + t ≡ slice_index (starts_stated words) t
  here t le = omega (arith, (lies t le).at_least)

  split : (t : ℕ) → t ≤ packed_terms words → drop t (starts_stated words) ≡ (start_stated words t + t) ∷ drop (suc t) (starts_stated words)
  split t le = drop-cons (starts_stated words) t 0 (omega (arith, count, le)) ∙ ap (λ x. x ∷ drop (suc t) (starts_stated words)) (sym (here t le))

  last-start : start_stated words (packed_terms words) ≡ packed_bits words
  last-start =
      let all : ℕ = packed_terms words in
      let held = (stands values words pass.starts).values in
      let e : slice_index (starts_stated words) (all + 1 - 1) ≡ slice_index (starts_stated words) all = ap (slice_index (starts_stated words)) (let f : all + 1 - 1 ≡ all = omega arith in f) in
      omega (arith, e, held.last)

  gather : (j t : ℕ) → t + j ≡ packed_terms words → (cs : List CutList) × (length cs ≡ j) × Gathered words t cs
  gather zero t e =
      let at : t ≡ packed_terms words = omega (arith, e) in
      let none : drop (suc t) (starts_stated words) ≡ [] = drop_all (suc t) (starts_stated words) (omega (arith, count, at)) in (
        [],
        refl,
        record {
          cut = All-nil (IsCut n);
          starts = sym (split t (omega (arith, e)) ∙ ap (λ l. (start_stated words t + t) ∷ l) none);
          stand = refl;
          total = omega (arith, ap (start_stated words) at, last-start);
        },
      )
  gather (suc j) t e =
      let lt : t < packed_terms words = omega (arith, e) in
      let bits : List ℕ = bits_of words in
      let from : ℕ = start_stated words t in
      let to : ℕ = start_stated words (t + 1) in
      let held = pass.lists t lt in
      let c : CutList = record { list = held.0; parts = record { doc_ends = held.1; freq_ends = held.2 } } in
      let piece : List ℕ = bits_of_list n from c in
      let next = lies (t + 1) (omega (arith, lt)) in
      let first = lies t (omega (arith, lt)) in
      let rises : slice_index (starts_stated words) t < slice_index (starts_stated words) (t + 1) =
      (let values_here = (stands values words pass.starts).values in values_here.rising t (omega (arith, lt, count))) in
      let ordered : start_stated words t ≤ start_stated words (t + 1) = omega (arith, first.at_least, next.at_least, rises) in
      let inside : first_list_bit + to ≤ length bits = omega (arith, next.at_most, length-bits_of words, lists-within words pass.frame) in
      let range : slice_range bits (first_list_bit + from) (first_list_bit + to) ≡ piece = held.3.stands in
      let long : length piece ≡ to - from =
      ap length (sym range) ∙ length-range bits (first_list_bit + from) (first_list_bit + to) (omega (arith, ordered)) inside ∙ (let f : first_list_bit + to - (first_list_bit + from) ≡ to - from = omega arith in f) in
      let behind : start_stated words t + length piece ≡ start_stated words (t + 1) = omega (arith, long, ordered) in
      let stand : StandAt bits (first_list_bit + from) piece =
      ap (λ i. take i (drop (first_list_bit + from) bits)) (let f : length piece ≡ first_list_bit + to - (first_list_bit + from) = omega (arith, long) in f) ∙ range in
      let rest = gather j (t + 1) (omega (arith, e)) in
      let cs : List CutList = rest.0 in
      let moved : bits_of_lists n (from + length piece) cs ≡ bits_of_lists n (start_stated words (t + 1)) cs = ap (λ p. bits_of_lists n p cs) behind in
      let later : StandAt bits (first_list_bit + from + length piece) (bits_of_lists n (from + length piece) cs) =
      subst (λ p. StandAt bits (first_list_bit + from + length piece) (bits_of_lists n p cs)) (sym behind)
      (subst (λ p. StandAt bits p (bits_of_lists n (start_stated words (t + 1)) cs)) (let f : first_list_bit + start_stated words (t + 1) ≡ first_list_bit + from + length piece = omega (arith, behind) in f) rest.2.stand) in (
        c ∷ cs,
        (let f : suc (length cs) ≡ suc j = ap suc rest.1 in f),
        record {
          cut = All-cons (IsCut n) c cs held.3.cut rest.2.cut;
          starts = ap (λ l. (from + t) ∷ l) (ap (λ p. starts_from n (t + 1) p cs) behind ∙ rest.2.starts ∙ ap (λ i. drop i (starts_stated words)) (let f : t + 1 ≡ suc t = omega arith in f))
              ∙ sym (split t (omega (arith, lt)));
          stand = stands-both bits (first_list_bit + from) piece (bits_of_lists n (from + length piece) cs) stand later;
          total = omega (arith, length-append piece (bits_of_lists n (from + length piece) cs), ap length moved, behind, rest.2.total);
        },
      )

-- the sizes in words from one on
abbrev pub sizes-from : List ℕ → ℕ → List ℕ
sizes-from ws n = map (half ws) (range_with_len 0 n)

small-sizes : (ws : List ℕ) (n : ℕ) → ((k : ℕ) → get_or ws k 0 < 2 ^ 64) → All (λ s. s < 2 ^ 32) (sizes-from ws n)
small-sizes ws n small =
    All-from_get_or (λ s. s < 2 ^ 32) (sizes-from ws n) 0
    (λ d lt.
    let k : length (sizes-from ws n) ≡ n = length-map-range_with_len (half ws) 0 n in
    let e : get_or (sizes-from ws n) d 0 ≡ half ws d = get_or-map-range_with_len (half ws) 0 n d d 0 (omega (arith, lt, k)) (omega arith) in
    let h : half ws d < 2 ^ 32 = half-small (d % 2 == 0) (slice_index ws (d / 2)) (small (d / 2)) in
    omega (arith, e, h))

module _ (appended : BitsOfAppended) (whole : WordsOfBits) (same : WordsOfPadded) (part : PartIsBits) (takes : TakesItsPayload) (values : ValuesStandAt) (words : List ℕ) (small : (k : ℕ) → get_or words k 0 < 2 ^ 64) (pass : PassesPacked words) where
  abbrev pub documents : ℕ
  documents = packed_documents words

  abbrev pub sizes : List ℕ
  sizes = sizes-from (drop (packed_sizes words) words) (packed_documents words)

  count-sizes : length sizes ≡ packed_documents words
  count-sizes = length-map-range_with_len (half (drop (packed_sizes words) words)) 0 (packed_documents words)

  sizes-here : take (length (sizes_words sizes)) (drop (packed_sizes words) words) ≡ sizes_words sizes
  sizes-here =
      let s : ℕ = packed_sizes words in
      let ws : List ℕ = drop s words in
      sizes-stand sizes ws
      (λ d lt. get_or-map-range_with_len (half ws) 0 documents d d 0 (omega (arith, lt, count-sizes)) (omega arith))
      (omega (arith, count-sizes, length-drop s words, pass.frame.whole))
      (λ odd.
      ap (λ x. x / 2 ^ 32)
      (get_or-drop s words ((length sizes + 1) / 2 - 1) 0
      ∙ ap (slice_index words) (let e : packed_sizes words + ((length sizes + 1) / 2 - 1) ≡ packed_directory words - 1 = omega (arith, count-sizes, odd) in e))
      ∙ pass.closing.sizes (omega (arith, count-sizes, odd)))

  pub all : (cs : List CutList) × (length cs ≡ packed_terms words) × Gathered words 0 cs
  all = gather values words pass (packed_terms words) 0 (omega arith)

  zero-start : start_stated words 0 ≡ 0
  zero-start = omega (arith, first-start values words pass.starts)

  abbrev pub cuts : List CutList
  cuts = all.0

  starts-same : starts_from documents 0 0 cuts ≡ starts_stated words
  starts-same = ap (λ p. starts_from documents 0 p cuts) (sym zero-start) ∙ all.2.starts

  stand-same : StandAt (bits_of words) 128 (bits_of_lists documents 0 cuts)
  stand-same = subst (λ p. StandAt (bits_of words) (first_list_bit + p) (bits_of_lists documents p cuts)) zero-start all.2.stand

  total-same : length (bits_of_lists documents 0 cuts) ≡ packed_bits words
  total-same =
      let e : length (bits_of_lists documents (start_stated words 0) cuts) ≡ length (bits_of_lists documents 0 cuts) = ap (λ p. length (bits_of_lists documents p cuts)) zero-start in
      omega (arith, e, all.2.total, zero-start)

  lists-here : take (length (words_of (bits_of_lists documents 0 cuts))) (drop 2 words) ≡ words_of (bits_of_lists documents 0 cuts)
  lists-here =
      let b : List ℕ = bits_of_lists documents 0 cuts in
      let bits : List ℕ = bits_of words in
      let z : ℕ = padding (length b) in
      let end : 64 * packed_sizes words ≡ 128 + length b + z = omega (arith, total-same, length-padded b, length-append b (replicate z 0), length-words b) in
      let fit : 64 * packed_sizes words ≤ length bits = omega (arith, length-bits_of words, pass.frame.whole) in
      let none : HasNoOne bits (128 + length b) (64 * packed_sizes words) = subst (λ k. HasNoOne bits (first_list_bit + k) (64 * packed_sizes words)) (sym total-same) pass.closing.lists in
      words-at appended whole same words b 2 (lists-are-bits part documents 0 cuts) small (omega (arith, length-words b, total-same, pass.frame.whole))
      (stands-both bits 128 b (replicate z 0) stand-same (of-no-one bits (128 + length b) (64 * packed_sizes words) z end fit none))

  universe-same : length (bits_of_lists documents 0 cuts) + length cuts + 1 ≡ starts_universe (packed_bits words) (packed_terms words)
  universe-same = omega (arith, total-same, all.1)

  payload-same : length (starts_bits documents cuts) ≡ payload (starts_universe (packed_bits words) (packed_terms words)) (packed_terms words + 1)
  payload-same =
      length-starts takes documents cuts (omega (arith, total-same, all.1, pass.frame.bits, pass.frame.terms)) ∙ ap (λ u. payload u (length cuts + 1)) universe-same
      ∙ ap (λ m. payload (starts_universe (packed_bits words) (packed_terms words)) (m + 1)) all.1

  directory-here : take (length (words_of (starts_bits documents cuts))) (drop (packed_directory words) words) ≡ words_of (starts_bits documents cuts)
  directory-here =
      let d : List ℕ = starts_bits documents cuts in
      let bits : List ℕ = bits_of words in
      let place : ℕ = 64 * packed_directory words in
      let z : ℕ = padding (length d) in
      let u : ℕ = length (bits_of_lists documents 0 cuts) + length cuts + 1 in
      let held = stands values words pass.starts in
      let moved : StandAt bits place (part_bits (starts_from documents 0 0 cuts) u) =
      subst (λ ys. StandAt bits place (part_bits ys u)) (sym starts-same) (subst (λ x. StandAt bits place (part_bits (starts_stated words) x)) (sym universe-same) held.stored) in
      let end : 64 * (length words - 4) ≡ place + length d + z = omega (arith, pass.frame.whole, payload-same, length-padded d, length-append d (replicate z 0), length-words d) in
      let fit : 64 * (length words - 4) ≤ length bits = omega (arith, length-bits_of words) in
      let none : HasNoOne bits (place + length d) (64 * (length words - 4)) = subst (λ k. HasNoOne bits (place + k) (64 * (length words - 4))) (sym payload-same) pass.starts.filled in
      words-at appended whole same words d (packed_directory words) (part u (starts_from documents 0 0 cuts)) small (omega (arith, length-words d, payload-same, pass.frame.whole))
      (stands-both bits place d (replicate z 0) moved (of-no-one bits (place + length d) (64 * (length words - 4)) z end fit none))

  pub packable : IsPackable documents cuts sizes
  packable = record {
    documents = pass.frame.documents;
    terms = omega (arith, all.1, pass.frame.terms);
    lists = all.2.cut;
    size_each = count-sizes;
    small_sizes = small-sizes (drop (packed_sizes words) words) documents (λ k. omega (arith, small (packed_sizes words + k), get_or-drop (packed_sizes words) words k 0));
    fits = omega (arith, total-same, pass.frame.bits);
  }

  pub spelled : words ≡ packed_words documents cuts sizes
  spelled =
      packed-words takes words documents cuts sizes count-sizes (record {
        frame = pass.frame;
        docs = refl;
        terms = sym all.1;
        bits = sym total-same;
        lists_at = lists-here;
        sizes_at = sizes-here;
        directory_at = directory-here;
      })

pub passes-are-packed : BitsOfAppended → WordsOfBits → WordsOfPadded → PartIsBits → TakesItsPayload → ValuesStandAt → (words : List ℕ) → ((k : ℕ) → get_or words k 0 < 2 ^ 64) → PassesPacked words
    → (n : ℕ) × (cs : List CutList) × (xs : List ℕ) × IsPackable n cs xs × (words ≡ packed_words n cs xs)
passes-are-packed appended whole same part takes values words small pass = (
  packed_documents words,
  cuts appended whole same part takes values words small pass,
  sizes appended whole same part takes values words small pass,
  packable appended whole same part takes values words small pass,
  spelled appended whole same part takes values words small pass,
)
