-- A packed file is that of one collection in one cut, and what it states is this collection.
use Rattle.std.proofs.Common.{◌≡◌, ℕ, ◌≤◌, ◌<◌, ◌^◌, List, [], ◌∷◌, length, get_or, sym, ap, ◌∙◌, subst, arith}
use Rattle.std.specs.List.{All}
use Rattle.std.proofs.lemmas.List.{length-map, get_or-map}
use Rattle.std.proofs.lemmas.List.Elements.{All-nil, All-cons, All-head, All-tail}
use Rattle.bit_words.specs.Laws.{BitsOfAppended, BitsOfWords, WordsOfBits, WordsOfPadded}
use Rattle.collection_model.specs.FormatNumbers.{format_three}
use Rattle.collection_model.specs.Collection.{Posting, Collection, WellFormed, IsPostingList, list_of}
use Rattle.part_codec.specs.Laws.{PartIsBits, TakesItsPayload, ValuesStandAt}
use Rattle.postings.specs.Laws.{SequencesGiveTheirList}
use Rattle.packed_list.specs.ListBits.{IsCutInto}
use Rattle.packed_list.specs.Laws.{ListsStateBack}
use Rattle.index_file.specs.CutLists.{CutList, ListParts, with_parts, ArePartitions}
use Rattle.index_file.specs.PackedWords.{most_list_bits, bits_of_lists, packed_words}
use Rattle.index_file.specs.PackedLaws.{IsPackable, OnePackedFile}
use Rattle.index_file.specs.PackedView.{packed_collection, packed_parts}
use Rattle.index_file.specs.PackedAt.{packed_terms, HasPackedFrame, IsListAt, AreListsOf, PassesPacked}
use Rattle.index_file.proofs.CutLists.{lists_in, parts_in, with-parts-of}
use Rattle.index_file.proofs.PackedPieces.{packed-laid}
use Rattle.index_file.proofs.PackedBack.{list-here, list-at}
use Rattle.index_file.proofs.PackedStated as stated
use Rattle.index_file.proofs.PackedGather.{passes-are-packed}
use Rattle.index_file.proofs.StatedIndex.{lists-back, parts-back}

abbrev IsCut : ℕ → CutList → Type 0
IsCut n c = IsCutInto n c.list c.parts.doc_ends c.parts.freq_ends

cuts-of : (n : ℕ) (lists : List (List Posting)) (parts : List ListParts) → ArePartitions lists parts → All (IsPostingList format_three n) lists → All (IsCut n) (with_parts lists parts)
cuts-of n [] [] h k = All-nil (IsCut n)
cuts-of n [] (p ∷ parts) h k = absurd h
cuts-of n (l ∷ lists) [] h k = absurd h
cuts-of n (l ∷ lists) (p ∷ parts) h k =
    All-cons (IsCut n) (record { list = l; parts = p }) (with_parts lists parts) (record { well_formed = All-head (IsPostingList format_three n) l lists k; docs = h.0; freqs = h.1 })
    (cuts-of n lists parts h.2 (All-tail (IsPostingList format_three n) l lists k))

partitions-of : (n : ℕ) (cs : List CutList) → All (IsCut n) cs → ArePartitions (lists_in cs) (parts_in cs)
partitions-of n [] h = tt
partitions-of n (c ∷ cs) h = let here = All-head (IsCut n) c cs h in (here.docs, here.freqs, partitions-of n cs (All-tail (IsCut n) c cs h))

lists-of : (n : ℕ) (cs : List CutList) → All (IsCut n) cs → All (IsPostingList format_three n) (lists_in cs)
lists-of n [] h = All-nil (IsPostingList format_three n)
lists-of n (c ∷ cs) h =
    All-cons (IsPostingList format_three n) c.list (lists_in cs) (let here = All-head (IsCut n) c cs h in here.well_formed) (lists-of n cs (All-tail (IsCut n) c cs h))

-- the words of the packed file of a collection in parts
pub record IsPackedFile (words : List ℕ) (c : Collection) (parts : List ListParts) : Type 0 where
  pub well_formed : WellFormed format_three c
  pub partitions : ArePartitions c.lists parts
  pub fits : length (bits_of_lists c.documents 0 (with_parts c.lists parts)) ≤ most_list_bits
  pub spelled : words ≡ packed_words c.documents (with_parts c.lists parts) c.sizes

pub packable : (words : List ℕ) (c : Collection) (parts : List ListParts) → IsPackedFile words c parts → IsPackable c.documents (with_parts c.lists parts) c.sizes
packable words c parts h =
    let back : lists_in (with_parts c.lists parts) ≡ c.lists = lists-back c.lists parts h.partitions in
    let count : length (with_parts c.lists parts) ≡ length c.lists = sym (length-map (with_parts c.lists parts) (λ x. x.list)) ∙ ap length back in record {
      documents = h.well_formed.documents;
      terms = omega (arith, count, h.well_formed.terms);
      lists = cuts-of c.documents c.lists parts h.partitions h.well_formed.lists;
      size_each = h.well_formed.size_each;
      small_sizes = h.well_formed.sizes;
      fits = h.fits;
    }

-- words are the packed file of one collection in one cut
pub one-packed-index : OnePackedFile → (words : List ℕ) (c d : Collection) (parts others : List ListParts) → IsPackedFile words c parts → IsPackedFile words d others → (c ≡ d) × (parts ≡ others)
one-packed-index one words c d parts others h k =
    let same = one c.documents d.documents (with_parts c.lists parts) (with_parts d.lists others) c.sizes d.sizes (packable words c parts h) (packable words d others k) (sym h.spelled ∙ k.spelled) in
    let lists : c.lists ≡ d.lists = sym (lists-back c.lists parts h.partitions) ∙ ap lists_in same.1 ∙ lists-back d.lists others k.partitions in (
      ap (λ n. record { documents = n; lists = c.lists; sizes = c.sizes }) same.0
          ∙ ap (λ l. record { documents = d.documents; lists = l; sizes = c.sizes }) lists ∙ ap (λ s. record { documents = d.documents; lists = d.lists; sizes = s }) same.2,
      sym (parts-back c.lists parts h.partitions) ∙ ap parts_in same.1 ∙ parts-back d.lists others k.partitions,
    )

-- and they state it
pub packed-states : BitsOfAppended → BitsOfWords → PartIsBits → TakesItsPayload → ValuesStandAt → ListsStateBack → SequencesGiveTheirList → (words : List ℕ) → All (λ w. w < 2 ^ 64) words
    → (c : Collection) (parts : List ListParts) → IsPackedFile words c parts → (packed_collection words ≡ c) × (packed_parts words ≡ parts)
packed-states appended filled part takes values back give words narrow c parts h =
    let cs : List CutList = with_parts c.lists parts in
    let fits = packable words c parts h in
    let laid = packed-laid takes words c.documents cs c.sizes fits h.spelled in (
      stated.collection-is appended filled part takes values back give words narrow c.documents cs c.sizes fits laid
          ∙ ap (λ l. record { documents = c.documents; lists = l; sizes = c.sizes }) (lists-back c.lists parts h.partitions),
      stated.parts-are appended filled part takes values back give words narrow c.documents cs c.sizes fits laid ∙ parts-back c.lists parts h.partitions,
    )

-- the frame of a packed file, and its lists in the words
pub record HoldLists (words : List ℕ) (c : Collection) : Type 0 where
  pub frame : HasPackedFrame words
  pub lists : AreListsOf words c
  pub terms : packed_terms words ≡ length c.lists

pub hold-lists : BitsOfAppended → BitsOfWords → PartIsBits → TakesItsPayload → ValuesStandAt → (words : List ℕ) (c : Collection) (parts : List ListParts) → IsPackedFile words c parts → HoldLists words c
hold-lists appended filled part takes values words c parts h =
    let cs : List CutList = with_parts c.lists parts in
    let fits = packable words c parts h in
    let laid = packed-laid takes words c.documents cs c.sizes fits h.spelled in
    let back : lists_in cs ≡ c.lists = lists-back c.lists parts h.partitions in
    let none : CutList = record { list = []; parts = record { doc_ends = []; freq_ends = [] } } in
    record {
      frame = laid.frame;
      lists = record {
        documents = laid.docs;
        lists =
            λ t lt.
            let is : (list-here appended filled part takes values words c.documents cs c.sizes fits laid t lt).cut.list ≡ list_of c t =
            sym (ap (λ x. x.list) ((list-here appended filled part takes values words c.documents cs c.sizes fits laid t lt).is none))
            ∙ sym (get_or-map (λ x. x.list) cs t none [] (omega (arith, lt, laid.terms))) ∙ ap (λ ls. get_or ls t []) back in
            subst (IsListAt words t) is (list-at appended filled part takes values words c.documents cs c.sizes fits laid t lt);
      };
      terms = laid.terms ∙ sym (length-map cs (λ x. x.list)) ∙ ap length back;
    }

-- words that pass the checks of a packed file are one
pub passes-are-file : BitsOfAppended → WordsOfBits → WordsOfPadded → PartIsBits → TakesItsPayload → ValuesStandAt → (words : List ℕ) → ((k : ℕ) → get_or words k 0 < 2 ^ 64) → PassesPacked words
    → (c : Collection) × (parts : List ListParts) × IsPackedFile words c parts
passes-are-file appended whole same part takes values words small pass =
    let got = passes-are-packed appended whole same part takes values words small pass in
    let n : ℕ = got.0 in
    let cs : List CutList = got.1 in
    let xs : List ℕ = got.2 in
    let fits = got.3 in
    let again : with_parts (lists_in cs) (parts_in cs) ≡ cs = with-parts-of cs in
    let count : length (lists_in got.1) ≡ length got.1 = length-map cs (λ c. c.list) in (
      record { documents = n; lists = lists_in cs; sizes = xs },
      parts_in cs,
      record {
        well_formed = record {
          documents = fits.documents;
          terms = omega (arith, count, fits.terms);
          lists = lists-of n cs fits.lists;
          size_each = fits.size_each;
          sizes = fits.small_sizes;
        };
        partitions = partitions-of n cs fits.lists;
        fits = subst (λ ds. length (bits_of_lists n 0 ds) ≤ most_list_bits) (sym again) fits.fits;
        spelled = got.4 ∙ ap (λ ds. packed_words n ds xs) (sym again);
      },
    )
