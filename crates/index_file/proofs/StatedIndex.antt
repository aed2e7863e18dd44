-- Lemmas on the index that words state.
use Rattle.std.proofs.Common.{◌≡◌, ℕ, ◌+◌, ◌-◌, ◌/◌, ◌%◌, ◌^◌, ◌≤◌, ◌<◌, List, [], ◌∷◌, length, drop, get_or, map, refl, sym, ap, ◌∙◌, subst, arith}
use Rattle.std.proofs.lemmas.Bool.{le-ltb, not_from_true, eq-eqb}
use Rattle.std.specs.Prelude.{◌≢◌, slice_index, ◌==◌, nat_lt, not}
use Rattle.std.specs.List.{All, range_with_len}
use Rattle.std.proofs.lemmas.List.{get_or-take, get_or-drop, length-map, ext_get_or}
use Rattle.std.proofs.lemmas.List.Elements.{All-nil, All-cons, All-head, All-tail}
use Rattle.std.proofs.lemmas.List.FromFn.{length-map-range_with_len, get_or-map-range_with_len}
use Rattle.collection_model.specs.FormatNumbers.{FormatNumbers}
use Rattle.collection_model.specs.Collection.{Posting, Collection, IsPostingList}
use Rattle.collection_model.specs.Sequences.{doc_sequence, freq_sequence, postings_in}
use Rattle.part_cost.specs.Formats.{HasRoom}
use Rattle.sequence_words.specs.declared.check.Check.TheVariants.{K6, K11}
use Rattle.two_level.specs.Laws.{WordsState}
use Rattle.two_level.specs.SequenceView.{words_used, sequence_stated}
use Rattle.index_file.specs.declared.fault.OpenFault.{OpenFault}
use Rattle.index_file.specs.FileWords.{CutList, ListParts, with_parts, doc_words, lists_words, sizes_words, ArePartitions, SpellsPlain, IsPlainIn}
use Rattle.index_file.specs.FirstBroken.{stated_documents, stated_terms, stated_sizes, directory_word, stated_length, stated_doc_parts, stated_freq_parts, IsFilePrefix, IsTermFault, IsClosingFault, IsFirstBrokenPlain}
use Rattle.index_file.specs.IndexView.{size_stated, docs_stated, freqs_stated, plain_collection, plain_parts, docs_view, freqs_view}
use Rattle.index_file.specs.ListAt.{HasFrame, StandsAt, StandFrom, word_after}
use Rattle.sequence_words.proofs.Choices.{unmatch}
use Rattle.index_file.specs.Laws.{SequenceLaws}
use Rattle.index_file.proofs.Standing.{docs-from, freqs-from}
use Rattle.index_file.proofs.Prefixes.{HasDocParts, HasFreqParts, stand-from, prefix-pieces, stand-same}
use Rattle.index_file.proofs.Lengths.{sizes-length}
use Rattle.index_file.proofs.FilePieces.{Laid, half_of, sizes-back, sizes-filled, laid-of}
use Rattle.index_file.proofs.CutLists.{lists_in, parts_in}
use Rattle.index_file.proofs.Spelling.{size-half}
use Rattle.index_file.proofs.Frames.{breaks-behind}

-- lists and their parts, taken apart again
pub lists-back : (lists : List (List Posting)) (parts : List ListParts) → ArePartitions lists parts → lists_in (with_parts lists parts) ≡ lists
lists-back [] [] h = refl
lists-back [] (p ∷ parts) h = absurd h
lists-back (l ∷ lists) [] h = absurd h
lists-back (l ∷ lists) (p ∷ parts) h = ap (λ x. l ∷ x) (lists-back lists parts h.2)

pub parts-back : (lists : List (List Posting)) (parts : List ListParts) → ArePartitions lists parts → parts_in (with_parts lists parts) ≡ parts
parts-back [] [] h = refl
parts-back [] (p ∷ parts) h = absurd h
parts-back (l ∷ lists) [] h = absurd h
parts-back (l ∷ lists) (p ∷ parts) h = ap (λ x. p ∷ x) (parts-back lists parts h.2)

abbrev pub IsListOver : FormatNumbers → ℕ → CutList → Type 0
IsListOver format n c = IsPostingList format n c.list

lists-good : (format : FormatNumbers) (n : ℕ) (lists : List (List Posting)) (parts : List ListParts) → ArePartitions lists parts → All (IsPostingList format n) lists → All (IsListOver format n) (with_parts lists parts)
lists-good format n [] [] h k = All-nil (IsListOver format n)
lists-good format n [] (p ∷ parts) h k = absurd h
lists-good format n (l ∷ lists) [] h k = absurd h
lists-good format n (l ∷ lists) (p ∷ parts) h k =
    All-cons (IsListOver format n) (record { list = l; parts = p }) (with_parts lists parts) (All-head (IsPostingList format n) l lists k) (lists-good format n lists parts h.2 (All-tail (IsPostingList format n) l lists k))

docs-good : (lists : List (List Posting)) (parts : List ListParts) → ArePartitions lists parts → All HasDocParts (with_parts lists parts)
docs-good [] [] h = All-nil HasDocParts
docs-good [] (p ∷ parts) h = absurd h
docs-good (l ∷ lists) [] h = absurd h
docs-good (l ∷ lists) (p ∷ parts) h = All-cons HasDocParts (record { list = l; parts = p }) (with_parts lists parts) h.0 (docs-good lists parts h.2)

freqs-good : (lists : List (List Posting)) (parts : List ListParts) → ArePartitions lists parts → All HasFreqParts (with_parts lists parts)
freqs-good [] [] h = All-nil HasFreqParts
freqs-good [] (p ∷ parts) h = absurd h
freqs-good (l ∷ lists) [] h = absurd h
freqs-good (l ∷ lists) (p ∷ parts) h = All-cons HasFreqParts (record { list = l; parts = p }) (with_parts lists parts) h.1 (freqs-good lists parts h.2)

-- the pieces of an index, in its words
pub record Opened (format : FormatNumbers) (words : List ℕ) (c : Collection) (parts : List ListParts) : Type 0 where
  pub laid : Laid format words c.documents (with_parts c.lists parts) c.sizes
  pub prefix : IsFilePrefix format words (with_parts c.lists parts)
  pub lists : lists_in (with_parts c.lists parts) ≡ c.lists
  pub parts_are : parts_in (with_parts c.lists parts) ≡ parts
  pub count : length (with_parts c.lists parts) ≡ length c.lists

pub opened : (format : FormatNumbers) (words : List ℕ) (c : Collection) (parts : List ListParts) → SpellsPlain format words c parts → Opened format words c parts
opened format words c parts h =
    let cs : List CutList = with_parts c.lists parts in
    let back : lists_in (with_parts c.lists parts) ≡ c.lists = lists-back c.lists parts h.partitions in
    let count : length (with_parts c.lists parts) ≡ length c.lists = sym (length-map (with_parts c.lists parts) (λ x. x.list)) ∙ ap length back in
    let laid : Laid format words c.documents cs c.sizes = laid-of format words c.documents cs c.sizes h.well_formed.documents (omega (arith, count, h.well_formed.terms)) h.well_formed.size_each h.spelled in
    record {
      laid = laid;
      prefix = record {
        lists = subst (λ n. All (IsListOver format n) (with_parts c.lists parts)) (sym laid.docs) (lists-good format c.documents c.lists parts h.partitions h.well_formed.lists);
        doc_parts = docs-good c.lists parts h.partitions;
        freq_parts = freqs-good c.lists parts h.partitions;
        terms = omega (arith, laid.terms);
        sequences = laid.lists_at;
        within = omega (arith, laid.sizes);
        directory = laid.directory_at;
      };
      lists = back;
      parts_are = parts-back c.lists parts h.partitions;
      count = count;
    }

-- the sequences that words state of a list that stands are its own
docs-stated : (format : FormatNumbers) (room : HasRoom format) → SequenceLaws format → WordsState format → (words : List ℕ) (t p : ℕ) (c : CutList) → HasFrame format words → StandsAt format words t p c → docs_stated format words t ≡ docs_view format c
docs-stated format room laws state words t p c frame h =
    let n : ℕ = stated_documents words in
    ap (λ i. sequence_stated format (drop i words) (stated_doc_parts words t)) h.docs_word
    ∙ state (stated_length words t) n (stated_doc_parts words t) (words_used (docs_view format c)) (doc_sequence c.list) c.parts.doc_ends (drop p words) (omega (arith, frame.documents, room.documents))
    (docs-from format room words t p c frame h)

freqs-stated : (format : FormatNumbers) (room : HasRoom format) → SequenceLaws format → WordsState format → (words : List ℕ) (t p : ℕ) (c : CutList) → HasFrame format words → StandsAt format words t p c → freqs_stated format words t ≡ freqs_view format c
freqs-stated format room laws state words t p c frame h =
    let q : ℕ = p + length (doc_words format c) in
    ap (λ i. sequence_stated format (drop i words) (stated_freq_parts words t)) h.freqs_word
    ∙ state (stated_length words t) format.most_sum (stated_freq_parts words t) (words_used (freqs_view format c)) (freq_sequence c.list) c.parts.freq_ends (drop q words) (omega arith)
    (freqs-from format room laws words t p c frame h)

-- the list and the parts that words state of a term
abbrev pub list_stated : FormatNumbers → List ℕ → ℕ → List Posting
list_stated format words t = postings_in (docs_stated format words t).values (freqs_stated format words t).values

abbrev pub cut_stated : FormatNumbers → List ℕ → ℕ → ListParts
cut_stated format words t = record { doc_ends = (docs_stated format words t).ends; freq_ends = (freqs_stated format words t).ends }

lists-stated : (format : FormatNumbers) (room : HasRoom format) → SequenceLaws format → WordsState format → (words : List ℕ) (t p : ℕ) (cs : List CutList) → HasFrame format words → StandFrom format words t p cs
    → map (list_stated format words) (range_with_len t (length cs)) ≡ lists_in cs
lists-stated format room laws state words t p [] frame h = refl
lists-stated format room laws state words t p (c ∷ cs) frame h =
    let a : docs_stated format words t ≡ docs_view format c = docs-stated format room laws state words t p c frame h.0 in
    let b : freqs_stated format words t ≡ freqs_view format c = freqs-stated format room laws state words t p c frame h.0 in
    let here : list_stated format words t ≡ c.list =
    ap (λ v. postings_in v.values (freqs_stated format words t).values) a ∙ ap (λ v. postings_in (doc_sequence c.list) v.values) b ∙ laws.give format (stated_documents words) c.list h.0.list in
    ap (λ x. x ∷ map (list_stated format words) (range_with_len (t + 1) (length cs))) here ∙ ap (λ x. c.list ∷ x) (lists-stated format room laws state words (t + 1) (word_after format p c) cs frame h.1)

parts-stated : (format : FormatNumbers) (room : HasRoom format) → SequenceLaws format → WordsState format → (words : List ℕ) (t p : ℕ) (cs : List CutList) → HasFrame format words → StandFrom format words t p cs
    → map (cut_stated format words) (range_with_len t (length cs)) ≡ parts_in cs
parts-stated format room laws state words t p [] frame h = refl
parts-stated format room laws state words t p (c ∷ cs) frame h =
    let a : docs_stated format words t ≡ docs_view format c = docs-stated format room laws state words t p c frame h.0 in
    let b : freqs_stated format words t ≡ freqs_view format c = freqs-stated format room laws state words t p c frame h.0 in
    let here : cut_stated format words t ≡ c.parts =
    ap (λ v. record { doc_ends = v.ends; freq_ends = (freqs_stated format words t).ends }) a ∙ ap (λ v. record { doc_ends = c.parts.doc_ends; freq_ends = v.ends }) b in
    ap (λ x. x ∷ map (cut_stated format words) (range_with_len (t + 1) (length cs))) here ∙ ap (λ x. c.parts ∷ x) (parts-stated format room laws state words (t + 1) (word_after format p c) cs frame h.1)

-- a size that words state
pub size-stated : (format : FormatNumbers) (words : List ℕ) (c : Collection) (parts : List ListParts) → SpellsPlain format words c parts → (d : ℕ) → d < c.documents → size_stated words d ≡ get_or c.sizes d 0
size-stated format words c parts h d lt =
    let o = opened format words c parts h in
    let z : List ℕ = sizes_words c.sizes in
    let rest : List ℕ = drop (stated_sizes words) words in
    let within : d / 2 < length (sizes_words c.sizes) = omega (arith, lt, sizes-length c.sizes, h.well_formed.size_each) in
    size-half words d
    ∙ ap (half_of (d % 2 == 0)) (sym (get_or-take (length z) rest (d / 2) 0 within) ∙ ap (λ ws. get_or ws (d / 2) 0) o.laid.sizes_at)
    ∙ sizes-back c.sizes h.well_formed.sizes d (omega (arith, lt, h.well_formed.size_each))

-- the sizes of an index are those that its words state
pub sizes-are : (format : FormatNumbers) (words : List ℕ) (c : Collection) (parts : List ListParts) → SpellsPlain format words c parts → map (size_stated words) (range_with_len 0 (stated_documents words)) ≡ c.sizes
sizes-are format words c parts h =
    let n : ℕ = stated_documents words in
    let docs : stated_documents words ≡ c.documents = (opened format words c parts h).laid.docs in
    let count : length (map (size_stated words) (range_with_len 0 (stated_documents words))) ≡ stated_documents words = length-map-range_with_len (size_stated words) 0 n in
    ext_get_or 0 (map (size_stated words) (range_with_len 0 n)) c.sizes (count ∙ docs ∙ sym h.well_formed.size_each)
    (λ i lt. get_or-map-range_with_len (size_stated words) 0 n i i 0 (omega (arith, lt, count)) (omega arith) ∙ size-stated format words c parts h i (omega (arith, lt, count, docs)))

-- its collection is, too
pub collection-is : (format : FormatNumbers) (room : HasRoom format) → SequenceLaws format → WordsState format → (words : List ℕ) (c : Collection) (parts : List ListParts) → SpellsPlain format words c parts
    → plain_collection format words ≡ c
collection-is format room laws state words c parts h =
    let o = opened format words c parts h in
    let cs : List CutList = with_parts c.lists parts in
    let stand : StandFrom format words 0 2 cs = stand-from format words 0 2 cs (prefix-pieces format words cs o.prefix) in
    let lists : map (list_stated format words) (range_with_len 0 (stated_terms words)) ≡ c.lists =
    ap (λ n. map (list_stated format words) (range_with_len 0 n)) o.laid.terms ∙ lists-stated format room laws state words 0 2 cs o.laid.frame stand ∙ o.lists in
    ap (λ x. record { documents = x; lists = map (list_stated format words) (range_with_len 0 (stated_terms words)); sizes = map (size_stated words) (range_with_len 0 (stated_documents words)) }) o.laid.docs
    ∙ ap (λ x. record { documents = c.documents; lists = x; sizes = map (size_stated words) (range_with_len 0 (stated_documents words)) }) lists
    ∙ ap (λ x. record { documents = c.documents; lists = c.lists; sizes = x }) (sizes-are format words c parts h)

-- and so are its parts
pub parts-are : (format : FormatNumbers) (room : HasRoom format) → SequenceLaws format → WordsState format → (words : List ℕ) (c : Collection) (parts : List ListParts) → SpellsPlain format words c parts
    → plain_parts format words ≡ parts
parts-are format room laws state words c parts h =
    let o = opened format words c parts h in
    let cs : List CutList = with_parts c.lists parts in
    let stand : StandFrom format words 0 2 cs = stand-from format words 0 2 cs (prefix-pieces format words cs o.prefix) in
    ap (λ n. map (cut_stated format words) (range_with_len 0 n)) o.laid.terms ∙ parts-stated format room laws state words 0 2 cs o.laid.frame stand ∙ o.parts_are

-- words that are an index break no check
pub none-in-index : (format : FormatNumbers) (room : HasRoom format) → SequenceLaws format → (words : List ℕ) (f : OpenFault) → IsPlainIn format words → IsFirstBrokenPlain format words f → ⊥
none-in-index format room laws words f (c, parts, h) broken =
    let o = opened format words c parts h in
    let cs : List CutList = with_parts c.lists parts in
    let frame = o.laid.frame in
    let b = breaks-behind format words f frame broken in
    let ds : List CutList = b.0 in
    let most : length (with_parts c.lists parts) ≤ length b.0 = b.1.longest cs o.prefix in
    let same : length (with_parts c.lists parts) ≡ length b.0 = omega (arith, most, b.1.prefix.terms, o.laid.terms) in
    let is : cs ≡ ds =
    stand-same format room laws words 0 2 cs ds frame (stand-from format words 0 2 cs (prefix-pieces format words cs o.prefix)) (stand-from format words 0 2 ds (prefix-pieces format words ds b.1.prefix)) same in
    let p : ℕ = 2 + length (lists_words format ds) in
    let closing : IsClosingFault words p f =
    unmatch (nat_lt (length ds) (stated_terms words)) (IsTermFault format words (length ds) p f) (IsClosingFault words p f) (le-ltb (length ds) (stated_terms words) (omega (arith, same, o.laid.terms))) b.2 in
    let place : 2 + length (lists_words format b.0) ≡ stated_sizes words = sym (ap (λ x. 2 + length (lists_words format x)) is) ∙ sym o.laid.sizes in
    let last : ℕ = (length c.sizes + 1) / 2 - 1 in
    let k = unmatch (not (p == stated_sizes words)) (f ≡ record { check = K6; term = stated_terms words; part = 0 })
    ((slice_index words (directory_word words - 1) / 2 ^ 32 ≢ 0) × (stated_documents words % 2 ≡ 1) × (f ≡ record { check = K11; term = 0; part = 0 }))
    (not_from_true (p == stated_sizes words) (eq-eqb p (stated_sizes words) place)) closing in
    let odd : length c.sizes % 2 ≡ 1 = omega (arith, k.1, o.laid.docs, h.well_formed.size_each) in
    k.0 (
    ap (λ i. slice_index words i / 2 ^ 32) (let e : directory_word words - 1 ≡ stated_sizes words + ((length c.sizes + 1) / 2 - 1) = omega (arith, odd, o.laid.docs, h.well_formed.size_each) in e)
    ∙ ap (λ x. x / 2 ^ 32)
    (sym (get_or-drop (stated_sizes words) words last 0)
    ∙ sym (get_or-take (length (sizes_words c.sizes)) (drop (stated_sizes words) words) last 0 (omega (arith, odd, sizes-length c.sizes)))
    ∙ ap (λ ws. get_or ws last 0) o.laid.sizes_at)
    ∙ sizes-filled c.sizes h.well_formed.sizes odd
    )
