-- Lemmas on what an index answers.
use Rattle.std.proofs.Common.{◌≡◌, ℕ, zero, suc, ◌+◌, ◌/◌, ◌%◌, ◌^◌, ◌≤◌, ◌<◌, List, [], ◌∷◌, length, drop, get_or, refl, sym, ap, ◌∙◌, subst, arith}
use Rattle.std.specs.Prelude.{slice_index, ◌==◌}
use Rattle.std.proofs.lemmas.List.Elements.{All-weaker}
use Rattle.collection_model.specs.FormatNumbers.{FormatNumbers}
use Rattle.collection_model.specs.Collection.{Collection, docs_of, greatest_freq, list_of, IsPostingList}
use Rattle.collection_model.specs.Sequences.{doc_sequence, freq_sequence, postings_in}
use Rattle.part_cost.specs.Formats.{HasRoom}
use Rattle.cursor_api.specs.NextGeq.{IsCursorList}
use Rattle.two_level.specs.SequenceView.{SequenceView, BeginWith, words_used}
use Rattle.index_file.specs.FileWords.{CutList, ListParts, with_parts, SpellsPlain}
use Rattle.index_file.specs.FirstBroken.{stated_documents, stated_terms, stated_sizes, term_word, stated_length, stated_doc_parts, stated_freq_parts, stated_greatest}
use Rattle.index_file.specs.IndexView.{docs_stated, freqs_stated, docs_view, freqs_view}
use Rattle.index_file.specs.ListAt.{HasFrame, StandsAt, StandFrom, word_after}
use Rattle.index_file.specs.Laws.{SequenceLaws}
use Rattle.index_file.proofs.Standing.{counts, docs-from, freqs-from}
use Rattle.index_file.proofs.Prefixes.{stand-from, prefix-pieces}
use Rattle.index_file.proofs.FilePieces.{half_of}
use Rattle.index_file.proofs.CutLists.{lists_in, parts_in}
use Rattle.index_file.proofs.StatedIndex.{opened, size-stated}

pub has-frame : (format : FormatNumbers) (words : List ℕ) (c : Collection) (parts : List ListParts) → SpellsPlain format words c parts → HasFrame format words
has-frame format words c parts h = (opened format words c parts h).laid.frame

pub documents-are : (format : FormatNumbers) (words : List ℕ) (c : Collection) (parts : List ListParts) → SpellsPlain format words c parts → stated_documents words ≡ c.documents
documents-are format words c parts h = (opened format words c parts h).laid.docs

pub terms-are : (format : FormatNumbers) (words : List ℕ) (c : Collection) (parts : List ListParts) → SpellsPlain format words c parts → stated_terms words ≡ length c.lists
terms-are format words c parts h = let o = opened format words c parts h in o.laid.terms ∙ o.count

pub size-is : (format : FormatNumbers) (words : List ℕ) (c : Collection) (parts : List ListParts) → SpellsPlain format words c parts → (d : ℕ) → d < c.documents
    → half_of (d % 2 == 0) (slice_index words (stated_sizes words + d / 2)) ≡ slice_index c.sizes d
size-is format words c parts h d lt = size-stated format words c parts h d lt

pub size-even : (format : FormatNumbers) (words : List ℕ) (c : Collection) (parts : List ListParts) → SpellsPlain format words c parts → (d : ℕ) → d < c.documents → d % 2 ≡ 0
    → slice_index words (stated_sizes words + d / 2) % 2 ^ 32 ≡ slice_index c.sizes d
size-even format words c parts h d lt e = ap (λ r. half_of (r == 0) (slice_index words (stated_sizes words + d / 2))) (sym e) ∙ size-is format words c parts h d lt

pub size-odd : (format : FormatNumbers) (words : List ℕ) (c : Collection) (parts : List ListParts) → SpellsPlain format words c parts → (d : ℕ) → d < c.documents → d % 2 ≡ 1
    → slice_index words (stated_sizes words + d / 2) / 2 ^ 32 ≡ slice_index c.sizes d
size-odd format words c parts h d lt e = ap (λ r. half_of (r == 0) (slice_index words (stated_sizes words + d / 2))) (sym e) ∙ size-is format words c parts h d lt

-- a list among those that stand
pub stand-at : (format : FormatNumbers) (words : List ℕ) (t p : ℕ) (cs : List CutList) → StandFrom format words t p cs → (i : ℕ) → i < length cs
    → (c : CutList) × (q : ℕ) × StandsAt format words (t + i) q c × (get_or (lists_in cs) i [] ≡ c.list) × ((none : ListParts) → get_or (parts_in cs) i none ≡ c.parts)
stand-at format words t p [] h i lt = absurd (omega (arith, lt))
stand-at format words t p (c ∷ cs) h zero lt = (c, p, subst (λ k. StandsAt format words k p c) (let e : t ≡ t + 0 = omega arith in e) h.0, refl, λ none. refl)
stand-at format words t p (c ∷ cs) h (suc i) lt =
    let r = stand-at format words (t + 1) (word_after format p c) cs h.1 i (omega (arith, lt)) in
    (r.0, r.1, subst (λ k. StandsAt format words k r.1 r.0) (let e : t + 1 + i ≡ t + suc i = omega arith in e) r.2, r.3, r.4)

-- a list of an index, in its words
pub record OpenedList (format : FormatNumbers) (words : List ℕ) (t : ℕ) (x : CutList) : Type 0 where
  pub docs : BeginWith (drop (term_word words t 0) words) (stated_doc_parts words t) (stated_length words t) (docs_view format x)
  pub freqs : BeginWith (drop (term_word words t 1) words) (stated_freq_parts words t) (stated_length words t) (freqs_view format x)
  pub docs_within : term_word words t 0 ≤ length words
  pub freqs_within : term_word words t 1 ≤ length words
  pub cursor : IsCursorList x.list
  pub give : postings_in (doc_sequence x.list) (freq_sequence x.list) ≡ x.list
  pub most : stated_greatest words t ≡ greatest_freq x.list

pub opened-stand : (format : FormatNumbers) (room : HasRoom format) → SequenceLaws format → (words : List ℕ) (t p : ℕ) (x : CutList) → HasFrame format words → StandsAt format words t p x → OpenedList format words t x
opened-stand format room laws words t p x frame at =
    let n = counts format room words t p x frame at in
    let within : stated_sizes words ≤ length words = omega (arith, frame.whole) in
    let few : stated_documents words ≤ format.most_documents = frame.documents in
    record {
      docs = subst (λ k. BeginWith (drop k words) (stated_doc_parts words t) (stated_length words t) (docs_view format x)) (sym at.docs_word)
          (stated_documents words, words_used (docs_view format x), omega (arith, few, room.documents), docs-from format room words t p x frame at);
      freqs = subst (λ k. BeginWith (drop k words) (stated_freq_parts words t) (stated_length words t) (freqs_view format x)) (sym at.freqs_word)
          (format.most_sum, words_used (freqs_view format x), omega arith, freqs-from format room laws words t p x frame at);
      docs_within = omega (arith, at.docs_word, at.within, within);
      freqs_within = omega (arith, at.freqs_word, at.within, within);
      cursor = record {
        rising = at.list.rising;
        docs = All-weaker (λ d. d < stated_documents words) (λ d. d < 4294967295) (λ d l. omega (arith, l, few, room.fit)) (docs_of x.list) at.list.in_range;
        not_zero = at.list.not_zero;
        fit = at.list.fit;
      };
      give = laws.give format (stated_documents words) x.list at.list;
      most = sym n.most;
    }

pub opened-list : (format : FormatNumbers) (room : HasRoom format) → SequenceLaws format → (words : List ℕ) (c : Collection) (parts : List ListParts) → SpellsPlain format words c parts → (t : ℕ) → t < stated_terms words
    → (x : CutList) × OpenedList format words t x × (list_of c t ≡ x.list)
opened-list format room laws words c parts h t lt =
    let o = opened format words c parts h in
    let cs : List CutList = with_parts c.lists parts in
    let frame = o.laid.frame in
    let s = stand-at format words 0 2 cs (stand-from format words 0 2 cs (prefix-pieces format words cs o.prefix)) t (omega (arith, lt, o.laid.terms)) in
    let x : CutList = s.0 in
    let p : ℕ = s.1 in
    let at : StandsAt format words t s.1 s.0 = subst (λ k. StandsAt format words k s.1 s.0) (let e : 0 + t ≡ t = omega arith in e) s.2 in
    (x, opened-stand format room laws words t p x frame at, ap (λ l. get_or l t []) (sym o.lists) ∙ s.3)

-- the same list, with its parts
pub opened-cut : (format : FormatNumbers) (room : HasRoom format) → SequenceLaws format → (words : List ℕ) (c : Collection) (parts : List ListParts) (none : ListParts) → SpellsPlain format words c parts → (t : ℕ) → t < stated_terms words
    → OpenedList format words t (record { list = list_of c t; parts = get_or parts t none })
opened-cut format room laws words c parts none h t lt =
    let o = opened format words c parts h in
    let cs : List CutList = with_parts c.lists parts in
    let frame = o.laid.frame in
    let within : t < length cs = omega (arith, lt, o.laid.terms) in
    let s = stand-at format words 0 2 cs (stand-from format words 0 2 cs (prefix-pieces format words cs o.prefix)) t within in
    let at : StandsAt format words t s.1 s.0 = subst (λ k. StandsAt format words k s.1 s.0) (let e : 0 + t ≡ t = omega arith in e) s.2 in
    let list : s.0.list ≡ list_of c t = sym s.3 ∙ ap (λ l. get_or l t []) o.lists in
    let its_parts : s.0.parts ≡ get_or parts t none = sym (s.4 none) ∙ ap (λ l. get_or l t none) o.parts_are in
    subst (λ l. OpenedList format words t (record { list = l; parts = get_or parts t none })) list
    (subst (λ p. OpenedList format words t (record { list = s.0.list; parts = p })) its_parts (opened-stand format room laws words t s.1 s.0 frame at))

-- the sequences that words state of a list of an index are its own
pub docs-read : (format : FormatNumbers) → SequenceLaws format → (words : List ℕ) (t : ℕ) (x : CutList) → OpenedList format words t x → docs_stated format words t ≡ docs_view format x
docs-read format laws words t x o =
    laws.state (stated_length words t) o.docs.0 (stated_doc_parts words t) o.docs.1 (doc_sequence x.list) x.parts.doc_ends (drop (term_word words t 0) words) o.docs.2 o.docs.3

pub freqs-read : (format : FormatNumbers) → SequenceLaws format → (words : List ℕ) (t : ℕ) (x : CutList) → OpenedList format words t x → freqs_stated format words t ≡ freqs_view format x
freqs-read format laws words t x o =
    laws.state (stated_length words t) o.freqs.0 (stated_freq_parts words t) o.freqs.1 (freq_sequence x.list) x.parts.freq_ends (drop (term_word words t 1) words) o.freqs.2 o.freqs.3

pub begin-as : (words : List ℕ) (p q m n a b : ℕ) (v : SequenceView) → p ≡ q → m ≡ n → a ≡ b → BeginWith (drop q words) b n v → BeginWith (drop p words) a m v
begin-as words p q m n a b v e f g h =
    subst (λ x. BeginWith (drop p words) x m v) (sym g) (subst (λ x. BeginWith (drop p words) b x v) (sym f) (subst (λ x. BeginWith (drop x words) b n v) (sym e) h))

-- the postings in the two sequences that were opened
pub read-list : (format : FormatNumbers) (words : List ℕ) (t : ℕ) (x : CutList) (v w : SequenceView) → OpenedList format words t x → v ≡ docs_view format x → w ≡ freqs_view format x → postings_in v.values w.values ≡ x.list
read-list format words t x v w o a b = ap (λ k. postings_in k.values w.values) a ∙ ap (λ k. postings_in (doc_sequence x.list) k.values) b ∙ o.give

pub same-length : (format : FormatNumbers) → SequenceLaws format → (words : List ℕ) (t : ℕ) (c : Collection) (parts : List ListParts) → SpellsPlain format words c parts → (x : CutList) → list_of c t ≡ x.list → t < length c.lists
    → length (doc_sequence x.list) ≡ length (freq_sequence x.list)
same-length format laws words t c parts h x e lt =
    let list : IsPostingList format c.documents x.list = subst (IsPostingList format c.documents) e (h.well_formed.lists t [] lt) in
    let r = laws.rise format c.documents x.list list in
    r.docs_count ∙ sym r.sums_count
