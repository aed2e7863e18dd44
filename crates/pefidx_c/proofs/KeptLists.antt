-- What is kept of the lists of an index, and of one of them.
use Rattle.std.proofs.Common.{◌≡◌, ℕ, suc, ◌+◌, ◌-◌, ◌/◌, ◌<◌, ◌≤◌, Bool, true, false, List, [], ◌∷◌, ◌++◌, length, refl, sym, ap, ◌∙◌, subst, inl, inr, arith}
use Rattle.std.specs.Prelude.{slice_index, if◌then◌else◌}
use Rattle.std.proofs.lemmas.Bool.{ne_eqb}
use Rattle.std.proofs.lemmas.List.{length-append, get_or_append_left, get_or-append_right}
use Rattle.std.proofs.lemmas.List.FromFn.{length-map-range_with_len, get_or-map-range_with_len}
use Rattle.bit_words.specs.Bits.{bits_of}
use Rattle.collection_model.specs.Collection.{list_of}
use Rattle.part_cost.specs.declared.formats.Format.{Format}
use Rattle.part_cost.specs.declared.formats.Format.TheVariants.{One, Two, Three}
use Rattle.part_cost.specs.Formats.{numbers_of}
use Rattle.packed_list.specs.Gamma.{gamma_at}
use Rattle.packed_list.specs.ListPlaces.{HoldsList}
use Rattle.packed_list.specs.ListStated.{list_at}
use Rattle.index_file.specs.FileWords.{IsIndex, format_read}
use Rattle.index_file.specs.PackedWords.{first_list_bit}
use Rattle.index_file.specs.PackedAt.{packed_documents, packed_terms, start_stated}
use Rattle.index_file.specs.PackedView.{packed_list_stated, packed_postings, packed_collection}
use Rattle.index_file.specs.PackedLaws.{LiesBetweenStarts, PackedListsStand}
use Rattle.index_file.specs.IndexView.{index_stated, collection_of_kind}
use Rattle.index_file.specs.ListStarts.{list_starts, kept_starts, starts_of_format}
use Rattle.pefidx_c.specs.Asked.{collection_in}
use Rattle.pefidx_c.specs.Heads.{head_stated, head_between, head_of, heads_of, IsListRange}
use Rattle.pefidx_c.specs.Kept.{AreKept, numbers_beside, TellsOf}
use Rattle.pefidx_c.proofs.ListHeads.{head-none, head-single, head-several, head-read}

-- where some starts are kept the file is a packed one, and these are all
of-choice : (b : Bool) (xs given : List ℕ) → given ≡ (if b then [] else xs) → 0 < length given → given ≡ xs
of-choice true xs given e some = let none : length given ≡ 0 = ap length e in absurd (omega (arith, some, none))
of-choice false xs given e some = e

of-format : (v : Format) (words given : List ℕ) → given ≡ starts_of_format v words → 0 < length given → (v ≡ Three) × (given ≡ list_starts words)
of-format One words given e some = let none : length given ≡ 0 = ap length e in absurd (omega (arith, some, none))
of-format Two words given e some = let none : length given ≡ 0 = ap length e in absurd (omega (arith, some, none))
of-format Three words given e some = (refl, of-choice _ (list_starts words) given e some)

pub all-starts : (words given : List ℕ) → given ≡ kept_starts words → 0 < length given → (format_read words ≡ Three) × (given ≡ list_starts words)
all-starts words given e some = of-format (format_read words) words given e some

-- the collection of a packed file
pub packed-collection : (words : List ℕ) → format_read words ≡ Three → collection_in words ≡ packed_collection words
unfolding index_stated
packed-collection words e = ap (λ v. collection_of_kind (numbers_of v).kind (numbers_of v) words) e

pub terms-are : (words : List ℕ) → format_read words ≡ Three → length (collection_in words).lists ≡ packed_terms words
terms-are words e = ap (λ c. length c.lists) (packed-collection words e) ∙ length-map-range_with_len (λ t. packed_postings (packed_list_stated words t)) 0 (packed_terms words)

pub list-is : (words : List ℕ) (t : ℕ) → format_read words ≡ Three → t < packed_terms words → list_of (collection_in words) t ≡ packed_postings (packed_list_stated words t)
list-is words t e lt = ap (λ c. list_of c t) (packed-collection words e) ∙ get_or-map-range_with_len (λ k. packed_postings (packed_list_stated words k)) 0 (packed_terms words) t t [] lt (omega arith)

some-stated : (words : List ℕ) (t : ℕ) → (start_stated words t ≡ start_stated words (t + 1) → ⊥) → packed_list_stated words t ≡ list_at (packed_documents words) words (first_list_bit + start_stated words t)
some-stated words t n = rw (ne_eqb (start_stated words t) (start_stated words (t + 1)) n) refl

-- where list t begins, and what is there
start-is : (words starts : List ℕ) (t : ℕ) → starts ≡ list_starts words → t ≤ packed_terms words → slice_index starts t ≡ start_stated words t
start-is words starts t e le = ap (λ xs. slice_index xs t) e ∙ get_or-map-range_with_len (start_stated words) 0 (packed_terms words + 1) t t 0 (omega (arith, le)) (omega arith)

starts-count : (words starts : List ℕ) → starts ≡ list_starts words → length starts ≡ packed_terms words + 1
starts-count words starts e = ap length e ∙ length-map-range_with_len (start_stated words) 0 (packed_terms words + 1)

range-at : (words : List ℕ) (t n from to : ℕ) → n ≡ packed_documents words → from ≡ first_list_bit + start_stated words t → to ≡ first_list_bit + start_stated words (t + 1) → LiesBetweenStarts words t → IsListRange n words from to
range-at words t n from to e f g h = record {
  ordered = omega (arith, f, g, h.ordered);
  few = omega (arith, g, h.few);
  within = omega (arith, g, h.within);
  list =
      subst (λ k. HoldsList k (bits_of words) from to) (sym e)
      (subst (λ i. HoldsList (packed_documents words) (bits_of words) i to) (sym f)
      (subst (λ i. HoldsList (packed_documents words) (bits_of words) (first_list_bit + start_stated words t) i) (sym g) h.stored));
}

-- the lists stand where the kept starts say
pub ranges-kept : PackedListsStand → (words starts : List ℕ) (n : ℕ) → IsIndex words → n ≡ (collection_in words).documents → starts ≡ kept_starts words
    → (t : ℕ) → t + 1 < length starts → IsListRange n words (first_list_bit + slice_index starts t) (first_list_bit + slice_index starts (t + 1))
ranges-kept stand words starts n is documents e t lt =
    let all = all-starts words starts e (omega (arith, lt)) in
    let within : t < packed_terms words = omega (arith, lt, starts-count words starts all.1) in
    range-at words t n (first_list_bit + slice_index starts t) (first_list_bit + slice_index starts (t + 1)) (documents ∙ ap (λ c. c.documents) (packed-collection words all.0))
    (ap (λ k. first_list_bit + k) (start-is words starts t all.1 (omega (arith, within)))) (ap (λ k. first_list_bit + k) (start-is words starts (t + 1) all.1 (omega (arith, within)))) (stand words is all.0 t within)

-- the numbers beside words tell of the lists
pub tells : (words kept : List ℕ) → kept ≡ numbers_beside words → TellsOf kept (kept_starts words) (heads_of (collection_in words).documents words (kept_starts words))
tells words kept e = record { numbers = e; fewer = length-map-range_with_len (head_of (collection_in words).documents words (kept_starts words)) 0 (length (kept_starts words) - 1) }

-- a number behind the first
behind-first : (x : ℕ) (xs : List ℕ) (k : ℕ) → slice_index (x ∷ xs) (1 + k) ≡ slice_index xs k
behind-first x xs k = ap (slice_index (x ∷ xs)) (let e : 1 + k ≡ suc k = omega arith in e)

-- what is kept of list t
pub record IsKept (words kept : List ℕ) (t : ℕ) : Type 0 where
  pub three : format_read words ≡ Three
  pub within : t < packed_terms words
  pub start_within : 1 + t < length kept
  pub head_within : length kept / 2 + 1 + t < length kept
  pub start : slice_index kept (1 + t) ≡ start_stated words t
  pub head : slice_index kept (length kept / 2 + 1 + t) ≡ head_between (packed_documents words) words (first_list_bit + start_stated words t) (first_list_bit + start_stated words (t + 1))

pub is-kept : (words kept : List ℕ) (t : ℕ) → AreKept words kept → 2 ≤ length kept → t < length (collection_in words).lists → IsKept words kept t
is-kept words kept t (inl none) some lt = let e : length kept ≡ 0 = ap length none in absurd (omega (arith, some, e))
is-kept words kept t (inr e) some lt =
    let n : ℕ = (collection_in words).documents in
    let starts : List ℕ = kept_starts words in
    let heads : List ℕ = heads_of n words starts in
    let fewer : length heads ≡ length starts - 1 = length-map-range_with_len (head_of n words starts) 0 (length starts - 1) in
    let beside : length kept ≡ length (length (starts ++ heads) ∷ (starts ++ heads)) = ap length e in
    let size : length kept ≡ 1 + (length starts + length heads) = omega (arith, beside, length-append starts heads) in
    let all = all-starts words starts refl (omega (arith, size, fewer, some)) in
    let count : length starts ≡ packed_terms words + 1 = starts-count words starts all.1 in
    let within : t < packed_terms words = omega (arith, lt, terms-are words all.0) in
    let place : length kept / 2 + 1 + t ≡ 1 + (length starts + t) = omega (arith, size, fewer, count) in
    let beside_start : slice_index kept (1 + t) ≡ slice_index (length (starts ++ heads) ∷ (starts ++ heads)) (1 + t) = ap (λ xs. slice_index xs (1 + t)) e in
    let is_start : slice_index kept (1 + t) ≡ slice_index starts t = beside_start ∙ behind-first (length (starts ++ heads)) (starts ++ heads) t ∙ get_or_append_left starts heads 0 t (omega (arith, count, within)) in
    let beside_head : slice_index kept (1 + (length starts + t)) ≡ slice_index (length (starts ++ heads) ∷ (starts ++ heads)) (1 + (length starts + t)) = ap (λ xs. slice_index xs (1 + (length starts + t))) e in
    let is_head : slice_index kept (1 + (length starts + t)) ≡ slice_index heads t =
    beside_head ∙ behind-first (length (starts ++ heads)) (starts ++ heads) (length starts + t)
    ∙ get_or-append_right starts heads (length starts) (length starts + t) 0 refl (omega arith)
    ∙ ap (slice_index heads) (let f : length starts + t - length starts ≡ t = omega arith in f) in
    let head : slice_index heads t ≡ head_of n words starts t = get_or-map-range_with_len (head_of n words starts) 0 (length starts - 1) t t 0 (omega (arith, count, within)) (omega arith) in
    let from = start-is words starts t all.1 (omega (arith, within)) in
    let to = start-is words starts (t + 1) all.1 (omega (arith, within)) in
    record {
      three = all.0;
      within = within;
      start_within = omega (arith, size, count, within);
      head_within = omega (arith, size, fewer, count, within);
      start = is_start ∙ from;
      head =
          ap (slice_index kept) place ∙ is_head ∙ head
          ∙ ap (λ k. head_between k words (first_list_bit + slice_index starts t) (first_list_bit + slice_index starts (t + 1))) (ap (λ c. c.documents) (packed-collection words all.0))
          ∙ ap (λ k. head_between (packed_documents words) words (first_list_bit + k) (first_list_bit + slice_index starts (t + 1))) from
          ∙ ap (λ k. head_between (packed_documents words) words (first_list_bit + start_stated words t) (first_list_bit + k)) to;
    }

-- what a kept head that is not 0 says of its list
pub record HeadKept (words : List ℕ) (n from head t : ℕ) : Type 0 where
  pub list : (to : ℕ) × (from < to) × IsListRange n words from to
  pub many : 2 ≤ gamma_at (bits_of words) from
  pub head_is : head ≡ head_stated n words from
  pub is : list_of (collection_in words) t ≡ packed_postings (list_at n words from)

pub head-kept : PackedListsStand → (words kept : List ℕ) (n from t : ℕ) → IsIndex words → IsKept words kept t → n ≡ (collection_in words).documents → from ≡ first_list_bit + slice_index kept (1 + t)
    → n ≤ 4294967295 → (slice_index kept (length kept / 2 + 1 + t) ≡ 0 → ⊥) → HeadKept words n from (slice_index kept (length kept / 2 + 1 + t)) t
head-kept stand words kept n from t is k documents begins small some =
    let same : n ≡ packed_documents words = documents ∙ ap (λ c. c.documents) (packed-collection words k.three) in
    let at : from ≡ first_list_bit + start_stated words t = begins ∙ ap (λ i. first_list_bit + i) k.start in
    let to : ℕ = first_list_bit + start_stated words (t + 1) in
    let range : IsListRange n words from to = range-at words t n from to same at refl (stand words is k.three t k.within) in
    let head : slice_index kept (length kept / 2 + 1 + t) ≡ head_between n words from to =
    k.head ∙ ap (λ i. head_between (packed_documents words) words i to) (sym at) ∙ ap (λ i. head_between i words from to) (sym same) in
    let apart : from ≡ to → ⊥ = λ e. some (head ∙ head-none n words from to e) in
    let more : gamma_at (bits_of words) from ≡ 1 → ⊥ = λ e. some (head ∙ head-single n words from to apart e) in
    let read = head-read n words from to small apart range in
    record {
      list = (to, omega (arith, range.ordered, apart), range);
      many = omega (arith, read.count.number, read.count_stands.some, more);
      head_is = head ∙ head-several n words from to apart more;
      is =
          list-is words t k.three k.within
          ∙ ap packed_postings (some-stated words t (λ e. apart (at ∙ ap (λ i. first_list_bit + i) e)))
          ∙ ap (λ i. packed_postings (list_at i words (first_list_bit + start_stated words t))) (sym same)
          ∙ ap (λ i. packed_postings (list_at n words i)) (sym at);
    }
