-- Lists that are found one after the other.
use Rattle.std.proofs.Common.{◌≡◌, ◌≢◌, ℕ, ◌+◌, ◌-◌, ◌^◌, ◌<◌, ◌≤◌, List, [], ◌∷◌, length, refl, sym, ap, ◌∙◌, subst, arith}
use Rattle.std.specs.Prelude.{slice_index, slice_range, Option, Some, None, IfSome}
use Rattle.std.specs.List.{All}
use Rattle.bit_words.specs.Bits.{bits_of}
use Rattle.bit_words.proofs.Value.{length-bits_of}
use Rattle.collection_model.specs.FormatNumbers.{Plain}
use Rattle.std.proofs.lemmas.List.Elements.{All-get_or}
use Rattle.collection_model.specs.Collection.{Posting, Collection, docs_of, greatest_freq, list_of}
use Rattle.collection_model.specs.Sequences.{doc_sequence, postings_in, steps_from}
use Rattle.collection_model.proofs.Lists.{docs_of-length, docs-of_postings}
use Rattle.collection_model.proofs.Sequences.{same-steps}
use Rattle.part_cost.specs.declared.formats.Format.{Format}
use Rattle.part_cost.specs.declared.formats.Format.TheVariants.{Three}
use Rattle.part_cost.specs.Formats.{numbers_of}
use Rattle.part_codec.specs.declared.views.PartView.{PartView}
use Rattle.part_codec.proofs.Relative.{relative-held}
use Rattle.two_level.specs.SequenceView.{SequenceView}
use Rattle.packed_list.specs.declared.view.ListRead.{ListRead}
use Rattle.packed_list.specs.declared.view.ListRead.TheVariants.{One, Several}
use Rattle.packed_list.specs.ListBits.{list_bits}
use Rattle.packed_list.specs.ListPlaces.{HoldsList}
use Rattle.packed_list.specs.ListStated.{ListStated, no_list, IsRead, IsSingle}
use Rattle.packed_list.specs.Laws.{ListsStateBack}
use Rattle.packed_list.proofs.ListPlaces.{not-empty, length-range}
use Rattle.index_file.specs.FileWords.{ListParts, Spells}
use Rattle.index_file.specs.FirstBroken.{stated_terms}
use Rattle.index_file.specs.IndexView.{index_stated, list_of_kind}
use Rattle.index_file.specs.Laws.{FileLaws}
use Rattle.index_file.specs.declared.run.Run.{Run}
use Rattle.index_file.specs.Gaps.{place_in, AreHere, FollowOn}
use Rattle.index_file.specs.DirectoryView.{IsDirectory}
use Rattle.index_file.specs.ListWalk.{AreEmpty, AreOfList, HasNext, HasTerms, IsReadOf, KeepsNumbers}
use Rattle.index_file.specs.PackedWords.{first_list_bit}
use Rattle.index_file.specs.PackedAt.{packed_bits, packed_documents, packed_terms, start_stated, starts_stated, PassesPacked}
use Rattle.index_file.specs.PackedView.{packed_list_stated}
use Rattle.index_file.proofs.Both.{file-passes}
use Rattle.index_file.proofs.FileKinds.{list-of-views, to-packed}
use Rattle.index_file.proofs.PackedLists.{LieBetween, empty-stated, some-stated, lie-between}
use Rattle.index_file.proofs.PackedStarts.{first-start, start-lies}
use Rattle.index_file.proofs.NumbersRead.{here-on, here-one, here-start}

-- a list that has bits has postings
pub some-values : ListsStateBack → (words : List ℕ) → All (λ w. w < 2 ^ 64) words → PassesPacked words → (t : ℕ) → t < packed_terms words → LieBetween words t
    → (start_stated words t ≡ start_stated words (t + 1) → ⊥) → 1 ≤ length (packed_list_stated words t).docs.values
some-values back words narrow passes t lt b apart =
    let n : ℕ = packed_documents words in
    let at : ℕ = first_list_bit + start_stated words t in
    let to : ℕ = first_list_bit + start_stated words (t + 1) in
    let h : HoldsList n (bits_of words) at to = passes.lists t lt in
    let less : at < to = omega (arith, b.ordered, apart) in
    let fit : to ≤ length (bits_of words) = omega (arith, b.within, length-bits_of words) in
    let some : 1 ≤ length h.0 = not-empty n (bits_of words) at to h.0 h.1 h.2 less fit h.3 in
    let size : to ≡ at + length (list_bits n at h.0 h.1 h.2) = omega (arith, less, ap length h.3.stands, length-range (bits_of words) at to (omega (arith, less)) fit) in
    let is = back n at words h.0 h.1 h.2 passes.frame.documents narrow h.3.cut some (omega (arith, size, b.within)) (subst (λ e. slice_range (bits_of words) at e ≡ list_bits n at h.0 h.1 h.2) size h.3.stands) in
    let values : (packed_list_stated words t).docs.values ≡ doc_sequence h.0 = ap (λ s. s.docs.values) (some-stated words t apart ∙ is) in
    omega (arith, some, ap length values, docs_of-length h.0)

-- a list without values in its sequences has no postings, and another has some
pub no-values : (docs freqs : SequenceView) (greatest : ℕ) (list : List Posting) → AreOfList docs freqs greatest list → docs.values ≡ [] → list ≡ []
no-values docs freqs greatest list h none = sym h.give ∙ ap (λ v. postings_in v freqs.values) none

some-postings : (docs freqs : List ℕ) → length docs ≡ length freqs → 1 ≤ length docs → postings_in docs freqs ≡ [] → ⊥
some-postings [] freqs same some none = absurd (omega (arith, some))
some-postings (d ∷ docs) [] same some none = absurd (omega (arith, same))
some-postings (d ∷ docs) (f ∷ freqs) same some none = cc

-- a list by its two sequences: it has as many postings as these have values
pub views-some : (docs freqs : SequenceView) (greatest : ℕ) (list : List Posting) → AreOfList docs freqs greatest list → 1 ≤ length docs.values → list ≢ []
views-some docs freqs greatest list h some none = some-postings docs.values freqs.values h.same_length some (h.give ∙ none)

-- a list of a packed file whose number of the directory is one less than the next has no postings
same-start : (words : List ℕ) (t : ℕ) → slice_index (starts_stated words) (t + 1) ≡ slice_index (starts_stated words) t + 1 → start_stated words t ≡ start_stated words (t + 1)
same-start words t e = omega (arith, e)

pub packed-none : FileLaws → (v : Format) → v ≡ Three → (words : List ℕ) → All (λ w. w < 2 ^ 64) words → (c : Collection) (parts : List ListParts) → Spells (numbers_of v) words c parts
    → (t : ℕ) → t < stated_terms words → slice_index (starts_stated words) (t + 1) ≡ slice_index (starts_stated words) t + 1 → list_of c t ≡ []
packed-none laws v is words narrow c parts h t lt e =
    let s : Spells (numbers_of Three) words c parts = subst (λ x. Spells (numbers_of x) words c parts) is h in
    let none : packed_list_stated words t ≡ no_list = empty-stated words t (same-start words t e) in
    let read = list-of-views laws Three words narrow c parts s t lt no_list.docs no_list.freqs 0 (ap (λ (l : ListStated). l.docs) (sym none)) (ap (λ (l : ListStated). l.freqs) (sym none)) (ap (λ (l : ListStated). l.most) (sym none)) in
    no-values no_list.docs no_list.freqs 0 (list_of c t) read refl

-- and another has some
pub packed-some : FileLaws → (v : Format) → v ≡ Three → (words : List ℕ) → All (λ w. w < 2 ^ 64) words → (c : Collection) (parts : List ListParts) → Spells (numbers_of v) words c parts
    → (t : ℕ) → t < stated_terms words → slice_index (starts_stated words) (t + 1) ≢ slice_index (starts_stated words) t + 1 → list_of c t ≢ []
packed-some laws v is words narrow c parts h t lt apart =
    let s : Spells (numbers_of Three) words c parts = subst (λ x. Spells (numbers_of x) words c parts) is h in
    let passes = file-passes laws words c parts (to-packed words c parts s) in
    let here = start-lies laws.values words passes.starts t (omega (arith, lt)) in
    let there = start-lies laws.values words passes.starts (t + 1) (omega (arith, lt)) in
    let lies = lie-between laws.values words passes t lt in
    let stated = packed_list_stated words t in
    let read = list-of-views laws Three words narrow c parts s t lt stated.docs stated.freqs stated.most refl refl refl in
    let differ : start_stated words t ≡ start_stated words (t + 1) → ⊥ = λ e. apart (omega (arith, e, here.at_least, there.at_least)) in
    views-some stated.docs stated.freqs stated.most (list_of c t) read (some-values laws.back words narrow passes t lt lies differ)

-- a list of an index of any format, as it is viewed
pub kind-of-plain : (v : Format) (words : List ℕ) (t : ℕ) → (numbers_of v).kind ≡ Plain → list_of_kind (numbers_of v).kind (numbers_of v) words t ≡ list_of_kind Plain (numbers_of v) words t
kind-of-plain v words t e = ap (λ k. list_of_kind k (numbers_of v) words t) e

pub viewed : FileLaws → (v : Format) (words : List ℕ) (terms t : ℕ) → HasTerms words v terms → t < terms → (docs freqs : SequenceView) (greatest : ℕ)
    → docs ≡ (list_of_kind (numbers_of v).kind (numbers_of v) words t).docs → freqs ≡ (list_of_kind (numbers_of v).kind (numbers_of v) words t).freqs
    → greatest ≡ (list_of_kind (numbers_of v).kind (numbers_of v) words t).most → AreOfList docs freqs greatest (list_of (index_stated words).collection t)
viewed laws v words terms t h lt docs freqs greatest a b c =
    let i = index_stated words in
    list-of-views laws v words h.narrow i.collection i.parts h.spells t (omega (arith, lt, h.terms_are)) docs freqs greatest a b c

-- the lists between two places of a directory without a gap between
pub follow-none : FileLaws → (v : Format) → v ≡ Three → (words : List ℕ) (terms : ℕ) → HasTerms words v terms → (from to : ℕ) → to ≤ terms → FollowOn (starts_stated words) from to → AreEmpty (index_stated words).collection from to
follow-none laws v is words terms h from to within follow t ge lt =
    let i = index_stated words in
    packed-none laws v is words h.narrow i.collection i.parts h.spells t (omega (arith, lt, within, h.terms_are)) (follow t ge lt)

-- a list whose sequences have no values
pub views-none : (docs freqs : SequenceView) (greatest : ℕ) (list : List Posting) → AreOfList docs freqs greatest list → length docs.values ≡ 0 → list ≡ []
views-none docs freqs greatest list h none = no-values docs freqs greatest list h (nil-of docs.values none)
  where
    nil-of : (xs : List ℕ) → length xs ≡ 0 → xs ≡ []
    nil-of [] e = refl
    nil-of (x ∷ xs) e = absurd (omega (arith, e))

-- what is kept of a packed file
pub kept-here : (words : List ℕ) (v : Format) (directory : Option PartView) (numbers : List ℕ) (run : Run) (d : PartView) → directory ≡ Some d → KeepsNumbers words v directory numbers run
    → (v ≡ Three) × IsDirectory words d × AreHere (starts_stated words) numbers run
kept-here words v directory numbers run d is k = subst (λ o. IfSome o (λ x. (v ≡ Three) × IsDirectory words x × AreHere (starts_stated words) numbers run)) is k.packed

pub next-here : (directory : Option PartView) (terms : ℕ) (run : Run) (d : PartView) → directory ≡ Some d → HasNext directory terms run → place_in run < terms → run.at + 1 < run.count
next-here directory terms run d is h = subst (λ o. IfSome o (λ x. place_in run < terms → run.at + 1 < run.count)) is h

-- between the numbers of a list that has postings some are left out
pub apart-here : FileLaws → (v : Format) → v ≡ Three → (words : List ℕ) (terms : ℕ) → HasTerms words v terms → (numbers : List ℕ) (run : Run) → AreHere (starts_stated words) numbers run → run.at + 1 < run.count → place_in run < terms
    → list_of (index_stated words).collection (place_in run) ≢ [] → slice_index numbers (run.at + 1) ≢ slice_index numbers run.at + 1
apart-here laws v is words terms h numbers run here next lt some e =
    let i = index_stated words in
    let behind : run.first + (run.at + 1) ≡ place_in run + 1 = omega arith in
    let gapless : slice_index (starts_stated words) (place_in run + 1) ≡ slice_index (starts_stated words) (place_in run) + 1 =
    ap (slice_index (starts_stated words)) (sym behind) ∙ sym (here.same (run.at + 1) next) ∙ e ∙ ap (λ n. n + 1) (here.same run.at here.within) in
    some (packed-none laws v is words h.narrow i.collection i.parts h.spells (place_in run) (omega (arith, lt, h.terms_are)) gapless)

-- where the lists take no bits the number of each is its place
places-alone : FileLaws → (v : Format) → v ≡ Three → (words : List ℕ) (terms : ℕ) → HasTerms words v terms → packed_bits words ≡ 0 → (t : ℕ) → t ≤ terms → slice_index (starts_stated words) t ≡ t
places-alone laws v is words terms h none t le =
    let i = index_stated words in
    let s : Spells (numbers_of Three) words i.collection i.parts = subst (λ x. Spells (numbers_of x) words i.collection i.parts) is h.spells in
    let passes = file-passes laws words i.collection i.parts (to-packed words i.collection i.parts s) in
    let lies = start-lies laws.values words passes.starts t (omega (arith, le, h.terms_are)) in
    omega (arith, none, lies.at_least, lies.at_most)

-- so that none has postings
pub no-bits : FileLaws → (v : Format) → v ≡ Three → (words : List ℕ) (terms : ℕ) → HasTerms words v terms → packed_bits words ≡ 0 → AreEmpty (index_stated words).collection 0 terms
no-bits laws v is words terms h none =
    follow-none laws v is words terms h 0 terms (omega arith)
    (λ t from lt. omega (arith, places-alone laws v is words terms h none t (omega (arith, lt)), places-alone laws v is words terms h none (t + 1) (omega (arith, lt))))

-- and the number of the end is kept
pub end-kept : FileLaws → (v : Format) → v ≡ Three → (words : List ℕ) (terms : ℕ) → HasTerms words v terms → packed_bits words ≡ 0 → (directory : Option PartView) → IfSome directory (λ d. (v ≡ Three) × IsDirectory words d)
    → (directory ≡ None → (numbers_of v).kind ≡ Plain) → (numbers : List ℕ) → length numbers ≡ 16 → slice_index numbers 0 ≡ terms → KeepsNumbers words v directory numbers (record { first = terms; at = 0; count = 1; marks = 0 })
end-kept laws v is words terms h none None packed plain numbers room last = record { room = room; packed = tt; plain = plain }
end-kept laws v is words terms h none (Some d) packed plain numbers room last =
    let count : length (starts_stated words) ≡ packed_terms words + 1 = (relative-held d (starts_stated words) packed.1.held).count ∙ packed.1.count in
    record {
      room = room;
      packed = (packed.0, packed.1, here-one (starts_stated words) numbers terms (omega (arith, count, h.terms_are)) (omega (arith, room)) (last ∙ sym (places-alone laws v is words terms h none terms (omega arith))));
      plain = plain;
    }

-- behind the end none follows
pub end-next : (directory : Option PartView) (terms : ℕ) (run : Run) → terms ≤ place_in run → HasNext directory terms run
end-next None terms run past = tt
end-next (Some d) terms run past = λ lt. absurd (omega (arith, lt, past))

-- at the start
pub start-kept : FileLaws → (v : Format) (words : List ℕ) (terms : ℕ) → HasTerms words v terms → (directory : Option PartView) → IfSome directory (λ d. (v ≡ Three) × IsDirectory words d) → (directory ≡ None → (numbers_of v).kind ≡ Plain)
    → (numbers : List ℕ) → length numbers ≡ 16 → slice_index numbers 0 ≡ 0 → KeepsNumbers words v directory numbers (record { first = 0; at = 0; count = 1; marks = 0 })
start-kept laws v words terms h None packed plain numbers room zero = record { room = room; packed = tt; plain = plain }
start-kept laws v words terms h (Some d) packed plain numbers room zero =
    let i = index_stated words in
    let s : Spells (numbers_of Three) words i.collection i.parts = subst (λ x. Spells (numbers_of x) words i.collection i.parts) packed.0 h.spells in
    let passes = file-passes laws words i.collection i.parts (to-packed words i.collection i.parts s) in
    let count : length (starts_stated words) ≡ packed_terms words + 1 = (relative-held d (starts_stated words) packed.1.held).count ∙ packed.1.count in
    record {
      room = room;
      packed = (packed.0, packed.1, here-start (starts_stated words) numbers (omega (arith, count)) (first-start laws.values words passes.starts) (omega (arith, room)) zero);
      plain = plain;
    }

-- and behind a list
pub step-kept : (words : List ℕ) (v : Format) (terms : ℕ) (directory : Option PartView) (numbers : List ℕ) (run on : Run) → KeepsNumbers words v directory numbers run → HasNext directory terms run → place_in run < terms
    → on.first ≡ run.first → on.at ≡ run.at + 1 → on.count ≡ run.count → on.marks ≡ run.marks → KeepsNumbers words v directory numbers on
step-kept words v terms None numbers run on k next lt first at count marks = record { room = k.room; packed = tt; plain = k.plain }
step-kept words v terms (Some d) numbers run on k next lt first at count marks = record {
  room = k.room;
  packed = (k.packed.0, k.packed.1, here-on (starts_stated words) numbers run on (run.at + 1) k.packed.2 first at count marks (next lt));
  plain = k.plain;
}

-- ---- lists of one posting

-- the values of two sequences of one
one-value : (xs ys : List ℕ) (g : ℕ) → length xs ≡ 1 → length xs ≡ length ys → g ≡ greatest_freq (postings_in xs ys) → (xs ≡ slice_index xs 0 ∷ []) × (ys ≡ (g - 1) ∷ [])
one-value [] ys g one same most = absurd (omega (arith, one))
one-value (x ∷ w ∷ xs) ys g one same most = absurd (omega (arith, one))
one-value (x ∷ []) [] g one same most = absurd (omega (arith, same))
one-value (x ∷ []) (y ∷ v ∷ ys) g one same most = absurd (omega (arith, same))
one-value (x ∷ []) (y ∷ []) g one same most = (refl, ap (λ s. s ∷ []) (let e : y ≡ g - 1 = omega (arith, most) in e))

-- the posting of a list that is viewed and has one
pub single-viewed : (docs freqs : SequenceView) (greatest : ℕ) (list : List Posting) (stated : ListStated) → AreOfList docs freqs greatest list → length docs.values ≡ 1 → docs ≡ stated.docs → freqs ≡ stated.freqs → greatest ≡ stated.most
    → IsSingle (slice_index docs.values 0, greatest) stated
single-viewed docs freqs greatest list stated h one a b c =
    let is = one-value docs.values freqs.values greatest one h.same_length h.most in
    (ap (λ v. v.values) (sym a) ∙ is.0, ap (λ v. v.values) (sym b) ∙ is.1, sym c)

-- its document is small
pub first-small : (docs freqs : SequenceView) (greatest : ℕ) (list : List Posting) → AreOfList docs freqs greatest list → 1 ≤ length docs.values → slice_index docs.values 0 < 4294967295
first-small docs freqs greatest list h some =
    let is : docs_of (postings_in docs.values freqs.values) ≡ docs.values = docs-of_postings docs.values (steps_from 0 freqs.values) (same-steps docs.values freqs.values h.same_length) in
    omega (arith, All-get_or (λ d. d < 4294967295) (docs_of (postings_in docs.values freqs.values)) 0 0 (omega (arith, some, ap length is)) h.cursor.docs, ap (λ xs. slice_index xs 0) is)

-- the posting that a list states is its own
pub single-is : (p : ℕ × ℕ) (stated : ListStated) (list : List Posting) → AreOfList stated.docs stated.freqs stated.most list → IsSingle p stated → list ≡ record { doc = p.0; freq = p.1 } ∷ []
single-is p stated list h is =
    let docs : List ℕ = stated.docs.values in
    let freqs : List ℕ = stated.freqs.values in
    let one : postings_in docs freqs ≡ record { doc = p.0; freq = p.1 - 1 + 1 - 0 } ∷ [] = ap (λ xs. postings_in xs freqs) is.0 ∙ ap (postings_in (p.0 ∷ [])) is.1 in
    let some : p.1 - 1 + 1 - 0 ≡ p.1 = omega (arith, is.2, h.most, ap greatest_freq one) in
    sym h.give ∙ one ∙ ap (λ f. record { doc = p.0; freq = f } ∷ []) some

-- and one that states several has several
pub several-are : (stated : ListStated) (list : List Posting) → AreOfList stated.docs stated.freqs stated.most list → 2 ≤ length stated.docs.values → 2 ≤ length list
several-are stated list h many =
    let docs : List ℕ = stated.docs.values in
    let freqs : List ℕ = stated.freqs.values in
    let is : docs_of (postings_in docs freqs) ≡ docs = docs-of_postings docs (steps_from 0 freqs) (same-steps docs freqs h.same_length) in
    omega (arith, many, ap length is, docs_of-length (postings_in docs freqs), ap length h.give)

-- what is read of the list that is stated is read of the list
pub read-is : (read : ListRead) (stated : ListStated) (list : List Posting) → AreOfList stated.docs stated.freqs stated.most list → IsRead read stated → IsReadOf read list
read-is (One doc freq) stated list h is = single-is (doc, freq) stated list h is
read-is (Several views) stated list h is = (
  subst (λ d. AreOfList d views.freqs views.greatest list) (sym is.0) (subst (λ f. AreOfList stated.docs f views.greatest list) (sym is.1) (subst (λ g. AreOfList stated.docs stated.freqs g list) (sym is.2) h)),
  several-are stated list h is.3,
)
