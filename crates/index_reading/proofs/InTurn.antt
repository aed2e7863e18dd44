-- Lists of one or several indexes, which are read one after the other.
use Rattle.std.proofs.Common.{◌≡◌, ◌≢◌, refl, sym, ap, ◌∙◌, subst, ℕ, zero, suc, ◌+◌, ◌-◌, ◌*◌, ◌^◌, ◌<◌, ◌≤◌, List, [], ◌∷◌, ◌++◌, length, get_or, take, drop, set, map, inl, inr, append-nil, append_assoc, arith}
use Rattle.std.specs.Prelude.{slice_index, slice_range, Result, Ok, Err, OnOk}
use Rattle.std.specs.List.{All}
use Rattle.std.proofs.Math.Seq.{map-set_same, take-append_seam}
use Rattle.std.proofs.lemmas.Bool.{cases_lt}
use Rattle.std.proofs.lemmas.List.{map-append, length-map, get_or-map, get_or-drop, get_or-set_other, length-drop, length-set, take_all, take_more}
use Rattle.std.proofs.lemmas.List.Concat.{flat_map-append}
use Rattle.std.proofs.lemmas.Grind.{get_or-set_at}
use Rattle.std.proofs.lemmas.List.Elements.{All-get_or, All-nil, All-cons, All-append}
use Rattle.collection_model.specs.Collection.{Posting, Collection, docs_of, freqs_of, greatest, greatest_freq, list_of, postings_of}
use Rattle.collection_model.proofs.Lists.{docs_of-length, docs-of_postings, freqs-of_postings, freqs_of-length, postings-of_list}
use Rattle.collection_model.proofs.Sequences.{same-steps, steps-length}
use Rattle.collection_model.specs.NextBelow.{AreNextBelow}
use Rattle.cursor_api.specs.NextGeq.{IsCursorList}
use Rattle.collection_model.specs.Sequences.{postings_in, steps_from}
use Rattle.segments.specs.Joined.{ListPart, documents_in, joined_list, joined_wide, most_joined, parts_behind, shifted, EndsBelow}
use Rattle.segments.specs.Laws.{IsInRange, ListsFollow, ListsAreJoined}
use Rattle.segments.specs.JoinedCursor.{part_of, no_part}
use Rattle.part_cost.specs.Span.{past}
use Rattle.index_file.specs.ListWalk.{AreEmpty, ListsInTurn}
use Rattle.index_reading.specs.declared.joined.Segment.{Segment}
use Rattle.index_reading.specs.declared.part.Part.{Part}
use Rattle.index_reading.specs.InTurn.{AreAdded, ArePlaced, AreTaken, StandsBefore, placed_in, collections_placed, lists_placed}
use Rattle.index_reading.specs.JoinedSegments.{AreSegments, collections_in, lists_in}
use Rattle.index_reading.proofs.Bounds.{within-greatest}

-- ---- postings that are added

-- none
pub none-added : (first : ℕ) (list : List Posting) (docs freqs : List ℕ) → list ≡ [] → AreAdded first list docs freqs docs freqs
none-added first list docs freqs none = record {
  docs_are = sym (append-nil docs) ∙ ap (λ l. docs ++ docs_of (shifted first l)) (sym none);
  freqs_are = sym (append-nil freqs) ∙ ap (λ l. freqs ++ freqs_of l) (sym none);
}

-- some behind others
pub more-added : (first : ℕ) (list more : List Posting) (docs freqs docs1 freqs1 docs2 freqs2 : List ℕ) → AreAdded first list docs freqs docs1 freqs1 → AreAdded first more docs1 freqs1 docs2 freqs2
    → AreAdded first (list ++ more) docs freqs docs2 freqs2
more-added first list more docs freqs docs1 freqs1 docs2 freqs2 a b = record {
  docs_are = b.docs_are ∙ ap (λ l. l ++ docs_of (shifted first more)) a.docs_are ∙ append_assoc docs (docs_of (shifted first list)) (docs_of (shifted first more))
      ∙ ap (λ l. docs ++ l) (sym (map-append (λ (p : Posting). p.doc) (shifted first list) (shifted first more)) ∙ ap docs_of (sym (map-append (λ (p : Posting). record { doc = first + p.doc; freq = p.freq }) list more)));
  freqs_are = b.freqs_are ∙ ap (λ l. l ++ freqs_of more) a.freqs_are ∙ append_assoc freqs (freqs_of list) (freqs_of more) ∙ ap (λ l. freqs ++ l) (sym (map-append (λ (p : Posting). p.freq) list more));
}

-- one
pub one-added : (first : ℕ) (p : Posting) (docs freqs docs1 freqs1 : List ℕ) (d f : ℕ) → docs1 ≡ docs ++ d ∷ [] → freqs1 ≡ freqs ++ f ∷ [] → d ≡ first + p.doc → f ≡ p.freq → AreAdded first (p ∷ []) docs freqs docs1 freqs1
one-added first p docs freqs docs1 freqs1 d f docs_are freqs_are doc freq = record {
  docs_are = docs_are ∙ ap (λ x. docs ++ x ∷ []) doc;
  freqs_are = freqs_are ∙ ap (λ x. freqs ++ x ∷ []) freq;
}

abbrev none : Posting
none = record { doc = 0; freq = 0 }

-- those of a list up to a place, and those up to a later one
pub place-added : (first : ℕ) (list : List Posting) (place next : ℕ) (docs freqs docs1 freqs1 docs2 freqs2 : List ℕ) → place ≤ next → AreAdded first (take place list) docs freqs docs1 freqs1
    → AreAdded first (slice_range list place next) docs1 freqs1 docs2 freqs2 → AreAdded first (take next list) docs freqs docs2 freqs2
place-added first list place next docs freqs docs1 freqs1 docs2 freqs2 le a b =
    subst (λ l. AreAdded first l docs freqs docs2 freqs2) (joins list place next le) (more-added first (take place list) (slice_range list place next) docs freqs docs1 freqs1 docs2 freqs2 a b)
  where
    take-nil : (n : ℕ) → take {A = Posting} n [] ≡ []
    take-nil zero = refl
    take-nil (suc n) = refl

    joins : (list : List Posting) (place next : ℕ) → place ≤ next → take place list ++ take (next - place) (drop place list) ≡ take next list
    joins list zero next le = ap (λ n. take n list) (let e : next - 0 ≡ next = omega arith in e)
    joins [] (suc place) next le = take-nil (next - suc place) ∙ sym (take-nil next)
    joins (p ∷ list) (suc place) zero le = absurd (omega (arith, le))
    joins (p ∷ list) (suc place) (suc next) le =
        let same : suc next - suc place ≡ next - place = omega arith in
        ap (λ n. p ∷ (take place list ++ take n (drop place list))) same ∙ ap (λ l. p ∷ l) (joins list place next (omega (arith, le)))

-- the posting at a place, by its document and its frequency
pub next-added : (first : ℕ) (list : List Posting) (place j : ℕ) (docs freqs docs1 freqs1 docs2 freqs2 : List ℕ) (d f : ℕ) → place + j < length list → AreAdded first (slice_range list place (place + j)) docs freqs docs1 freqs1
    → docs2 ≡ docs1 ++ d ∷ [] → freqs2 ≡ freqs1 ++ f ∷ [] → d ≡ first + slice_index (docs_of list) (place + j) → f ≡ slice_index (freqs_of list) (place + j)
    → AreAdded first (slice_range list place (place + (j + 1))) docs freqs docs2 freqs2
next-added first list place j docs freqs docs1 freqs1 docs2 freqs2 d f within a docs_are freqs_are doc freq =
    let p : Posting = get_or list (place + j) none in
    let inside : j < length (drop place list) = omega (arith, within, length-drop place list) in
    let here : get_or (drop place list) j none ≡ p = get_or-drop place list j none in
    let until : place + j - place ≡ j = omega arith in
    let next : place + (j + 1) - place ≡ j + 1 = omega arith in
    let is : slice_range list place (place + j) ++ p ∷ [] ≡ slice_range list place (place + (j + 1)) =
    ap (λ n. take n (drop place list) ++ p ∷ []) until ∙ ap (λ q. take j (drop place list) ++ q ∷ []) (sym here) ∙ sym (take_more (drop place list) j none inside) ∙ ap (λ n. take n (drop place list)) (sym next) in
    subst (λ l. AreAdded first l docs freqs docs2 freqs2) is
    (more-added first (slice_range list place (place + j)) (p ∷ []) docs freqs docs1 freqs1 docs2 freqs2 a
    (one-added first p docs1 freqs1 docs2 freqs2 d f docs_are freqs_are (doc ∙ ap (λ n. first + n) (get_or-map (λ q. q.doc) list (place + j) none 0 within)) (freq ∙ get_or-map (λ q. q.freq) list (place + j) none 0 within)))

-- its document alone, and its frequency
pub next-doc : (first : ℕ) (list : List Posting) (place j : ℕ) (docs docs1 docs2 : List ℕ) (d : ℕ) → place + j < length list → docs1 ≡ docs ++ docs_of (shifted first (slice_range list place (place + j)))
    → docs2 ≡ docs1 ++ d ∷ [] → d ≡ first + slice_index (docs_of list) (place + j) → docs2 ≡ docs ++ docs_of (shifted first (slice_range list place (place + (j + 1))))
next-doc first list place j docs docs1 docs2 d within so docs_are doc =
    let freqs1 : List ℕ = freqs_of (slice_range list place (place + j)) in
    let f : ℕ = slice_index (freqs_of list) (place + j) in
    (next-added first list place j docs [] docs1 freqs1 docs2 (freqs1 ++ f ∷ []) d f within (record { docs_are = so; freqs_are = refl }) docs_are refl doc refl).docs_are

pub next-freq : (list : List Posting) (place j : ℕ) (freqs freqs1 freqs2 : List ℕ) (f : ℕ) → place + j < length list → freqs1 ≡ freqs ++ freqs_of (slice_range list place (place + j))
    → freqs2 ≡ freqs1 ++ f ∷ [] → f ≡ slice_index (freqs_of list) (place + j) → freqs2 ≡ freqs ++ freqs_of (slice_range list place (place + (j + 1)))
next-freq list place j freqs freqs1 freqs2 f within so freqs_are freq =
    let docs1 : List ℕ = docs_of (shifted 0 (slice_range list place (place + j))) in
    let d : ℕ = 0 + slice_index (docs_of list) (place + j) in
    (next-added 0 list place j [] freqs docs1 freqs1 (docs1 ++ d ∷ []) freqs2 d f within (record { docs_are = refl; freqs_are = so }) refl freqs_are refl freq).freqs_are

-- it fits behind the documents before it
pub single-fits : (first : ℕ) (p : Posting) (list : List Posting) → list ≡ p ∷ [] → EndsBelow (part_of first list) most_joined → first + p.doc < most_joined
single-fits first p list is few = All-get_or (λ d. d < most_joined) (docs_of (shifted first (p ∷ []))) 0 0 (omega arith) (subst (λ l. EndsBelow (part_of first l) most_joined) is few)

-- a list with postings has documents
pub some-values : (docs sums : List ℕ) (list : List Posting) → postings_in docs sums ≡ list → list ≢ [] → 0 < length docs
some-values [] sums list is some = absurd (some (sym is))
some-values (d ∷ docs) sums list is some = omega arith

-- ---- the sequences of a list, which are added one after the other

-- the documents of shifted postings
pub shifted-docs : (first : ℕ) (list : List Posting) → docs_of (shifted first list) ≡ map (λ d. first + d) (docs_of list)
shifted-docs first [] = refl
shifted-docs first (p ∷ list) = ap (λ ds. (first + p.doc) ∷ ds) (shifted-docs first list)

-- postings by their documents and frequencies
pub sequences-added : (first : ℕ) (values sums docs freqs docs1 freqs1 : List ℕ) → length values ≡ length sums → docs1 ≡ docs ++ map (λ d. first + d) values → freqs1 ≡ freqs ++ steps_from 0 sums
    → AreAdded first (postings_in values sums) docs freqs docs1 freqs1
sequences-added first values sums docs freqs docs1 freqs1 same docs_are freqs_are =
    let list : List Posting = postings_in values sums in
    let is : docs_of (postings_in values sums) ≡ values = docs-of_postings values (steps_from 0 sums) (same-steps values sums same) in
    record {
      docs_are = docs_are ∙ ap (λ xs. docs ++ map (λ d. first + d) xs) (sym is) ∙ ap (λ xs. docs ++ xs) (sym (shifted-docs first list));
      freqs_are = freqs_are ∙ ap (λ xs. freqs ++ xs) (sym (freqs-of_postings values (steps_from 0 sums) (same-steps values sums same)));
    }

-- what a list says of its two sequences
pub record AreToAdd (first most : ℕ) (values sums : List ℕ) : Type 0 where
  pub few : All (λ d. d < most_joined) (map (λ d. first + d) values)
  pub not_zero : All (λ f. 1 ≤ f) (steps_from 0 sums)
  pub fit : All (λ f. f < 2 ^ 32) (steps_from 0 sums)
  pub greatest_is : most ≡ greatest (steps_from 0 sums)

pub are-to-add : (first most : ℕ) (values sums : List ℕ) → length values ≡ length sums → IsCursorList (postings_in values sums) → most ≡ greatest_freq (postings_in values sums)
    → EndsBelow (part_of first (postings_in values sums)) most_joined → AreToAdd first most values sums
are-to-add first most values sums same list most_is few =
    let docs : docs_of (postings_in values sums) ≡ values = docs-of_postings values (steps_from 0 sums) (same-steps values sums same) in
    let freqs : freqs_of (postings_in values sums) ≡ steps_from 0 sums = freqs-of_postings values (steps_from 0 sums) (same-steps values sums same) in
    record {
      few = subst (λ xs. All (λ d. d < most_joined) xs) (shifted-docs first (postings_in values sums) ∙ ap (map (λ d. first + d)) docs) few;
      not_zero = subst (All (λ f. 1 ≤ f)) freqs list.not_zero;
      fit = subst (All (λ f. f < 2 ^ 32)) freqs list.fit;
      greatest_is = most_is ∙ ap greatest freqs;
    }

-- a document that was read fits behind those before it
pub doc-fits : (first : ℕ) (values given : List ℕ) (j : ℕ) → All (λ d. d < most_joined) (map (λ d. first + d) values) → given ≡ values → j < length values
    → (first + slice_index given j < most_joined) × (first + slice_index given j ≡ slice_index (map (λ d. first + d) values) j)
doc-fits first values given j few read within =
    let here : slice_index given j ≡ slice_index values j = ap (λ ds. slice_index ds j) read in
    let is : get_or (map (λ d. first + d) values) j 0 ≡ first + get_or values j 0 = get_or-map (λ d. first + d) values j 0 0 within in
    let small : get_or (map (λ d. first + d) values) j 0 < most_joined = All-get_or (λ d. d < most_joined) (map (λ d. first + d) values) j 0 (omega (arith, within, length-map values (λ d. first + d))) few in
    (omega (arith, here, is, small), omega (arith, here, is))

-- the step at a place is how far its value lies past the one before it
step-first : (s : ℕ) (xs : List ℕ) → 0 < length xs → get_or (steps_from s xs) 0 0 ≡ get_or xs 0 0 + 1 - s
step-first s [] some = absurd (omega (arith, some))
step-first s (x ∷ xs) some = refl

step-later : (s : ℕ) (xs : List ℕ) (k : ℕ) → suc k < length xs → get_or (steps_from s xs) (suc k) 0 ≡ get_or xs (suc k) 0 - get_or xs k 0
step-later s [] k within = absurd (omega (arith, within))
step-later s (x ∷ xs) zero within = let first : get_or (steps_from (x + 1) xs) 0 0 ≡ get_or xs 0 0 + 1 - (x + 1) = step-first (x + 1) xs (omega (arith, within)) in omega (arith, first)
step-later s (x ∷ xs) (suc k) within = step-later (x + 1) xs k (omega (arith, within))

step-past : (xs : List ℕ) (k : ℕ) → k < length xs → get_or (steps_from 0 xs) k 0 ≡ get_or xs k 0 + 1 - past xs k
step-past xs zero within = step-first 0 xs within
step-past xs (suc k) within = let step : get_or (steps_from 0 xs) (suc k) 0 ≡ get_or xs (suc k) 0 - get_or xs k 0 = step-later 0 xs k within in omega (arith, step)

-- where the steps fit a frequency, k of them reach at most k times the greatest that fits
past-few : (xs : List ℕ) (k : ℕ) → All (λ f. f < 2 ^ 32) (steps_from 0 xs) → k ≤ length xs → past xs k ≤ k * 4294967295
past-few xs zero fit within = omega arith
past-few xs (suc k) fit within =
    let before : past xs k ≤ k * 4294967295 = past-few xs k fit (omega (arith, within)) in
    let step : get_or (steps_from 0 xs) k 0 < 4294967296 = All-get_or (λ f. f < 4294967296) (steps_from 0 xs) k 0 (omega (arith, within, steps-length 0 xs)) fit in
    omega (arith, before, step, step-past xs k (omega (arith, within)))

-- so 128 values are small
sums-small : (xs : List ℕ) → All (λ f. f < 2 ^ 32) (steps_from 0 xs) → length xs ≤ 128 → (k : ℕ) → k < length xs → slice_index xs k < 18446744073709551615
sums-small xs fit few k lt =
    let most : get_or xs k 0 + 1 ≤ suc k * 4294967295 = past-few xs (suc k) fit (omega (arith, lt)) in
    omega (arith, most, lt, few)

-- what a sum that was read, and one more than the sum before it, say of the step at their place
pub record IsStepRead (xs : List ℕ) (k value before : ℕ) : Type 0 where
  pub is : value + 1 - before ≡ slice_index (steps_from 0 xs) k
  pub forward : before ≤ value + 1
  pub fits : value + 1 - before < 4294967296
  pub small : value + 1 < 18446744073709551616
  pub next : value + 1 ≡ past xs (k + 1)

pub step-read : (xs given : List ℕ) (k before : ℕ) → given ≡ xs → length xs ≤ 128 → k < length xs → All (λ f. 1 ≤ f) (steps_from 0 xs) → All (λ f. f < 2 ^ 32) (steps_from 0 xs)
    → before ≡ past xs k → IsStepRead xs k (slice_index given k) before
step-read xs given k before read few within not_zero fit past_is =
    let here : slice_index given k ≡ slice_index xs k = ap (λ ns. slice_index ns k) read in
    let below : slice_index xs k < 18446744073709551615 = sums-small xs fit few k within in
    let inside : k < length (steps_from 0 xs) = omega (arith, within, steps-length 0 xs) in
    let some : 1 ≤ get_or (steps_from 0 xs) k 0 = All-get_or (λ f. 1 ≤ f) (steps_from 0 xs) k 0 inside not_zero in
    let little : get_or (steps_from 0 xs) k 0 < 4294967296 = All-get_or (λ f. f < 4294967296) (steps_from 0 xs) k 0 inside fit in
    let step : get_or (steps_from 0 xs) k 0 ≡ get_or xs k 0 + 1 - past xs k = step-past xs k within in
    record {
      is = omega (arith, here, step, past_is);
      forward = omega (arith, here, step, past_is, some);
      fits = omega (arith, here, step, past_is, little);
      small = omega (arith, here, below);
      next = ap (λ v. v + 1) here ∙ ap (past xs) (let e : suc k ≡ k + 1 = omega arith in e);
    }

-- where the greatest of some numbers is 1 and none is 0, each is 1
pub step-one : (xs : List ℕ) (k : ℕ) → k < length xs → All (λ f. 1 ≤ f) (steps_from 0 xs) → greatest (steps_from 0 xs) ≡ 1 → 1 ≡ slice_index (steps_from 0 xs) k
step-one xs k lt not_zero most =
    let inside : k < length (steps_from 0 xs) = omega (arith, lt, steps-length 0 xs) in
    let some : 1 ≤ get_or (steps_from 0 xs) k 0 = All-get_or (λ f. 1 ≤ f) (steps_from 0 xs) k 0 inside not_zero in
    let few : get_or (steps_from 0 xs) k 0 ≤ 1 = All-get_or (λ f. f ≤ 1) (steps_from 0 xs) k 0 inside (within-greatest 1 (steps_from 0 xs) (omega (arith, most))) in
    omega (arith, some, few)

-- ---- the lists of one index

-- before the first, none was taken
pub taken-none : (lists : ListsInTurn) → AreEmpty lists.collection 0 lists.next → AreTaken 0 lists
taken-none lists empty = record { reached = omega arith; empty = empty }

-- ---- the next list of each part

abbrev place : Part → ℕ × Collection
place p = (p.first, p.lists.collection)

shifted-freqs : (first : ℕ) (list : List Posting) → freqs_of (shifted first list) ≡ freqs_of list
shifted-freqs first [] = refl
shifted-freqs first (p ∷ list) = ap (λ fs. p.freq ∷ fs) (shifted-freqs first list)

-- The parts before one were read, and the others stand before their lists of a term.
pub record AreReading (start parts : List Part) (t i : ℕ) (docs freqs : List ℕ) : Type 0 where
  pub placed : placed_in parts ≡ placed_in start
  pub behind : (j : ℕ) (d : Part) → j < i → j < length parts → StandsBefore (t + 1) (get_or parts j d)
  pub before : (j : ℕ) (d : Part) → i ≤ j → j < length parts → StandsBefore t (get_or parts j d)
  pub docs_are : docs ≡ docs_of (joined_list (take i (lists_placed (placed_in start) t)))
  pub freqs_are : freqs ≡ freqs_of (joined_list (take i (lists_placed (placed_in start) t)))

placed-count : (parts : List Part) (t : ℕ) → length (lists_placed (placed_in parts) t) ≡ length parts
placed-count parts t = length-map (placed_in parts) (λ c. part_of c.0 (list_of c.1 t)) ∙ length-map parts place

same-count : (parts start : List Part) → placed_in parts ≡ placed_in start → length parts ≡ length start
same-count parts start same = sym (length-map parts place) ∙ ap length same ∙ length-map start place

-- the list of a part
pub list-here : (start parts : List Part) (t i : ℕ) (p : Part) → placed_in parts ≡ placed_in start → i < length parts → p ≡ get_or parts i p
    → get_or (lists_placed (placed_in start) t) i no_part ≡ part_of p.first (list_of p.lists.collection t)
list-here start parts t i p same within is =
    let at : (ℕ × Collection) → ListPart = λ c. part_of c.0 (list_of c.1 t) in
    ap (λ placed. get_or (map at placed) i no_part) (sym same)
    ∙ get_or-map at (placed_in parts) i (place p) no_part (omega (arith, within, length-map parts place))
    ∙ ap at (get_or-map place parts i p (place p) within) ∙ ap (λ q. at (place q)) (sym is)

-- one part more
pub reading-next : (start parts : List Part) (t i : ℕ) (docs freqs docs2 freqs2 : List ℕ) (p new : Part) → AreReading start parts t i docs freqs → i < length parts → p ≡ get_or parts i p
    → new.first ≡ p.first → new.lists.collection ≡ p.lists.collection → StandsBefore (t + 1) new → AreAdded p.first (list_of p.lists.collection t) docs freqs docs2 freqs2
    → AreReading start (set parts i new) t (i + 1) docs2 freqs2
reading-next start parts t i docs freqs docs2 freqs2 p new h within is first collection stands added =
    let lists : List ListPart = lists_placed (placed_in start) t in
    let inside : i < length lists = omega (arith, within, placed-count start t, same-count parts start h.placed) in
    let here : get_or lists i no_part ≡ part_of p.first (list_of p.lists.collection t) = list-here start parts t i p h.placed within is in
    let joins : joined_list (take (i + 1) lists) ≡ joined_list (take i lists) ++ shifted p.first (list_of p.lists.collection t) =
    ap joined_list (take_more lists i no_part inside) ∙ flat_map-append (λ (q : ListPart). shifted q.first q.list) (take i lists) (get_or lists i no_part ∷ [])
    ∙ ap (λ xs. joined_list (take i lists) ++ xs) (append-nil (shifted (get_or lists i no_part).first (get_or lists i no_part).list))
    ∙ ap (λ (q : ListPart). joined_list (take i lists) ++ shifted q.first q.list) here in
    let same : place new ≡ place (get_or parts i p) = (λ k. (first k, collection k)) ∙ ap place is in
    record {
      placed = map-set_same place parts i new p same ∙ h.placed;
      behind = λ j d lt inside2. elim (cases_lt j i) as (λ _. StandsBefore (t + 1) (get_or (set parts i new) j d)) [
        | inl less ↦ subst (StandsBefore (t + 1)) (sym (get_or-set_other parts i j new d (λ e. omega (arith, e, less)))) (h.behind j d less (omega (arith, inside2, length-set parts i new)))
        | inr ge ↦ subst (StandsBefore (t + 1)) (sym (get_or-set_at parts i j new d (let e : j ≡ i = omega (arith, ge, lt) in e) within)) stands
      ];
      before = λ j d le inside2. subst (StandsBefore t) (sym (get_or-set_other parts i j new d (λ e. omega (arith, e, le)))) (h.before j d (omega (arith, le)) (omega (arith, inside2, length-set parts i new)));
      docs_are = added.docs_are ∙ ap (λ l. l ++ docs_of (shifted p.first (list_of p.lists.collection t))) h.docs_are
          ∙ sym (map-append (λ (q : Posting). q.doc) (joined_list (take i lists)) (shifted p.first (list_of p.lists.collection t))) ∙ ap docs_of (sym joins);
      freqs_are = added.freqs_are ∙ ap (λ l. l ++ freqs_of (list_of p.lists.collection t)) h.freqs_are
          ∙ ap (λ l. freqs_of (joined_list (take i lists)) ++ l) (sym (shifted-freqs p.first (list_of p.lists.collection t)))
          ∙ sym (map-append (λ (q : Posting). q.freq) (joined_list (take i lists)) (shifted p.first (list_of p.lists.collection t))) ∙ ap freqs_of (sym joins);
    }

-- the parts stay where they are
pub placed-set : (start parts : List Part) (i : ℕ) (p new : Part) → placed_in parts ≡ placed_in start → p ≡ get_or parts i p → new.first ≡ p.first → new.lists.collection ≡ p.lists.collection
    → placed_in (set parts i new) ≡ placed_in start
placed-set start parts i p new same is first collection = map-set_same place parts i new p ((λ k. (first k, collection k)) ∙ ap place is) ∙ same

-- the documents of a part's list fit
pub part-few : (start parts : List Part) (t i : ℕ) (p : Part) → All (λ q. EndsBelow q most_joined) (lists_placed (placed_in start) t) → placed_in parts ≡ placed_in start → i < length parts → p ≡ get_or parts i p
    → EndsBelow (part_of p.first (list_of p.lists.collection t)) most_joined
part-few start parts t i p few same within is =
    let inside : i < length (lists_placed (placed_in start) t) = omega (arith, within, placed-count start t, same-count parts start same) in
    subst (λ q. EndsBelow q most_joined) (list-here start parts t i p same within is) (All-get_or (λ q. EndsBelow q most_joined) (lists_placed (placed_in start) t) i no_part inside few)

-- ---- the lists of several indexes from the first on

abbrev pub segment-place : Segment → ℕ × Collection
segment-place s = (s.first, s.index.collection)

-- the parts of the first so many segments, and of one more
pub placed-pushed : (segments : List Segment) (k : ℕ) (parts more : List Part) (s : Segment) (p : Part) → k < length segments → s ≡ get_or segments k s → placed_in parts ≡ map segment-place (take k segments)
    → more ≡ parts ++ p ∷ [] → p.first ≡ s.first → p.lists.collection ≡ s.index.collection → placed_in more ≡ map segment-place (take (k + 1) segments)
placed-pushed segments k parts more s p within is so pushed first collection =
    ap placed_in pushed ∙ map-append place parts (p ∷ []) ∙ ap (λ l. l ++ place p ∷ []) so
    ∙ (λ i. map segment-place (take k segments) ++ (first i, collection i) ∷ []) ∙ ap (λ x. map segment-place (take k segments) ++ segment-place x ∷ []) is
    ∙ sym (map-append segment-place (take k segments) (get_or segments k s ∷ [])) ∙ ap (map segment-place) (sym (take_more segments k s within))

pub placed-all : (segments : List Segment) (k : ℕ) (parts : List Part) → length segments ≤ k → placed_in parts ≡ map segment-place (take k segments) → placed_in parts ≡ map segment-place segments
placed-all segments k parts end so = so ∙ ap (map segment-place) (take_all k segments end)

pub before-pushed : (parts more : List Part) (p : Part) → All (StandsBefore 0) parts → more ≡ parts ++ p ∷ [] → AreEmpty p.lists.collection 0 p.lists.next → All (StandsBefore 0) more
before-pushed parts more p all pushed empty =
    subst (All (StandsBefore 0)) (sym pushed) (All-append (StandsBefore 0) parts (p ∷ []) all (All-cons (StandsBefore 0) p [] (taken-none p.lists empty) (All-nil (StandsBefore 0))))

-- they can be joined where the segments can
pub placed-from : (segments : List Segment) (placed : List (ℕ × Collection)) → placed ≡ map segment-place segments → AreSegments segments → ArePlaced placed
placed-from segments placed is are =
    let collections : (segments : List Segment) → map (λ c. c.1) (map segment-place segments) ≡ collections_in segments = of-collections in
    let lists : (t : ℕ) (segments : List Segment) → map (λ c. part_of c.0 (list_of c.1 t)) (map segment-place segments) ≡ lists_in segments t = of-lists in
    let cs : collections_placed placed ≡ collections_in segments = ap collections_placed is ∙ collections segments in
    record {
      firsts = λ t. ap (λ p. lists_placed p t) is ∙ lists t segments ∙ are.firsts t ∙ ap (λ c. parts_behind 0 c t) (sym cs);
      in_range = subst (All IsInRange) (sym cs) are.in_range;
      few = subst (λ c. documents_in c ≤ most_joined) (sym cs) are.few;
    }
  where
    of-collections : (segments : List Segment) → map (λ c. c.1) (map segment-place segments) ≡ collections_in segments
    of-collections [] = refl
    of-collections (s ∷ segments) = ap (λ l. s.index.collection ∷ l) (of-collections segments)

    of-lists : (t : ℕ) (segments : List Segment) → map (λ c. part_of c.0 (list_of c.1 t)) (map segment-place segments) ≡ lists_in segments t
    of-lists t [] = refl
    of-lists t (s ∷ segments) = ap (λ l. part_of s.first (list_of s.index.collection t) ∷ l) (of-lists t segments)

pub collections-from : (segments : List Segment) (placed : List (ℕ × Collection)) → placed ≡ map segment-place segments → collections_placed placed ≡ collections_in segments
collections-from segments placed is = ap collections_placed is ∙ go segments
  where
    go : (segments : List Segment) → collections_placed (map segment-place segments) ≡ collections_in segments
    go [] = refl
    go (s ∷ segments) = ap (λ l. s.index.collection ∷ l) (go segments)

-- ---- what was read is the joined list

pub joined-read : (placed : List (ℕ × Collection)) (t : ℕ) (docs freqs : List ℕ) → ListsAreJoined → ArePlaced placed → docs ≡ docs_of (joined_list (lists_placed placed t)) → freqs ≡ freqs_of (joined_list (lists_placed placed t))
    → postings_of docs freqs ≡ list_of (joined_wide (collections_placed placed)) t
joined-read placed t docs freqs same are docs_are freqs_are =
    (λ i. postings_of (docs_are i) (freqs_are i)) ∙ postings-of_list (joined_list (lists_placed placed t)) ∙ ap joined_list (are.firsts t) ∙ sym (same (collections_placed placed) t)

pub few-read : (placed : List (ℕ × Collection)) (t : ℕ) → ListsFollow → ArePlaced placed → All (λ q. EndsBelow q most_joined) (lists_placed placed t)
few-read placed t follow are = subst (All (λ q. EndsBelow q most_joined)) (sym (are.firsts t)) (follow (collections_placed placed) t are.in_range are.few).few

pub as-many : (list : List Posting) (docs freqs : List ℕ) → docs ≡ docs_of list → freqs ≡ freqs_of list → length docs ≡ length freqs
as-many list docs freqs docs_are freqs_are = omega (arith, ap length docs_are, ap length freqs_are, docs_of-length list, freqs_of-length list)

-- ---- postings that are read at once

-- where some are left, some are given
pub some-given : (list : List Posting) (place count : ℕ) (given : List ℕ) → IsCursorList list → AreNextBelow (docs_of list) place 18446744073709551615 given count → place < length list → 0 < length given → 0 < count
some-given list place count given well h left room = elim (cases_lt 0 count) as (λ _. 0 < count) [
  | inl some ↦ some
  | inr none ↦
      let within : place < length (docs_of list) = omega (arith, left, docs_of-length list) in
      let small : slice_index (docs_of list) place < 4294967295 = All-get_or (λ d. d < 4294967295) (docs_of list) place 0 within well.docs in
      let here : slice_index (docs_of list) (place + count) ≡ slice_index (docs_of list) place = ap (slice_index (docs_of list)) (let e : place + count ≡ place = omega (arith, none) in e) in
      absurd (omega (arith, small, here, h.full (omega (arith, none, room)) (omega (arith, none, within))))
]

-- each fits, and so does its document behind those before it
pub record FitsBehind (first : ℕ) (list : List Posting) (k : ℕ) : Type 0 where
  pub doc : slice_index (docs_of list) k < 4294967295
  pub behind : first + slice_index (docs_of list) k < 4294967295
  pub freq : slice_index (freqs_of list) k < 2 ^ 32

shifted-length : (first : ℕ) (list : List Posting) → length (shifted first list) ≡ length list
shifted-length first list = length-map list (λ (p : Posting). let q : Posting = record { doc = first + p.doc; freq = p.freq } in q)

pub fits-behind : (first : ℕ) (list : List Posting) (k : ℕ) → IsCursorList list → EndsBelow (part_of first list) most_joined → k < length list → FitsBehind first list k
fits-behind first list k well few lt =
    let inside : k < length (docs_of list) = omega (arith, lt, docs_of-length list) in
    let shifted_inside : k < length (docs_of (shifted first list)) = omega (arith, lt, docs_of-length (shifted first list), shifted-length first list) in
    let at : get_or (docs_of (shifted first list)) k 0 < 4294967295 = All-get_or (λ d. d < 4294967295) (docs_of (shifted first list)) k 0 shifted_inside few in
    record {
      doc = All-get_or (λ d. d < 4294967295) (docs_of list) k 0 inside well.docs;
      behind = omega (arith, at, shifted-doc first list k lt);
      freq = All-get_or (λ f. f < 2 ^ 32) (freqs_of list) k 0 (omega (arith, lt, freqs_of-length list)) well.fit;
    }
  where
    shifted-doc : (first : ℕ) (list : List Posting) (k : ℕ) → k < length list → get_or (docs_of (shifted first list)) k 0 ≡ first + get_or (docs_of list) k 0
    shifted-doc first [] k within = absurd (omega (arith, within))
    shifted-doc first (p ∷ list) zero within = refl
    shifted-doc first (p ∷ list) (suc k) within = shifted-doc first list k (omega (arith, within))

-- and so where they are given
pub record FitsGiven (first : ℕ) (given : List ℕ) (j : ℕ) : Type 0 where
  pub doc : slice_index given j < 4294967295
  pub behind : first + slice_index given j < 4294967295

pub fits-given : (first : ℕ) (list : List Posting) (place count j : ℕ) (given : List ℕ) → IsCursorList list → EndsBelow (part_of first list) most_joined → AreNextBelow (docs_of list) place 18446744073709551615 given count → j < count
    → FitsGiven first given j
fits-given first list place count j given well few h lt =
    let fits = fits-behind first list (place + j) well few (omega (arith, lt, h.within, docs_of-length list)) in
    record { doc = omega (arith, fits.doc, h.same j lt); behind = omega (arith, fits.behind, h.same j lt) }

-- none of them
pub slice-none : (list : List Posting) (place : ℕ) → slice_range list place (place + 0) ≡ []
slice-none list place = ap (λ n. take n (drop place list)) (let e : place + 0 - place ≡ 0 = omega arith in e)

-- parts that are lent and written
pub written : (len : ℕ) (new old : List Part) → len ≡ length new → take len (new ++ drop (length new) old) ≡ new
written len new old e = subst (λ n. take n (new ++ drop (length new) old) ≡ new) (sym e) (take-append_seam new (drop (length new) old))

-- what follows of two facts where a call succeeds
pub on-both : {T E P Q R : Type 0} (r : Result T E) → (P → Q → R) → OnOk r P → OnOk r Q → OnOk r R
on-both (Ok x) f p q = f p q
on-both (Err e) f p q = tt
