-- Lemmas on lists that stand one after the other, and on the place of a cursor over them.
use Rattle.std.proofs.Common.{◌≡◌, refl, sym, ap, ◌∙◌, subst, ℕ, ◌+◌, ◌-◌, ◌<◌, ◌≤◌, ◌≢◌, zero, suc, Some, List, [], ◌∷◌, ◌++◌, length, get_or, take, set, max, inl, inr, arith, length-append}
use Rattle.std.specs.Prelude.{slice_index}
use Rattle.std.specs.List.{All, slice_get}
use Rattle.std.specs.Option.{option_map}
use Rattle.std.proofs.lemmas.Option.{slice_get-get_or}
use Rattle.std.proofs.lemmas.List.Elements.{All-tail, All-get_or, All-from_get_or}
use Rattle.collection_model.proofs.Lists.{docs_of-length, freqs_of-length}
use Rattle.std.proofs.lemmas.Bool.{cases_lt}
use Rattle.std.proofs.lemmas.List.{get_or-map, length-map, map-append, append-nil, map-set, get_or_past, set-get_or, get_or-set_other, take_more}
use Rattle.std.proofs.lemmas.List.Concat.{flat_map-append, get_or-flat_map}
use Rattle.std.proofs.lemmas.Grind.{get_or-set_at}
use Rattle.collection_model.specs.Collection.{Posting, docs_of, freqs_of, greatest, greatest_freq}
use Rattle.cursor_api.specs.Laws.{IsNextGeq}
use Rattle.segments.specs.Joined.{ListPart, shifted, joined_list}
use Rattle.segments.specs.JoinedCursor.{part_of, no_part, parts_of, places_of, start_of, joined_place, StandsAt}
use Rattle.segments.specs.CursorPlaces.{shifted-length, part-within, start-past}
use Rattle.segments.proofs.Shifts.{shifted-freqs, shifted-many}

abbrev pub no_posting : Posting
no_posting = record { doc = 0; freq = 0 }

abbrev shift : ListPart → List Posting
shift p = shifted p.first p.list

-- the postings before the next part are those before this one and its own
pub joined-more : (parts : List ListPart) (at : ℕ) → at < length parts → joined_list (take (at + 1) parts) ≡ joined_list (take at parts) ++ shift (get_or parts at no_part)
joined-more parts at within =
    ap joined_list (take_more parts at no_part within)
    ∙ flat_map-append shift (take at parts) (get_or parts at no_part ∷ [])
    ∙ ap (λ xs. joined_list (take at parts) ++ xs) (append-nil (shift (get_or parts at no_part)))

pub start-next : (parts : List ListPart) (at : ℕ) → at < length parts → start_of parts (at + 1) ≡ start_of parts at + length (get_or parts at no_part).list
start-next parts at within =
    let p : ListPart = get_or parts at no_part in
    omega (arith, ap length (joined-more parts at within), length-append (joined_list (take at parts)) (shift p), shifted-length p.first p.list)

-- a posting of a part stands in the joined list behind those of the parts before
pub posting-at : (parts : List ListPart) (at k : ℕ) → at < length parts → k < length (get_or parts at no_part).list
    → get_or (joined_list parts) (start_of parts at + k) no_posting ≡ get_or (shift (get_or parts at no_part)) k no_posting
posting-at parts at k within inside =
    let p : ListPart = get_or parts at no_part in
    get_or-flat_map shift parts at k no_part no_posting within (omega (arith, inside, shifted-length p.first p.list))

-- and so with its document and its frequency
pub doc-at : (parts : List ListPart) (at k : ℕ) → at < length parts → k < length (get_or parts at no_part).list
    → get_or (docs_of (joined_list parts)) (start_of parts at + k) 0 ≡ get_or (docs_of (shift (get_or parts at no_part))) k 0
doc-at parts at k within inside =
    let p : ListPart = get_or parts at no_part in
    get_or-map (λ q. q.doc) (joined_list parts) (start_of parts at + k) no_posting 0 (omega (arith, inside, part-within parts at within))
    ∙ ap (λ q. q.doc) (posting-at parts at k within inside)
    ∙ sym (get_or-map (λ q. q.doc) (shift p) k no_posting 0 (omega (arith, inside, shifted-length p.first p.list)))

pub freq-at : (parts : List ListPart) (at k : ℕ) → at < length parts → k < length (get_or parts at no_part).list
    → get_or (freqs_of (joined_list parts)) (start_of parts at + k) 0 ≡ get_or (freqs_of (get_or parts at no_part).list) k 0
freq-at parts at k within inside =
    let p : ListPart = get_or parts at no_part in
    get_or-map (λ q. q.freq) (joined_list parts) (start_of parts at + k) no_posting 0 (omega (arith, inside, part-within parts at within))
    ∙ ap (λ q. q.freq) (posting-at parts at k within inside)
    ∙ sym (get_or-map (λ q. q.freq) (shift p) k no_posting 0 (omega (arith, inside, shifted-length p.first p.list)))
    ∙ ap (λ fs. get_or fs k 0) (shifted-freqs p.first p.list)

-- the greatest of numbers that stand behind others
greatest-append : (xs ys : List ℕ) → greatest (xs ++ ys) ≡ max (greatest xs) (greatest ys)
greatest-append [] ys = omega arith
greatest-append (x ∷ xs) ys = let more : greatest (xs ++ ys) ≡ max (greatest xs) (greatest ys) = greatest-append xs ys in omega arith

pub greatest-more : (parts : List ListPart) (at : ℕ) → at < length parts
    → greatest_freq (joined_list (take (at + 1) parts)) ≡ max (greatest_freq (joined_list (take at parts))) (greatest_freq (get_or parts at no_part).list)
greatest-more parts at within =
    let p : ListPart = get_or parts at no_part in
    ap greatest_freq (joined-more parts at within)
    ∙ ap greatest (map-append (λ q. q.freq) (joined_list (take at parts)) (shift p))
    ∙ greatest-append (freqs_of (joined_list (take at parts))) (freqs_of (shift p))
    ∙ ap (λ fs. max (greatest_freq (joined_list (take at parts))) (greatest fs)) (shifted-freqs p.first p.list)

-- Cursors with their first documents, by list and place.
-- the part of one of them
pub part-read : {A : Type 0} (list : A → List Posting) (cursors : List (ℕ × A)) (at : ℕ) (d : ℕ × A) → at < length cursors → get_or (parts_of list cursors) at no_part ≡ part_of (get_or cursors at d).0 (list (get_or cursors at d).1)
part-read list cursors at d within = get_or-map (λ x. part_of x.0 (list x.1)) cursors at d no_part within

pub place-read : {A : Type 0} (place : A → ℕ) (cursors : List (ℕ × A)) (at : ℕ) (d : ℕ × A) → at < length cursors → get_or (places_of place cursors) at 0 ≡ place (get_or cursors at d).1
place-read place cursors at d within = get_or-map (λ x. place x.1) cursors at d 0 within

pub parts-many : {A : Type 0} (list : A → List Posting) (cursors : List (ℕ × A)) → length (parts_of list cursors) ≡ length cursors
parts-many list cursors = length-map cursors (λ x. part_of x.0 (list x.1))

pub places-many : {A : Type 0} (place : A → ℕ) (cursors : List (ℕ × A)) → length (places_of place cursors) ≡ length cursors
places-many place cursors = length-map cursors (λ x. place x.1)

-- a cursor that moved in its list leaves the parts as they are
pub parts-set : {A : Type 0} (list : A → List Posting) (cursors : List (ℕ × A)) (at : ℕ) (new d : ℕ × A) → at < length cursors → new.0 ≡ (get_or cursors at d).0 → list new.1 ≡ list (get_or cursors at d).1
    → parts_of list (set cursors at new) ≡ parts_of list cursors
parts-set {A} list cursors at new d within first same =
    let old : ℕ × A = get_or cursors at d in
    let moved : part_of new.0 (list new.1) ≡ part_of old.0 (list old.1) = (λ i. part_of (first i) (same i)) in
    map-set (λ x. part_of x.0 (list x.1)) cursors at new
    ∙ ap (set (parts_of list cursors) at) (moved ∙ sym (part-read list cursors at d within))
    ∙ set-get_or (parts_of list cursors) at no_part

pub places-set : {A : Type 0} (place : A → ℕ) (cursors : List (ℕ × A)) (at : ℕ) (new : ℕ × A) → places_of place (set cursors at new) ≡ set (places_of place cursors) at (place new.1)
places-set place cursors at new = map-set (λ x. place x.1) cursors at new

pub place-set_here : {A : Type 0} (place : A → ℕ) (cursors : List (ℕ × A)) (at : ℕ) (new : ℕ × A) → at < length cursors → get_or (places_of place (set cursors at new)) at 0 ≡ place new.1
place-set_here place cursors at new within =
    ap (λ xs. get_or xs at 0) (places-set place cursors at new) ∙ get_or-set_at (places_of place cursors) at at (place new.1) 0 refl (omega (arith, places-many place cursors))

pub place-set_other : {A : Type 0} (place : A → ℕ) (cursors : List (ℕ × A)) (at : ℕ) (new : ℕ × A) (j : ℕ) → j ≢ at → get_or (places_of place (set cursors at new)) j 0 ≡ get_or (places_of place cursors) j 0
place-set_other place cursors at new j other = ap (λ xs. get_or xs j 0) (places-set place cursors at new) ∙ get_or-set_other (places_of place cursors) at j (place new.1) 0 other

-- All documents from a place to another are below d.
pub record ArePassed (parts : List ListPart) (from d now : ℕ) : Type 0 where
  pub at_or_after : from ≤ now
  pub passed : (k : ℕ) → from ≤ k → k < now → slice_index (docs_of (joined_list parts)) k < d

pub passed-none : (parts : List ListPart) (from d : ℕ) → ArePassed parts from d from
passed-none parts from d = record { at_or_after = omega arith; passed = λ k after before. absurd (omega arith) }

-- those that a part's cursor passes
pub passed-more : (parts : List ListPart) (at from d place found : ℕ) → at < length parts → ArePassed parts from d (start_of parts at + place) → IsNextGeq (shift (get_or parts at no_part)) place d found
    → ArePassed parts from d (start_of parts at + found)
passed-more parts at from d place found within before is =
    let p : ListPart = get_or parts at no_part in
    record {
      at_or_after = omega (arith, before.at_or_after, is.at_or_after);
      passed = λ k after lt. elim (cases_lt k (start_of parts at + place)) [
        | inl early ↦ before.passed k after early
        | inr late ↦ (let j : ℕ = k - start_of parts at in
            let h = is.passed j (omega arith) (omega arith) in
            let e : start_of parts at + j ≡ k = omega arith in
            omega (arith, h, doc-at parts at j within (omega (arith, is.within, shifted-length p.first p.list)), ap (λ i. get_or (docs_of (joined_list parts)) i 0) e))
      ];
    }

-- where the part has a document at or after d, its place is the next one
pub passed-stop : (parts : List ListPart) (at from d place found : ℕ) → at < length parts → found < length (get_or parts at no_part).list → ArePassed parts from d (start_of parts at + place)
    → IsNextGeq (shift (get_or parts at no_part)) place d found → IsNextGeq (joined_list parts) from d (start_of parts at + found)
passed-stop parts at from d place found within inside before is =
    let p : ListPart = get_or parts at no_part in
    let all = passed-more parts at from d place found within before is in
    record {
      at_or_after = all.at_or_after;
      within = omega (arith, inside, part-within parts at within);
      passed = all.passed;
      reached = λ lt. (let h = is.reached (omega (arith, inside, shifted-length p.first p.list)) in omega (arith, h, doc-at parts at found within inside));
    }

-- where no part has one, the end is
pub passed-end : (parts : List ListPart) (from d now : ℕ) → now ≡ length (joined_list parts) → ArePassed parts from d now → IsNextGeq (joined_list parts) from d now
passed-end parts from d now end all = record {
  at_or_after = all.at_or_after;
  within = omega arith;
  passed = all.passed;
  reached = λ lt. absurd (omega arith);
}

-- behind a part whose cursor is at its end the next part's start is the same place
pub place-kept : (parts : List ListPart) (places : List ℕ) (at : ℕ) → at < length parts → slice_index places at ≡ length (get_or parts at no_part).list → slice_index places (at + 1) ≡ 0
    → joined_place parts places (at + 1) ≡ joined_place parts places at
place-kept parts places at within ended unread = omega (arith, start-next parts at within, ended, unread)

-- what is known once one of the cursors of some parts moved in its list, and no later one is read
pub record IsMoved {A : Type 0} (list : A → List Posting) (place : A → ℕ) (parts : List ListPart) (cursors : List (ℕ × A)) (at : ℕ) (old new : ℕ × A) : Type 0 where
  pub within : at < length parts
  pub part : get_or parts at no_part ≡ part_of old.0 (list old.1)
  pub same : parts_of list (set cursors at new) ≡ parts
  pub before : get_or (places_of place cursors) at 0 ≡ place old.1
  pub now : get_or (places_of place (set cursors at new)) at 0 ≡ place new.1
  pub unread : (j : ℕ) → at < j → slice_index (places_of place (set cursors at new)) j ≡ 0

pub is-moved : {A : Type 0} (list : A → List Posting) (place : A → ℕ) (parts : List ListPart) (cursors : List (ℕ × A)) (at : ℕ) (d new : ℕ × A) → at < length cursors → parts_of list cursors ≡ parts
    → new.0 ≡ (get_or cursors at d).0 → list new.1 ≡ list (get_or cursors at d).1 → ((j : ℕ) → at < j → slice_index (places_of place cursors) j ≡ 0) → IsMoved list place parts cursors at (get_or cursors at d) new
is-moved list place parts cursors at d new within are first same unread = record {
  within = omega (arith, ap length are, parts-many list cursors);
  part = ap (λ ps. get_or ps at no_part) (sym are) ∙ part-read list cursors at d within;
  same = parts-set list cursors at new d within first same ∙ are;
  before = place-read place cursors at d within;
  now = place-set_here place cursors at new within;
  unread = λ j lt. place-set_other place cursors at new j (omega arith) ∙ unread j lt;
}

-- it stands there where that cursor has a posting left
pub moved-stands : {A : Type 0} {list : A → List Posting} {place : A → ℕ} {parts : List ListPart} {cursors : List (ℕ × A)} {at : ℕ} {old new : ℕ × A} → IsMoved list place parts cursors at old new → place new.1 < length (list old.1)
    → StandsAt (parts_of list (set cursors at new)) (places_of place (set cursors at new)) at
moved-stands {A} {list} {place} {parts} {cursors} {at} {old} {new} moved left = record {
  within = omega (arith, ap length moved.same, moved.within);
  reading = λ lt. omega (arith, left, moved.now, ap (λ ps. length (get_or ps at no_part).list) moved.same, ap (λ p. length p.list) moved.part);
  unread = moved.unread;
}

-- the place then
pub moved-place : {A : Type 0} {list : A → List Posting} {place : A → ℕ} {parts : List ListPart} {cursors : List (ℕ × A)} {at : ℕ} {old new : ℕ × A} → IsMoved list place parts cursors at old new
    → joined_place (parts_of list (set cursors at new)) (places_of place (set cursors at new)) at ≡ start_of parts at + place new.1
moved-place {A} {list} {place} {parts} {cursors} {at} {old} {new} moved = ap (λ ps. joined_place ps (places_of place (set cursors at new)) at) moved.same ∙ ap (λ k. start_of parts at + k) moved.now

-- and at the next part where it has none
pub moved-next : {A : Type 0} {list : A → List Posting} {place : A → ℕ} {parts : List ListPart} {cursors : List (ℕ × A)} {at : ℕ} {old new : ℕ × A} → IsMoved list place parts cursors at old new → place new.1 ≡ length (list old.1)
    → joined_place parts (places_of place (set cursors at new)) (at + 1) ≡ start_of parts at + place new.1
moved-next {A} {list} {place} {parts} {cursors} {at} {old} {new} moved ended = omega (arith, start-next parts at moved.within, ended, ap (λ p. length p.list) moved.part, moved.unread (at + 1) (omega arith))

-- all documents up to there are below d where those before the move and those that the cursor passed are
moved-passed : {A : Type 0} {list : A → List Posting} {place : A → ℕ} {parts : List ListPart} {cursors : List (ℕ × A)} {at : ℕ} {old new : ℕ × A} {from d : ℕ} → IsMoved list place parts cursors at old new → ArePassed parts from d (joined_place parts (places_of place cursors) at) → ArePassed parts from d (start_of parts at + place old.1)
moved-passed {A} {list} {place} {parts} {cursors} {at} {old} {new} {from} {d} moved before = subst (λ (k : ℕ). ArePassed parts from d (start_of parts at + k)) moved.before before

-- the part that the cursor's list is
moved-part : {A : Type 0} {list : A → List Posting} {place : A → ℕ} {parts : List ListPart} {cursors : List (ℕ × A)} {at : ℕ} {old new : ℕ × A} → IsMoved list place parts cursors at old new → (P : ListPart → Type 0) → P (part_of old.0 (list old.1)) → P (get_or parts at no_part)
moved-part moved P is = subst P (sym moved.part) is

pub passed-next : {A : Type 0} {list : A → List Posting} {place : A → ℕ} {parts : List ListPart} {cursors : List (ℕ × A)} {at : ℕ} {old new : ℕ × A} (from : ℕ) {d : ℕ} → IsMoved list place parts cursors at old new → ArePassed parts from d (joined_place parts (places_of place cursors) at)
    → IsNextGeq (shifted old.0 (list old.1)) (place old.1) d (place new.1) → place new.1 ≡ length (list old.1) → ArePassed parts from d (joined_place parts (places_of place (set cursors at new)) (at + 1))
passed-next {A} {list} {place} {parts} {cursors} {at} {old} {new} from {d} moved before read ended =
    subst (λ (k : ℕ). ArePassed parts from d k) (sym (moved-next moved ended))
    (passed-more parts at from d (place old.1) (place new.1) moved.within (moved-passed moved before) (moved-part moved (λ p. IsNextGeq (shift p) (place old.1) d (place new.1)) read))

pub passed-here : {A : Type 0} {list : A → List Posting} {place : A → ℕ} {parts : List ListPart} {cursors : List (ℕ × A)} {at : ℕ} {old new : ℕ × A} (from : ℕ) {d : ℕ} → IsMoved list place parts cursors at old new → ArePassed parts from d (joined_place parts (places_of place cursors) at)
    → IsNextGeq (shifted old.0 (list old.1)) (place old.1) d (place new.1) → place new.1 < length (list old.1) → IsNextGeq (joined_list parts) from d (start_of parts at + place new.1)
passed-here {A} {list} {place} {parts} {cursors} {at} {old} {new} from {d} moved before read left =
    passed-stop parts at from d (place old.1) (place new.1) moved.within (omega (arith, left, ap (λ p. length p.list) moved.part)) (moved-passed moved before)
    (moved-part moved (λ p. IsNextGeq (shift p) (place old.1) d (place new.1)) read)

-- behind the last part it stands at the end
stands-behind : {A : Type 0} (list : A → List Posting) (place : A → ℕ) (cursors : List (ℕ × A)) → StandsAt (parts_of list cursors) (places_of place cursors) (length cursors)
stands-behind list place cursors = record {
  within = omega (arith, parts-many list cursors);
  reading = λ lt. absurd (omega (arith, lt, parts-many list cursors));
  unread = λ j lt. get_or_past (places_of place cursors) j 0 (omega (arith, places-many place cursors));
}

place-behind : {A : Type 0} (list : A → List Posting) (place : A → ℕ) (parts : List ListPart) (cursors : List (ℕ × A)) (at : ℕ) → parts_of list cursors ≡ parts → at ≡ length cursors → joined_place parts (places_of place cursors) at ≡ length (joined_list parts)
place-behind list place parts cursors at are end =
    omega (arith, get_or_past (places_of place cursors) at 0 (omega (arith, places-many place cursors)), start-past parts at (omega (arith, ap length are, parts-many list cursors)))

-- what is known once all parts were gone through
pub record IsBehind {A : Type 0} (list : A → List Posting) (place : A → ℕ) (parts : List ListPart) (cursors : List (ℕ × A)) (at : ℕ) : Type 0 where
  pub stands : StandsAt (parts_of list cursors) (places_of place cursors) (length cursors)
  pub there : joined_place (parts_of list cursors) (places_of place cursors) (length cursors) ≡ joined_place parts (places_of place cursors) at
  pub at_end : joined_place parts (places_of place cursors) at ≡ length (joined_list parts)

pub is-behind : {A : Type 0} (list : A → List Posting) (place : A → ℕ) (parts : List ListPart) (cursors : List (ℕ × A)) (at : ℕ) → parts_of list cursors ≡ parts → at ≡ length cursors → IsBehind list place parts cursors at
is-behind list place parts cursors at are end = record {
  stands = stands-behind list place cursors;
  there = ap (λ ps. joined_place ps (places_of place cursors) (length cursors)) are ∙ ap (joined_place parts (places_of place cursors)) (sym end);
  at_end = place-behind list place parts cursors at are end;
}

-- it is at one of them where a posting is left
pub is-inside : {A : Type 0} (list : A → List Posting) (place : A → ℕ) (cursors : List (ℕ × A)) (at : ℕ) → joined_place (parts_of list cursors) (places_of place cursors) at < length (joined_list (parts_of list cursors))
    → at ≤ length (parts_of list cursors) → at < length cursors
is-inside list place cursors at left within = elim (cases_lt at (length cursors)) as (λ _. at < length cursors) [
  | inl lt ↦ lt
  | inr ge ↦ absurd (omega (arith, left, place-behind list place (parts_of list cursors) cursors at (λ _. parts_of list cursors) (omega (arith, ge, within, parts-many list cursors))))
]

-- the part at which it stands, once its cursor moved in its list
pub moved-here : {A : Type 0} (list : A → List Posting) (place : A → ℕ) (cursors : List (ℕ × A)) (at : ℕ) (c : ℕ × A) (new : A) → joined_place (parts_of list cursors) (places_of place cursors) at < length (joined_list (parts_of list cursors))
    → StandsAt (parts_of list cursors) (places_of place cursors) at → c ≡ get_or cursors at c → list new ≡ list c.1 → IsMoved list place (parts_of list cursors) cursors at (get_or cursors at c) (c.0, new)
moved-here list place cursors at c new left stands is same =
    is-moved list place (parts_of list cursors) cursors at c (c.0, new) (is-inside list place cursors at left stands.within) (λ _. parts_of list cursors) (ap (λ x. x.0) is) (same ∙ ap (λ x. list x.1) is) stands.unread

-- the posting at its place
pub doc-there : (parts : List ListPart) (at k : ℕ) → at < length parts → k < length (get_or parts at no_part).list
    → option_map (λ p. p.doc) (slice_get (joined_list parts) (start_of parts at + k)) ≡ option_map (λ p. p.doc) (slice_get (shift (get_or parts at no_part)) k)
doc-there parts at k within inside =
    let p : ListPart = get_or parts at no_part in
    ap (option_map (λ q. q.doc)) (slice_get-get_or (joined_list parts) (start_of parts at + k) no_posting (omega (arith, inside, part-within parts at within)))
    ∙ ap (λ q. option_map (λ r. r.doc) (Some q)) (posting-at parts at k within inside)
    ∙ sym (ap (option_map (λ q. q.doc)) (slice_get-get_or (shift p) k no_posting (omega (arith, inside, shifted-length p.first p.list))))

pub freq-there : (parts : List ListPart) (at k : ℕ) → at < length parts → k < length (get_or parts at no_part).list
    → slice_get (freqs_of (joined_list parts)) (start_of parts at + k) ≡ slice_get (freqs_of (get_or parts at no_part).list) k
freq-there parts at k within inside =
    let p : ListPart = get_or parts at no_part in
    slice_get-get_or (freqs_of (joined_list parts)) (start_of parts at + k) 0 (omega (arith, inside, part-within parts at within, freqs_of-length (joined_list parts)))
    ∙ ap Some (freq-at parts at k within inside)
    ∙ sym (slice_get-get_or (freqs_of p.list) k 0 (omega (arith, inside, freqs_of-length p.list)))

-- the documents of a part are among all
pub part-few : (parts : List ListPart) (at n : ℕ) → at < length parts → All (λ d. d < n) (docs_of (joined_list parts)) → All (λ d. d < n) (docs_of (shift (get_or parts at no_part)))
part-few parts at n within few =
    let p : ListPart = get_or parts at no_part in
    All-from_get_or (λ d. d < n) (docs_of (shift p)) 0
    (λ k lt.
    let inside : k < length p.list = omega (arith, lt, shifted-many p.first p.list) in
    omega (arith, doc-at parts at k within inside, All-get_or (λ d. d < n) (docs_of (joined_list parts)) (start_of parts at + k) 0 (omega (arith, inside, part-within parts at within, docs_of-length (joined_list parts))) few))

-- cursors at their start are at place 0
pub places-zero : {A : Type 0} (place : A → ℕ) (cursors : List (ℕ × A)) → All (λ c. place c.1 ≡ 0) cursors → (j : ℕ) → slice_index (places_of place cursors) j ≡ 0
places-zero place [] start j = refl
places-zero place (c ∷ cursors) start zero = start 0 c (omega arith)
places-zero place (c ∷ cursors) start (suc j) = places-zero place cursors (All-tail (λ x. place x.1 ≡ 0) c cursors start) j

-- what is known of the part at which it stands
pub record IsHere {A : Type 0} (list : A → List Posting) (place : A → ℕ) (cursors : List (ℕ × A)) (at : ℕ) (c : ℕ × A) : Type 0 where
  pub within : at < length (parts_of list cursors)
  pub part : get_or (parts_of list cursors) at no_part ≡ part_of c.0 (list c.1)
  pub place_at : get_or (places_of place cursors) at 0 ≡ place c.1
  pub left : place c.1 < length (list c.1)

pub is-here : {A : Type 0} (list : A → List Posting) (place : A → ℕ) (cursors : List (ℕ × A)) (at : ℕ) (c : ℕ × A) → at < length cursors → c ≡ get_or cursors at c → StandsAt (parts_of list cursors) (places_of place cursors) at → IsHere list place cursors at c
is-here list place cursors at c within is stands =
    let in_parts : at < length (parts_of list cursors) = omega (arith, within, parts-many list cursors) in
    let part : get_or (parts_of list cursors) at no_part ≡ part_of c.0 (list c.1) = part-read list cursors at c within ∙ ap (λ x. part_of x.0 (list x.1)) (sym is) in
    let here : get_or (places_of place cursors) at 0 ≡ place c.1 = place-read place cursors at c within ∙ ap (λ x. place x.1) (sym is) in
    record { within = in_parts; part = part; place_at = here; left = omega (arith, stands.reading in_parts, here, ap (λ p. length p.list) part) }
