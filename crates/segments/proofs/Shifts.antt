-- Lemmas on lists whose documents are counted on from a first one.
use Rattle.std.proofs.Common.{◌≡◌, refl, ap, ◌∙◌, ℕ, zero, suc, ◌+◌, ◌-◌, ◌^◌, ◌<◌, ◌≤◌, List, [], ◌∷◌, ◌++◌, length, get_or, take, drop, true, false, Some, arith, length-append, length-drop}
use Rattle.std.specs.Prelude.{slice_index}
use Rattle.std.specs.List.{All, slice_get}
use Rattle.std.specs.Option.{option_map, is_some}
use Rattle.std.proofs.lemmas.List.{get_or_append_left, get_or-take, get_or_default, length-take, length-take-le}
use Rattle.std.proofs.lemmas.List.Elements.{All-head, All-tail, All-get_or}
use Rattle.collection_model.specs.Collection.{Posting, docs_of, freqs_of}
use Rattle.collection_model.specs.NextBelow.{AreNextBelow}
use Rattle.collection_model.proofs.Lists.{docs_of-length}
use Rattle.cursor_api.specs.NextGeq.{IsCursorList}
use Rattle.cursor_api.specs.Laws.{IsNextGeq}
use Rattle.segments.specs.Joined.{shifted}
use Rattle.segments.specs.CursorPlaces.{shifted-length}

pub shifted-doc : (first : ℕ) (list : List Posting) (k : ℕ) → k < length list → get_or (docs_of (shifted first list)) k 0 ≡ first + get_or (docs_of list) k 0
shifted-doc first [] k within = absurd (omega arith)
shifted-doc first (p ∷ list) zero within = refl
shifted-doc first (p ∷ list) (suc k) within = shifted-doc first list k (omega arith)

pub shifted-freqs : (first : ℕ) (list : List Posting) → freqs_of (shifted first list) ≡ freqs_of list
shifted-freqs first [] = refl
shifted-freqs first (p ∷ list) = ap (λ fs. p.freq ∷ fs) (shifted-freqs first list)

-- as many documents
pub shifted-many : (first : ℕ) (list : List Posting) → length (docs_of (shifted first list)) ≡ length list
shifted-many first list = docs_of-length (shifted first list) ∙ shifted-length first list

-- the document at a place
pub shifted-at : (first : ℕ) (list : List Posting) (k : ℕ) → option_map (λ p. p.doc) (slice_get (shifted first list) k) ≡ option_map (λ d. first + d) (option_map (λ p. p.doc) (slice_get list k))
shifted-at first [] k = refl
shifted-at first (p ∷ list) zero = refl
shifted-at first (p ∷ list) (suc k) = shifted-at first list k

-- the first document that is at least so far behind the first of the segment
pub shifted-next : (first : ℕ) (list : List Posting) (place d found : ℕ) → IsNextGeq list place (d - first) found → IsNextGeq (shifted first list) place d found
shifted-next first list place d found is = record {
  at_or_after = is.at_or_after;
  within = omega (arith, is.within, shifted-length first list);
  passed = λ k from before. (let h = is.passed k from before in omega (arith, h, shifted-doc first list k (omega (arith, before, is.within))));
  reached = λ inside. (let in_list : found < length list = omega (arith, inside, shifted-length first list) in let h = is.reached in_list in omega (arith, h, shifted-doc first list found in_list));
}

-- the documents below an end, counted on
pub shifted-below : (first : ℕ) (list : List Posting) (place end count : ℕ) (given after : List ℕ) → AreNextBelow (docs_of list) place (end - first) given count → length after ≡ length given
    → ((j : ℕ) → j < count → slice_index after j ≡ first + slice_index given j) → AreNextBelow (docs_of (shifted first list)) place end after count
shifted-below first list place end count given after is room on =
    let many : length (docs_of list) ≡ length list = docs_of-length list in
    let inside : place + count ≤ length list = omega (arith, is.within, many) in
    record {
      room = omega (arith, is.room, room);
      within = omega (arith, inside, shifted-many first list);
      same = λ j lt. omega (arith, on j lt, is.same j lt, shifted-doc first list (place + j) (omega arith));
      below = λ j lt. omega (arith, is.below j lt, shifted-doc first list (place + j) (omega arith));
      full = λ short more.
          let in_list : place + count < length list = omega (arith, more, shifted-many first list) in
          let most = is.full (omega (arith, short, room)) (omega (arith, in_list, many)) in
          omega (arith, most, shifted-doc first list (place + count) in_list);
    }

-- a document that is there, counted on, is one of those
pub shifted-few : (first : ℕ) (list : List Posting) (place d : ℕ) → All (λ e. e < 4294967295) (docs_of (shifted first list)) → option_map (λ p. p.doc) (slice_get list place) ≡ Some d → first + d < 4294967295
shifted-few first [] place d few is = absurd cc
shifted-few first (p ∷ list) zero d few is =
    let same : p.doc ≡ d = cc in
    let h : first + p.doc < 4294967295 = All-head (λ e. e < 4294967295) (first + p.doc) (docs_of (shifted first list)) few in
    omega arith
shifted-few first (p ∷ list) (suc place) d few is = shifted-few first list place d (All-tail (λ e. e < 4294967295) (first + p.doc) (docs_of (shifted first list)) few) is

-- whether a posting is left tells whether the place is in the list
pub some-left : (list : List Posting) (place : ℕ) → is_some (option_map (λ p. p.doc) (slice_get list place)) ≡ true → place < length list
some-left [] place is = absurd cc
some-left (p ∷ list) zero is = omega arith
some-left (p ∷ list) (suc place) is = let h = some-left list place is in omega arith

pub none-left : (list : List Posting) (place : ℕ) → is_some (option_map (λ p. p.doc) (slice_get list place)) ≡ false → length list ≤ place
none-left [] place is = omega arith
none-left (p ∷ list) zero is = absurd cc
none-left (p ∷ list) (suc place) is = let h = none-left list place is in omega arith

-- and so of a cursor that went on in its list
pub left-in : (was now : List Posting) (place : ℕ) → now ≡ was → is_some (option_map (λ p. p.doc) (slice_get now place)) ≡ true → place < length was
left-in was now place same some = omega (arith, some-left now place some, ap length same)

pub ended-in : (was now : List Posting) (place : ℕ) → now ≡ was → place ≤ length now → is_some (option_map (λ p. p.doc) (slice_get now place)) ≡ false → place ≡ length was
ended-in was now place same within none = omega (arith, none-left now place none, within, ap length same)

-- documents that a cursor gives are counted on within 64 bits
pub block-fits : (first : ℕ) (list : List Posting) (place end count : ℕ) (given : List ℕ) → first < 2 ^ 32 → IsCursorList list → AreNextBelow (docs_of list) place end given count → All (λ d. first + d < 2 ^ 64) (take count given)
block-fits first list place end count given small good is = λ k d within.
    let inside : k < count = omega (arith, within, length-take count given) in
    let low : get_or (docs_of list) (place + k) 0 < 4294967295 = All-get_or (λ e. e < 4294967295) (docs_of list) (place + k) 0 (omega (arith, is.within)) good.docs in
    omega (arith, get_or-take count given k d inside, get_or_default given k d 0 (omega (arith, is.room)), is.same k inside, low)

-- and stand at the head of what was given
pub block-shifted : (first : ℕ) (list : List Posting) (place end count : ℕ) (given new : List ℕ) → AreNextBelow (docs_of list) place (end - first) given count → length new ≡ length (take count given)
    → ((j : ℕ) → j < length (take count given) → slice_index new j ≡ first + slice_index (take count given) j) → AreNextBelow (docs_of (shifted first list)) place end (new ++ drop count given) count
block-shifted first list place end count given new is same on =
    let prefix : length (take count given) ≡ count = length-take-le count given is.room in
    shifted-below first list place end count given (new ++ drop count given) is
    (omega (arith, length-append new (drop count given), same, prefix, length-drop count given, is.room))
    (λ j lt. omega (arith, get_or_append_left new (drop count given) 0 j (omega (arith, same, prefix)), on j (omega (arith, prefix)), get_or-take count given j 0 lt))
