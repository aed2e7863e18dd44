-- Lists of parts that follow one another are the list of a cursor.
use Rattle.std.proofs.Common.{◌≡◌, sym, ap, ◌∙◌, subst, ℕ, suc, ◌+◌, ◌-◌, ◌^◌, ◌<◌, ◌≤◌, List, [], ◌∷◌, ◌++◌, length, get_or, inl, inr, arith, length-append}
use Rattle.std.specs.List.{All}
use Rattle.std.specs.List.Sorted.{IsStrictlyIncreasing}
use Rattle.std.proofs.lemmas.Bool.{cases_lt}
use Rattle.std.proofs.lemmas.List.{map-append, get_or_append_left, get_or-append_right}
use Rattle.std.proofs.lemmas.List.Elements.{All-append, All-head, All-tail, All-get_or, All-from_get_or, All-nil, All-map}
use Rattle.collection_model.specs.Collection.{Posting, docs_of, freqs_of}
use Rattle.collection_model.proofs.Lists.{docs_of-length}
use Rattle.cursor_api.specs.NextGeq.{IsCursorList}
use Rattle.segments.specs.Joined.{ListPart, shifted, joined_list, most_joined, EndsBelow, FollowInOrder}
use Rattle.segments.specs.JoinedCursor.{no_part, part_of, parts_of}
use Rattle.segments.proofs.Shifts.{shifted-doc, shifted-freqs, shifted-many}

-- numbers that rise, and others above them that rise, rise one behind the other
rising-append : (xs ys : List ℕ) → IsStrictlyIncreasing xs → IsStrictlyIncreasing ys → ((i j : ℕ) → i < length xs → j < length ys → get_or xs i 0 < get_or ys j 0) → IsStrictlyIncreasing (xs ++ ys)
rising-append xs ys rise more above k within =
    let many : length (xs ++ ys) ≡ length xs + length ys = length-append xs ys in
    elim (cases_lt (k + 1) (length xs)) as (λ _. get_or (xs ++ ys) k 0 < get_or (xs ++ ys) (k + 1) 0) [
      | inl both ↦ omega (arith, rise k both, get_or_append_left xs ys 0 k (omega arith), get_or_append_left xs ys 0 (k + 1) both)
      | inr past ↦ elim (cases_lt k (length xs)) as (λ _. get_or (xs ++ ys) k 0 < get_or (xs ++ ys) (k + 1) 0) [
        | inl last ↦ omega (arith, above k (k + 1 - length xs) last (omega arith), get_or_append_left xs ys 0 k last, get_or-append_right xs ys (length xs) (k + 1) 0 (let e : length xs ≡ length xs = omega arith in e) past)
        | inr none ↦ (let j : ℕ = k - length xs in
            let e : k + 1 - length xs ≡ j + 1 = omega arith in
            omega (arith, more j (omega arith), get_or-append_right xs ys (length xs) k 0 (let s : length xs ≡ length xs = omega arith in s) none, get_or-append_right xs ys (length xs) (k + 1) 0 (let s : length xs ≡ length xs = omega arith in s) past, ap (λ i. get_or ys i 0) e))
      ]
    ]

-- the documents of a list rise after a shift
shifted-rise : (first : ℕ) (list : List Posting) → IsStrictlyIncreasing (docs_of list) → IsStrictlyIncreasing (docs_of (shifted first list))
shifted-rise first list rise k within =
    let many : length (docs_of (shifted first list)) ≡ length list = shifted-many first list in
    omega (arith, rise k (omega (arith, docs_of-length list)), shifted-doc first list k (omega arith), shifted-doc first list (k + 1) (omega arith))

-- no document of the joined list is below all first documents
docs-above : (parts : List ListPart) (low : ℕ) → ((i : ℕ) → i < length parts → low ≤ (get_or parts i no_part).first) → All (λ d. low ≤ d) (docs_of (joined_list parts))
docs-above [] low firsts = All-nil (λ d. low ≤ d)
docs-above (p ∷ parts) low firsts =
    let here : low ≤ p.first = firsts 0 (omega arith) in
    let rest = docs-above parts low (λ i lt. firsts (suc i) (omega arith)) in
    let mine : All (λ d. low ≤ d) (docs_of (shifted p.first p.list)) = All-from_get_or (λ d. low ≤ d) (docs_of (shifted p.first p.list)) 0 (λ k lt. omega (arith, shifted-doc p.first p.list k (omega (arith, shifted-many p.first p.list)))) in
    subst (All (λ d. low ≤ d)) (sym (map-append (λ q. q.doc) (shifted p.first p.list) (joined_list parts))) (All-append (λ d. low ≤ d) (docs_of (shifted p.first p.list)) (docs_of (joined_list parts)) mine rest)

-- the later parts follow one another too
follow-rest : (p : ListPart) (parts : List ListPart) → FollowInOrder (p ∷ parts) → FollowInOrder parts
follow-rest p parts follow = record {
  apart = λ i j d lt within. follow.apart (suc i) (suc j) d (omega arith) (omega arith);
  few = All-tail (λ q. EndsBelow q most_joined) p parts follow.few;
}

-- numbers below low, and others from it on
apart-at : (xs ys : List ℕ) (parts : List ListPart) → ys ≡ docs_of (joined_list parts) → All (λ q. All (λ d. d < q.first) xs) parts → (i j : ℕ) → i < length xs → j < length ys → get_or xs i 0 < get_or ys j 0
apart-at xs ys parts is below i j inside within =
    let x : ℕ = get_or xs i 0 in
    let low = docs-above parts (x + 1) (λ k lt. (let h : x < (get_or parts k no_part).first = All-get_or (λ d. d < (get_or parts k no_part).first) xs i 0 inside (All-get_or (λ q. All (λ d. d < q.first) xs) parts k no_part lt below) in omega arith)) in
    let h : x + 1 ≤ get_or (docs_of (joined_list parts)) j 0 = All-get_or (λ d. x + 1 ≤ d) (docs_of (joined_list parts)) j 0 (omega (arith, ap length is)) low in
    omega (arith, h, ap (λ zs. get_or zs j 0) is)

pub follow-list : (parts : List ListPart) → FollowInOrder parts → All (λ p. IsCursorList p.list) parts → IsCursorList (joined_list parts)
follow-list [] follow lists = record {
  rising = λ k within. absurd (omega arith);
  docs = All-nil (λ d. d < 4294967295);
  not_zero = All-nil (λ f. 1 ≤ f);
  fit = All-nil (λ f. f < 2 ^ 32);
}
follow-list (p ∷ parts) follow lists =
    let rest = follow-list parts (follow-rest p parts follow) (All-tail (λ q. IsCursorList q.list) p parts lists) in
    let mine : IsCursorList p.list = All-head (λ q. IsCursorList q.list) p parts lists in
    let docs : List ℕ = docs_of (shifted p.first p.list) in
    let both : docs_of (joined_list (p ∷ parts)) ≡ docs ++ docs_of (joined_list parts) = map-append (λ q. q.doc) (shifted p.first p.list) (joined_list parts) in
    let freqs : freqs_of (joined_list (p ∷ parts)) ≡ freqs_of p.list ++ freqs_of (joined_list parts) = map-append (λ q. q.freq) (shifted p.first p.list) (joined_list parts) ∙ ap (λ fs. fs ++ freqs_of (joined_list parts)) (shifted-freqs p.first p.list) in
    let below : All (λ q. All (λ d. d < q.first) docs) parts = All-from_get_or (λ q. All (λ d. d < q.first) docs) parts no_part (λ i within. follow.apart 0 (suc i) no_part (omega arith) (omega arith)) in
    record {
      rising = subst IsStrictlyIncreasing (sym both) (rising-append docs (docs_of (joined_list parts)) (shifted-rise p.first p.list mine.rising) rest.rising (apart-at docs (docs_of (joined_list parts)) parts (λ _. docs_of (joined_list parts)) below));
      docs = subst (All (λ d. d < 4294967295)) (sym both) (All-append (λ d. d < 4294967295) docs (docs_of (joined_list parts)) (All-head (λ q. EndsBelow q most_joined) p parts follow.few) rest.docs);
      not_zero = subst (All (λ f. 1 ≤ f)) (sym freqs) (All-append (λ f. 1 ≤ f) (freqs_of p.list) (freqs_of (joined_list parts)) mine.not_zero rest.not_zero);
      fit = subst (All (λ f. f < 2 ^ 32)) (sym freqs) (All-append (λ f. f < 2 ^ 32) (freqs_of p.list) (freqs_of (joined_list parts)) mine.fit rest.fit);
    }

-- and so the lists of cursors
pub cursors-follow : {A : Type 0} (list : A → List Posting) (cursors : List (ℕ × A)) → ((c : A) → IsCursorList (list c)) → FollowInOrder (parts_of list cursors) → IsCursorList (joined_list (parts_of list cursors))
cursors-follow list cursors each follow = follow-list (parts_of list cursors) follow (All-map (λ p. IsCursorList p.list) (λ c. part_of c.0 (list c.1)) cursors (λ i c within. each (get_or cursors i c).1))
