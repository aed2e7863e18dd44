-- Lemmas on the lists of joined collections.
use Rattle.std.proofs.Common.{◌≡◌, refl, sym, ap, ◌∙◌, subst, ℕ, zero, suc, ◌+◌, ◌<◌, ◌≤◌, List, [], ◌∷◌, ◌++◌, length, get_or, inl, inr, arith}
use Rattle.std.specs.List.{All}
use Rattle.std.proofs.lemmas.Bool.{cases_lt}
use Rattle.std.proofs.lemmas.List.{map-append, get_or_past}
use Rattle.std.proofs.lemmas.List.Sums.{sum_by-cons}
use Rattle.std.proofs.lemmas.List.Kept.{AllPairs-cons}
use Rattle.std.proofs.lemmas.List.Elements.{All-append, All-cons, All-head, All-tail, All-get_or, All-from_get_or, All-nil, All-weaker}
use Rattle.std.proofs.lemmas.List.FromFn.{get_or-map-range_with_len, length-map-range_with_len}
use Rattle.collection_model.specs.Collection.{Posting, Collection, docs_of, list_of}
use Rattle.collection_model.proofs.Lists.{docs_of-length}
use Rattle.segments.specs.Joined.{ListPart, shifted, joined_list, parts_behind, documents_in, terms_in, most_terms_in, joined_of, joined_wide, most_joined, EndsBelow, FitTogether, FollowInOrder}
use Rattle.segments.specs.JoinedCursor.{no_part, part_of}
use Rattle.segments.specs.Laws.{IsInRange, ListsFollow, ListsAreJoined, JoinedIsInRange, WideIsJoined}
use Rattle.segments.proofs.Shifts.{shifted-doc, shifted-many}

documents-more : (c : Collection) (cs : List Collection) → documents_in (c ∷ cs) ≡ c.documents + documents_in cs
documents-more c cs = sum_by-cons (λ d. d.documents) c cs

list-in_range : (c : Collection) (t : ℕ) → IsInRange c → All (λ d. d < c.documents) (docs_of (list_of c t))
list-in_range c t good = elim (cases_lt t (length c.lists)) as (λ _. All (λ d. d < c.documents) (docs_of (list_of c t))) [
  | inl within ↦ All-get_or (λ list. All (λ d. d < c.documents) (docs_of list)) c.lists t [] within good
  | inr past ↦ subst (λ (list : List Posting). All (λ d. d < c.documents) (docs_of list)) (sym (get_or_past c.lists t [] past)) (All-nil (λ d. d < c.documents))
]

-- the list of a collection behind n documents ends below those of the next
part-ends : (n : ℕ) (c : Collection) (t next : ℕ) → IsInRange c → n + c.documents ≤ next → EndsBelow (part_of n (list_of c t)) next
part-ends n c t next good le =
    let list : List Posting = list_of c t in
    All-from_get_or (λ d. d < next) (docs_of (shifted n list)) 0
    (λ k lt.
    let inside : k < length list = omega (arith, lt, shifted-many n list) in
    let low : get_or (docs_of list) k 0 < c.documents = All-get_or (λ d. d < c.documents) (docs_of list) k 0 (omega (arith, inside, docs_of-length list)) (list-in_range c t good) in
    omega (arith, low, le, shifted-doc n list k inside))

-- no first document comes before the first
firsts-above : (n : ℕ) (cs : List Collection) (t i : ℕ) → i < length (parts_behind n cs t) → n ≤ (get_or (parts_behind n cs t) i no_part).first
firsts-above n [] t i within = absurd (omega arith)
firsts-above n (c ∷ cs) t zero within = omega arith
firsts-above n (c ∷ cs) t (suc i) within = let h = firsts-above (n + c.documents) cs t i (omega arith) in omega arith

follow-behind : (n : ℕ) (cs : List Collection) (t : ℕ) → All IsInRange cs → n + documents_in cs ≤ most_joined → FollowInOrder (parts_behind n cs t)
follow-behind n [] t good few = record {
  apart = λ i j d lt within. absurd (omega arith);
  few = All-nil (λ p. EndsBelow p most_joined);
}
follow-behind n (c ∷ cs) t good few =
    let p : ListPart = part_of n (list_of c t) in
    let later : List ListPart = parts_behind (n + c.documents) cs t in
    let mine : IsInRange c = All-head IsInRange c cs good in
    let more : documents_in (c ∷ cs) ≡ c.documents + documents_in cs = documents-more c cs in
    let rest = follow-behind (n + c.documents) cs t (All-tail IsInRange c cs good) (omega (arith, few, more)) in
    record {
      apart = AllPairs-cons (λ q r. EndsBelow q r.first) p later
          (All-from_get_or (λ q. EndsBelow p q.first) later no_part (λ i lt. part-ends n c t (get_or later i no_part).first mine (firsts-above (n + c.documents) cs t i lt))) rest.apart;
      few = All-cons (λ q. EndsBelow q most_joined) p later (part-ends n c t most_joined mine (omega (arith, few, more))) rest.few;
    }

pub lists-follow : ListsFollow
lists-follow cs t good few = follow-behind 0 cs t good (omega (arith, few))

-- collections without a term have no posting of it
no-posting : (n : ℕ) (cs : List Collection) (t : ℕ) → All (λ c. length c.lists ≤ t) cs → joined_list (parts_behind n cs t) ≡ []
no-posting n [] t past = refl
no-posting n (c ∷ cs) t past =
    let none : list_of c t ≡ [] = get_or_past c.lists t [] (All-head (λ d. length d.lists ≤ t) c cs past) in
    ap (λ list. shifted n list ++ joined_list (parts_behind (n + c.documents) cs t)) none ∙ no-posting (n + c.documents) cs t (All-tail (λ d. length d.lists ≤ t) c cs past)

-- none has more terms than the most, which are no more than bound all
pub most-bounds : (n : ℕ) (cs : List Collection) → most_terms_in cs ≤ n → All (λ c. length c.lists ≤ n) cs
most-bounds n [] most = All-nil (λ c. length c.lists ≤ n)
most-bounds n (c ∷ cs) most =
    let here : length c.lists ≤ n = omega (arith, most) in
    let rest : most_terms_in cs ≤ n = omega (arith, most) in
    All-cons (λ d. length d.lists ≤ n) c cs here (most-bounds n cs rest)

pub most-bounded : (n : ℕ) (cs : List Collection) → All (λ c. length c.lists ≤ n) cs → most_terms_in cs ≤ n
most-bounded n [] all = omega arith
most-bounded n (c ∷ cs) all =
    let here : length c.lists ≤ n = All-head (λ d. length d.lists ≤ n) c cs all in
    let rest : most_terms_in cs ≤ n = most-bounded n cs (All-tail (λ d. length d.lists ≤ n) c cs all) in
    omega (arith, here, rest)

pub lists-are_joined : ListsAreJoined
lists-are_joined cs t =
    let f : ℕ → List Posting = λ u. joined_list (parts_behind 0 cs u) in
    elim (cases_lt t (most_terms_in cs)) as (λ _. list_of (joined_wide cs) t ≡ joined_list (parts_behind 0 cs t)) [
      | inl within ↦ get_or-map-range_with_len f 0 (most_terms_in cs) t t [] within (omega arith)
      | inr past ↦ get_or_past (joined_wide cs).lists t [] (omega (arith, past, length-map-range_with_len f 0 (most_terms_in cs))) ∙ sym (no-posting 0 cs t (most-bounds t cs past))
    ]

-- where all have as many terms as the first, these are the most
same-most : (cs : List Collection) → FitTogether cs → most_terms_in cs ≡ terms_in cs
same-most [] fit = refl
same-most (c ∷ cs) fit =
    let within : most_terms_in (c ∷ cs) ≤ length c.lists =
    most-bounded (length c.lists) (c ∷ cs) (All-weaker (λ d. length d.lists ≡ length c.lists) (λ d. length d.lists ≤ length c.lists) (λ d same. omega (arith, same)) (c ∷ cs) fit.terms) in
    omega (arith, within)

pub wide-is_joined : WideIsJoined
wide-is_joined cs fit = ap (λ terms. joined_of terms cs) (same-most cs fit)

behind-below : (n : ℕ) (cs : List Collection) (t : ℕ) → All IsInRange cs → All (λ d. d < n + documents_in cs) (docs_of (joined_list (parts_behind n cs t)))
behind-below n [] t good = All-nil (λ d. d < n + documents_in [])
behind-below n (c ∷ cs) t good =
    let list : List Posting = shifted n (list_of c t) in
    let later : List Posting = joined_list (parts_behind (n + c.documents) cs t) in
    let all : ℕ = n + documents_in (c ∷ cs) in
    let more : documents_in (c ∷ cs) ≡ c.documents + documents_in cs = documents-more c cs in
    let rest = behind-below (n + c.documents) cs t (All-tail IsInRange c cs good) in
    let mine : All (λ d. d < all) (docs_of list) = part-ends n c t all (All-head IsInRange c cs good) (omega (arith, more)) in
    let others : All (λ d. d < all) (docs_of later) = All-weaker (λ d. d < n + c.documents + documents_in cs) (λ d. d < all) (λ d lt. omega (arith, lt, more)) (docs_of later) rest in
    subst (All (λ d. d < all)) (sym (map-append (λ p. p.doc) list later)) (All-append (λ d. d < all) (docs_of list) (docs_of later) mine others)

pub joined-in_range : JoinedIsInRange
joined-in_range cs good =
    let all : ℕ = documents_in cs in
    All-from_get_or (λ list. All (λ d. d < all) (docs_of list)) (joined_wide cs).lists []
    (λ t within.
    let below = All-weaker (λ d. d < 0 + all) (λ d. d < all) (λ d lt. omega (arith, lt)) (docs_of (joined_list (parts_behind 0 cs t))) (behind-below 0 cs t good) in
    subst (λ (list : List Posting). All (λ d. d < all) (docs_of list)) (sym (lists-are_joined cs t)) below)
