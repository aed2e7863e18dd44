-- The first posting of a joined list whose document is at least d.
use Rattle.std.proofs.Common.{◌≡◌, refl, sym, ap, ◌∙◌, ℕ, suc, ◌+◌, ◌-◌, ◌<◌, ◌≤◌, List, [], ◌∷◌, length, get_or, drop, true, false, Bool, cond, Some, inl, inr, drop-cons, arith}
use Rattle.std.specs.Prelude.{Option, None, nat_le}
use Rattle.std.specs.Option.{option_map, option_or, is_some}
use Rattle.std.specs.List.{All}
use Rattle.std.proofs.lemmas.Bool.{cases_Bool, leb-true, le-leb, leb-false, lt-leb}
use Rattle.std.proofs.lemmas.List.Elements.{All-head, All-tail, All-get_or}
use Rattle.std.proofs.Math.ListN.{drop_of_length-le}
use Rattle.std.proofs.lemmas.List.Folds.{find-append}
use Rattle.collection_model.specs.Collection.{Posting, Collection, docs_of, list_of, first_at_least}
use Rattle.segments.specs.Joined.{shifted, joined_list}
use Rattle.segments.specs.Laws.{IsInRange}
use Rattle.index_reading.specs.declared.joined.Segment.{Segment}
use Rattle.index_reading.specs.JoinedSegments.{lists_in}

abbrev pub pair_of : Posting → ℕ × ℕ
pair_of p = (p.doc, p.freq)

-- a posting counted on
abbrev counted : ℕ → Posting → Posting
counted first p = record { doc = first + p.doc; freq = p.freq }

reached-alike : (first d doc : ℕ) → nat_le d (first + doc) ≡ nat_le (d - first) doc
reached-alike first d doc = elim (cases_Bool (nat_le (d - first) doc)) as (λ _. nat_le d (first + doc) ≡ nat_le (d - first) doc) [
  | inl there ↦ (let h = leb-true (d - first) doc there in le-leb d (first + doc) (omega (arith, h)) ∙ sym there)
  | inr below ↦ (let h = leb-false (d - first) doc below in lt-leb d (first + doc) (omega (arith, h)) ∙ sym below)
]

-- the first posting of a list that is counted on is that of the list, counted on
first-counted : (first d : ℕ) (list : List Posting) → first_at_least (shifted first list) d ≡ option_map (counted first) (first_at_least list (d - first))
first-counted first d [] = refl
first-counted first d (p ∷ list) = ap (λ b. cond b (Some (counted first p)) (first_at_least (shifted first list) d)) (reached-alike first d p.doc) ∙ by (nat_le (d - first) p.doc) (first-counted first d list)
  where
    by : (b : Bool) → first_at_least (shifted first list) d ≡ option_map (counted first) (first_at_least list (d - first))
        → cond b (Some (counted first p)) (first_at_least (shifted first list) d) ≡ option_map (counted first) (cond b (Some p) (first_at_least list (d - first)))
    by true rest = refl
    by false rest = rest

-- none is found where all documents lie before
none-from : (n d : ℕ) (list : List Posting) → n ≤ d → All (λ x. x < n) (docs_of list) → first_at_least list d ≡ None
none-from n d [] past below = refl
none-from n d (p ∷ list) past below =
    let mine : p.doc < n = All-head (λ x. x < n) p.doc (docs_of list) below in
    ap (λ b. cond b (Some p) (first_at_least list d)) (lt-leb d p.doc (omega (arith, mine))) ∙ none-from n d list past (All-tail (λ x. x < n) p.doc (docs_of list) below)

-- what is found is one of the list
pub found-below : (first m d : ℕ) (list : List Posting) (found : ℕ × ℕ) → All (λ x. x < m) (docs_of (shifted first list)) → option_map pair_of (first_at_least list d) ≡ Some found → first + found.0 < m
found-below first m d [] found below is = absurd cc
found-below first m d (p ∷ list) found below is = by (nat_le d p.doc) (found-below first m d list found (All-tail (λ x. x < m) (first + p.doc) (docs_of (shifted first list)) below)) is
  where
    by : (b : Bool) → (option_map pair_of (first_at_least list d) ≡ Some found → first + found.0 < m) → option_map pair_of (cond b (Some p) (first_at_least list d)) ≡ Some found → first + found.0 < m
    by true rest here =
        let same : pair_of p ≡ found = cc in
        omega (arith, All-head (λ x. x < m) (first + p.doc) (docs_of (shifted first list)) below, ap (λ (e : ℕ × ℕ). e.0) same)
    by false rest later = rest later

-- ---- in a segment

pub nothing-left : (c : Collection) (t first d : ℕ) → t < length c.lists → IsInRange c → c.documents ≤ d - first → option_map pair_of (first_at_least (shifted first (list_of c t)) d) ≡ None
nothing-left c t first d within good past =
    let below = All-get_or (λ list. All (λ x. x < c.documents) (docs_of list)) c.lists t [] within good in
    ap (option_map pair_of) (first-counted first d (list_of c t) ∙ ap (option_map (counted first)) (none-from c.documents (d - first) (list_of c t) past below))

pub found-counted : (first d : ℕ) (list : List Posting) (found freq : ℕ) → option_map pair_of (first_at_least list (d - first)) ≡ Some (found, freq)
    → option_map pair_of (first_at_least (shifted first list) d) ≡ Some (first + found, freq)
found-counted first d list found freq is = ap (option_map pair_of) (first-counted first d list) ∙ by (first_at_least list (d - first)) is
  where
    by : (o : Option Posting) → option_map pair_of o ≡ Some (found, freq) → option_map pair_of (option_map (counted first) o) ≡ Some (first + found, freq)
    by None is = absurd cc
    by (Some p) is = (let same : pair_of p ≡ (found, freq) = cc in ap (λ (e : ℕ × ℕ). Some (first + e.0, e.1)) same)

pub none-counted : (first d : ℕ) (list : List Posting) → option_map pair_of (first_at_least list (d - first)) ≡ None → option_map pair_of (first_at_least (shifted first list) d) ≡ None
none-counted first d list is = ap (option_map pair_of) (first-counted first d list) ∙ by (first_at_least list (d - first)) is
  where
    by : (o : Option Posting) → option_map pair_of o ≡ None → option_map pair_of (option_map (counted first) o) ≡ None
    by None is = refl
    by (Some p) is = absurd cc

-- ---- in segments that follow

-- that of the segments from one on
abbrev pub sought : List Segment → ℕ → ℕ → Option (ℕ × ℕ)
sought segments t d = option_map pair_of (first_at_least (joined_list (lists_in segments t)) d)

from-first : (segment : Segment) (segments : List Segment) (t d : ℕ)
    → sought (segment ∷ segments) t d ≡ option_or (option_map pair_of (first_at_least (shifted segment.first (list_of segment.index.collection t)) d)) (sought segments t d)
from-first segment segments t d =
    ap (option_map pair_of) (find-append (λ p. nat_le d p.doc) (shifted segment.first (list_of segment.index.collection t)) (joined_list (lists_in segments t)))
    ∙ by (first_at_least (shifted segment.first (list_of segment.index.collection t)) d) (first_at_least (joined_list (lists_in segments t)) d)
  where
    by : (a b : Option Posting) → option_map pair_of (option_or a b) ≡ option_or (option_map pair_of a) (option_map pair_of b)
    by None b = refl
    by (Some p) b = refl

sought-from : (segments : List Segment) (t d k : ℕ) (segment : Segment) → k < length segments → segment ≡ get_or segments k segment
    → sought (drop k segments) t d ≡ option_or (option_map pair_of (first_at_least (shifted segment.first (list_of segment.index.collection t)) d)) (sought (drop (k + 1) segments) t d)
sought-from segments t d k segment within is =
    let next : suc k ≡ k + 1 = omega arith in
    ap (λ ss. sought ss t d) (drop-cons segments k segment within)
    ∙ from-first (get_or segments k segment) (drop (suc k) segments) t d
    ∙ ap (λ (s : Segment). option_or (option_map pair_of (first_at_least (shifted s.first (list_of s.index.collection t)) d)) (sought (drop (suc k) segments) t d)) (sym is)
    ∙ ap (λ n. option_or (option_map pair_of (first_at_least (shifted segment.first (list_of segment.index.collection t)) d)) (sought (drop n segments) t d)) next

-- a segment that has none leaves it to the later ones
pub passed-by : (segments : List Segment) (t d k : ℕ) (segment : Segment) (found : Option (ℕ × ℕ)) → k < length segments → segment ≡ get_or segments k segment
    → found ≡ option_map pair_of (first_at_least (shifted segment.first (list_of segment.index.collection t)) d) → is_some found ≡ false
    → sought (drop k segments) t d ≡ sought segments t d → sought (drop (k + 1) segments) t d ≡ sought segments t d
passed-by segments t d k segment None within is its none so = ap (λ o. option_or o (sought (drop (k + 1) segments) t d)) its ∙ sym (sought-from segments t d k segment within is) ∙ so
passed-by segments t d k segment (Some e) within is its none so = absurd cc

-- and one that has one has the first
pub found-in : (segments : List Segment) (t d k : ℕ) (segment : Segment) (found : Option (ℕ × ℕ)) → k < length segments → segment ≡ get_or segments k segment
    → found ≡ option_map pair_of (first_at_least (shifted segment.first (list_of segment.index.collection t)) d) → is_some found ≡ true
    → sought (drop k segments) t d ≡ sought segments t d → found ≡ sought segments t d
found-in segments t d k segment None within is its some so = absurd cc
found-in segments t d k segment (Some e) within is its some so = ap (λ o. option_or o (sought (drop (k + 1) segments) t d)) its ∙ sym (sought-from segments t d k segment within is) ∙ so

pub found-none : (segments : List Segment) (t d k : ℕ) → length segments ≤ k → sought (drop k segments) t d ≡ sought segments t d → None ≡ sought segments t d
found-none segments t d k past so = ap (λ ss. sought ss t d) (sym (drop_of_length-le segments past)) ∙ so
