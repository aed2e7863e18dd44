-- The joined collection of well-formed ones is well formed.
use Rattle.std.proofs.Common.{◌≡◌, refl, sym, ap, ◌∙◌, subst, ℕ, ◌+◌, ◌^◌, ◌<◌, ◌≤◌, List, [], ◌∷◌, ◌++◌, length, length-append, inl, inr, arith}
use Rattle.std.specs.Prelude.{flat_map, sum}
use Rattle.std.specs.List.{All}
use Rattle.std.proofs.lemmas.Bool.{cases_lt}
use Rattle.std.proofs.lemmas.List.{map-append, get_or_past}
use Rattle.std.proofs.lemmas.List.Sums.{sum_by-append, sum_by-cons}
use Rattle.std.proofs.lemmas.List.Elements.{All-append, All-cons, All-head, All-tail, All-get_or, All-from_get_or, All-nil, All-weaker}
use Rattle.std.proofs.lemmas.List.FromFn.{length-map-range_with_len}
use Rattle.collection_model.specs.FormatNumbers.{format_three, most_terms}
use Rattle.collection_model.specs.Collection.{Posting, Collection, IsPostingList, docs_of, freqs_of, list_of}
use Rattle.cursor_api.specs.NextGeq.{IsCursorList}
use Rattle.segments.specs.Joined.{shifted, joined_list, parts_behind, documents_in, most_terms_in, joined_wide, most_joined}
use Rattle.segments.specs.JoinedCursor.{part_of}
use Rattle.segments.specs.Laws.{IsInRange, IsWellFormed, JoinedIsWellFormed}
use Rattle.segments.specs.Totals.{total_at, total_of}
use Rattle.segments.proofs.Follow.{follow-list}
use Rattle.segments.proofs.InRange.{well-in-range}
use Rattle.segments.proofs.JoinedLists.{lists-follow, lists-are_joined, joined-in_range, most-bounded}
use Rattle.segments.proofs.Shifts.{shifted-freqs}

in-range : (c : Collection) → IsWellFormed c → IsInRange c
in-range c (format, good) = well-in-range format c good

-- a list of a collection whose documents are few is the list of a cursor
cursor-list : (c : Collection) (t : ℕ) → IsWellFormed c → c.documents ≤ most_joined → IsCursorList (list_of c t)
cursor-list c t (format, good) few = elim (cases_lt t (length c.lists)) as (λ _. IsCursorList (list_of c t)) [
  | inl within ↦
      let is : IsPostingList format c.documents (list_of c t) = All-get_or (IsPostingList format c.documents) c.lists t [] within good.lists in
      record {
        rising = is.rising;
        docs = All-weaker (λ d. d < c.documents) (λ d. d < 4294967295) (λ d lt. omega (arith, lt, few)) (docs_of (list_of c t)) is.in_range;
        not_zero = is.not_zero;
        fit = is.fit;
      }
  | inr past ↦ subst IsCursorList (sym (get_or_past c.lists t [] past)) (record {
    rising = λ k within. absurd (omega arith);
    docs = All-nil (λ d. d < 4294967295);
    not_zero = All-nil (λ f. 1 ≤ f);
    fit = All-nil (λ f. f < 2 ^ 32);
  })
]

cursor-lists : (n : ℕ) (cs : List Collection) (t : ℕ) → All IsWellFormed cs → n + documents_in cs ≤ most_joined → All (λ p. IsCursorList p.list) (parts_behind n cs t)
cursor-lists n [] t good few = All-nil (λ p. IsCursorList p.list)
cursor-lists n (c ∷ cs) t good few =
    let more : documents_in (c ∷ cs) ≡ c.documents + documents_in cs = sum_by-cons (λ (d : Collection). d.documents) c cs in
    All-cons (λ p. IsCursorList p.list) (part_of n (list_of c t)) (parts_behind (n + c.documents) cs t) (cursor-list c t (All-head IsWellFormed c cs good) (omega (arith, few, more)))
    (cursor-lists (n + c.documents) cs t (All-tail IsWellFormed c cs good) (omega (arith, few, more)))

-- the frequencies of a joined list sum to those of its parts
pub total-joined : (n : ℕ) (cs : List Collection) (t : ℕ) → sum (freqs_of (joined_list (parts_behind n cs t))) ≡ total_of cs t
total-joined n [] t = refl
total-joined n (c ∷ cs) t =
    let later : List Posting = joined_list (parts_behind (n + c.documents) cs t) in
    ap sum (map-append (λ p. p.freq) (shifted n (list_of c t)) later ∙ ap (λ fs. fs ++ freqs_of later) (shifted-freqs n (list_of c t)))
    ∙ sum_by-append (λ f. f) (freqs_of (list_of c t)) (freqs_of later)
    ∙ ap (λ k. total_at t c + k) (total-joined (n + c.documents) cs t)
    ∙ sym (sum_by-cons (total_at t) c cs)

-- each document has a size
size-each : (cs : List Collection) → All IsWellFormed cs → length (flat_map (λ c. c.sizes) cs) ≡ documents_in cs
size-each [] good = refl
size-each (c ∷ cs) good =
    let more : documents_in (c ∷ cs) ≡ c.documents + documents_in cs = sum_by-cons (λ (d : Collection). d.documents) c cs in
    let mine : length c.sizes ≡ c.documents = (All-head IsWellFormed c cs good).1.size_each in
    omega (arith, more, mine, length-append c.sizes (flat_map (λ (d : Collection). d.sizes) cs), size-each cs (All-tail IsWellFormed c cs good))

sizes-fit : (cs : List Collection) → All IsWellFormed cs → All (λ s. s < 2 ^ 32) (flat_map (λ c. c.sizes) cs)
sizes-fit [] good = All-nil (λ s. s < 2 ^ 32)
sizes-fit (c ∷ cs) good =
    All-append (λ s. s < 2 ^ 32) c.sizes (flat_map (λ (d : Collection). d.sizes) cs) (All-head IsWellFormed c cs good).1.sizes (sizes-fit cs (All-tail IsWellFormed c cs good))

pub joined-well_formed : JoinedIsWellFormed
joined-well_formed cs good few sums =
    let all : ℕ = documents_in cs in
    let ranged : All IsInRange cs = All-weaker IsWellFormed IsInRange in-range cs good in
    let wide : Collection = joined_wide cs in
    let many : length wide.lists ≡ most_terms_in cs = length-map-range_with_len (λ t. joined_list (parts_behind 0 cs t)) 0 (most_terms_in cs) in
    let bound : most_terms_in cs ≤ most_terms = most-bounded most_terms cs (All-weaker IsWellFormed (λ c. length c.lists ≤ most_terms) (λ c is. is.1.terms) cs good) in
    record {
      documents = few;
      terms = omega (arith, many, bound);
      lists = All-from_get_or (IsPostingList format_three all) wide.lists []
          (λ t within.
          let list : List Posting = joined_list (parts_behind 0 cs t) in
          let cursor : IsCursorList list = follow-list (parts_behind 0 cs t) (lists-follow cs t ranged few) (cursor-lists 0 cs t good (omega (arith, few))) in
          let below : All (λ d. d < all) (docs_of (list_of wide t)) = All-get_or (λ l. All (λ d. d < all) (docs_of l)) wide.lists t [] within (joined-in_range cs ranged) in
          let is : list_of wide t ≡ list = lists-are_joined cs t in
          subst (IsPostingList format_three all) (sym is) (record {
            rising = cursor.rising;
            in_range = subst (λ l. All (λ d. d < all) (docs_of l)) is below;
            not_zero = cursor.not_zero;
            fit = cursor.fit;
            sum_within = omega (arith, total-joined 0 cs t, sums t);
          }));
      size_each = size-each cs good;
      sizes = sizes-fit cs good;
    }
