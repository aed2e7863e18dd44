-- The postings that a state draws, and where a list of them ends.
use Rattle.std.proofs.Common.{◌≡◌, refl, sym, ap, ◌∙◌, ℕ, zero, suc, ◌+◌, ◌-◌, ◌*◌, ◌/◌, ◌%◌, ◌^◌, ◌<◌, ◌≤◌, nat_lt, cond, List, [], ◌∷◌, ◌++◌, inl, inr, map, get_or, sum, arith, subst, below_more, append-nil}
use Rattle.std.specs.List.{All, filter, range_with_len}
use Rattle.std.specs.List.Sorted.{IsStrictlyIncreasing}
use Rattle.std.proofs.lemmas.Bool.{lt-ltb, le-ltb, cases_lt}
use Rattle.std.proofs.lemmas.List.Elements.{All-map, All-from_get_or, filter-append}
use Rattle.std.proofs.lemmas.List.FromFn.{length-map-range_with_len, get_or-map-range_with_len}
use Rattle.std.proofs.lemmas.List.Sums.{sum_by-cons}
use Rattle.std.proofs.lemmas.Simd.{map-map}
use Rattle.collection_model.specs.FormatNumbers.{FormatNumbers}
use Rattle.collection_model.specs.Collection.{Posting, docs_of, freqs_of, IsPostingList}
use Rattle.pef_report.specs.Generated.{draw, document_drawn, posting_drawn, list_drawn}

-- the first k postings
abbrev pub postings_drawn : ℕ → ℕ → ℕ → List Posting
postings_drawn g s k = map (posting_drawn g s) (range_with_len 0 k)

more-is_more : (d r : ℕ) → d + 1 ≤ d + 1 + r
more-is_more d r = omega arith

-- each document lies past the one before it
document-next : (g s j : ℕ) → document_drawn g s j + 1 ≤ document_drawn g s (suc j)
unfolding document_drawn
document-next g s j = more-is_more (document_drawn g s j) (draw s (suc j) / 8 % g)

-- k postings on, documents are k greater at least
document-later : (g s j k i : ℕ) → j + k ≡ i → document_drawn g s j + k ≤ document_drawn g s i
document-later g s j zero i e = let same : j ≡ i = omega arith in omega (arith, ap (document_drawn g s) same)
document-later g s j (suc k) zero e = absurd (omega arith)
document-later g s j (suc k) (suc i) e =
    let before : document_drawn g s j + k ≤ document_drawn g s i = document-later g s j k i (omega arith) in
    omega (arith, before, document-next g s i)

-- where the documents below n end
pub record EndsAt (g s n k : ℕ) : Type 0 where
  pub below : (j : ℕ) → j < k → document_drawn g s j < n
  pub beyond : n ≤ document_drawn g s k

-- at n postings at most
ends-within : (g s n k : ℕ) → EndsAt g s n k → k ≤ n
ends-within g s n zero e = omega arith
ends-within g s n (suc k) e =
    let far : document_drawn g s 0 + k ≤ document_drawn g s k = document-later g s 0 k k (omega arith) in
    omega (arith, far, e.below k (omega arith))

-- they end somewhere
ends-from : (g s n m : ℕ) → ((j : ℕ) → j < m → document_drawn g s j < n) → (left : ℕ) → m + left ≡ n → (k : ℕ) × EndsAt g s n k
ends-from g s n m below zero e =
    let far : document_drawn g s 0 + m ≤ document_drawn g s m = document-later g s 0 m m (omega arith) in
    (m, record { below = below; beyond = omega (arith, far) })
ends-from g s n m below (suc left) e =
    elim (cases_lt (document_drawn g s m) n) [
      | inl lt ↦ ends-from g s n (m + 1) (below_more _ _ below lt) left (omega arith)
      | inr ge ↦ (m, record { below = below; beyond = ge })
    ]

ends : (g s n : ℕ) → (k : ℕ) × EndsAt g s n k
ends g s n = ends-from g s n 0 (λ j lt. absurd (omega arith)) n (omega arith)

-- postings below n are kept
kept-all : (g s n a m : ℕ) → ((j : ℕ) → j < a + m → document_drawn g s j < n)
    → filter (λ p. nat_lt p.doc n) (map (posting_drawn g s) (range_with_len a m)) ≡ map (posting_drawn g s) (range_with_len a m)
kept-all g s n a zero below = refl
kept-all g s n a (suc m) below =
    let rest : List Posting = filter (λ p. nat_lt p.doc n) (map (posting_drawn g s) (range_with_len (a + 1) m)) in
    ap (λ b. cond b (posting_drawn g s a ∷ rest) rest) (lt-ltb (document_drawn g s a) n (below a (omega arith)))
    ∙ ap (λ l. posting_drawn g s a ∷ l) (kept-all g s n (a + 1) m (λ j lt. below j (omega arith)))

-- and others are not
kept-none : (g s n a m : ℕ) → ((j : ℕ) → a ≤ j → n ≤ document_drawn g s j)
    → filter (λ p. nat_lt p.doc n) (map (posting_drawn g s) (range_with_len a m)) ≡ []
kept-none g s n a zero beyond = refl
kept-none g s n a (suc m) beyond =
    let rest : List Posting = filter (λ p. nat_lt p.doc n) (map (posting_drawn g s) (range_with_len (a + 1) m)) in
    ap (λ b. cond b (posting_drawn g s a ∷ rest) rest) (le-ltb (document_drawn g s a) n (beyond a (omega arith)))
    ∙ kept-none g s n (a + 1) m (λ j le. beyond j (omega arith))

-- numbers in two runs
range-split : (a k m n b : ℕ) → k + m ≡ n → a + k ≡ b → range_with_len a n ≡ range_with_len a k ++ range_with_len b m
range-split a zero m n b e f =
    let length_same : n ≡ m = omega arith in
    let start_same : a ≡ b = omega arith in
    λ i. range_with_len (start_same i) (length_same i)
range-split a (suc k) m zero b e f = absurd (omega arith)
range-split a (suc k) m (suc n) b e f = ap (λ l. a ∷ l) (range-split (a + 1) k m n b (omega arith) (omega arith))

map-append : (f : ℕ → Posting) (xs ys : List ℕ) → map f (xs ++ ys) ≡ map f xs ++ map f ys
map-append f [] ys = refl
map-append f (x ∷ xs) ys = ap (λ l. f x ∷ l) (map-append f xs ys)

-- the list is the postings before its end
pub list-ends : (g s n k : ℕ) → EndsAt g s n k → list_drawn n g s ≡ postings_drawn g s k
unfolding list_drawn
list-ends g s n k e =
    let within : k ≤ n = ends-within g s n k e in
    let split : range_with_len 0 n ≡ range_with_len 0 k ++ range_with_len k (n - k) = range-split 0 k (n - k) n k (omega arith) (omega arith) in
    let prefix : filter (λ p. nat_lt p.doc n) (postings_drawn g s k) ≡ postings_drawn g s k = kept-all g s n 0 k (λ j lt. e.below j (omega arith)) in
    let later : (j : ℕ) → k ≤ j → n ≤ document_drawn g s j = λ j le. omega (arith, document-later g s k (j - k) j (omega arith), e.beyond) in
    let back : filter (λ p. nat_lt p.doc n) (map (posting_drawn g s) (range_with_len k (n - k))) ≡ [] = kept-none g s n k (n - k) later in
    ap (λ l. filter (λ p. nat_lt p.doc n) (map (posting_drawn g s) l)) split
    ∙ ap (filter (λ p. nat_lt p.doc n)) (map-append (posting_drawn g s) (range_with_len 0 k) (range_with_len k (n - k)))
    ∙ filter-append (λ p. nat_lt p.doc n) (postings_drawn g s k) (map (posting_drawn g s) (range_with_len k (n - k)))
    ∙ (λ i. prefix i ++ back i)
    ∙ append-nil (postings_drawn g s k)

-- how often a term occurs in the document of posting j
abbrev freq_drawn : ℕ → ℕ → ℕ
freq_drawn s j = 1 + draw s (suc j) % 8

freq-small : (s j : ℕ) → freq_drawn s j ≤ 8
freq-small s j = omega arith

sum-small : (f : ℕ → ℕ) → ((j : ℕ) → f j ≤ 8) → (a k : ℕ) → sum (map f (range_with_len a k)) ≤ 8 * k
sum-small f small a zero = omega arith
sum-small f small a (suc k) =
    omega (arith, sum_by-cons (λ x. x) (f a) (map f (range_with_len (a + 1) k)), small a, sum-small f small (a + 1) k)

documents-drawn : (g s k : ℕ) → docs_of (postings_drawn g s k) ≡ map (document_drawn g s) (range_with_len 0 k)
documents-drawn g s k = map-map (λ p. p.doc) (posting_drawn g s) (range_with_len 0 k)

freqs-drawn : (g s k : ℕ) → freqs_of (postings_drawn g s k) ≡ map (freq_drawn s) (range_with_len 0 k)
freqs-drawn g s k = map-map (λ p. p.freq) (posting_drawn g s) (range_with_len 0 k)

rising-drawn : (g s k : ℕ) → IsStrictlyIncreasing (map (document_drawn g s) (range_with_len 0 k))
rising-drawn g s k i within =
    let few : i + 1 < k = omega (arith, length-map-range_with_len (document_drawn g s) 0 k) in
    omega (
      arith,
      get_or-map-range_with_len (document_drawn g s) 0 k i i 0 (omega arith) (omega arith),
      get_or-map-range_with_len (document_drawn g s) 0 k (i + 1) (i + 1) 0 few (omega arith),
      document-later g s i 1 (i + 1) (omega arith),
    )

below-drawn : (g s n k : ℕ) → ((j : ℕ) → j < k → document_drawn g s j < n) → All (λ d. d < n) (map (document_drawn g s) (range_with_len 0 k))
below-drawn g s n k below =
    All-from_get_or (λ d. d < n) (map (document_drawn g s) (range_with_len 0 k)) 0
    (λ i within. let few : i < k = omega (arith, length-map-range_with_len (document_drawn g s) 0 k) in
    omega (arith, get_or-map-range_with_len (document_drawn g s) 0 k i i 0 few (omega arith), below i few))

-- postings that end are a list of a format in which eight occurrences in each document are not too many
postings-are_list : (format : FormatNumbers) (g s n k : ℕ) → 8 * n ≤ format.most_sum → EndsAt g s n k → IsPostingList format n (postings_drawn g s k)
postings-are_list format g s n k room e =
    let within : k ≤ n = ends-within g s n k e in
    let each : (P : ℕ → Type 0) → ((j : ℕ) → P (freq_drawn s j)) → All P (freqs_of (postings_drawn g s k)) =
    λ P holds. subst (All P) (sym (freqs-drawn g s k)) (All-map P (freq_drawn s) (range_with_len 0 k) (λ i d lt. holds (get_or (range_with_len 0 k) i d))) in
    record {
      rising = subst IsStrictlyIncreasing (sym (documents-drawn g s k)) (rising-drawn g s k);
      in_range = subst (All (λ d. d < n)) (sym (documents-drawn g s k)) (below-drawn g s n k e.below);
      not_zero = each (λ f. 1 ≤ f) (λ j. omega arith);
      fit = each (λ f. f < 2 ^ 32) (λ j. omega (arith, freq-small s j));
      sum_within = omega (arith, ap sum (freqs-drawn g s k), sum-small (freq_drawn s) (freq-small s) 0 k);
    }

-- what is drawn is such a list
pub drawn-is_list : (format : FormatNumbers) (g s n : ℕ) → 8 * n ≤ format.most_sum → IsPostingList format n (list_drawn n g s)
drawn-is_list format g s n room =
    let end = ends g s n in
    rw (list-ends g s n end.0 end.1) (postings-are_list format g s n end.0 room end.1)
