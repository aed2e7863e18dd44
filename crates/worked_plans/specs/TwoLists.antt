-- The documents below n, each had once but the last, which is a block of its own; and document 0,
-- had five times.
use Rattle.std.proofs.Common.{◌≡◌, refl, sym, ◌∙◌, subst, ℕ, ◌+◌, ◌-◌, ◌^◌, ◌<◌, ◌≤◌, List, [], ◌∷◌, ◌++◌, length, get_or, replicate, arith, length-append}
use Rattle.std.specs.List.{All, range_with_len}
use Rattle.std.specs.List.Sorted.{IsStrictlyIncreasing}
use Rattle.std.proofs.lemmas.List.{length-replicate}
use Rattle.std.proofs.lemmas.List.Elements.{All-cons, All-nil, All-append, All-from_get_or, All-replicate}
use Rattle.std.proofs.lemmas.List.FromFn.{length-range_with_len, get_or-range_with_len}
use Rattle.collection_model.specs.Collection.{Posting, docs_of, freqs_of, postings_of}
use Rattle.collection_model.proofs.Lists.{docs-of_postings, freqs-of_postings}
use Rattle.part_cost.proofs.Numbers.{rising-range}
use Rattle.cursor_api.specs.NextGeq.{IsCursorList}
use Rattle.cursor_api.specs.Postings.{postings-length}
use Rattle.block_max.specs.Blocks.{BlockList, IsBlockList}

-- the frequencies of the longer list
abbrev pub long_freqs : ℕ → List ℕ
long_freqs n = replicate (n - 1) 1 ++ 9 ∷ []

abbrev pub long_list : ℕ → List Posting
long_list n = postings_of (range_with_len 0 n) (long_freqs n)

abbrev pub short_list : List Posting
short_list = record { doc = 0; freq = 5 } ∷ []

-- both lists with the ends of their blocks
abbrev pub two_lists : ℕ → List BlockList
two_lists n = record {
  list = long_list n;
  ends = (n - 1) ∷ n ∷ [];
} ∷ record { list = short_list; ends = 1 ∷ [] } ∷ []

pub same-length : (n : ℕ) → 2 ≤ n → length (range_with_len 0 n) ≡ length (long_freqs n)
same-length n some =
    let ones : List ℕ = replicate (n - 1) 1 in
    let nine : List ℕ = 9 ∷ [] in
    let a = length-range_with_len 0 n in
    let b = length-append ones nine in
    let c = length-replicate {A = ℕ} (n - 1) 1 in
    a ∙ sym (b ∙ (let count : length ones + length nine ≡ n = omega arith in count))

pub docs-are : (n : ℕ) → 2 ≤ n → range_with_len 0 n ≡ docs_of (long_list n)
docs-are n some = sym (docs-of_postings (range_with_len 0 n) (long_freqs n) (same-length n some))

pub freqs-are : (n : ℕ) → 2 ≤ n → long_freqs n ≡ freqs_of (long_list n)
freqs-are n some = sym (freqs-of_postings (range_with_len 0 n) (long_freqs n) (same-length n some))

range-below : (n m : ℕ) → n ≤ m → All (λ d. d < m) (range_with_len 0 n)
range-below n m le = All-from_get_or (λ d. d < m) (range_with_len 0 n) 0 (λ k within.
    let all : length (range_with_len 0 n) ≡ n = length-range_with_len 0 n in
    let below : k < n = omega arith in
    let read : get_or (range_with_len 0 n) k 0 ≡ 0 + k = get_or-range_with_len 0 n k 0 below in
    omega arith)

-- all documents of the longer list are below n
pub long-below : (n : ℕ) → 2 ≤ n → All (λ d. d < n) (docs_of (long_list n))
long-below n some = subst (All (λ d. d < n)) (docs-are n some) (range-below n n (omega arith))

all-freqs : (P : ℕ → Type 0) (n : ℕ) → P 1 → P 9 → All P (long_freqs n)
all-freqs P n one nine = All-append P (replicate (n - 1) 1) (9 ∷ []) (All-replicate P (n - 1) 1 one) (All-cons P 9 [] nine (All-nil P))

pub long-is : (n : ℕ) → 2 ≤ n → n < 4294967295 → IsCursorList (long_list n)
long-is n some few = record {
  rising = subst IsStrictlyIncreasing (docs-are n some) (rising-range n);
  docs = subst (All (λ d. d < 4294967295)) (docs-are n some) (range-below n 4294967295 (omega arith));
  not_zero = subst (All (λ f. 1 ≤ f)) (freqs-are n some) (all-freqs (λ f. 1 ≤ f) n (omega arith) (omega arith));
  fit = subst (All (λ f. f < 2 ^ 32)) (freqs-are n some) (all-freqs (λ f. f < 2 ^ 32) n (omega arith) (omega arith));
}

one : (P : ℕ → Type 0) (x : ℕ) → P x → All P (x ∷ [])
one P x is = All-cons P x [] is (All-nil P)

pub short-is : IsCursorList short_list
short-is = record {
  rising = λ k within. let lt : k + 1 < 1 = within in absurd (omega arith);
  docs = one (λ d. d < 4294967295) 0 (omega arith);
  not_zero = one (λ f. 1 ≤ f) 5 (omega arith);
  fit = one (λ f. f < 2 ^ 32) 5 (omega arith);
}

pub two-cut : (n : ℕ) → 2 ≤ n → n < 4294967295 → All IsBlockList (two_lists n)
two-cut n some few =
    let count : length (long_list n) ≡ n = postings-length (range_with_len 0 n) (long_freqs n) (same-length n some) ∙ length-range_with_len 0 n in
    All-cons IsBlockList (record { list = long_list n; ends = (n - 1) ∷ n ∷ [] }) (record { list = short_list; ends = 1 ∷ [] } ∷ [])
    (record { cursor_list = long-is n some few; partition = (omega arith, (omega arith, sym count)) })
    (All-cons IsBlockList (record { list = short_list; ends = 1 ∷ [] }) [] (record { cursor_list = short-is; partition = (omega arith, refl) }) (All-nil IsBlockList))
