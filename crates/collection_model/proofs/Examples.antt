-- Two small collections, which are well formed.
use Rattle.std.proofs.Common.{refl, List, [], ◌∷◌, ℕ, ◌^◌, ◌<◌, ◌≤◌, lit≤, lit<, arith, rules}
use Rattle.std.proofs.lemmas.List.Elements.{All-nil, All-cons, All-from_recursion}
use Rattle.collection_model.specs.FormatNumbers.{format_one}
use Rattle.std.specs.List.Sorted.{IsStrictlyIncreasing}
use Rattle.collection_model.specs.Collection.{Posting, Collection, IsPostingList, WellFormed}

abbrev pub two_postings : List Posting
two_postings = record { doc = 0; freq = 1 } ∷ record { doc = 2; freq = 5 } ∷ []

-- three documents of sizes 4, 0 and 7, and one list
abbrev pub small : Collection
small = record { documents = 3; lists = two_postings ∷ []; sizes = 4 ∷ 0 ∷ 7 ∷ [] }

-- two documents of sizes 1 and 1, and three lists, of which the second is empty
abbrev pub three : Collection
three = record { documents = 2; lists = (record { doc = 0; freq = 1 } ∷ []) ∷ [] ∷ (record { doc = 1; freq = 3 } ∷ []) ∷ []; sizes = 1 ∷ 1 ∷ [] }

small-rising : IsStrictlyIncreasing (0 ∷ 2 ∷ [])
small-rising = search rules

one-rising : (d : ℕ) → IsStrictlyIncreasing (d ∷ [])
one-rising d k within = absurd (omega (arith, within))

-- these collections are well formed
pub small-well_formed : WellFormed format_one small
small-well_formed = record {
  documents = lit≤ tt;
  terms = lit≤ tt;
  lists = All-cons (IsPostingList format_one 3) two_postings [] (record {
    rising = small-rising;
    in_range = All-from_recursion (λ d. d < 3) (0 ∷ 2 ∷ []) (lit< tt, (lit< tt, tt));
    not_zero = All-from_recursion (λ f. 1 ≤ f) (1 ∷ 5 ∷ []) (lit≤ tt, (lit≤ tt, tt));
    fit = All-from_recursion (λ f. f < 2 ^ 32) (1 ∷ 5 ∷ []) (lit< tt, (lit< tt, tt));
    sum_within = lit≤ tt;
  }) (All-nil (IsPostingList format_one 3));
  size_each = refl;
  sizes = All-from_recursion (λ s. s < 2 ^ 32) (4 ∷ 0 ∷ 7 ∷ []) (lit< tt, (lit< tt, (lit< tt, tt)));
}

single : (n d f : ℕ) → d < n → 1 ≤ f → f < 2 ^ 32 → IsPostingList format_one n (record { doc = d; freq = f } ∷ [])
single n d f below some fits = record {
  rising = one-rising d;
  in_range = All-cons (λ e. e < n) d [] below (All-nil (λ e. e < n));
  not_zero = All-cons (λ g. 1 ≤ g) f [] some (All-nil (λ g. 1 ≤ g));
  fit = All-cons (λ g. g < 2 ^ 32) f [] fits (All-nil (λ g. g < 2 ^ 32));
  sum_within = omega arith;
}

none : (n : ℕ) → IsPostingList format_one n []
none n = record {
  rising = λ k within. absurd (omega (arith, within));
  in_range = All-nil (λ e. e < n);
  not_zero = All-nil (λ g. 1 ≤ g);
  fit = All-nil (λ g. g < 2 ^ 32);
  sum_within = lit≤ tt;
}

pub three-well_formed : WellFormed format_one three
three-well_formed = record {
  documents = lit≤ tt;
  terms = lit≤ tt;
  lists = All-from_recursion (IsPostingList format_one 2) three.lists (single 2 0 1 (lit< tt) (lit≤ tt) (lit< tt), (none 2, (single 2 1 3 (lit< tt) (lit≤ tt) (lit< tt), tt)));
  size_each = refl;
  sizes = All-from_recursion (λ s. s < 2 ^ 32) (1 ∷ 1 ∷ []) (lit< tt, (lit< tt, tt));
}
