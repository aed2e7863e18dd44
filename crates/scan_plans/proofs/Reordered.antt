-- Lemmas on lists in another order.
use Rattle.std.proofs.Common.{◌≡◌, refl, sym, ◌∙◌, ℕ, ◌<◌, Bool, true, false, List, length, arith}
use Rattle.std.specs.List.{list_all, range_with_len}
use Rattle.std.specs.List.Sorted.{IsPermutation}
use Rattle.std.proofs.lemmas.List.Elements.{filter_agree}
use Rattle.std.proofs.lemmas.List.Sorted.{IsPermutation-sym, All-permutation, length_permutation}
use Rattle.std.proofs.lemmas.List.Sums.{AllPass-from_list_all, list_all-from_AllPass}
use Rattle.collection_model.specs.Collection.{Posting}
use Rattle.scan_plans.specs.Matches.{has_doc, in_all}
use Rattle.scan_plans.specs.Scan.{in_each}
use Rattle.scan_plans.proofs.Steps.{in_all-is}

-- two answers are the same where each is yes if the other is
pub same-answer : (a b : Bool) → (a ≡ true → b ≡ true) → (b ≡ true → a ≡ true) → a ≡ b
same-answer true b to from = sym (to refl)
same-answer false true to from = from refl
same-answer false false to from = refl

all-of : {X : Type 0} (p : X → Bool) (xs ys : List X) → IsPermutation xs ys → list_all p xs ≡ true → list_all p ys ≡ true
all-of p xs ys moved is = list_all-from_AllPass p ys (All-permutation (λ x. p x ≡ true) xs ys moved (AllPass-from_list_all p xs is))

all-same : {X : Type 0} (p : X → Bool) (xs ys : List X) → IsPermutation xs ys → list_all p xs ≡ list_all p ys
all-same p xs ys moved = same-answer (list_all p xs) (list_all p ys) (all-of p xs ys moved) (all-of p ys xs (IsPermutation-sym xs ys moved))

-- the documents that are in all of some lists do not depend on the order of the lists
pub in_all-same : (n : ℕ) (lists moved : List (List Posting)) → IsPermutation lists moved → 0 < length lists → in_all n lists ≡ in_all n moved
in_all-same n lists moved order some =
    let l = length_permutation lists moved order in
    in_all-is n lists some ∙ filter_agree (λ d. in_each d lists) (λ d. in_each d moved) (λ d. all-same (has_doc d) lists moved order) (range_with_len 0 n) ∙ sym (in_all-is n moved (omega arith))
