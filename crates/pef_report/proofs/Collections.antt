-- Generated collections are well formed.
use Rattle.std.proofs.Common.{◌≡◌, refl, ap, ℕ, zero, suc, ◌+◌, ◌*◌, ◌%◌, ◌^◌, ◌<◌, ◌≤◌, List, [], ◌∷◌, length, arith}
use Rattle.std.specs.List.{All, range_with_len}
use Rattle.std.proofs.lemmas.List.Elements.{All-nil, All-cons, All-map}
use Rattle.std.proofs.lemmas.List.FromFn.{length-map-range_with_len}
use Rattle.collection_model.specs.FormatNumbers.{FormatNumbers}
use Rattle.collection_model.specs.Collection.{Posting, IsPostingList}
use Rattle.pef_report.specs.Generated.{state_behind, list_drawn, gap_of, lists_drawn, generated}
use Rattle.pef_report.specs.Laws.{GeneratedAreWellFormed}
use Rattle.pef_report.proofs.Drawn.{drawn-is_list}

lists-are_lists : (format : FormatNumbers) (n : ℕ) → 8 * n ≤ format.most_sum → (i s more : ℕ) → All (IsPostingList format n) (lists_drawn n i s more)
unfolding lists_drawn
lists-are_lists format n room i s zero = All-nil (IsPostingList format n)
lists-are_lists format n room i s (suc more) =
    let list : List Posting = list_drawn n (gap_of i) s in
    let behind : ℕ = state_behind s (1 + length list) in
    All-cons (IsPostingList format n) list (lists_drawn n (i + 1) behind more) (drawn-is_list format (gap_of i) s n room)
    (lists-are_lists format n room (i + 1) behind more)

lists-length : (n i s more : ℕ) → length (lists_drawn n i s more) ≡ more
unfolding lists_drawn
lists-length n i s zero = refl
lists-length n i s (suc more) = ap suc (lists-length n (i + 1) (state_behind s (1 + length (list_drawn n (gap_of i) s))) more)

pub generated-well_formed : GeneratedAreWellFormed
unfolding generated
generated-well_formed format seed n t documents room terms = record {
  documents = documents;
  terms = omega (arith, lists-length n 0 seed t);
  lists = lists-are_lists format n room 0 seed t;
  size_each = length-map-range_with_len (λ d. 1 + d % 1000) 0 n;
  sizes = All-map (λ s. s < 2 ^ 32) (λ d. 1 + d % 1000) (range_with_len 0 n) (λ k d lt. omega arith);
}

-- the lists to come, where there is one: it and the rest
pub lists-next : (n i s left more : ℕ) → left ≡ more + 1
    → lists_drawn n i s left ≡ list_drawn n (gap_of i) s ∷ lists_drawn n (i + 1) (state_behind s (1 + length (list_drawn n (gap_of i) s))) more
unfolding lists_drawn
lists-next n i s zero more e = absurd (omega arith)
lists-next n i s (suc left) more e =
    let same : left ≡ more = omega arith in
    ap (λ m. list_drawn n (gap_of i) s ∷ lists_drawn n (i + 1) (state_behind s (1 + length (list_drawn n (gap_of i) s))) m) same

-- and where there is none
pub lists-over : (n i s left : ℕ) → left ≡ 0 → lists_drawn n i s left ≡ []
unfolding lists_drawn
lists-over n i s zero e = refl
lists-over n i s (suc left) e = absurd (omega arith)
