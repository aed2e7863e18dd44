-- The list of all documents, each once: it is a posting list of every format.
use Rattle.std.proofs.Common.{◌≡◌, sym, ap, subst, ◌∙◌, ℕ, ◌+◌, ◌^◌, ◌<◌, ◌≤◌, List, [], ◌∷◌, ◌++◌, length, replicate, arith}
use Rattle.std.specs.List.{All, sum, range_with_len}
use Rattle.std.specs.List.Sorted.{IsStrictlyIncreasing}
use Rattle.std.proofs.lemmas.List.{length-replicate, map-id}
use Rattle.std.proofs.lemmas.List.Elements.{All-from_get_or, All-replicate}
use Rattle.std.proofs.lemmas.List.FromFn.{length-range_with_len, map-range_with_len_more, get_or-range_with_len}
use Rattle.std.proofs.lemmas.List.Folds.{sum_by-replicate}
use Rattle.collection_model.specs.FormatNumbers.{FormatNumbers}
use Rattle.collection_model.specs.Collection.{docs_of, freqs_of, postings_of, IsPostingList}
use Rattle.part_cost.proofs.Numbers.{rising-range}
use Rattle.collection_model.proofs.Lists.{docs-of_postings, freqs-of_postings}
use Rattle.part_cost.specs.Formats.{HasRoom}

-- one document more
pub documents-more : (n : ℕ) → range_with_len 0 (n + 1) ≡ range_with_len 0 n ++ n ∷ []
documents-more n =
    let e : 0 + n ≡ n = omega arith in
    sym (map-id (range_with_len 0 (n + 1))) ∙ map-range_with_len_more (λ k. k) 0 n n e ∙ ap (λ ds. ds ++ n ∷ []) (map-id (range_with_len 0 n))

pub every-list : (format : FormatNumbers) (room : HasRoom format) (n : ℕ) → n ≤ format.most_documents → IsPostingList format n (postings_of (range_with_len 0 n) (replicate n 1))
every-list format room n few =
    let docs : List ℕ = range_with_len 0 n in
    let freqs : List ℕ = replicate n 1 in
    let count : length docs ≡ n = length-range_with_len 0 n in
    let same : length docs ≡ length freqs = count ∙ sym (length-replicate n 1) in
    let docs_are : docs ≡ docs_of (postings_of docs freqs) = sym (docs-of_postings docs freqs same) in
    let freqs_are : freqs ≡ freqs_of (postings_of docs freqs) = sym (freqs-of_postings docs freqs same) in
    record {
      rising = subst IsStrictlyIncreasing docs_are (rising-range n);
      in_range = subst (All (λ d. d < n)) docs_are (All-from_get_or (λ d. d < n) docs 0 (λ k within. omega (arith, count, get_or-range_with_len 0 n k 0 (omega arith))));
      not_zero = subst (All (λ f. 1 ≤ f)) freqs_are (All-replicate (λ f. 1 ≤ f) n 1 (omega arith));
      fit = subst (All (λ f. f < 2 ^ 32)) freqs_are (All-replicate (λ f. f < 2 ^ 32) n 1 (omega arith));
      sum_within = subst (λ fs. sum fs ≤ format.most_sum) freqs_are (omega (arith, sum_by-replicate (λ x. x) n 1, room.documents));
    }
