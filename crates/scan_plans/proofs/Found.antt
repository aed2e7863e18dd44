-- Lemmas on documents that have a score.
use Rattle.std.proofs.Common.{◌≡◌, sym, ap, ◌∙◌, ℕ, ◌*◌, ◌<◌, ◌≤◌, true, false, List, [], length, get_or, arith}
use Rattle.std.specs.Prelude.{◌↔◌}
use Rattle.std.specs.List.{All, list_any, sum_by, zip}
use Rattle.std.proofs.lemmas.Bool.{false≢true, false_from_ne_true, true_from_ne_false}
use Rattle.std.proofs.lemmas.List.{get_or_default}
use Rattle.std.proofs.lemmas.List.Folds.{list_any_at, Any-from_list_any}
use Rattle.std.proofs.lemmas.List.Sums.{sum_by-le, get_or-le-sum_by}
use Rattle.std.proofs.lemmas.Nat.{mul-le}
use Rattle.std.proofs.lemmas.Slice.Zip.{length-zip, get_or-zip}
use Rattle.collection_model.specs.Collection.{Posting}
use Rattle.cursor_api.specs.NextGeq.{IsCursorList}
use Rattle.scan_plans.specs.Matches.{has_doc, freq_of_doc, score}
use Rattle.scan_plans.proofs.Postings.{has-freq, has-no-freq}
use Rattle.scan_plans.proofs.Steps.{share}

module _ (lists : List (List Posting)) (weights : List ℕ) (doc : ℕ) (each : length weights ≡ length lists) where
  score-some : All (λ w. 1 ≤ w) weights → All IsCursorList lists → list_any (has_doc doc) lists ≡ true → 0 < score lists weights doc
  score-some some good is =
      let any = Any-from_list_any (has_doc doc) lists is in
      let k : ℕ = any.0 in
      let within : k < length lists = any.2 in
      let list : List Posting = get_or lists k [] in
      let has : has_doc doc list ≡ true = ap (has_doc doc) (get_or_default lists k [] any.1 within ∙ any.3) ∙ any.4 in
      let freq : 1 ≤ freq_of_doc doc list = has-freq list doc (good k [] within) has in
      let weight : 1 ≤ get_or weights k 0 = some k 0 (omega arith) in
      let pair : share doc (get_or (zip lists weights) k ([], 0)) ≡ get_or weights k 0 * freq_of_doc doc list = ap (share doc) (get_or-zip lists weights k ([], 0) within (omega arith)) in
      let least : share doc (get_or (zip lists weights) k ([], 0)) ≤ sum_by (share doc) (zip lists weights) = get_or-le-sum_by (share doc) (zip lists weights) k ([], 0) (omega (arith, length-zip lists weights)) in
      let product : 1 * 1 ≤ get_or weights k 0 * freq_of_doc doc list = mul-le 1 1 (get_or weights k 0) (freq_of_doc doc list) weight freq in
      let above : 0 < sum_by (share doc) (zip lists weights) = omega arith in
      above

  score-none : list_any (has_doc doc) lists ≡ false → score lists weights doc ≡ 0
  score-none is =
      let nothing : All (λ e. share doc e ≤ 0) (zip lists weights) = λ k d inside.
      let within : k < length lists = omega (arith, length-zip lists weights) in
      let weighed : k < length weights = omega arith in
      let list : List Posting = get_or lists k d.0 in
      let none : has_doc doc list ≡ false = false_from_ne_true (has_doc doc list) (λ has. false≢true (sym is ∙ list_any_at (has_doc doc) lists k d.0 within has)) in
      let freq : get_or weights k d.1 * freq_of_doc doc list ≡ get_or weights k d.1 * 0 = ap (λ (n : ℕ). get_or weights k d.1 * n) (has-no-freq list doc none) in
      let pair : share doc (get_or (zip lists weights) k d) ≡ get_or weights k d.1 * freq_of_doc doc list = ap (share doc) (get_or-zip lists weights k d within weighed) in
      omega arith in
      let total : sum_by (share doc) (zip lists weights) ≤ length (zip lists weights) * 0 = sum_by-le (share doc) 0 (zip lists weights) nothing in
      let zero : sum_by (share doc) (zip lists weights) ≡ 0 = omega arith in
      zero

  -- a document has a score exactly where a list has it
  pub score-found : All (λ w. 1 ≤ w) weights → All IsCursorList lists → (0 < score lists weights doc) ↔ (list_any (has_doc doc) lists ≡ true)
  score-found some good = (
    λ above. true_from_ne_false (list_any (has_doc doc) lists) (λ none. let zero : score lists weights doc ≡ 0 = score-none none in absurd (omega arith)),
    λ is. score-some some good is,
  )
