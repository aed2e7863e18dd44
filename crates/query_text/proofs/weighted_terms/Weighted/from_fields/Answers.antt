use Rattle.std.proofs.Common.{◌≡◌, ◌∙◌, ap, sym, subst, ℕ, List, map, length}
use Rattle.std.specs.List.{zip}
use Rattle.std.proofs.lemmas.List.{length-map}
use Rattle.std.proofs.lemmas.List.Sums.{list_all-from_AllPass}
use Rattle.query_text.specs.TermSet.{set_of}
use Rattle.query_text.specs.Weights.{is_weight, weight_of, AreWeights}
use Rattle.query_text.proofs.WeightSums.{zip-map, set-weighs}
use Rattle.query_text.proofs.weighted_terms.Weighted.from_fields.Goals as goal

pub invariant_of-result : goal.invariant_of-result
invariant_of-result c =
    let fields : List (ℕ × ℕ) = c.args.fields.now in
    let terms : List ℕ = set_of (map (λ (f : ℕ × ℕ). f.0) fields) in
    let weights : c.in_ok-weights.weights.items ≡ map (weight_of fields) terms = c.in_ok-weights.ensures ∙ ap (map (weight_of fields)) (c.as_slice.ensures.value ∙ c.in_ok-terms.ensures) in (
      ap length weights ∙ length-map terms (weight_of fields) ∙ sym (ap length c.in_ok-terms.ensures),
      subst AreWeights (sym weights) (set-weighs fields c.requires.few (list_all-from_AllPass (λ (f : ℕ × ℕ). is_weight f.1) fields c.requires.weights)),
    )

pub returns : goal.returns
returns c =
    let fields : List (ℕ × ℕ) = c.args.fields.now in
    let terms : List ℕ = set_of (map (λ (f : ℕ × ℕ). f.0) fields) in
    let weights : c.in_ok-weights.weights.items ≡ map (weight_of fields) terms = c.in_ok-weights.ensures ∙ ap (map (weight_of fields)) (c.as_slice.ensures.value ∙ c.in_ok-terms.ensures) in
    (λ i. zip (c.in_ok-terms.ensures i) (weights i)) ∙ zip-map (weight_of fields) terms
