-- Lemmas on one cursor that goes to a document.
use Rattle.std.proofs.Common.{◌≡◌, sym, ap, ◌∙◌, subst, ℕ, ◌+◌, ◌*◌, ◌≤◌, true, false, eqb, List, get_or, Option, Some, None, arith}
use Rattle.std.specs.List.{slice_get}
use Rattle.std.specs.Option.{IfSome, option_eq}
use Rattle.std.proofs.lemmas.Bool.{eqb-true}
use Rattle.std.proofs.lemmas.Option.{get_or_from_slice_get}
use Rattle.collection_model.specs.Collection.{Posting, freqs_of}
use Rattle.cursor_api.specs.NextGeq.{IsCursorAt, next_geq_place}
use Rattle.scan_plans.specs.Matches.{freq_of_doc}
use Rattle.scan_plans.specs.Scan.{doc_at, StandsFrom, HasPassed}
use Rattle.scan_plans.specs.Skips.{StandsWhereItIs, StandsOneLater, StandsAtNextGeq, HasWhereItStands, HasNotWhereItStands}

-- two documents that a test finds the same
pub same-doc : (o : Option ℕ) (d : ℕ) → true ≡ option_eq eqb o (Some d) → o ≡ Some d
same-doc None d is = let h : true ≡ false = is in cc
same-doc (Some e) d is = ap Some (eqb-true e d (sym is))

module _ {X : Type 0} (list : X → List Posting) (place : X → ℕ) where
  -- a cursor that was moved by one place
  pub one-later : StandsOneLater → (doc from : ℕ) (old new : X) → IsCursorAt (list old) (place old) → doc_at (list old) (place old) ≡ Some doc → doc + 1 ≡ from → list new ≡ list old → place new ≡ place old + 1 → StandsFrom from (list new) (place new)
  one-later law doc from old new good is next lists places =
      subst (λ (l : List Posting). StandsFrom from l (place new)) (sym lists)
      (subst (StandsFrom from (list old)) (sym places) (subst (λ (d : ℕ). StandsFrom d (list old) (place old + 1)) next (law (list old) doc (place old) good is)))

  -- one that was moved by `next_geq`
  pub far-later : StandsAtNextGeq → (from : ℕ) (old new : X) → IsCursorAt (list old) (place old) → HasPassed from (list old) (place old) → list new ≡ list old → place new ≡ next_geq_place (list old) (place old) from → StandsFrom from (list new) (place new)
  far-later law from old new good before lists places =
      subst (λ (l : List Posting). StandsFrom from l (place new)) (sym lists) (subst (StandsFrom from (list old)) (sym places) (law (list old) from (place old) good before))

-- one that is not moved
pub stays-there : StandsWhereItIs → (list : List Posting) (from place : ℕ) (o : Option ℕ) → IsCursorAt list place → HasPassed from list place → o ≡ doc_at list place → IfSome o (λ d. from ≤ d) → StandsFrom from list place
stays-there law list from place None good before is above = law list from place good before (λ e here. let same : Option.None ≡ Some e = is ∙ here in cc)
stays-there law list from place (Some d) good before is above = law list from place good before (λ e here. let same : Some d ≡ Some e = is ∙ here in let q : d ≡ e = cc in omega arith)

-- what a list adds whose cursor stands at the document
pub adds-there : HasWhereItStands → (list old : List Posting) (doc place weight freq : ℕ) → IsCursorAt list place → list ≡ old → StandsFrom doc list place → doc_at list place ≡ Some doc → slice_get (freqs_of list) place ≡ Some freq → weight * freq ≡ weight * freq_of_doc doc old
adds-there law list old doc place weight freq good same stands is read =
    let at = law list doc doc place good stands is in
    let value : get_or (freqs_of list) place 0 ≡ freq = get_or_from_slice_get (freqs_of list) place freq 0 read in
    ap (λ (n : ℕ). weight * n) (sym value ∙ sym at.2 ∙ ap (freq_of_doc doc) same)

-- and one whose cursor does not
pub adds-none : HasNotWhereItStands → (list old : List Posting) (doc place weight : ℕ) → IsCursorAt list place → list ≡ old → StandsFrom doc list place → ¬ (doc_at list place ≡ Some doc) → 0 ≡ weight * freq_of_doc doc old
adds-none law list old doc place weight good same stands not =
    let beside = law list doc place good stands not in
    let none : 0 ≡ weight * 0 = omega arith in
    none ∙ ap (λ (n : ℕ). weight * n) (sym beside.1 ∙ ap (freq_of_doc doc) same)
