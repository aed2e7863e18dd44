-- What the plans ask of a query holds of terms and weights that are not refused.
use Rattle.std.proofs.Common.{◌≡◌, refl, sym, ◌∙◌, subst, ℕ, ◌^◌, ◌≤◌, List, length, map, true, false, arith}
use Rattle.std.specs.Prelude.{Bool, if◌then◌else◌, not, ◌==◌, nat_lt, Option, Some, None, sum}
use Rattle.std.specs.List.{All, list_all}
use Rattle.std.proofs.lemmas.Bool.{eqb-true, ltb-true}
use Rattle.std.proofs.lemmas.Option.{none-some}
use Rattle.std.proofs.lemmas.List.{length-map}
use Rattle.std.proofs.lemmas.List.Sums.{AllPass-from_list_all}
use Rattle.std.proofs.lemmas.List.Elements.{All-weaker}
use Rattle.collection_model.specs.Collection.{Posting, Collection, list_of}
use Rattle.scan_plans.specs.Matches.{AreBelow}
use Rattle.scan_plans.specs.TopQuery.{IsTopQuery}
use Rattle.scan_plans.proofs.AskedLists.{is-query as lists-asked}
use Rattle.pefidx_c.specs.declared.status.Status.{Status}
use Rattle.pefidx_c.specs.declared.status.Status.TheVariants.{NoPlan, TooManyTerms, NoTerm, BadWeights}
use Rattle.pefidx_c.specs.Asked.{lists_of, most_asked, are_weights, last_plan, refusal, top_refusal}

all-pass : (late many there good : Bool) (x y z w : Status) → (if late then Some x else if many then Some y else if not there then Some z else if not good then Some w else None) ≡ None → good ≡ true
all-pass true many there good x y z w h = absurd (none-some x (sym h))
all-pass false true there good x y z w h = absurd (none-some y (sym h))
all-pass false false false good x y z w h = absurd (none-some z (sym h))
all-pass false false true false x y z w h = absurd (none-some w (sym h))
all-pass false false true true x y z w h = refl

-- weights that are not refused
good-weights : (c : Collection) (plan : ℕ) (terms weights : List ℕ) → top_refusal c plan terms weights ≡ None → are_weights (length terms) weights ≡ true
good-weights c plan terms weights h =
    all-pass (nat_lt last_plan plan) (nat_lt most_asked (length terms)) (list_all (λ t. nat_lt t (length c.lists)) terms) (are_weights (length terms) weights) NoPlan TooManyTerms NoTerm BadWeights h

three-tests : (a b c : Bool) → (if not a then false else if not b then false else c) ≡ true → (a ≡ true) × (b ≡ true) × (c ≡ true)
three-tests false b c h = cc
three-tests true false c h = cc
three-tests true true c h = (refl, refl, h)

-- cursors at the starts of the lists of these terms are a query with these weights
pub is-query : {C : Type 0} {list_at : C → List Posting} {place_at : C → ℕ} {made cursors : List C} {n : ℕ} (c : Collection) (plan : ℕ) (terms weights : List ℕ) → top_refusal c plan terms weights ≡ None
    → length terms ≤ 1024 → AreBelow c.documents (lists_of c terms) → map list_at made ≡ lists_of c terms → All (λ x. place_at x ≡ 0) made → cursors ≡ made → n ≡ c.documents
    → IsTopQuery list_at place_at n cursors weights
is-query {C} {list_at} {place_at} {made} {cursors} {n} c plan terms weights asked few below so start same count =
    let all : length (lists_of c terms) ≡ length terms = length-map terms (list_of c) in
    let good = three-tests (length weights == length terms) (list_all (λ w. nat_lt 0 w) weights) (nat_lt (sum weights) (2 ^ 26)) (good-weights c plan terms weights asked) in
    let some : All (λ w. 1 ≤ w) weights = All-weaker (λ w. nat_lt 0 w ≡ true) (λ w. 1 ≤ w) (λ w e. let more = ltb-true 0 w e in omega (arith, more)) weights (AllPass-from_list_all (λ w. nat_lt 0 w) weights good.1) in
    lists-asked list_at place_at n (lists_of c terms) weights made cursors (omega (arith, all, few)) (subst (λ m. AreBelow m (lists_of c terms)) (sym count) below) (eqb-true (length weights) (length terms) good.0 ∙ sym all) some
    (ltb-true (sum weights) (2 ^ 26) good.2) so start same

-- nor are the terms
pub terms-asked : (c : Collection) (plan : ℕ) (terms weights : List ℕ) → top_refusal c plan terms weights ≡ None → refusal c terms ≡ None
terms-asked c plan terms weights h =
    by (nat_lt last_plan plan) (nat_lt most_asked (length terms)) (list_all (λ t. nat_lt t (length c.lists)) terms) (if not (are_weights (length terms) weights) then Some BadWeights else None) h
  where
    by : (late many there : Bool) (rest : Option Status) → (if late then Some NoPlan else if many then Some TooManyTerms else if not there then Some NoTerm else rest) ≡ None
        → (if many then Some TooManyTerms else if not there then Some NoTerm else None) ≡ None
    by true many there rest h = absurd (none-some NoPlan (sym h))
    by false true there rest h = absurd (none-some TooManyTerms (sym h))
    by false false false rest h = absurd (none-some NoTerm (sym h))
    by false false true rest h = refl
