-- That n numbers below n, no two the same, are the new ids of n documents.
use Rattle.std.proofs.Common.{◌≡◌, ◌≢◌, sym, inl, inr, ◌∙◌, subst, ℕ, ◌<◌, true, eqb, List, [], ◌∷◌, ◌++◌, length, arith}
use Rattle.std.specs.Prelude.{AllPairs}
use Rattle.std.specs.List.{All, list_any, IsDistinct}
use Rattle.std.proofs.lemmas.Bool.{cases_Bool, cases_lt, eqb-true}
use Rattle.std.proofs.lemmas.Bool.Decides.{Decides-eqb}
use Rattle.std.proofs.lemmas.Cmp.{nat_eq_equiv}
use Rattle.std.proofs.lemmas.List.{length_push, get_or_default}
use Rattle.std.proofs.lemmas.List.Elements.{All-push}
use Rattle.std.proofs.lemmas.Map.Keys.{IsDistinct-push}
use Rattle.std.proofs.lemmas.Map.Made.{IsDistinct-from_AllPairs}
use Rattle.std.proofs.lemmas.Map.Steps.{length-le_from_distinct_below}
use Rattle.std.proofs.lemmas.Map.Views.{Contains-from_any}
use Rattle.remap.specs.NewIds.{AreNewIds}

-- a number below n that is none of them would be one too many
all-there : (n e : ℕ) (ids : List ℕ) → length ids ≡ n → All (λ x. x < n) ids → IsDistinct eqb ids → e < n → list_any (eqb e) ids ≡ true
all-there n e ids count below distinct within = elim (cases_Bool (list_any (eqb e) ids)) as (λ _. list_any (eqb e) ids ≡ true) [
  | inl there ↦ there
  | inr not_there ↦
      (let more : IsDistinct eqb (ids ++ e ∷ []) = IsDistinct-push nat_eq_equiv ids e distinct not_there in
      let all : All (λ x. x < n) (ids ++ e ∷ []) = All-push (λ x. x < n) ids e below within in
      let few = length-le_from_distinct_below (ids ++ e ∷ []) n more (λ q any.
      let c = Contains-from_any eqb-true q (ids ++ e ∷ []) any in
      subst (λ (x : ℕ). x < n) c.2 (all c.0 q c.1)) in
      let l = length_push ids e in
      absurd (omega arith))
]

pub ids-new_ids : (n : ℕ) (ids : List ℕ) → length ids ≡ n → All (λ x. x < n) ids → AllPairs (λ a b. a ≢ b) ids → AreNewIds ids
ids-new_ids n ids count below apart = record {
  below = λ k d within. let h = below k d within in omega arith;
  each = λ e within. Contains-from_any eqb-true e ids (all-there n e ids count below (IsDistinct-from_AllPairs Decides-eqb ids apart) (omega arith));
  once = λ a b a_in b_in same. elim (cases_lt a b) as (λ _. a ≡ b) [
    | inl lt ↦ absurd (apart a b 0 lt b_in same)
    | inr ge ↦ elim (cases_lt b a) as (λ _. a ≡ b) [
      | inl lt ↦ absurd (apart b a 0 lt a_in (sym same))
      | inr le ↦ omega arith
    ]
  ];
}

-- no two new ids are the same
pub new_ids-apart : (ids : List ℕ) → AreNewIds ids → AllPairs (λ a b. a ≢ b) ids
new_ids-apart ids are i j d lt within same =
    let a = get_or_default ids i d 0 (omega arith) in
    let b = get_or_default ids j d 0 within in
    let e : i ≡ j = are.once i j (omega arith) within (sym a ∙ same ∙ b) in
    omega arith
