-- The order 2, 0, 1, whose numbers are new ids.
use Rattle.std.proofs.Common.{◌≡◌, refl, ℕ, zero, suc, ◌<◌, List, [], ◌∷◌, lit<, arith}
use Rattle.std.specs.Prelude.{Contains}
use Rattle.std.proofs.lemmas.List.Elements.{All-from_recursion}
use Rattle.remap.specs.NewIds.{AreNewIds, new_id}

abbrev pub two_zero_one : List ℕ
two_zero_one = 2 ∷ 0 ∷ 1 ∷ []

there : (e : ℕ) → e < 3 → Contains two_zero_one e
there zero within = (1, omega arith, refl)
there (suc zero) within = (2, omega arith, refl)
there (suc (suc zero)) within = (0, omega arith, refl)
there (suc (suc (suc e))) within = absurd (omega arith)

once : (a b : ℕ) → a < 3 → b < 3 → new_id two_zero_one a ≡ new_id two_zero_one b → a ≡ b
once zero zero a_in b_in same = refl
once zero (suc zero) a_in b_in same = let e : ◌≡◌ {A = ℕ} 2 0 = same in absurd (omega arith)
once zero (suc (suc zero)) a_in b_in same = let e : ◌≡◌ {A = ℕ} 2 1 = same in absurd (omega arith)
once (suc zero) zero a_in b_in same = let e : ◌≡◌ {A = ℕ} 0 2 = same in absurd (omega arith)
once (suc zero) (suc zero) a_in b_in same = refl
once (suc zero) (suc (suc zero)) a_in b_in same = let e : ◌≡◌ {A = ℕ} 0 1 = same in absurd (omega arith)
once (suc (suc zero)) zero a_in b_in same = let e : ◌≡◌ {A = ℕ} 1 2 = same in absurd (omega arith)
once (suc (suc zero)) (suc zero) a_in b_in same = let e : ◌≡◌ {A = ℕ} 1 0 = same in absurd (omega arith)
once (suc (suc zero)) (suc (suc zero)) a_in b_in same = refl
once (suc (suc (suc a))) b a_in b_in same = absurd (omega arith)
once a (suc (suc (suc b))) a_in b_in same = absurd (omega arith)

pub small-order : AreNewIds two_zero_one
small-order = record {
  below = All-from_recursion (λ e. e < 3) two_zero_one (lit< tt, (lit< tt, (lit< tt, tt)));
  each = there;
  once = once;
}
