-- The greatest step of rising numbers, one more at a time.
use Rattle.std.proofs.Common.{◌≡◌, ℕ, ◌+◌, ◌-◌, List, [], ◌∷◌, ◌++◌, length, get_or, max, refl, sym, ap, ◌∙◌, arith}
use Rattle.std.proofs.Math.Nat.{max_comm}
use Rattle.collection_model.specs.Collection.{greatest}
use Rattle.collection_model.specs.Sequences.{steps_from}
use Rattle.part_cost.specs.Span.{past}

greatest-more : (xs : List ℕ) (x : ℕ) → greatest (xs ++ x ∷ []) ≡ max (greatest xs) x
greatest-more [] x = omega arith
greatest-more (y ∷ ys) x = ap (max y) (greatest-more ys x) ∙ omega arith

-- one more than the last number, or where the numbers begin
abbrev end_of : ℕ → List ℕ → ℕ
end_of s [] = s
end_of s (x ∷ xs) = end_of (x + 1) xs

end_of-last : (s x : ℕ) (xs : List ℕ) → end_of s (x ∷ xs) ≡ get_or (x ∷ xs) (length xs) 0 + 1
end_of-last s x [] = refl
end_of-last s x (y ∷ ys) = end_of-last (x + 1) y ys

end_of-past : (ys : List ℕ) → end_of 0 ys ≡ past ys (length ys)
end_of-past [] = refl
end_of-past (x ∷ xs) = end_of-last 0 x xs

steps-more : (s : ℕ) (ys : List ℕ) (y : ℕ) → steps_from s (ys ++ y ∷ []) ≡ steps_from s ys ++ (y + 1 - end_of s ys) ∷ []
steps-more s [] y = refl
steps-more s (x ∷ xs) y = ap (λ zs. (x + 1 - s) ∷ zs) (steps-more (x + 1) xs y)

pub greatest-step : (ys : List ℕ) (y k least steps most : ℕ) → length ys ≡ k → least ≡ past ys k → steps ≡ greatest (steps_from 0 ys) → most ≡ max (y + 1 - least) steps
    → most ≡ greatest (steps_from 0 (ys ++ y ∷ []))
greatest-step ys y k least steps most count before so_far made =
    let begins : least ≡ end_of 0 ys = before ∙ ap (past ys) (sym count) ∙ sym (end_of-past ys) in
    made ∙ max_comm (y + 1 - least) steps ∙ ap (λ n. max n (y + 1 - least)) so_far ∙ ap (λ n. max (greatest (steps_from 0 ys)) (y + 1 - n)) begins
    ∙ sym (ap greatest (steps-more 0 ys y) ∙ greatest-more (steps_from 0 ys) (y + 1 - end_of 0 ys))
