use Rattle.std.proofs.Common.{◌≡◌, refl, ap, ℕ, zero, suc, ◌-◌, List, [], ◌∷◌, ◌++◌, length, take, arith}

-- what is held of a line that goes on
pub held-more : (m : ℕ) (line more : List ℕ) → take m line ++ take (m - length (take m line)) more ≡ take m (line ++ more)
held-more zero line more = refl
held-more (suc m) [] more = let e : suc m - 0 ≡ suc m = omega arith in rw e refl
held-more (suc m) (b ∷ line) more =
    let e : suc m - length (b ∷ take m line) ≡ m - length (take m line) = omega arith in
    rw e (ap (λ xs. b ∷ xs) (held-more m line more))
