-- The greatest of some numbers, one number at a time.
use Rattle.std.proofs.Common.{◌≡◌, refl, ℕ, ◌∷◌, ◌++◌, [], List, max, arith}
use Rattle.collection_model.specs.Collection.{greatest}

-- with one number more it is that number, or the greatest before it
pub greatest-push : (xs : List ℕ) (x : ℕ) → greatest (xs ++ x ∷ []) ≡ max x (greatest xs)
greatest-push [] x = refl
greatest-push (y ∷ ys) x =
    let more : greatest (ys ++ x ∷ []) ≡ max x (greatest ys) = greatest-push ys x in
    omega (arith, more)
