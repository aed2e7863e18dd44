-- Lemmas on the greatest value of those that pass a test.
use Rattle.std.proofs.Common.{◌≡◌, refl, ap, ℕ, zero, suc, ◌<◌, ◌≤◌, max, Bool, true, false, cond, List, [], ◌∷◌, ◌++◌, map, length, get_or, set, arith}
use Rattle.std.specs.List.{filter}
use Rattle.collection_model.specs.Collection.{greatest}

module _ {A : Type 0} (f : A → ℕ) (p : A → Bool) where
  -- the greatest value of those that pass
  abbrev pub most : List A → ℕ
  most xs = greatest (map f (filter p xs))

  -- what one of them adds
  abbrev pub given : A → ℕ
  given x = cond (p x) (f x) 0

  pick : (b : Bool) (x : A) (ys : List A) → greatest (map f (cond b (x ∷ ys) ys)) ≡ max (cond b (f x) 0) (greatest (map f ys))
  pick true x ys = refl
  pick false x ys = omega arith

  pub most-cons : (x : A) (xs : List A) → most (x ∷ xs) ≡ max (given x) (most xs)
  most-cons x xs = pick (p x) x (filter p xs)

  -- one more at the end
  pub most-push : (xs : List A) (x : A) → most (xs ++ x ∷ []) ≡ max (most xs) (given x)
  most-push [] x = omega (arith, most-cons x [])
  most-push (y ∷ xs) x = omega (arith, most-cons y (xs ++ x ∷ []), most-push xs x, most-cons y xs)

  split : (b : Bool) (m n g : ℕ) → m ≡ max n g → cond b m 0 ≡ max (cond b n 0) (cond b g 0)
  split true m n g is = is
  split false m n g is = refl

  -- one of them that becomes greater
  pub most-set : (xs : List A) (i : ℕ) (new d : A) (g : ℕ) → i < length xs → p new ≡ p (get_or xs i d) → f new ≡ max (f (get_or xs i d)) g → most (set xs i new) ≡ max (most xs) (cond (p (get_or xs i d)) g 0)
  most-set [] i new d g within same more = absurd (omega arith)
  most-set (x ∷ xs) zero new d g within same more =
      let a : given new ≡ cond (p x) (f new) 0 = ap (λ (b : Bool). cond b (f new) 0) same in
      omega (arith, most-cons new xs, most-cons x xs, a, split (p x) (f new) (f x) g more)
  most-set (x ∷ xs) (suc i) new d g within same more = omega (arith, most-cons x (set xs i new), most-set xs i new d g (omega arith) same more, most-cons x xs)

  -- where none passes
  pub most-none : (xs : List A) → ((k : ℕ) (d : A) → k < length xs → p (get_or xs k d) ≡ false) → most xs ≡ 0
  most-none [] none = refl
  most-none (x ∷ xs) none =
      let here : given x ≡ 0 = ap (λ (b : Bool). cond b (f x) 0) (none 0 x (omega arith)) in
      omega (arith, most-cons x xs, most-none xs (λ k d within. none (suc k) d (omega arith)))

  -- one that passes has no more
  pub most-some : (xs : List A) (k : ℕ) (d : A) → k < length xs → p (get_or xs k d) ≡ true → f (get_or xs k d) ≤ most xs
  most-some [] k d within passes = absurd (omega arith)
  most-some (x ∷ xs) zero d within passes =
      let here : given x ≡ f x = ap (λ (b : Bool). cond b (f x) 0) passes in
      omega (arith, most-cons x xs)
  most-some (x ∷ xs) (suc k) d within passes = omega (arith, most-cons x xs, most-some xs k d (omega arith) passes)

  below : (b : Bool) (m n : ℕ) → m ≤ n → cond b m 0 ≤ n
  below true m n le = le
  below false m n le = omega arith

  -- it is at most the greatest of all
  pub most-le : (xs : List A) → most xs ≤ greatest (map f xs)
  most-le [] = omega arith
  most-le (x ∷ xs) = omega (arith, most-cons x xs, most-le xs, below (p x) (f x) (f x) (omega arith))

-- what one test and value find, another finds that agrees
pub most-of_equal : {A : Type 0} (f : A → ℕ) (p q : A → Bool) (xs : List A) → ((k : ℕ) (d : A) → k < length xs → p (get_or xs k d) ≡ q (get_or xs k d)) → most f p xs ≡ most f q xs
most-of_equal f p q [] same = refl
most-of_equal f p q (x ∷ xs) same =
    let here : given f p x ≡ given f q x = ap (λ (b : Bool). cond b (f x) 0) (same 0 x (omega arith)) in
    omega (arith, most-cons f p x xs, most-cons f q x xs, most-of_equal f p q xs (λ k d within. same (suc k) d (omega arith)))

-- each number is at most the greatest
pub greatest-le : (xs : List ℕ) (k : ℕ) → get_or xs k 0 ≤ greatest xs
greatest-le [] k = omega arith
greatest-le (x ∷ xs) zero = omega arith
greatest-le (x ∷ xs) (suc k) = omega (arith, greatest-le xs k)

pub greatest-below : (xs : List ℕ) (most : ℕ) → ((k : ℕ) → k < length xs → get_or xs k 0 ≤ most) → greatest xs ≤ most
greatest-below [] most le = omega arith
greatest-below (x ∷ xs) most le =
    let here : x ≤ most = le 0 (omega arith) in
    omega (arith, greatest-below xs most (λ k within. le (suc k) (omega arith)))
