-- Lemmas on what lists contain.
use Rattle.std.proofs.Common.{◌≡◌, refl, sym, ap, inl, inr, ◌∙◌, subst, ◌⊎◌, ℕ, zero, suc, ◌<◌, List, [], ◌∷◌, map, get_or, arith}
use Rattle.std.specs.Prelude.{Contains, AllPairs}
use Rattle.std.specs.List.{All}
use Rattle.std.proofs.lemmas.List.{length-map, get_or-map}
use Rattle.std.proofs.lemmas.List.Elements.{Contains-get_or}

module _ {X : Type 0} where
  pub contains-here : (x : X) (xs : List X) → Contains (x ∷ xs) x
  contains-here x xs = (0, omega arith, refl)

  pub contains-there : (y : X) (xs : List X) (x : X) → Contains xs x → Contains (y ∷ xs) x
  contains-there y xs x h = let w = h.1 in (suc h.0, omega arith, h.2)

  pub contains-cases : (y : X) (xs : List X) (x : X) → Contains (y ∷ xs) x → (y ≡ x) ⊎ Contains xs x
  contains-cases y xs x (zero, w, e) = inl e
  contains-cases y xs x (suc k, w, e) = inr (k, omega arith, e)

  pub contains-nil : (x : X) → Contains [] x → ⊥
  contains-nil x h = let w = h.1 in absurd (omega arith)

  pub all-contained : (P : X → Type 0) (xs : List X) → ((x : X) → Contains xs x → P x) → All P xs
  all-contained P xs each k d within = each (get_or xs k d) (Contains-get_or xs k d within)

  -- lists in which a key rises and that contain the same are one
  pub one-by_key : (key : X → ℕ) (xs ys : List X) → AllPairs (λ a b. key a < key b) xs → AllPairs (λ a b. key a < key b) ys → ((x : X) → Contains xs x → Contains ys x) → ((y : X) → Contains ys y → Contains xs y) → xs ≡ ys
  one-by_key key [] [] rx ry to from = refl
  one-by_key key [] (y ∷ ys) rx ry to from = absurd (contains-nil y (from y (contains-here y ys)))
  one-by_key key (x ∷ xs) [] rx ry to from = absurd (contains-nil x (to x (contains-here x xs)))
  one-by_key key (x ∷ xs) (y ∷ ys) rx ry to from =
      let x-below : (z : X) → Contains xs z → key x < key z = λ z c. let w = c.1 in subst (λ (z : X). key x < key z) c.2 (rx 0 (suc c.0) z (omega arith) (omega arith)) in
      let y-below : (z : X) → Contains ys z → key y < key z = λ z c. let w = c.1 in subst (λ (z : X). key y < key z) c.2 (ry 0 (suc c.0) z (omega arith) (omega arith)) in
      let same : x ≡ y = elim (contains-cases y ys x (to x (contains-here x xs))) as (λ _. x ≡ y) [
        | inl e ↦ sym e
        | inr c ↦ elim (contains-cases x xs y (from y (contains-here y ys))) as (λ _. x ≡ y) [
          | inl e ↦ e
          | inr d ↦ (let a = y-below x c in let b = x-below y d in absurd (omega arith))
        ]
      ] in
      let key-same : key x ≡ key y = ap key same in
      let tail-x : AllPairs (λ a b. key a < key b) xs = λ i j d lt within. rx (suc i) (suc j) d (omega arith) (omega arith) in
      let tail-y : AllPairs (λ a b. key a < key b) ys = λ i j d lt within. ry (suc i) (suc j) d (omega arith) (omega arith) in
      let rest : xs ≡ ys = one-by_key key xs ys tail-x tail-y
      (λ z c. elim (contains-cases y ys z (to z (contains-there x xs z c))) as (λ _. Contains ys z) [
        | inl e ↦ (let a = x-below z c in let b : key y ≡ key z = ap key e in absurd (omega arith))
        | inr d ↦ d
      ])
      (λ z c. elim (contains-cases x xs z (from z (contains-there y ys z c))) as (λ _. Contains xs z) [
        | inl e ↦ (let a = y-below z c in let b : key x ≡ key z = ap key e in absurd (omega arith))
        | inr d ↦ d
      ]) in
      λ i. same i ∷ rest i

module _ {X Y : Type 0} (f : X → Y) where
  pub contains-map : (xs : List X) (x : X) → Contains xs x → Contains (map f xs) (f x)
  contains-map xs x c =
      let w = c.1 in
      let l = length-map xs f in
      (c.0, omega arith, get_or-map f xs c.0 x (f x) w ∙ ap f c.2)

  pub contains-from_map : (xs : List X) (y : Y) → Contains (map f xs) y → (x : X) × Contains xs x × (f x ≡ y)
  contains-from_map [] y c = absurd (contains-nil y c)
  contains-from_map (x ∷ xs) y c = elim (contains-cases (f x) (map f xs) y c) as (λ _. (z : X) × Contains (x ∷ xs) z × (f z ≡ y)) [
    | inl e ↦ (x, contains-here x xs, e)
    | inr d ↦ (let r = contains-from_map xs y d in (r.0, contains-there x xs r.0 r.1, r.2))
  ]
