use Rattle.std.proofs.Common.{◌≡◌, ℕ, ◌+◌, ◌<◌, List, ◌∷◌, length, drop, get_or, ap, ◌∙◌, sym, subst, add-one}
use Rattle.std.proofs.Math.Seq.{drop-cons}
use Rattle.std.proofs.lemmas.List.{drop-drop}

-- what holds of one list that a source gives holds of each
pub given : {S : Type 0} (gives : S → List ℕ → Type 0) → ((s : S) (xs ys : List ℕ) → gives s xs → gives s ys → xs ≡ ys)
    → (P : List ℕ → Type 0) (s : S) → (ys : List ℕ) × gives s ys × P ys → (ys : List ℕ) → gives s ys → P ys
given gives one P s (xs, g, p) ys h = subst P (one s xs ys g h) p

-- the next number and those behind it
pub next : (ys : List ℕ) (k : ℕ) → k < length ys → drop k ys ≡ get_or ys k 0 ∷ drop (k + 1) ys
next ys k lt = drop-cons ys k 0 lt ∙ ap (λ n. get_or ys k 0 ∷ drop n ys) (sym (add-one k))

-- a source that gives what is behind some numbers gives the next
pub gives-next : {S : Type 0} (gives : S → List ℕ → Type 0) (s : S) (ys : List ℕ) (k : ℕ) → k < length ys → gives s (drop k ys)
    → gives s (get_or ys k 0 ∷ drop (k + 1) ys)
gives-next gives s ys k lt h = subst (gives s) (next ys k lt) h

-- passing over so many more
pub gives-behind : {S : Type 0} (gives : S → List ℕ → Type 0) (s : S) (ys : List ℕ) (k n : ℕ) → gives s (drop n (drop k ys)) → gives s (drop (k + n) ys)
gives-behind gives s ys k n h = subst (gives s) (drop-drop n k ys) h
