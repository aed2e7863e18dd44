use Rattle.std.proofs.Common.{◌≡◌, refl, sym, ◌∙◌, ℕ, ◌-◌, ◌≤◌, ◌<◌, List, length, get_or, replicate, arith}
use Rattle.std.proofs.lemmas.List.{length-append, append-nil, length-replicate, get_or_append_left, get_or-append_right, get_or-replicate}
use Rattle.cost_windows.specs.Windows.{filled_up}

-- a list that is filled up is as long as was wanted
pub filled-length : (n : ℕ) (xs : List ℕ) → length xs ≤ n → length (filled_up n xs) ≡ n
filled-length n xs l =
    let tail = get_or xs (length xs - 1) 0 in
    omega (arith, length-append xs (replicate (n - length xs) tail), length-replicate {A = ℕ} (n - length xs) tail, l)

-- it begins with what it was
pub filled-prefix : (n : ℕ) (xs : List ℕ) (k : ℕ) → k < length xs → get_or (filled_up n xs) k 0 ≡ get_or xs k 0
filled-prefix n xs k l = get_or_append_left xs (replicate (n - length xs) (get_or xs (length xs - 1) 0)) 0 k l

-- and goes on with its last number
pub filled-rest : (n : ℕ) (xs : List ℕ) (k : ℕ) → length xs ≤ k → k < n → get_or (filled_up n xs) k 0 ≡ get_or xs (length xs - 1) 0
filled-rest n xs k l m =
    let tail = get_or xs (length xs - 1) 0 in
    get_or-append_right xs (replicate (n - length xs) tail) (length xs) k 0 refl l ∙ get_or-replicate {A = ℕ} (n - length xs) (k - length xs) tail 0 (omega arith)

-- so it stands still from its last number on
pub filled-last : (n : ℕ) (xs : List ℕ) (k : ℕ) → 0 < length xs → length xs ≤ k → k < n → get_or (filled_up n xs) k 0 ≡ get_or (filled_up n xs) (length xs - 1) 0
filled-last n xs k some l m = filled-rest n xs k l m ∙ sym (filled-prefix n xs (length xs - 1) (omega arith))

-- a list that is long enough is not filled up
pub filled-full : (n : ℕ) (xs : List ℕ) → n ≤ length xs → filled_up n xs ≡ xs
filled-full n xs l =
    let none : n - length xs ≡ 0 = omega arith in
    rw none (append-nil xs)
