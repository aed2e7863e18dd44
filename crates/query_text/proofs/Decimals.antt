use Rattle.std.proofs.Common.{◌≡◌, ℕ, ◌+◌, ◌-◌, ◌*◌, ◌<◌, ◌≤◌, ◌==◌, Bool, true, false, cond, ◌&&◌, Some, None, List, [], ◌∷◌, length, take, drop, get_or, refl, ap, sym, ◌∙◌, arith, nat_lt, nat_le}
use Rattle.std.specs.List.{fold, list_all}
use Rattle.std.specs.Char.{is_ascii_digit}
use Rattle.std.proofs.lemmas.List.{take-append-drop, take_all}
use Rattle.std.proofs.lemmas.List.Sums.{fold_more, fold-append}
use Rattle.std.proofs.lemmas.Bool.{lt-leb, le-leb, lt-ltb, eqb-false}
use Rattle.query_text.specs.Numbers.{decimal_value, number_of}

-- a digit behind a number
abbrev then_digit : ℕ → ℕ → ℕ
then_digit n d = 10 * n + (d - 48)

-- the value of one more digit
pub value-more : (ds : List ℕ) (i : ℕ) → i < length ds → decimal_value (take (i + 1) ds) ≡ 10 * decimal_value (take i ds) + (get_or ds i 0 - 48)
value-more ds i lt = fold_more then_digit 0 ds i 0 lt

-- digits behind a number never make it less
grows : (n : ℕ) (ds : List ℕ) → n ≤ fold then_digit n ds
grows n [] = omega arith
grows n (d ∷ ds) = omega (arith, grows (10 * n + (d - 48)) ds)

-- so the value of a prefix is at most that of the whole
value-prefix : (ds : List ℕ) (i : ℕ) → decimal_value (take i ds) ≤ decimal_value ds
value-prefix ds i =
    let whole : fold then_digit 0 ds ≡ fold then_digit (decimal_value (take i ds)) (drop i ds) =
    ap (fold then_digit 0) (sym (take-append-drop i ds)) ∙ fold-append then_digit 0 (take i ds) (drop i ds) in
    omega (arith, grows (decimal_value (take i ds)) (drop i ds), whole)

-- where one test of three fails
none_of : (a b c : Bool) (v : ℕ) → c ≡ false → cond (a && b && c) (Some v) None ≡ None
none_of true true c v h = ap (λ t. cond t (Some v) None) h
none_of true false c v h = refl
none_of false b c v h = refl

-- where three tests pass
some_of : (a b c : Bool) (v : ℕ) → a ≡ true → b ≡ true → c ≡ true → cond (a && b && c) (Some v) None ≡ Some v
some_of true true c v h k l = ap (λ t. cond t (Some v) None) l
some_of true false c v h k l = cc
some_of false b c v h k l = cc

-- a field whose prefix spells too great a number is none
pub number-too_great : (ds : List ℕ) (i value : ℕ) → i < length ds → value ≡ decimal_value (take i ds) →
    4294967295 < 10 * value + (get_or ds i 0 - 48) → None ≡ number_of ds
number-too_great ds i value lt spells great =
    let over : 4294967295 < decimal_value ds = omega (arith, value-more ds i lt, value-prefix ds (i + 1), spells) in
    let no : nat_le (decimal_value ds) 4294967295 ≡ false = lt-leb _ _ over in
    sym (none_of (nat_lt 0 (length ds)) (list_all is_ascii_digit ds) (nat_le (decimal_value ds) 4294967295) (decimal_value ds) no)

-- a field of digits whose value is small enough is that number
pub number-whole : (ds : List ℕ) (i value : ℕ) → length ds ≤ i → (length ds == 0) ≡ false → list_all is_ascii_digit (take i ds) ≡ true →
    value ≡ decimal_value (take i ds) → value < 4294967296 → Some value ≡ number_of ds
number-whole ds i value end filled digits spells small =
    let whole : take i ds ≡ ds = take_all i ds end in
    let e : value ≡ decimal_value ds = spells ∙ ap decimal_value whole in
    let nonzero : length ds ≡ 0 → ⊥ = eqb-false _ _ filled in
    let some : nat_lt 0 (length ds) ≡ true = lt-ltb _ _ (omega arith) in
    let all : list_all is_ascii_digit ds ≡ true = ap (list_all is_ascii_digit) (sym whole) ∙ digits in
    let fits : nat_le (decimal_value ds) 4294967295 ≡ true = le-leb _ _ (omega (arith, e)) in
    ap Some e ∙ sym (some_of (nat_lt 0 (length ds)) (list_all is_ascii_digit ds) (nat_le (decimal_value ds) 4294967295) (decimal_value ds) some all fits)
