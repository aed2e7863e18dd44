-- The number that the bytes of a text before its first space spell.
use Rattle.std.proofs.Common.{◌≡◌, ℕ, zero, suc, ◌+◌, ◌-◌, ◌*◌, ◌<◌, ◌≤◌, ◌==◌, Bool, true, false, cond, ◌&&◌, not, ◌⊎◌, inl, inr, Some, None, Option, List, [], ◌∷◌, length, take, drop, get_or, refl, ap, sym, subst, ◌∙◌, arith, nat_lt, nat_le}
use Rattle.std.specs.List.{list_all, prefix_len}
use Rattle.std.specs.Char.{is_ascii_digit}
use Rattle.std.proofs.lemmas.List.{take_all, take-take, get_or-take, length-take-le}
use Rattle.std.proofs.lemmas.List.Folds.{list_all_at}
use Rattle.std.proofs.lemmas.List.Sums.{prefix_len_passes, prefix_len_stops, prefix_len-le-length}
use Rattle.std.proofs.lemmas.Bool.{and_parts, both_ways, cases_Bool, leb-true, ne_eqb}
use Rattle.query_text.specs.Lines.{fields, space}
use Rattle.query_text.specs.Numbers.{decimal_value, field_before, number_of, numbers_of}
use Rattle.query_text.proofs.Runs.{fields-first, fields-none, part_from}
use Rattle.query_text.proofs.Decimals.{number-too_great, number-whole}

abbrev pub other : ℕ → Bool
other b = not (b == space)

-- how many bytes stand before the first space
abbrev pub run_of : List ℕ → ℕ
run_of ds = prefix_len other ds

-- the digits so far spell the value so far
pub record DigitsRead (value len : ℕ) (text : List ℕ) : Type 0 where
  pub within : len ≤ length text
  pub digits : list_all is_ascii_digit (take len text) ≡ true
  pub spells : value ≡ decimal_value (take len text)
  pub fits : value < 4294967296

-- a digit is no space
digit-other : (b : ℕ) → is_ascii_digit b ≡ true → other b ≡ true
digit-other b h = let least : 48 ≤ b = leb-true 48 b (and_parts _ _ h).0 in ap not (ne_eqb b space (λ e. omega (arith, e, least)))

-- digits lie before the first space
pub digits-before : (ds : List ℕ) (i : ℕ) → i ≤ length ds → list_all is_ascii_digit (take i ds) ≡ true → i ≤ run_of ds
digits-before ds zero le h = omega arith
digits-before [] (suc i) le h = absurd (omega arith)
digits-before (b ∷ ds) (suc i) le h =
    let both : (is_ascii_digit b ≡ true) × (list_all is_ascii_digit (take i ds) ≡ true) = and_parts _ _ h in
    let e : run_of (b ∷ ds) ≡ 1 + run_of ds = ap (λ t. cond t (1 + run_of ds) 0) (digit-other b both.0) in
    omega (arith, e, digits-before ds i (omega arith) both.1)

-- a byte behind them that is no space lies there too
within-run : (ds : List ℕ) (i : ℕ) → i < length ds → list_all is_ascii_digit (take i ds) ≡ true → other (get_or ds i 0) ≡ true → i < run_of ds
within-run ds i lt digits passes =
    let le : i ≤ run_of ds = digits-before ds i (omega arith) digits in
    let no : run_of ds ≡ i → ⊥ = λ e. let stops : other (get_or ds i 0) ≡ false = ap (λ k. other (get_or ds k 0)) (sym e) ∙ prefix_len_stops other ds 0 (omega (arith, e, lt)) in
    both_ways _ stops passes in
    omega arith

-- digits before a space or the end are all bytes before the first space
pub run-ends : (ds : List ℕ) (value i : ℕ) → DigitsRead value i ds → (i < length ds → (get_or ds i 0 == space) ≡ true) → i ≡ run_of ds
run-ends ds value i r at =
    let le : i ≤ run_of ds = digits-before ds i r.within r.digits in
    let most : run_of ds ≤ length ds = prefix_len-le-length other ds in
    let no : i < run_of ds → ⊥ = λ lt. let passes : other (get_or ds i 0) ≡ true = prefix_len_passes other ds i 0 lt in
    let space_there : (get_or ds i 0 == space) ≡ true = at (omega arith) in
    both_ways _ (ap not space_there) passes in
    omega arith

-- they spell the number
pub run-spells : (ds : List ℕ) (value i : ℕ) → DigitsRead value i ds → i ≡ run_of ds → (i ≡ 0 → ⊥) → Some value ≡ number_of (take (run_of ds) ds)
run-spells ds value i r e some =
    let run : List ℕ = take (run_of ds) ds in
    let same : take i ds ≡ run = ap (λ k. take k ds) e in
    let long : length run ≡ i = ap length (sym same) ∙ length-take-le i ds r.within in
    let whole : take i run ≡ take i ds = take_all i run (omega arith) ∙ sym same in
    number-whole run i value (omega arith) (ne_eqb (length run) 0 (omega (arith, some, long))) (ap (list_all is_ascii_digit) whole ∙ r.digits) (r.spells ∙ ap decimal_value (sym whole)) r.fits

-- where the second test of three fails
none_between : (a b c : Bool) (v : ℕ) → b ≡ false → cond (a && b && c) (Some v) None ≡ None
none_between true true c v h = cc
none_between true false c v h = refl
none_between false b c v h = refl

-- a byte that is no digit, or one that makes the value too great
abbrev pub IsRefused : ℕ → ℕ → Type 0
IsRefused value byte = (is_ascii_digit byte ≡ false) ⊎ (4294967295 < 10 * value + (byte - 48))

-- a text with such a byte is no number
pub number-refused : (ds : List ℕ) (value i : ℕ) → i < length ds → value ≡ decimal_value (take i ds) → IsRefused value (get_or ds i 0) → None ≡ number_of ds
number-refused ds value i lt spells refused =
    elim refused [
      | inl other ↦ sym (none_between (nat_lt 0 (length ds)) (list_all is_ascii_digit ds) (nat_le (decimal_value ds) 4294967295) (decimal_value ds) (list_all_at is_ascii_digit ds i 0 lt other))
      | inr great ↦ number-too_great ds i value lt spells great
    ]

-- nor are the bytes before the first space, where it is among them
pub run-refused : (ds : List ℕ) (value i : ℕ) → DigitsRead value i ds → i < length ds → other (get_or ds i 0) ≡ true → IsRefused value (get_or ds i 0) → None ≡ number_of (take (run_of ds) ds)
run-refused ds value i r lt passes refused =
    let run : List ℕ = take (run_of ds) ds in
    let in_run : i < run_of ds = within-run ds i lt r.digits passes in
    let in_length : i < length run = omega (arith, in_run, length-take-le (run_of ds) ds (prefix_len-le-length other ds)) in
    number-refused run value i in_length (r.spells ∙ ap decimal_value (sym (take-take i (run_of ds) ds (omega (arith, in_run)))))
    (subst (IsRefused value) (sym (get_or-take (run_of ds) ds i 0 in_run)) refused)

-- ---- the first number of a text, behind the spaces that it begins with

module _ (bs rest : List ℕ) (n : ℕ) (count : n ≡ prefix_len (λ b. b == space) bs) (e : rest ≡ take (length bs - n) (drop n bs)) where
  cut : (length rest == 0) ≡ false → numbers_of (fields bs) ≡ field_before (number_of (take (run_of rest) rest)) (numbers_of (fields (drop (run_of rest) rest)))
  cut filled = ap numbers_of (fields-first bs rest (take (run_of rest) rest) (drop (run_of rest) rest) n (run_of rest) count e filled refl refl refl)

  -- there is none
  pub first-none : None ≡ number_of (take (run_of rest) rest) → (numbers_of (fields bs) ≡ Some []) ⊎ (numbers_of (fields bs) ≡ None)
  first-none none =
      elim (cases_Bool (length rest == 0)) [
        | inl empty ↦ inl (ap numbers_of (fields-none bs n count (ap (λ (l : List ℕ). length l == 0) (sym e) ∙ empty)))
        | inr filled ↦ inr (cut filled ∙ ap (λ (o : Option ℕ). field_before o (numbers_of (fields (drop (run_of rest) rest)))) (sym none))
      ]

  -- there is one
  pub first-some : (value len : ℕ) (behind : List ℕ) → Some value ≡ number_of (take (run_of rest) rest) → len ≡ run_of rest → 0 < length rest → behind ≡ take (length rest - len) (drop len rest) →
      numbers_of (fields bs) ≡ field_before (Some value) (numbers_of (fields behind))
  first-some value len behind is long some back =
      let all : behind ≡ drop (run_of rest) rest = back ∙ part_from len rest ∙ ap (λ k. drop k rest) long in
      cut (ne_eqb (length rest) 0 (omega arith)) ∙ ap (λ (o : Option ℕ). field_before o (numbers_of (fields (drop (run_of rest) rest)))) (sym is) ∙ ap (λ (l : List ℕ). field_before (Some value) (numbers_of (fields l))) (sym all)
