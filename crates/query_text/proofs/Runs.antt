use Rattle.std.proofs.Common.{◌≡◌, ℕ, suc, zero, ◌-◌, ◌+◌, ◌<◌, ◌≤◌, ◌==◌, Bool, true, false, cond, not, List, [], ◌∷◌, length, take, drop, get_or, filter, refl, ap, sym, ◌∙◌, arith}
use Rattle.std.specs.List.{prefix_len}
use Rattle.std.proofs.Math.Dec.{eqb-suc-zero}
use Rattle.std.proofs.lemmas.Bool.{not-true, not-false, eqb-true, eqb-false}
use Rattle.std.proofs.lemmas.List.Sums.{prefix_len_passes, prefix_len_stops, prefix_len-le-length}
use Rattle.std.proofs.lemmas.List.{length-take-le, length-drop, get_or-drop, take_all, nil_from_length}
use Rattle.query_text.specs.Lines.{fields, pieces, before_pieces, space}

-- the test that keeps the fields among the pieces
abbrev pub has_bytes : List ℕ → Bool
has_bytes p = not (length p == 0)

-- a space in prefix changes no field
fields-space : (b : ℕ) (bs : List ℕ) → (b == space) ≡ true → fields (b ∷ bs) ≡ fields bs
fields-space b bs e = ap (λ t. filter has_bytes (before_pieces t b (pieces space bs))) e

-- nor do spaces
fields-spaces : (n : ℕ) (bs : List ℕ) → ((k : ℕ) → k < n → (get_or bs k 0 == space) ≡ true) → n ≤ length bs → fields bs ≡ fields (drop n bs)
fields-spaces zero bs h le = refl
fields-spaces (suc n) [] h le = refl
fields-spaces (suc n) (b ∷ bs) h le = fields-space b bs (h 0 (omega arith)) ∙ fields-spaces n bs (λ k lt. h (suc k) (omega arith)) (omega arith)

-- the fields of a text are those behind the spaces that it begins with
pub fields-trimmed : (bs : List ℕ) → fields bs ≡ fields (drop (prefix_len (λ b. b == space) bs) bs)
fields-trimmed bs =
    fields-spaces _ bs (λ k lt. prefix_len_passes (λ b. b == space) bs k 0 lt) (prefix_len-le-length (λ b. b == space) bs)

-- the pieces of a text that begins with a run of n other bytes
record IsRun (n : ℕ) (bs : List ℕ) : Type 0 where
  rest : List (List ℕ)
  cut : pieces space bs ≡ take n bs ∷ rest
  behind : fields (drop n bs) ≡ filter has_bytes rest

run : (n : ℕ) (bs : List ℕ) → n ≤ length bs → ((k : ℕ) → k < n → (get_or bs k 0 == space) ≡ false) → (n < length bs → (get_or bs n 0 == space) ≡ true) → IsRun n bs
run zero [] le before at = record { rest = []; cut = refl; behind = refl }
run zero (b ∷ bs) le before at = record {
  rest = pieces space bs;
  cut = ap (λ t. before_pieces t b (pieces space bs)) (at (omega arith));
  behind = fields-space b bs (at (omega arith));
}
run (suc n) [] le before at = absurd (omega arith)
run (suc n) (b ∷ bs) le before at =
    let r = run n bs (omega arith) (λ k lt. before (suc k) (omega arith)) (λ lt. at (omega arith)) in record {
      rest = r.rest;
      cut = ap (λ t. before_pieces t b (pieces space bs)) (before 0 (omega arith)) ∙ ap (before_pieces false b) r.cut;
      behind = r.behind;
    }

-- a test that is not true is false
-- a piece of some bytes is kept
has_bytes-some : (p : List ℕ) → 0 < length p → has_bytes p ≡ true
has_bytes-some [] h = absurd (omega arith)
has_bytes-some (x ∷ xs) h = ap not (eqb-suc-zero (length xs))

-- the first n bytes of a text are its first field, where they are no spaces and a space or the end stands behind them
fields-run : (n : ℕ) (bs : List ℕ) → 0 < n → n ≤ length bs → ((k : ℕ) → k < n → (get_or bs k 0 == space) ≡ false) →
    (n < length bs → (get_or bs n 0 == space) ≡ true) → fields bs ≡ take n bs ∷ fields (drop n bs)
fields-run n bs some le before at =
    let r = run n bs le before at in
    let long : 0 < length (take n bs) = rw length-take-le some in
    ap (filter has_bytes) r.cut ∙ ap (λ t. cond t (take n bs ∷ filter has_bytes r.rest) (filter has_bytes r.rest)) (has_bytes-some (take n bs) long) ∙ ap (λ t. take n bs ∷ t) (sym r.behind)

-- the part of a slice from n on
pub part_from : (n : ℕ) (bs : List ℕ) → take (length bs - n) (drop n bs) ≡ drop n bs
part_from n bs = take_all (length bs - n) (drop n bs) (omega (arith, length-drop n bs))

-- a text of spaces has no field
pub fields-none : (bs : List ℕ) (n : ℕ) → n ≡ prefix_len (λ b. b == space) bs → (length (take (length bs - n) (drop n bs)) == 0) ≡ true → fields bs ≡ []
fields-none bs n count none =
    let nothing : length (take (length bs - n) (drop n bs)) ≡ 0 = eqb-true _ _ none in
    fields-trimmed bs ∙ ap (λ i. fields (drop i bs)) (sym count) ∙ ap fields (sym (part_from n bs)) ∙ ap fields (nil_from_length _ nothing)

-- what stands behind the spaces begins with another byte
behind_spaces : (bs rest : List ℕ) → rest ≡ drop (prefix_len (λ b. b == space) bs) bs → 0 < length rest → (get_or rest 0 0 == space) ≡ false
behind_spaces bs rest e some =
    let n : ℕ = prefix_len (λ b. b == space) bs in
    let short : n < length bs = omega (arith, length-drop n bs, ap length e) in
    let at : get_or rest 0 0 ≡ get_or bs n 0 = ap (λ l. get_or l 0 0) e ∙ get_or-drop n bs 0 0 ∙ ap (λ i. get_or bs i 0) (omega arith) in
    ap (λ b. b == space) at ∙ prefix_len_stops (λ b. b == space) bs 0 short

-- a text that begins with another byte than space begins with a run
begins_run : (bs : List ℕ) → 0 < length bs → (get_or bs 0 0 == space) ≡ false → 0 < prefix_len (λ b. not (b == space)) bs
begins_run [] some first = absurd (omega arith)
begins_run (b ∷ bs) some first =
    let e : prefix_len (λ b. not (b == space)) (b ∷ bs) ≡ 1 + prefix_len (λ b. not (b == space)) bs =
    ap (λ t. cond (not t) (1 + prefix_len (λ b. not (b == space)) bs) 0) first in
    omega (arith, e)

-- a text that begins with n spaces and then m other bytes
pub fields-first : (bs rest first behind : List ℕ) (n m : ℕ) → n ≡ prefix_len (λ b. b == space) bs → rest ≡ take (length bs - n) (drop n bs) → (length rest == 0) ≡ false →
    m ≡ prefix_len (λ b. not (b == space)) rest → first ≡ take m rest → behind ≡ drop m rest → fields bs ≡ first ∷ fields behind
fields-first bs rest first behind n m count e filled long cut_first cut_behind =
    let nonzero : length rest ≡ 0 → ⊥ = eqb-false _ _ filled in
    let some : 0 < length rest = omega arith in
    let other : ℕ → Bool = λ b. not (b == space) in
    let trimmed : rest ≡ drop (prefix_len (λ b. b == space) bs) bs = e ∙ part_from n bs ∙ ap (λ i. drop i bs) count in
    let le : m ≤ length rest = omega (arith, prefix_len-le-length other rest, long) in
    let begins : 0 < m = omega (arith, begins_run rest some (behind_spaces bs rest trimmed some), long) in
    let before : (k : ℕ) → k < m → (get_or rest k 0 == space) ≡ false =
    λ k lt. not-true (get_or rest k 0 == space) (prefix_len_passes other rest k 0 (omega (arith, long))) in
    let at : m < length rest → (get_or rest m 0 == space) ≡ true =
    λ lt. not-false (get_or rest m 0 == space) (ap (λ i. other (get_or rest i 0)) long ∙ prefix_len_stops other rest 0 (omega (arith, long))) in
    fields-trimmed bs ∙ ap fields (sym trimmed) ∙ fields-run m rest begins le before at ∙ ap (λ f. f ∷ fields (drop m rest)) (sym cut_first) ∙ ap (λ r. first ∷ fields r) (sym cut_behind)
