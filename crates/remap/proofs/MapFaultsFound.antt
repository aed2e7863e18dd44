-- The first fault of a map, where it is cut, states another length, has an id that breaks, or goes on behind its ids; and that an order has none.
use Rattle.std.proofs.Common.{◌≡◌, ◌≢◌, refl, sym, ap, inl, inr, ◌∙◌, ℕ, ◌+◌, ◌*◌, ◌^◌, ◌<◌, ◌≤◌, Bool, true, false, not, ◌==◌, nat_lt, nat_le, List, [], ◌∷◌, ◌++◌, length, get_or, Some, None, MatchBool, arith}
use Rattle.std.specs.Prelude.{AllPairs}
use Rattle.std.specs.List.{All, list_any, range_with_len}
use Rattle.std.proofs.lemmas.Bool.{false≢true, MatchBool-at_false, le-ltb, lt-leb, le-leb, lt-ltb, eq-eqb, ne_eqb}
use Rattle.std.proofs.lemmas.Bool.Decides.{nat_tests}
use Rattle.std.proofs.lemmas.List.{length_push, get_or_push}
use Rattle.std.proofs.lemmas.List.Elements.{All-get_or, All-from_get_or, All-push}
use Rattle.std.proofs.lemmas.List.Folds.{list_any_none, list_any_at}
use Rattle.std.proofs.lemmas.List.FromFn.{get_or-range_with_len, length-range_with_len}
use Rattle.collection_model.specs.Bytes.{le32}
use Rattle.collection_model.proofs.Numbers.{AreNumbers}
use Rattle.collection_reader.specs.FirstFault.{number_at, lacks}
use Rattle.remap.specs.declared.fault.MapRule.{MapRule}
use Rattle.remap.specs.declared.fault.MapRule.TheVariants.{M1, M2, M3, M4, M5}
use Rattle.remap.specs.declared.fault.MapFault.{MapFault}
use Rattle.remap.specs.MapFaults.{id_at, id_break, FirstIdBreak, IsMapFault}
use Rattle.collection_reader.proofs.Begun.{begun, begun-length, begun-claim, begun-value, begun-next, begun-none, begun-there, begun-cut}
use Rattle.collection_reader.proofs.Numbers.{lacks-there}

match-true : (P Q : Type 0) (b : Bool) → b ≡ true → P → MatchBool b P Q
match-true P Q true is p = p
match-true P Q false is p = absurd (false≢true is)

match-false : (P Q : Type 0) (b : Bool) → b ≡ false → Q → MatchBool b P Q
match-false P Q true is q = absurd (false≢true (sym is))
match-false P Q false is q = q

same-not : (v w : ℕ) → v ≡ w → not (v == w) ≡ false
same-not v w same = grind (arith, nat_tests)

other-not : (v w : ℕ) → v ≢ w → not (v == w) ≡ true
other-not v w other = rw (ne_eqb v w other) refl

-- which rule an id breaks
break-cut : (n : ℕ) (bytes : List ℕ) (k : ℕ) → lacks bytes (k + 1) ≡ true → id_break n bytes k ≡ Some M1
break-cut n bytes k cut = rw cut refl

break-large : (n : ℕ) (bytes : List ℕ) (k : ℕ) → lacks bytes (k + 1) ≡ false → nat_le n (id_at bytes k) ≡ true → id_break n bytes k ≡ Some M3
break-large n bytes k there large = rw (there, large) refl

break-twice : (n : ℕ) (bytes : List ℕ) (k : ℕ) → lacks bytes (k + 1) ≡ false → nat_le n (id_at bytes k) ≡ false → list_any (λ j. id_at bytes j == id_at bytes k) (range_with_len 0 k) ≡ true → id_break n bytes k ≡ Some M4
break-twice n bytes k there small twice = rw (there, small, twice) refl

break-none : (n : ℕ) (bytes : List ℕ) (k : ℕ) → lacks bytes (k + 1) ≡ false → nat_le n (id_at bytes k) ≡ false → list_any (λ j. id_at bytes j == id_at bytes k) (range_with_len 0 k) ≡ false → id_break n bytes k ≡ None
break-none n bytes k there small once = rw (there, small, once) refl

-- ids that were read break no rule, whatever stands behind them
pub none-before : (n : ℕ) (ids rest : List ℕ) → n < 2 ^ 32 → All (λ x. x < n) ids → AllPairs (λ a b. a ≢ b) ids → (k : ℕ) → k < length ids → id_break n (begun n ids rest) k ≡ None
none-before n ids rest fits below apart k within =
    let numbers : AreNumbers ids = λ i d inside. (let h = below i d inside in omega arith) in
    let here = begun-value n ids rest k numbers within in
    let small : get_or ids k 0 < n = All-get_or (λ x. x < n) ids k 0 within below in
    let l = length-range_with_len 0 k in
    break-none n (begun n ids rest) k (begun-there n ids rest (k + 1) (omega arith)) (lt-leb n (id_at (begun n ids rest) k) (omega arith))
    (list_any_none (λ j. id_at (begun n ids rest) j == id_at (begun n ids rest) k) (range_with_len 0 k)
    (All-from_get_or (λ j. (id_at (begun n ids rest) j == id_at (begun n ids rest) k) ≡ false) (range_with_len 0 k) 0 (λ i inside.
    let at : get_or (range_with_len 0 k) i 0 ≡ i = omega (arith, get_or-range_with_len 0 k i 0 (omega arith)) in
    let there = begun-value n ids rest i numbers (omega arith) in
    ap (λ (j : ℕ). id_at (begun n ids rest) j == id_at (begun n ids rest) k) at
    ∙ ne_eqb (id_at (begun n ids rest) i) (id_at (begun n ids rest) k) (λ same. apart i k 0 (omega arith) within (sym there ∙ same ∙ here)))))

-- the first fault at an id
at-id : (n : ℕ) (ids rest : List ℕ) (rule : MapRule) → n < 2 ^ 32 → All (λ x. x < n) ids → AllPairs (λ a b. a ≢ b) ids → length ids < n → id_break n (begun n ids rest) (length ids) ≡ Some rule
    → IsMapFault n (begun n ids rest) (record { rule = rule; place = length ids })
at-id n ids rest rule fits below apart within broken =
    match-false _ _ (lacks (begun n ids rest) 0) (begun-there n ids rest 0 (omega arith))
    (match-false _ _ (not (number_at (begun n ids rest) 0 == n)) (same-not (number_at (begun n ids rest) 0) n (begun-claim n ids rest fits))
    (inl (length ids, rule, within, broken, none-before n ids rest fits below apart, refl)))

pub cut-at_id : (n : ℕ) (ids rest : List ℕ) → n < 2 ^ 32 → All (λ x. x < n) ids → AllPairs (λ a b. a ≢ b) ids → length ids < n → length rest < 4
    → IsMapFault n (begun n ids rest) (record { rule = M1; place = length ids })
cut-at_id n ids rest fits below apart within short = at-id n ids rest M1 fits below apart within (break-cut n (begun n ids rest) (length ids) (begun-cut n ids rest (length ids) refl short))

-- what the next id is
next-is : (n : ℕ) (ids : List ℕ) (x : ℕ) (rest : List ℕ) → n < 2 ^ 32 → x < 2 ^ 32 → All (λ y. y < n) ids → (lacks (begun n ids (le32 x ++ rest)) (length ids + 1) ≡ false) × (id_at (begun n ids (le32 x ++ rest)) (length ids) ≡ x)
next-is n ids x rest fits small below =
    let numbers : AreNumbers ids = λ i d inside. (let h = below i d inside in omega arith) in
    let more : AreNumbers (ids ++ x ∷ []) = All-push (λ y. y < 2 ^ 32) ids x numbers small in
    let l = length_push ids x in
    let next = begun-next n ids x rest in (
      ap (λ (b : List ℕ). lacks b (length ids + 1)) next ∙ begun-there n (ids ++ x ∷ []) rest (length ids + 1) (omega arith),
      ap (λ (b : List ℕ). id_at b (length ids)) next ∙ begun-value n (ids ++ x ∷ []) rest (length ids) more (omega arith) ∙ get_or_push ids x 0 (length ids) refl,
    )

pub large-at_id : (n : ℕ) (ids : List ℕ) (x : ℕ) (rest : List ℕ) → n < 2 ^ 32 → x < 2 ^ 32 → All (λ x. x < n) ids → AllPairs (λ a b. a ≢ b) ids → length ids < n → n ≤ x
    → IsMapFault n (begun n ids (le32 x ++ rest)) (record { rule = M3; place = length ids })
large-at_id n ids x rest fits small below apart within large =
    let is = next-is n ids x rest fits small below in
    let value = is.1 in
    at-id n ids (le32 x ++ rest) M3 fits below apart within (break-large n (begun n ids (le32 x ++ rest)) (length ids) is.0 (le-leb n (id_at (begun n ids (le32 x ++ rest)) (length ids)) (omega arith)))

pub twice-at_id : (n : ℕ) (ids : List ℕ) (x j : ℕ) (rest : List ℕ) → n < 2 ^ 32 → x < n → All (λ x. x < n) ids → AllPairs (λ a b. a ≢ b) ids → length ids < n → j < length ids → get_or ids j 0 ≡ x
    → IsMapFault n (begun n ids (le32 x ++ rest)) (record { rule = M4; place = length ids })
twice-at_id n ids x j rest fits small below apart within before same =
    let bytes : List ℕ = begun n ids (le32 x ++ rest) in
    let k : ℕ = length ids in
    let is = next-is n ids x rest fits (omega arith) below in
    let value = is.1 in
    let numbers : AreNumbers ids = λ i d inside. (let h = below i d inside in omega arith) in
    let there = begun-value n ids (le32 x ++ rest) j numbers before in
    let l = length-range_with_len 0 k in
    let at : get_or (range_with_len 0 k) j 0 ≡ j = omega (arith, get_or-range_with_len 0 k j 0 before) in
    at-id n ids (le32 x ++ rest) M4 fits below apart within (break-twice n bytes k is.0 (lt-leb n (id_at bytes k) (omega arith))
    (list_any_at (λ i. id_at bytes i == id_at bytes k) (range_with_len 0 k) j 0 (omega arith)
    (ap (λ (i : ℕ). id_at bytes i == id_at bytes k) at ∙ eq-eqb (id_at bytes j) (id_at bytes k) (there ∙ same ∙ sym value))))

-- at the length
pub cut-at_length : (n : ℕ) (bytes : List ℕ) → length bytes < 4 → IsMapFault n bytes (record { rule = M1; place = 0 })
cut-at_length n bytes short = match-true _ _ (lacks bytes 0) (lacks-there bytes 0 (omega arith)) refl

pub other-length : (n m : ℕ) (rest : List ℕ) → m < 2 ^ 32 → m ≢ n → IsMapFault n (le32 m ++ rest) (record { rule = M2; place = 0 })
other-length n m rest fits other =
    let is = begun-none m rest in
    let claim : number_at (le32 m ++ rest) 0 ≡ m = ap (λ (b : List ℕ). number_at b 0) (sym is) ∙ begun-claim m [] rest fits in
    match-false _ _ (lacks (le32 m ++ rest) 0) (ap (λ (b : List ℕ). lacks b 0) (sym is) ∙ begun-there m [] rest 0 (omega arith))
    (match-true _ _ (not (number_at (le32 m ++ rest) 0 == n)) (other-not (number_at (le32 m ++ rest) 0) n (λ same. other (sym claim ∙ same))) refl)

-- behind the ids
pub left-over : (n : ℕ) (ids rest : List ℕ) → n < 2 ^ 32 → All (λ x. x < n) ids → AllPairs (λ a b. a ≢ b) ids → length ids ≡ n → 0 < length rest → IsMapFault n (begun n ids rest) (record { rule = M5; place = n })
left-over n ids rest fits below apart count some =
    let l = begun-length n ids rest in
    match-false _ _ (lacks (begun n ids rest) 0) (begun-there n ids rest 0 (omega arith))
    (match-false _ _ (not (number_at (begun n ids rest) 0 == n)) (same-not (number_at (begun n ids rest) 0) n (begun-claim n ids rest fits))
    (inr ((λ k within. none-before n ids rest fits below apart k (omega arith)), match-true _ _ (nat_lt (4 * (n + 1)) (length (begun n ids rest))) (lt-ltb (4 * (n + 1)) (length (begun n ids rest)) (omega arith)) refl)))

-- an order has no fault
no-break : (n : ℕ) (bytes : List ℕ) (found : ℕ → MapRule → Type 0) (otherwise : Type 0) → ((k : ℕ) → k < n → id_break n bytes k ≡ None) → FirstIdBreak n bytes found otherwise → otherwise
no-break n bytes found otherwise none (inl (k, rule, within, is, before, f)) = let no = none k within in absurd cc
no-break n bytes found otherwise none (inr (nothing, o)) = o

pub order-no_fault : (n : ℕ) (ids : List ℕ) (fault : MapFault) → n < 2 ^ 32 → All (λ x. x < n) ids → AllPairs (λ a b. a ≢ b) ids → length ids ≡ n → IsMapFault n (begun n ids []) fault → ⊥
order-no_fault n ids fault fits below apart count broken =
    let l = begun-length n ids [] in
    let bytes : List ℕ = begun n ids [] in
    let a = MatchBool-at_false _ _ (begun-there n ids [] 0 (omega arith)) broken in
    let b = MatchBool-at_false _ _ (same-not (number_at bytes 0) n (begun-claim n ids [] fits)) a in
    let c = no-break n bytes _ _ (λ k within. none-before n ids [] fits below apart k (omega arith)) b in
    MatchBool-at_false _ _ (le-ltb (4 * (n + 1)) (length bytes) (omega arith)) c
