-- Lemmas on what holds of terms that are not refused, and on small sums.
use Rattle.std.proofs.Common.{◌≡◌, refl, sym, ℕ, zero, suc, ◌+◌, ◌^◌, ◌<◌, ◌≤◌, List, [], ◌∷◌, length, get_or, take, true, false, arith}
use Rattle.std.specs.Prelude.{Bool, if◌then◌else◌, not, nat_lt, Some, None, sum}
use Rattle.std.specs.List.{All, list_all}
use Rattle.std.proofs.lemmas.Bool.{ltb-true, ltb-false}
use Rattle.std.proofs.lemmas.Option.{none-some}
use Rattle.std.proofs.lemmas.List.Sums.{AllPass-from_list_all, sum_by-le, sum_by_more_le}
use Rattle.std.proofs.lemmas.List.Elements.{All-weaker}
use Rattle.collection_model.specs.Collection.{Collection}
use Rattle.scan_plans.specs.Matches.{AreBelow}
use Rattle.scan_plans.proofs.AskedLists.{lists-below}
use Rattle.segments.specs.Laws.{IsInRange}
use Rattle.pefidx_c.specs.declared.status.Status.{Status}
use Rattle.pefidx_c.specs.declared.status.Status.TheVariants.{TooManyTerms, NoTerm}
use Rattle.pefidx_c.specs.Asked.{lists_of, most_asked, refusal}

pub no-refusal : (many there : Bool) (x y : Status) → (if many then Some x else if not there then Some y else None) ≡ None → (many ≡ false) × (there ≡ true)
no-refusal true there x y h = absurd (none-some x (sym h))
no-refusal false false x y h = absurd (none-some y (sym h))
no-refusal false true x y h = (refl, refl)

-- terms that are not refused are few, and are there
pub asked-few : (c : Collection) (terms : List ℕ) → refusal c terms ≡ None → length terms ≤ 1024
asked-few c terms h =
    ltb-false most_asked (length terms) (no-refusal (nat_lt most_asked (length terms)) (list_all (λ t. nat_lt t (length c.lists)) terms) TooManyTerms NoTerm h).0

pub asked-there : (c : Collection) (terms : List ℕ) → refusal c terms ≡ None → All (λ t. t < length c.lists) terms
asked-there c terms h =
    let n : ℕ = length c.lists in
    let there = (no-refusal (nat_lt most_asked (length terms)) (list_all (λ t. nat_lt t n) terms) TooManyTerms NoTerm h).1 in
    All-weaker (λ t. nat_lt t n ≡ true) (λ t. t < n) (λ t e. ltb-true t n e) terms (AllPass-from_list_all (λ t. nat_lt t n) terms there)

pub asked-below : (c : Collection) (terms : List ℕ) → IsInRange c → refusal c terms ≡ None → AreBelow c.documents (lists_of c terms)
asked-below c terms in_range h = lists-below c terms in_range (asked-there c terms h)

-- ---- sums of numbers of 32 bits

get_or-any : (xs : List ℕ) (k a b : ℕ) → k < length xs → get_or xs k a ≡ get_or xs k b
get_or-any [] k a b within = absurd (omega (arith, within))
get_or-any (x ∷ xs) zero a b within = refl
get_or-any (x ∷ xs) (suc k) a b within = get_or-any xs k a b (omega (arith, within))

pub sum-fits : (xs : List ℕ) (i total x : ℕ) → i < length xs → length xs < 2 ^ 32 → ((k : ℕ) → get_or xs k 0 < 2 ^ 32) → total ≡ sum (take i xs) → x ≡ get_or xs i 0 → total + x < 2 ^ 64
sum-fits xs i total x within few fit so is =
    let each : All (λ x. x ≤ 4294967295) xs = λ k d lt. omega (arith, get_or-any xs k d 0 lt, fit k) in
    omega (arith, so, is, few, sum_by_more_le (λ x. x) xs i 0 within, sum_by-le (λ x. x) 4294967295 xs each)

-- the sum before a place and the number there are within the sum of all
pub sum-within : (xs : List ℕ) (i total x all : ℕ) → i < length xs → total ≡ sum (take i xs) → x ≡ get_or xs i 0 → sum xs ≡ all → total + x ≤ all
sum-within xs i total x all within so is whole = omega (arith, so, is, whole, sum_by_more_le (λ x. x) xs i 0 within)
