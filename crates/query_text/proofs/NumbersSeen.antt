use Rattle.std.proofs.Common.{◌≡◌, ℕ, zero, suc, ◌+◌, ◌<◌, ◌≤◌, Bool, true, false, ◌&&◌, not, nat_lt, Option, Some, None, Ok, Err, IsOk, List, [], ◌∷◌, ◌++◌, length, take, refl, ap, sym, ◌∙◌, arith, append_assoc, append-nil, option_map}
use Rattle.std.specs.List.{list_all}
use Rattle.std.specs.Result.{is_ok}
use Rattle.std.proofs.lemmas.Bool.{cond-true, cond-false, lt-ltb, le-ltb, not_from_true, not_from_false}
use Rattle.std.proofs.lemmas.List.{length_push}
use Rattle.std.proofs.lemmas.List.Folds.{list_all-append}
use Rattle.query_text.specs.declared.query.Bad.TheVariants.{Number, Terms, Term}
use Rattle.query_text.specs.Numbers.{field_before}
use Rattle.query_text.specs.TermSet.{most_query_terms, set_of}
use Rattle.query_text.specs.Parse.{terms_named}

-- what was read, and then what the rest is
abbrev pub seen_and : {X : Type 0} → List X → Option (List X) → Option (List X)
seen_and seen rest = option_map (λ ns. seen ++ ns) rest

-- one more field read
pub seen_and-push : {X : Type 0} (seen : List X) (n : X) (rest : Option (List X)) → seen_and seen (field_before (Some n) rest) ≡ seen_and (seen ++ n ∷ []) rest
seen_and-push seen n None = refl
seen_and-push seen n (Some ns) = ap Some (sym (append_assoc seen (n ∷ []) ns))

-- no field read
pub seen_and-start : {X : Type 0} (whole : Option (List X)) → whole ≡ seen_and [] whole
seen_and-start None = refl
seen_and-start (Some ns) = refl

-- all fields are read
pub seen_and-end : {X : Type 0} (seen : List X) (whole rest : Option (List X)) → whole ≡ seen_and seen rest → rest ≡ Some [] → whole ≡ Some seen
seen_and-end seen whole rest e done = e ∙ ap (seen_and seen) done ∙ ap Some (append-nil seen)

-- what is kept of the prefix stands for it before what follows
take-prefix : {X : Type 0} (n : ℕ) (xs ys : List X) → take n (take n xs ++ ys) ≡ take n (xs ++ ys)
take-prefix zero xs ys = refl
take-prefix (suc n) [] ys = refl
take-prefix {X} (suc n) (x ∷ xs) ys = ap (λ (l : List X). x ∷ l) (take-prefix n xs ys)

-- one more kept, where there is room
pub kept-more : {X : Type 0} (n : ℕ) (seen kept more : List X) (x : X) → kept ≡ take n seen → more ≡ take n (kept ++ x ∷ []) → more ≡ take n (seen ++ x ∷ [])
kept-more {X} n seen kept more x so is = is ∙ ap (λ (l : List X). take n (l ++ x ∷ [])) so ∙ take-prefix n seen (x ∷ [])

pub and-true : (b : Bool) → (b && true) ≡ b
and-true true = refl
and-true false = refl

-- the numbers so far, how many they are and whether all are terms
pub record SoFar (terms : ℕ) (whole rest : Option (List ℕ)) (count : ℕ) (there : Bool) : Type 0 where
  pub seen : List ℕ
  pub whole_is : whole ≡ seen_and seen rest
  pub counted : count ≡ length seen
  pub are_there : there ≡ list_all (λ t. nat_lt t terms) seen

abbrev pub begin : (terms : ℕ) (whole : Option (List ℕ)) → SoFar terms whole whole 0 true
begin terms whole = record { seen = []; whole_is = seen_and-start whole; counted = refl; are_there = refl }

abbrev pub more : (terms : ℕ) (whole rest behind : Option (List ℕ)) (count n : ℕ) (there : Bool) → SoFar terms whole rest count there →
    rest ≡ field_before (Some n) behind → SoFar terms whole behind (count + 1) (there && nat_lt n terms)
more terms whole rest behind count n there s e = record {
  seen = s.seen ++ n ∷ [];
  whole_is = s.whole_is ∙ ap (seen_and s.seen) e ∙ seen_and-push s.seen n behind;
  counted = ap (λ c. c + 1) s.counted ∙ sym (length_push s.seen n);
  are_there = ap (λ b. b && nat_lt n terms) s.are_there ∙ ap (λ b. list_all (λ t. nat_lt t terms) s.seen && b) (sym (and-true (nat_lt n terms))) ∙ sym (list_all-append (λ t. nat_lt t terms) s.seen (n ∷ []));
}

-- a field that is no number
pub named-no_number : (terms : ℕ) (whole rest : Option (List ℕ)) (count : ℕ) (there : Bool) → SoFar terms whole rest count there → rest ≡ None →
    terms_named terms whole ≡ Err Number
named-no_number terms whole rest count there s e = ap (terms_named terms) (s.whole_is ∙ ap (seen_and s.seen) e)

-- too many numbers
pub named-many : (terms : ℕ) (whole rest : Option (List ℕ)) (count : ℕ) (there : Bool) → SoFar terms whole rest count there → rest ≡ Some [] →
    most_query_terms < count → terms_named terms whole ≡ Err Terms
named-many terms whole rest count there s e many =
    ap (terms_named terms) (seen_and-end s.seen whole rest s.whole_is e) ∙
    cond-true (nat_lt most_query_terms (length s.seen)) _ _ (lt-ltb most_query_terms (length s.seen) (omega (arith, s.counted)))

-- a number that is no term
pub named-other : (terms : ℕ) (whole rest : Option (List ℕ)) (count : ℕ) (there : Bool) → SoFar terms whole rest count there → rest ≡ Some [] →
    count ≤ most_query_terms → there ≡ false → terms_named terms whole ≡ Err Term
named-other terms whole rest count there s e few missing =
    ap (terms_named terms) (seen_and-end s.seen whole rest s.whole_is e) ∙
    cond-false (nat_lt most_query_terms (length s.seen)) _ _ (le-ltb most_query_terms (length s.seen) (omega (arith, s.counted))) ∙
    cond-true (not (list_all (λ t. nat_lt t terms) s.seen)) _ _ (not_from_false (list_all (λ t. nat_lt t terms) s.seen) (sym s.are_there ∙ missing))

-- terms
pub named-terms : (terms : ℕ) (whole rest : Option (List ℕ)) (count : ℕ) (there : Bool) → SoFar terms whole rest count there → rest ≡ Some [] →
    count ≤ most_query_terms → there ≡ true → IsOk (terms_named terms whole)
named-terms terms whole rest count there s e few all =
    let asked : terms_named terms whole ≡ Ok (set_of s.seen) =
    ap (terms_named terms) (seen_and-end s.seen whole rest s.whole_is e) ∙
    cond-false (nat_lt most_query_terms (length s.seen)) _ _ (le-ltb most_query_terms (length s.seen) (omega (arith, s.counted))) ∙
    cond-false (not (list_all (λ t. nat_lt t terms) s.seen)) _ _ (not_from_true (list_all (λ t. nat_lt t terms) s.seen) (sym s.are_there ∙ all)) in
    ap is_ok asked
