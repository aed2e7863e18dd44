use Rattle.std.proofs.Common.{◌≡◌, ℕ, ◌+◌, ◌<◌, ◌≤◌, Bool, true, false, ◌&&◌, not, nat_lt, cond, Option, Some, None, Result, Ok, Err, IsOk, IfSome, List, [], ◌∷◌, ◌++◌, length, refl, ap, sym, subst, ◌∙◌, arith}
use Rattle.std.specs.List.{list_all}
use Rattle.std.specs.Result.{is_ok}
use Rattle.std.proofs.lemmas.Bool.{cond_both, cond-true, cond-false, lt-ltb, le-ltb, not_from_true, not_from_false}
use Rattle.std.proofs.lemmas.List.{length_push}
use Rattle.std.proofs.lemmas.List.Folds.{list_all-append}
use Rattle.query_text.specs.declared.query.Bad.{Bad}
use Rattle.query_text.specs.declared.query.Bad.TheVariants.{Number, Weight, Terms, Term}
use Rattle.query_text.specs.Numbers.{field_before}
use Rattle.query_text.specs.TermSet.{most_query_terms}
use Rattle.query_text.specs.Weights.{is_weight, weighted_set}
use Rattle.query_text.specs.Parse.{Parses, weighted_named}
use Rattle.query_text.proofs.NumbersSeen.{seen_and, seen_and-start, seen_and-push, seen_and-end, and-true}

abbrev Field : Type 0
Field = ℕ × ℕ

-- whether all of some fields weigh
abbrev weigh : List Field → Bool
weigh fs = list_all (λ f. is_weight f.1) fs

-- whether all of their terms are there
abbrev there : ℕ → List Field → Bool
there terms fs = list_all (λ f. nat_lt f.0 terms) fs

-- the fields so far, how many they are, whether all weigh and whether all are of terms
pub record WeighedSoFar (terms : ℕ) (whole rest : Option (List Field)) (count : ℕ) (all_weigh all_there : Bool) : Type 0 where
  pub seen : List Field
  pub whole_is : whole ≡ seen_and seen rest
  pub counted : count ≡ length seen
  pub weigh_all : all_weigh ≡ weigh seen
  pub are_there : all_there ≡ there terms seen

abbrev pub begin-weighed : (terms : ℕ) (whole : Option (List Field)) → WeighedSoFar terms whole whole 0 true true
begin-weighed terms whole = record { seen = []; whole_is = seen_and-start whole; counted = refl; weigh_all = refl; are_there = refl }

-- a test of one more field
pub one-more : (p : Field → Bool) (seen : List Field) (f : Field) (so_far passes : Bool) → so_far ≡ list_all p seen → passes ≡ p f → (so_far && passes) ≡ list_all p (seen ++ f ∷ [])
one-more p seen f so_far passes e is = ap (λ b. b && passes) e ∙ ap (λ b. list_all p seen && b) is ∙ ap (λ b. list_all p seen && b) (sym (and-true (p f))) ∙ sym (list_all-append p seen (f ∷ []))

abbrev pub more-weighed : (terms : ℕ) (whole rest behind : Option (List Field)) (count : ℕ) (f : Field) (all_weigh weighs all_there : Bool) → WeighedSoFar terms whole rest count all_weigh all_there →
    rest ≡ field_before (Some f) behind → weighs ≡ is_weight f.1 → WeighedSoFar terms whole behind (count + 1) (all_weigh && weighs) (all_there && nat_lt f.0 terms)
more-weighed terms whole rest behind count f all_weigh weighs all_there s e is = record {
  seen = s.seen ++ f ∷ [];
  whole_is = s.whole_is ∙ ap (seen_and s.seen) e ∙ seen_and-push s.seen f behind;
  counted = ap (λ c. c + 1) s.counted ∙ sym (length_push s.seen f);
  weigh_all = one-more (λ f. is_weight f.1) s.seen f all_weigh weighs s.weigh_all is;
  are_there = one-more (λ f. nat_lt f.0 terms) s.seen f all_there (nat_lt f.0 terms) s.are_there refl;
}

module _ (terms : ℕ) (whole rest : Option (List Field)) (count : ℕ) (all_weigh all_there : Bool) (s : WeighedSoFar terms whole rest count all_weigh all_there) where
  -- what is left to be judged behind the count
  abbrev looking : Result (List Field) Bad
  looking = cond (not (there terms s.seen)) (Err Term) (Ok (weighted_set s.seen))

  -- what is left to be judged behind the weights
  abbrev counting : Result (List Field) Bad
  counting = cond (nat_lt most_query_terms (length s.seen)) (Err Terms) looking

  -- a field of another form
  pub weighted-no_number : rest ≡ None → weighted_named terms whole ≡ Err Number
  weighted-no_number e = ap (weighted_named terms) (s.whole_is ∙ ap (seen_and s.seen) e)

  all-seen : rest ≡ Some [] → weighted_named terms whole ≡ weighted_named terms (Some s.seen)
  all-seen e = ap (weighted_named terms) (seen_and-end s.seen whole rest s.whole_is e)

  -- a weight that is none
  pub weighted-no_weight : rest ≡ Some [] → all_weigh ≡ false → weighted_named terms whole ≡ Err Weight
  weighted-no_weight e light = all-seen e ∙ cond-true (not (weigh s.seen)) _ _ (not_from_false (weigh s.seen) (sym s.weigh_all ∙ light))

  past-weights : rest ≡ Some [] → all_weigh ≡ true → weighted_named terms whole ≡ counting
  past-weights e heavy = all-seen e ∙ cond-false (not (weigh s.seen)) _ _ (not_from_true (weigh s.seen) (sym s.weigh_all ∙ heavy))

  -- too many fields
  pub weighted-many : rest ≡ Some [] → all_weigh ≡ true → most_query_terms < count → weighted_named terms whole ≡ Err Terms
  weighted-many e heavy many = past-weights e heavy ∙ cond-true (nat_lt most_query_terms (length s.seen)) _ _ (lt-ltb most_query_terms (length s.seen) (omega (arith, s.counted)))

  past-count : rest ≡ Some [] → all_weigh ≡ true → count ≤ most_query_terms → weighted_named terms whole ≡ looking
  past-count e heavy few = past-weights e heavy ∙ cond-false (nat_lt most_query_terms (length s.seen)) _ _ (le-ltb most_query_terms (length s.seen) (omega (arith, s.counted)))

  -- a term that is not there
  pub weighted-other : rest ≡ Some [] → all_weigh ≡ true → count ≤ most_query_terms → all_there ≡ false → weighted_named terms whole ≡ Err Term
  weighted-other e heavy few missing = past-count e heavy few ∙ cond-true (not (there terms s.seen)) _ _ (not_from_false (there terms s.seen) (sym s.are_there ∙ missing))

  -- weighted terms
  pub weighted-terms : rest ≡ Some [] → all_weigh ≡ true → count ≤ most_query_terms → all_there ≡ true → IsOk (weighted_named terms whole)
  weighted-terms e heavy few all = let asked : weighted_named terms whole ≡ Ok (weighted_set s.seen) = past-count e heavy few ∙ cond-false (not (there terms s.seen)) _ _ (not_from_true (there terms s.seen) (sym s.are_there ∙ all)) in ap is_ok asked

-- fields that break no rule name their set
set-named : (terms : ℕ) (fs : List Field) → IsOk (weighted_named terms (Some fs)) → weighted_named terms (Some fs) ≡ Ok (weighted_set fs)
set-named terms fs =
    let P : Result (List Field) Bad → Type 0 = λ r. IsOk r → r ≡ Ok (weighted_set fs) in
    let last : Result (List Field) Bad = cond (not (there terms fs)) (Err Term) (Ok (weighted_set fs)) in
    let rest : Result (List Field) Bad = cond (nat_lt most_query_terms (length fs)) (Err Terms) last in
    cond_both (not (weigh fs)) (Err Weight) rest P (λ _ h. cc)
    (λ _. cond_both (nat_lt most_query_terms (length fs)) (Err Terms) last P (λ _ h. cc)
    (λ _. cond_both (not (there terms fs)) (Err Term) (Ok (weighted_set fs)) P (λ _ h. cc) (λ _ h. refl)))

-- the set of the fields that were read is what the line names
pub read-weighted : (terms : ℕ) (whole : Option (List Field)) (found : List Field) (made : List Field) → IsOk (weighted_named terms whole) → IfSome whole (λ fs. found ≡ fs) →
    made ≡ weighted_set found → Parses (Ok made) (weighted_named terms whole)
read-weighted terms None found made asked same is = cc
read-weighted terms (Some fs) found made asked same is =
    subst (Parses (Ok made)) (sym (set-named terms fs asked)) (is ∙ ap weighted_set same)
