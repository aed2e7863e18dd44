use Rattle.std.proofs.Common.{◌≡◌, refl, ap, ◌∙◌, ℕ, ◌<◌, ◌≤◌, Bool, true, ◌&&◌, not, cond, nat_lt, bytes_eq, codes, Option, Some, None, Result, Ok, Err, IfOk, List, [], ◌∷◌, length, map, sym, subst, arith}
use Rattle.std.specs.List.{list_all}
use Rattle.std.proofs.lemmas.Bool.{cond_both, ltb-true, ltb-false, not-false}
use Rattle.std.proofs.lemmas.List.Elements.{All-from_recursion}
use Rattle.query_text.specs.declared.query.Query.{Query}
use Rattle.query_text.specs.declared.query.Query.TheVariants.{Next, And, Or}
use Rattle.query_text.specs.declared.query.Bad.{Bad}
use Rattle.query_text.specs.declared.query.Bad.TheVariants.{Weight, Terms, Term, Verb}
use Rattle.query_text.specs.declared.query.ParseError.{ParseError}
use Rattle.query_text.specs.Numbers.{number_of, numbers_of}
use Rattle.query_text.specs.TermSet.{AreTerms, most_query_terms, set_of}
use Rattle.query_text.specs.Weights.{is_weight, weight_of, weighted_fields, weighted_set, AreWeights}
use Rattle.query_text.specs.Parse.{weighted_named, asking_top, terms_named, asking, next_query, top_query, fields_query, Parses, NamesTerms}
use Rattle.std.proofs.lemmas.List.{length-map}
use Rattle.query_text.proofs.WeightSums.{set-firsts, set-seconds, set-weighs}
use Rattle.query_text.proofs.TermSets.{set_of-increasing, length-set_of, below-set_of}

-- the terms that numbers name are there
are-named : (terms : ℕ) (ns : Option (List ℕ)) → IfOk (terms_named terms ns) (AreTerms terms)
are-named terms None = tt
are-named terms (Some ts) =
    cond_both (nat_lt most_query_terms (length ts)) (Err Terms) (cond (not (list_all (λ t. nat_lt t terms) ts)) (Err Term) (Ok (set_of ts))) (λ r. IfOk r (AreTerms terms))
    (λ many. tt)
    (λ few. cond_both (not (list_all (λ t. nat_lt t terms) ts)) (Err Term) (Ok (set_of ts)) (λ r. IfOk r (AreTerms terms))
    (λ missing. tt)
    (λ there. record {
      rising = set_of-increasing ts;
      few = omega (arith, ltb-false most_query_terms (length ts) few, length-set_of ts);
      below = All-from_recursion (λ t. t < terms) (set_of ts) (below-set_of terms ts (not-false (list_all (λ t. nat_lt t terms) ts) there));
    }))

all-there : (terms : ℕ) (fs : List (ℕ × ℕ)) → list_all (λ t. nat_lt t terms) (map (λ f. f.0) fs) ≡ list_all (λ f. nat_lt f.0 terms) fs
all-there terms [] = refl
all-there terms (f ∷ fs) = ap (λ (b : Bool). nat_lt f.0 terms && b) (all-there terms fs)

-- so are those of a set, each with a weight
set-named : (terms : ℕ) (fs : List (ℕ × ℕ)) → length fs ≤ most_query_terms → list_all (λ f. is_weight f.1) fs ≡ true → list_all (λ f. nat_lt f.0 terms) fs ≡ true →
    AreTerms terms (map (λ t. t.0) (weighted_set fs)) × AreWeights (map (λ t. t.1) (weighted_set fs))
set-named terms fs few weigh there =
    let ts : List ℕ = map (λ (f : ℕ × ℕ). f.0) fs in (
      subst (AreTerms terms) (sym (set-firsts (weight_of fs) (set_of ts))) (record {
        rising = set_of-increasing ts;
        few = omega (arith, length-set_of ts, length-map fs (λ (f : ℕ × ℕ). f.0));
        below = All-from_recursion (λ t. t < terms) (set_of ts) (below-set_of terms ts (all-there terms fs ∙ there));
      }),
      subst AreWeights (sym (set-seconds (weight_of fs) (set_of ts))) (set-weighs fs few weigh),
    )

asking-named : (terms : ℕ) (make : List ℕ → Query) → ((ts : List ℕ) → AreTerms terms ts → NamesTerms terms (make ts)) → (r : Result (List ℕ) Bad) → IfOk r (AreTerms terms) → IfOk (asking make r) (NamesTerms terms)
asking-named terms make names (Err bad) h = tt
asking-named terms make names (Ok ts) h = names ts h

next-named : (terms : ℕ) (ns : Option (List ℕ)) → IfOk (next_query terms ns) (NamesTerms terms)
next-named terms None = tt
next-named terms (Some []) = tt
next-named terms (Some (t ∷ [])) = tt
next-named terms (Some (t ∷ d ∷ [])) =
    cond_both (nat_lt t terms) (Ok (Next t d)) (Err Term) (λ r. IfOk r (NamesTerms terms)) (λ below. ltb-true t terms below) (λ above. tt)
next-named terms (Some (t ∷ d ∷ n ∷ ns)) = tt

-- the weighted terms that fields name
are-weighted : (terms : ℕ) (fs : Option (List (ℕ × ℕ))) → IfOk (weighted_named terms fs) (λ ts. AreTerms terms (map (λ t. t.0) ts) × AreWeights (map (λ t. t.1) ts))
are-weighted terms None = tt
are-weighted terms (Some fs) =
    let P : Result (List (ℕ × ℕ)) Bad → Type 0 = λ r. IfOk r (λ ts. AreTerms terms (map (λ t. t.0) ts) × AreWeights (map (λ t. t.1) ts)) in
    let weigh : Bool = list_all (λ (f : ℕ × ℕ). is_weight f.1) fs in
    let there : Bool = list_all (λ (f : ℕ × ℕ). nat_lt f.0 terms) fs in
    let looking : Result (List (ℕ × ℕ)) Bad = cond (not there) (Err Term) (Ok (weighted_set fs)) in
    let counting : Result (List (ℕ × ℕ)) Bad = cond (nat_lt most_query_terms (length fs)) (Err Terms) looking in
    cond_both (not weigh) (Err Weight) counting P
    (λ light. tt)
    (λ heavy. cond_both (nat_lt most_query_terms (length fs)) (Err Terms) looking P
    (λ many. tt)
    (λ few. cond_both (not there) (Err Term) (Ok (weighted_set fs)) P
    (λ missing. tt)
    (λ all. set-named terms fs (ltb-false most_query_terms (length fs) few) (not-false weigh heavy) (not-false there all))))

top-asked : (terms : ℕ) (count : Option ℕ) (r : Result (List (ℕ × ℕ)) Bad) → IfOk r (λ ts. AreTerms terms (map (λ t. t.0) ts) × AreWeights (map (λ t. t.1) ts)) → IfOk (asking_top count r) (NamesTerms terms)
top-asked terms None r h = tt
top-asked terms (Some k) (Err bad) h = tt
top-asked terms (Some k) (Ok ts) h = h

top-named : (terms : ℕ) (args : List (List ℕ)) → IfOk (top_query terms args) (NamesTerms terms)
top-named terms [] = tt
top-named terms (count ∷ fs) = top-asked terms (number_of count) (weighted_named terms (weighted_fields fs)) (are-weighted terms (weighted_fields fs))

-- what fields ask names terms that are there
fields-named : (terms : ℕ) (fs : List (List ℕ)) → IfOk (fields_query terms fs) (NamesTerms terms)
fields-named terms [] = tt
fields-named terms (verb ∷ args) =
    let P : Result Query Bad → Type 0 = λ r. IfOk r (NamesTerms terms) in
    let ns : Option (List ℕ) = numbers_of args in
    cond_both (bytes_eq verb (codes "next")) (next_query terms ns) _ P (λ yes. next-named terms ns) (λ next.
    cond_both (bytes_eq verb (codes "and")) (asking And (terms_named terms ns)) _ P (λ yes. asking-named terms And (λ ts h. h) (terms_named terms ns) (are-named terms ns)) (λ and.
    cond_both (bytes_eq verb (codes "or")) (asking Or (terms_named terms ns)) _ P (λ yes. asking-named terms Or (λ ts h. h) (terms_named terms ns) (are-named terms ns)) (λ or.
    cond_both (bytes_eq verb (codes "top")) (top_query terms args) (Err Verb) P (λ yes. top-named terms args) (λ top. tt))))

-- so does what parsing answered
parsed : (terms : ℕ) (found : Result Query ParseError) (asked : Result Query Bad) → Parses found asked → IfOk asked (NamesTerms terms) → IfOk found (NamesTerms terms)
parsed terms (Err e) asked h named = tt
parsed terms (Ok query) (Err bad) h named = cc
parsed terms (Ok query) (Ok asked) h named = subst (NamesTerms terms) (sym h) named

pub parsed-named : (terms : ℕ) (found : Result Query ParseError) (fs : List (List ℕ)) → Parses found (fields_query terms fs) → IfOk found (NamesTerms terms)
parsed-named terms found fs h = parsed terms found (fields_query terms fs) h (fields-named terms fs)
