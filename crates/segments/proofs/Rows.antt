use Rattle.std.proofs.Common.{◌≡◌, refl, [], ◌∷◌, Some, Ok, Err}
use Rattle.collection_model.specs.Collection.{Collection}
use Rattle.segments.specs.declared.pushed.Joining.TheVariants.{Alike}
use Rattle.segments.specs.declared.pushed.SegRule.TheVariants.{G1, G2}
use Rattle.segments.specs.Joined.{joined}
use Rattle.segments.specs.Segments.{Pushed, none_pushed, rule_broken, answer_of, with_segment, terms_of}

-- one list of two documents among three
abbrev three : Collection
three = record { documents = 3; lists = (record { doc = 0; freq = 1 } ∷ record { doc = 2; freq = 5 } ∷ []) ∷ []; sizes = 4 ∷ 0 ∷ 7 ∷ [] }

abbrev no_terms : Collection
no_terms = record { documents = 0; lists = []; sizes = [] }

twice : joined (three ∷ three ∷ []) ≡ record {
  documents = 6;
  lists = (record { doc = 0; freq = 1 } ∷ record { doc = 2; freq = 5 } ∷ record { doc = 3; freq = 1 } ∷ record { doc = 5; freq = 5 } ∷ []) ∷ [];
  sizes = 4 ∷ 0 ∷ 7 ∷ 4 ∷ 0 ∷ 7 ∷ [];
}
twice = refl

alone : joined (three ∷ []) ≡ three
alone = refl

nothing : joined (no_terms ∷ []) ≡ no_terms
nothing = refl

-- a push of the most documents, one more document, and none
abbrev full : Pushed
full = with_segment (none_pushed Alike) 4294967295 1

first-push : answer_of (none_pushed Alike) (rule_broken (none_pushed Alike) 4294967295 1) ≡ Ok 0
first-push = refl

one-more : answer_of full (rule_broken full 1 1) ≡ Err G2
one-more = refl

none-more : answer_of full (rule_broken full 0 1) ≡ Ok 4294967295
none-more = refl

-- other terms come first
both-rules : rule_broken full 1 2 ≡ Some G1
both-rules = refl

-- a first segment of no term, and then one with a term
no-terms-first : rule_broken (with_segment (none_pushed Alike) 0 0) 3 1 ≡ Some G1
no-terms-first = refl

terms-before : terms_of (none_pushed Alike) ≡ 0
terms-before = refl
