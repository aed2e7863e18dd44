use Rattle.std.proofs.Common.{◌≡◌, refl, Some, None, true, false, List, [], ◌∷◌}
use Rattle.collection_model.specs.Collection.{Posting}
use Rattle.topk_pruning.specs.Terms.{terms_of, beats, bounds, score_in, in_lists}

-- two lists
abbrev two_lists : List (List Posting)
two_lists =
    (record { doc = 1; freq = 2 } ∷ record { doc = 4; freq = 3 } ∷ [])
    ∷ (record { doc = 1; freq = 1 } ∷ record { doc = 2; freq = 3 } ∷ record { doc = 4; freq = 1 } ∷ [])
    ∷ []

-- the first weighs twice as much: 2 times 3 and once 3
bounds-two : bounds (terms_of two_lists (2 ∷ 1 ∷ [])) ≡ 9
bounds-two = refl

score-of_4 : score_in two_lists 4 (terms_of two_lists (2 ∷ 1 ∷ [])) ≡ 7
score-of_4 = refl

has-2 : in_lists two_lists 2 (terms_of two_lists (2 ∷ 1 ∷ [])) ≡ true
has-2 = refl

has-not-3 : in_lists two_lists 3 (terms_of two_lists (2 ∷ 1 ∷ [])) ≡ false
has-not-3 = refl

-- an equal score does not beat the least
equal : beats (Some 6) 6 ≡ false
equal = refl

one-more : beats (Some 6) 7 ≡ true
one-more = refl

room : beats None 0 ≡ true
room = refl
