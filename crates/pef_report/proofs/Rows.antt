-- What seed 1 draws, computed.
use Rattle.std.proofs.Common.{◌≡◌, refl, [], ◌∷◌, map}
use Rattle.std.specs.List.{range_with_len}
use Rattle.pef_report.specs.Generated.{state_behind, draw, document_drawn, list_drawn, lists_drawn, generated}

-- the first states
states : map (state_behind 1) (range_with_len 1 7) ≡ 81414 ∷ 1328228615 ∷ 3215746516 ∷ 2752347901 ∷ 2369698258 ∷ 75278179 ∷ 2478129536 ∷ []
unfolding state_behind
states = refl

-- and their high halves
draws : map (draw 1) (range_with_len 0 7) ≡ 1 ∷ 20267 ∷ 49068 ∷ 41997 ∷ 36158 ∷ 1148 ∷ 37813 ∷ []
unfolding state_behind draw
draws = refl

-- three documents, two lists
three-and-two :
    generated 1 3 2
    ≡ record {
      documents = 3;
      lists = (record { doc = 0; freq = 4 } ∷ record { doc = 1; freq = 5 } ∷ record { doc = 2; freq = 6 } ∷ [])
          ∷ (record { doc = 0; freq = 5 } ∷ record { doc = 2; freq = 6 } ∷ []) ∷ [];
      sizes = 1 ∷ 2 ∷ 3 ∷ [];
    }
unfolding state_behind draw document_drawn list_drawn lists_drawn generated
three-and-two = refl

-- three documents, one list
three-and-one :
    generated 1 3 1
    ≡ record {
      documents = 3;
      lists = (record { doc = 0; freq = 4 } ∷ record { doc = 1; freq = 5 } ∷ record { doc = 2; freq = 6 } ∷ []) ∷ [];
      sizes = 1 ∷ 2 ∷ 3 ∷ [];
    }
unfolding state_behind draw document_drawn list_drawn lists_drawn generated
three-and-one = refl

-- nothing
none : generated 1 0 0 ≡ record { documents = 0; lists = []; sizes = [] }
unfolding state_behind draw document_drawn list_drawn lists_drawn generated
none = refl
