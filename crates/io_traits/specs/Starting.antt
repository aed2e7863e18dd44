use Rattle.std.specs.Prelude.{◌≡◌, ℕ, Bool, IsTrue, List, [], ◌∷◌, ◌++◌}
use Rattle.io_traits.specs.Calls.{one_more}

-- what is known of the starts of a slot
pub record Starting : Type 0 where
  -- how often one was asked, also where it was refused; every depot tells it
  pub count : ℕ
  -- whether their names are told
  pub told : Bool
  -- the names that were asked, also where a start was refused, in their order, where they are told
  pub names : List (List ℕ)

-- One more start was asked, under this name. What is told of names now was told before.
pub record StartedAs (name : List ℕ) (old new : Starting) : Type 0 where
  pub count : new.count ≡ one_more old.count
  pub told : IsTrue new.told → IsTrue old.told
  pub named : IsTrue new.told → new.names ≡ old.names ++ name ∷ []
