use Rattle.std.specs.Prelude.{◌≡◌, ℕ, ◌⊎◌, ◌++◌, IsTrue, List, Err, Ok}
use Rattle.io_traits.specs.Helpers.{AppendsPrefix}
use Rattle.outcomes.specs.Outside.{Outside}
use Rattle.outcomes.specs.declared.stop.Stop.TheVariants.{OutFault, NoMemory}
use Rattle.outcomes.specs.Outcome.{Outcome}

-- Out got a text of this property.
abbrev pub GotWhole : (List ℕ → Type 0) → Outside → Outside → Type 0
GotWhole Is old new =
    (text : List ℕ) × Is text × (IsTrue old.out.tells → new.out.written ≡ old.out.written ++ text)

-- Out got a prefix of a text of this property.
abbrev pub GotPrefix : (List ℕ → Type 0) → Outside → Outside → Type 0
GotPrefix Is old new =
    (text : List ℕ) × Is text
    × (IsTrue old.out.tells → AppendsPrefix old.out.written new.out.written text)

-- A run prints a text of this property, and ends so. Want of memory may come before there is one.
abbrev pub PrintsText : (List ℕ → Type 0) → Outside → Outside → Outcome → Type 0
PrintsText Is old new (Ok u) = GotWhole Is old new
PrintsText Is old new (Err OutFault) = GotPrefix Is old new
PrintsText Is old new (Err NoMemory) = (new.out ≡ old.out) ⊎ GotPrefix Is old new
PrintsText Is old new outcome = ⊥
