use Rattle.std.specs.Prelude.{◌≡◌, ℕ, nat_lt, List, length, take, drop, take_while}
use Rattle.collection_model.specs.FormatNumbers.{FormatNumbers}
use Rattle.collection_model.specs.Collection.{Collection, WellFormed}
use Rattle.collection_model.specs.Spelling.{spelled}
use Rattle.collection_model.specs.NextBelow.{AreNextBelow}

-- Files are spelled by one collection only.
abbrev pub OneCollection : FormatNumbers → Type 0
OneCollection format = (c d : Collection) → WellFormed format c → WellFormed format d
    → spelled c ≡ spelled d → c ≡ d

-- The next numbers below x are all from the place on before the first that is x or more, as far as
-- they have room.
abbrev pub NextStopAtFirst : Type 0
NextStopAtFirst =
    (numbers : List ℕ) (from x : ℕ) (given : List ℕ) (count : ℕ)
    → AreNextBelow numbers from x given count
    → take count given ≡ take (length given) (take_while (λ n. nat_lt n x) (drop from numbers))

-- Only one count tells how many they are.
abbrev pub OneCount : Type 0
OneCount =
    (numbers : List ℕ) (from x : ℕ) (given : List ℕ) (c d : ℕ) → AreNextBelow numbers from x given c
    → AreNextBelow numbers from x given d → c ≡ d
