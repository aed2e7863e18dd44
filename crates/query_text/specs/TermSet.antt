use Rattle.std.specs.Prelude.{ℕ, ◌==◌, ◌<◌, ◌≤◌, nat_lt, if◌then◌else◌, List, [], ◌∷◌, length}
use Rattle.std.specs.List.{All}
use Rattle.std.specs.List.Sorted.{IsStrictlyIncreasing}

-- a number put into a rising list of distinct numbers
abbrev pub into_set : ℕ → List ℕ → List ℕ
into_set t [] = t ∷ []
into_set t (x ∷ xs) = if t == x then x ∷ xs else if nat_lt t x then t ∷ x ∷ xs
    else x ∷ into_set t xs

-- the distinct ones of some numbers, rising
abbrev pub set_of : List ℕ → List ℕ
set_of [] = []
set_of (t ∷ ts) = into_set t (set_of ts)

-- the most numbers of terms in a line, counted as written
abbrev pub most_query_terms : ℕ
most_query_terms = 1024

-- distinct terms, rising, as a line may name over so many
pub record AreTerms (terms : ℕ) (ts : List ℕ) : Type 0 where
  pub rising : IsStrictlyIncreasing ts
  pub few : length ts ≤ most_query_terms
  pub below : All (λ t. t < terms) ts
