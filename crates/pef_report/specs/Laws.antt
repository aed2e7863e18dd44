use Rattle.std.specs.Prelude.{ℕ, ◌*◌, ◌≤◌}
use Rattle.collection_model.specs.FormatNumbers.{FormatNumbers, most_terms}
use Rattle.collection_model.specs.Collection.{WellFormed}
use Rattle.pef_report.specs.Generated.{generated}

-- A format in which eight occurrences in each document are not too many can hold what is generated
-- within its limits.
abbrev pub GeneratedAreWellFormed : Type 0
GeneratedAreWellFormed =
    (format : FormatNumbers) (seed n t : ℕ) → n ≤ format.most_documents → 8 * n ≤ format.most_sum
    → t ≤ most_terms
    → WellFormed format (generated seed n t)
