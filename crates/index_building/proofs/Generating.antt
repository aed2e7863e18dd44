-- Lemmas on the collection that is generated.
use Rattle.std.proofs.Common.{◌≡◌, refl, ℕ, ◌^◌, ◌<◌, arith}
use Rattle.collection_model.specs.FormatNumbers.{format_two}
use Rattle.collection_model.specs.Collection.{WellFormed}
use Rattle.pef_report.specs.Generated.{generated}
use Rattle.pef_report.specs.Laws.{GeneratedAreWellFormed}

-- the collection has the documents that were asked for, and is within the second format
pub generated-documents : (seed n t : ℕ) → (generated seed n t).documents ≡ n
unfolding generated
generated-documents seed n t = refl

pub generated-fits : GeneratedAreWellFormed → (seed n t : ℕ) → n < 2 ^ 32 → t < 2 ^ 32 → WellFormed format_two (generated seed n t)
generated-fits law seed n t few less = law format_two seed n t (omega (arith, few)) (omega (arith, few)) (omega (arith, less))
