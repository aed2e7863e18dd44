-- Segments that are accepted, each with its own number of terms, as the collection to which they are joined.
use Rattle.std.proofs.Common.{refl, arith, ℕ, List, All}
use Rattle.std.proofs.lemmas.List.Elements.{All-from_get_or}
use Rattle.segments.specs.Laws.{IsWellFormed, JoinedIsWellFormed}
use Rattle.segments.specs.Totals.{SumsFit}
use Rattle.collection_model.specs.FormatNumbers.{format_three}
use Rattle.collection_model.specs.Collection.{WellFormed}
use Rattle.commands.proofs.Names.{Collection, DepotState, FindsJoined, FindsSegments, Wide, joined_wide, no_collection, numbers_of}

module _ (names : List (List ℕ)) (depot : DepotState) (cs : List Collection) (f : FindsSegments Wide names depot cs) where
  each_formed : All IsWellFormed cs
  each_formed = All-from_get_or IsWellFormed cs no_collection (λ s within.
      let it = f.each s (omega (arith, within, f.as_many)) in
      (numbers_of it.0, it.2.well_formed))

  -- it is well formed, as a packed file has it
  pub joined_formed : JoinedIsWellFormed → SumsFit cs → WellFormed format_three (joined_wide cs)
  joined_formed law sums = law cs each_formed f.fit sums

  pub joined_found : SumsFit cs → FindsJoined Wide names depot (joined_wide cs)
  joined_found sums = (cs, f, (sums, refl))
