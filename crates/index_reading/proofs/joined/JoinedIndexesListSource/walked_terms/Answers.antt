use Rattle.std.proofs.Common.{◌≡◌, [], ap, subst, arith, List}
use Rattle.std.specs.List.{All}
use Rattle.collection_model.specs.Collection.{list_of}
use Rattle.segments.specs.Joined.{most_terms_in}
use Rattle.index_reading.specs.declared.joined.Segment.{Segment}
use Rattle.index_reading.specs.JoinedSegments.{collections_in}
use Rattle.index_reading.proofs.Joining.{none-joined, terms-joined}
use Rattle.index_reading.proofs.joined.JoinedIndexesListSource.walked_terms.Goals as goal

pub returns-clause-within : goal.returns-clause-within
returns-clause-within c =
    omega (
      arith,
      c.walked_of.ensures.within,
      ap (λ segments. most_terms_in (collections_in segments)) c.deref.ensures.value,
      terms-joined (collections_in c.args.self.now.segments.items),
    )

pub returns-clause-rest : goal.returns-clause-rest
returns-clause-rest c = λ t le.
    none-joined (collections_in c.args.self.now.segments.items) t c.joined_lists_follow.ensures.list
    (subst (λ (segments : List Segment). All (λ d. list_of d t ≡ []) (collections_in segments)) c.deref.ensures.value (c.walked_of.ensures.rest t le))
