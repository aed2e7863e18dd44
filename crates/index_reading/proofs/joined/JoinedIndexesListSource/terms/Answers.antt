use Rattle.std.proofs.Common.{sym, ap, ◌∙◌}
use Rattle.segments.specs.Joined.{most_terms_in}
use Rattle.index_reading.specs.JoinedSegments.{collections_in}
use Rattle.index_reading.proofs.Joining.{terms-joined}
use Rattle.index_reading.proofs.joined.JoinedIndexesListSource.terms.Goals as goal

pub returns : goal.returns
returns c =
    c.terms_of.ensures ∙ ap (λ segments. most_terms_in (collections_in segments)) c.deref.ensures.value
    ∙ sym (terms-joined (collections_in c.args.self.now.segments.items))
