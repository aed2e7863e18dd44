use Rattle.std.proofs.Common.{◌∙◌, ap, sym, map}
use Rattle.std.proofs.lemmas.Slice.Zip.{firsts-zip}
use Rattle.query_text.proofs.weighted_terms.Weighted.terms.Goals as goal

pub returns-clause-value : goal.returns-clause-value
returns-clause-value c = c.as_slice.ensures.value ∙ sym (firsts-zip c.self.inside.terms c.self.inside.weights.items c.self.invariant.0) ∙ ap (map (λ t. t.0)) c.self.view_is
