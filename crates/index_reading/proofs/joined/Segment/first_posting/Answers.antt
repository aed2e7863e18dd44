use Rattle.std.proofs.Common.{sym, ap, ◌∙◌, arith}
use Rattle.std.specs.Option.{option_map}
use Rattle.collection_model.specs.Collection.{first_at_least, list_of}
use Rattle.segments.specs.Joined.{most_joined}
use Rattle.index_reading.proofs.FirstJoined.{pair_of, nothing-left, none-counted, found-below, found-counted}
use Rattle.index_reading.proofs.joined.Segment.first_posting.Goals as goal

pub returns-then-documents-from : goal.returns-then-documents-from
returns-then-documents-from c =
    sym (nothing-left c.args.self.now.index.collection c.args.term c.args.self.now.first c.args.doc (omega (arith, c.terms.ensures, c.if-terms-term.false)) c.requires.in_range
    (omega (arith, c.saturating_sub-from.ensures, c.documents.ensures, c.if-documents-from.true)))

pub returns-in_err-found : goal.returns-in_err-found
returns-in_err-found c =
    c.from_residual.ensures
    ∙ sym (none-counted c.args.self.now.first c.args.doc (list_of c.args.self.now.index.collection c.args.term)
    (ap (λ d. option_map pair_of (first_at_least (list_of c.args.self.now.index.collection c.args.term) d)) (sym c.saturating_sub-from.ensures) ∙ sym c.first_posting.ensures ∙ c.in_err-found.was))

pub overflow_add-result : goal.overflow_add-result
overflow_add-result c =
    omega (
      arith,
      found-below c.args.self.now.first most_joined c.saturating_sub-from.result (list_of c.args.self.now.index.collection c.args.term) (c.in_ok-found.found, c.in_ok-found.freq) c.requires.few
          (sym c.first_posting.ensures ∙ c.in_ok-found.was),
    )

pub returns : goal.returns
returns c =
    sym (found-counted c.args.self.now.first c.args.doc (list_of c.args.self.now.index.collection c.args.term) c.in_ok-found.found c.in_ok-found.freq
    (ap (λ d. option_map pair_of (first_at_least (list_of c.args.self.now.index.collection c.args.term) d)) (sym c.saturating_sub-from.ensures) ∙ sym c.first_posting.ensures ∙ c.in_ok-found.was))
