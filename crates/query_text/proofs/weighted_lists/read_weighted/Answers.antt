use Rattle.std.proofs.Common.{rules}
use Rattle.query_text.specs.Lines.{fields}
use Rattle.query_text.specs.Weights.{weighted_fields}
use Rattle.query_text.proofs.WeightsSeen.{read-weighted}
use Rattle.query_text.proofs.weighted_lists.read_weighted.Goals as goal

pub returns : goal.returns
returns c =
    read-weighted c.args.terms (weighted_fields (fields c.args.arguments.now)) c.in_ok-found.found.items c.in_ok-from_fields.field-0 c.in_ok-first.ensures.named c.in_ok-found.ensures (search rules)
