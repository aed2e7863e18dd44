use Rattle.std.proofs.Common.{◌≡◌, length}
use Rattle.query_text.specs.Lines.{fields}
use Rattle.query_text.specs.Weights.{weighted_fields}
use Rattle.query_text.proofs.NumbersSeen.{seen_and}
use Rattle.query_text.proofs.weighted_lists.written_fields.Given as goal

abbrev pub invariant-loop-field : goal.invariant-loop-field
invariant-loop-field l = weighted_fields (fields l.text) ≡ seen_and l.found.items (weighted_fields (fields l.rest))

abbrev pub decreases-loop-field : goal.decreases-loop-field
decreases-loop-field l = length l.rest
