use Rattle.std.proofs.Common.{◌≡◌, ◌+◌, ◌≤◌, length, take}
use Rattle.query_text.specs.Lines.{fields}
use Rattle.query_text.specs.Weights.{weighted_fields}
use Rattle.query_text.proofs.WeightsSeen.{WeighedSoFar}
use Rattle.query_text.proofs.weighted_lists.first_fields.Given as goal

abbrev pub invariant-loop-field : goal.invariant-loop-field
invariant-loop-field l = record {
  so_far : WeighedSoFar l.terms (weighted_fields (fields l.arguments)) (weighted_fields (fields l.rest)) l.count l.all_weigh l.all_there;
  kept : l.first.items ≡ take 8 so_far.seen;
  room : l.first.capacity ≡ 8;
  within : l.count + length l.rest ≤ length l.arguments;
}

abbrev pub decreases-loop-field : goal.decreases-loop-field
decreases-loop-field l = length l.rest
