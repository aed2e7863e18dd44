use Rattle.std.proofs.Common.{◌≡◌, ◌+◌, ◌≤◌, length, take}
use Rattle.query_text.specs.Lines.{fields}
use Rattle.query_text.specs.Numbers.{numbers_of}
use Rattle.query_text.proofs.NumbersSeen.{SoFar}
use Rattle.query_text.proofs.term_lists.first_terms.Given as goal

abbrev pub invariant-loop-term : goal.invariant-loop-term
invariant-loop-term l = record {
  so_far : SoFar l.terms (numbers_of (fields l.arguments)) (numbers_of (fields l.rest)) l.count l.all_there;
  kept : l.first.items ≡ take 8 so_far.seen;
  room : l.first.capacity ≡ 8;
  within : l.count + length l.rest ≤ length l.arguments;
}

abbrev pub decreases-loop-term : goal.decreases-loop-term
decreases-loop-term l = length l.rest
