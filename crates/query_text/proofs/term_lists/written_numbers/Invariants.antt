use Rattle.std.proofs.Common.{◌≡◌, length}
use Rattle.query_text.specs.Lines.{fields}
use Rattle.query_text.specs.Numbers.{numbers_of}
use Rattle.query_text.proofs.NumbersSeen.{seen_and}
use Rattle.query_text.proofs.term_lists.written_numbers.Given as goal

abbrev pub invariant-loop-number : goal.invariant-loop-number
invariant-loop-number l = numbers_of (fields l.text) ≡ seen_and l.numbers.items (numbers_of (fields l.rest))

abbrev pub decreases-loop-number : goal.decreases-loop-number
decreases-loop-number l = length l.rest
