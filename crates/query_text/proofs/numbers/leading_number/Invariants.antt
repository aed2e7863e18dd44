use Rattle.std.proofs.Common.{◌-◌, length}
use Rattle.query_text.proofs.LeadingNumbers.{DigitsRead}
use Rattle.query_text.proofs.numbers.leading_number.Given as goal

abbrev pub invariant-loop-len : goal.invariant-loop-len
invariant-loop-len l = DigitsRead l.value l.len l.text

abbrev pub decreases-loop-len : goal.decreases-loop-len
decreases-loop-len l = length l.text - l.len
