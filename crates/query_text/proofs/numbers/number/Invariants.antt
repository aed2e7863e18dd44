use Rattle.query_text.proofs.LeadingNumbers.{DigitsRead}
use Rattle.query_text.proofs.numbers.number.Given as goal

abbrev pub invariant-loop-byte : goal.invariant-loop-byte
invariant-loop-byte l = DigitsRead l.value l.byte-index l.field
