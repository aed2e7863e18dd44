use Rattle.std.proofs.Common.{◌≡◌, ◌++◌, take}
use Rattle.remap.specs.Spelling.{vectors_bytes}
use Rattle.remap.proofs.spelling.push_sequences.Given as goal

abbrev pub invariant-loop-numbers : goal.invariant-loop-numbers
invariant-loop-numbers l = l.bytes.items ≡ l.fn.bytes.items ++ vectors_bytes (take l.numbers-index l.vectors)
