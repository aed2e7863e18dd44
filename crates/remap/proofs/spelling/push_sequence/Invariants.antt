use Rattle.std.proofs.Common.{◌≡◌, ◌++◌, length, take, flat_map}
use Rattle.collection_model.specs.Bytes.{le32}
use Rattle.remap.proofs.spelling.push_sequence.Given as goal

abbrev pub invariant-loop-number : goal.invariant-loop-number
invariant-loop-number l = l.bytes.items ≡ l.fn.bytes.items ++ (le32 (length l.numbers) ++ flat_map le32 (take l.number-index l.numbers))
