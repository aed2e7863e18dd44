use Rattle.std.proofs.Common.{◌≡◌, ◌++◌, take}
use Rattle.bit_words.specs.Bits.{bits_of}
use Rattle.packed_list.proofs.write.append_words.Given as goal

abbrev pub invariant-loop-word : goal.invariant-loop-word
invariant-loop-word l = l.to ≡ l.initial.to ++ bits_of (take l.word-index l.words)
