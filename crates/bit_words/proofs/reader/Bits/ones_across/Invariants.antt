use Rattle.std.proofs.Common.{◌≡◌, ◌*◌, ◌/◌}
use Rattle.bit_words.specs.Bits.{bits_of, ones_between}
use Rattle.bit_words.proofs.reader.Bits.ones_across.Given as goal

abbrev pub invariant-loop-i : goal.invariant-loop-i
invariant-loop-i l = l.count ≡ ones_between (bits_of l.self.words.now) (64 * (l.from / 64)) (64 * l.i)
