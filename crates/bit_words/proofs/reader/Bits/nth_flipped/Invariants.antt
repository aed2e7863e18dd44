use Rattle.std.proofs.Common.{◌-◌}
use Rattle.bit_words.specs.Bits.{flipped}
use Rattle.bit_words.proofs.NthOnes.{IsSeeking}
use Rattle.bit_words.proofs.reader.Bits.nth_flipped.Given as goal

abbrev pub invariant-words : goal.invariant-words
invariant-words l = IsSeeking (flipped l.flip l.self.words.now) l.from l.to l.n l.start l.rest l.left

abbrev pub decreases-words : goal.decreases-words
decreases-words l = l.to - l.start
