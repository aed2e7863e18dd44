use Rattle.std.proofs.Common.{ℕ}
use Rattle.bit_words.proofs.NthOnes.{IsWithout}
use Rattle.bit_words.proofs.reader.nth_of_word.Given as goal

abbrev pub invariant-ones : goal.invariant-ones
invariant-ones l = (at : ℕ) × IsWithout l.word at l.counter l.rest
