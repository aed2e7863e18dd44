use Rattle.std.proofs.Common.{ℕ, List}
use Rattle.postings.specs.Blocks.{AreSumsFrom}
use Rattle.postings.proofs.Blocks.{AreTurnedLater}
use Rattle.postings.proofs.cursor.sums_to_later_freqs.Given as goal

abbrev pub invariant-loop-j : goal.invariant-loop-j
invariant-loop-j l = (all : List ℕ) (from past : ℕ) → AreSumsFrom all from l.initial.sums past → AreTurnedLater all l.sums from l.j l.past
