use Rattle.std.proofs.Common.{ℕ, List}
use Rattle.postings.specs.Blocks.{AreSumsFrom}
use Rattle.postings.proofs.Blocks.{AreTurned}
use Rattle.postings.proofs.cursor.sums_to_freqs.Given as goal

abbrev pub invariant-loop-j : goal.invariant-loop-j
invariant-loop-j l = (all : List ℕ) (from : ℕ) → AreSumsFrom all from l.initial.sums l.initial.past → AreTurned all l.sums from l.j l.past
