use Rattle.std.proofs.Common.{◌≡◌, ℕ}
use Rattle.scan_plans.specs.Best.{IsBar}
use Rattle.scan_plans.specs.Ranking.{held_of}
use Rattle.scan_plans.proofs.Bests.{IsOffered}
use Rattle.scan_plans.proofs.Marks.{IsRest}
use Rattle.scan_plans.proofs.Windows.{IsCleared}
use Rattle.scan_plans.proofs.top.offer_word.Given as goal

abbrev pub invariant-loop-rest : goal.invariant-loop-rest
invariant-loop-rest l = record {
  low : ℕ;
  rest : IsRest l.word low l.rest;
  offered : IsOffered l.base low l.initial.scores l.initial.top l.top;
  same_bar : l.bar ≡ l.top.bar;
  bar : IsBar l.top.k (held_of l.top) l.bar;
  cleared : IsCleared 0 low l.initial.scores l.scores;
}

abbrev pub decreases-loop-rest : goal.decreases-loop-rest
decreases-loop-rest l = l.rest
