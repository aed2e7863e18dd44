use Rattle.std.proofs.Common.{ℕ}
use Rattle.scan_plans.proofs.Marks.{IsRest, IsTaken}
use Rattle.scan_plans.proofs.docs.append_word.Given as goal

abbrev pub invariant-loop-rest : goal.invariant-loop-rest
invariant-loop-rest l = record {
  low : ℕ;
  rest : IsRest l.word low l.rest;
  taken : IsTaken l.base low l.word l.initial.docs.items l.docs.items;
}

abbrev pub decreases-loop-rest : goal.decreases-loop-rest
decreases-loop-rest l = l.rest
