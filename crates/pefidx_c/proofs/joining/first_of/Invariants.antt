use Rattle.std.proofs.Common.{◌≡◌, take}
use Rattle.scan_plans.specs.Ranking.{IsFirstK}
use Rattle.pefidx_c.proofs.joining.first_of.Given as goal

abbrev pub invariant-loop-pair : goal.invariant-loop-pair
invariant-loop-pair l = record {
  k : l.top.k ≡ l.most;
  n : l.top.n ≡ 4294967295;
  first : IsFirstK l.most (take l.pair-index l.pairs) l.top.held;
}
