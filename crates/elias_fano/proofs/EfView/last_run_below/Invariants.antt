use Rattle.std.proofs.Common.{ℕ, ◌≤◌, ◌<◌, ◌+◌, ◌-◌, ◌*◌, ◌/◌, ◌^◌, List}
use Rattle.elias_fano.specs.EfPlaces.{AreBelow}
use Rattle.elias_fano.specs.EfView.{Holds}
use Rattle.elias_fano.proofs.EfView.last_run_below.Given as goal

abbrev pub invariant-gallop : goal.invariant-gallop
invariant-gallop g l = record {
  within : l.run ≤ l.last;
  some : 1 ≤ l.step;
  near : l.step ≤ 2 * l.last + 1;
  before : (ys : List ℕ) → Holds g.row.Q l.self ys → AreBelow ys (g.row.Q * l.first) (g.row.Q * l.run) (l.high * 2 ^ l.self.low);
}

abbrev pub decreases-gallop : goal.decreases-gallop
decreases-gallop g l = l.last - l.run

abbrev pub invariant-runs : goal.invariant-runs
invariant-runs g l = record {
  order : l.run < l.end;
  within : l.end ≤ (l.self.part.m - 1) / g.row.Q + 1;
  before : (ys : List ℕ) → Holds g.row.Q l.self ys → AreBelow ys (g.row.Q * l.first) (g.row.Q * l.run) (l.high * 2 ^ l.self.low);
}

abbrev pub decreases-runs : goal.decreases-runs
decreases-runs g l = l.end - l.run
