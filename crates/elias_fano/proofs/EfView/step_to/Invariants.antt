use Rattle.std.proofs.Common.{◌≡◌, ℕ, ◌≤◌, ◌<◌, ◌-◌, List, slice_index}
use Rattle.elias_fano.specs.EfPlaces.{AreBelow}
use Rattle.elias_fano.specs.EfView.{Holds}
use Rattle.elias_fano.proofs.EfView.step_to.Given as goal

abbrev pub invariant-loop-number : goal.invariant-loop-number
invariant-loop-number g l = record {
  reached : l.k ≤ l.at;
  within : l.at < l.self.part.m;
  number : (ys : List ℕ) → Holds g.row.Q l.self ys → l.number ≡ slice_index ys l.at;
  passed : (ys : List ℕ) → Holds g.row.Q l.self ys → AreBelow ys l.k l.at l.x;
}

abbrev pub decreases-loop-number : goal.decreases-loop-number
decreases-loop-number g l = l.self.part.m - l.at
