use Rattle.std.proofs.Common.{ℕ, ◌-◌, ◌≤◌, List}
use Rattle.part_codec.specs.PartView.{Holds}
use Rattle.index_file.specs.Gaps.{place_in, AreHere, FollowOn}
use Rattle.index_file.proofs.gaps.find_gap.Given as goal

abbrev pub invariant-loop-run : goal.invariant-loop-run
invariant-loop-run l = record {
  later : place_in l.fn.run ≤ place_in l.run;
  here : (ys : List ℕ) → Holds l.part ys → AreHere ys l.initial.numbers l.fn.run → AreHere ys l.numbers l.run;
  follow : (ys : List ℕ) → Holds l.part ys → AreHere ys l.initial.numbers l.fn.run → FollowOn ys (place_in l.fn.run) (place_in l.run);
}

abbrev pub decreases-loop-run : goal.decreases-loop-run
decreases-loop-run l = l.fn.last - place_in l.run
