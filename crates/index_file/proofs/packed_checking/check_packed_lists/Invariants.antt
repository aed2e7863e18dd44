use Rattle.std.proofs.Common.{◌≡◌, ◌+◌, ◌-◌, ◌<◌, ◌≤◌, length}
use Rattle.collection_model.specs.Collection.{Collection}
use Rattle.index_file.specs.Gaps.{place_in, AreHere}
use Rattle.index_file.specs.PackedAt.{packed_terms, starts_stated, AreListsOf, AreListsStored}
use Rattle.index_file.proofs.packed_checking.check_packed_lists.Given as goal

abbrev pub invariant-loop-run : goal.invariant-loop-run
invariant-loop-run g l = record {
  room : length l.numbers ≡ 16;
  here : AreHere (starts_stated l.words) l.numbers l.run;
  next : place_in l.run + 1 < length (starts_stated l.words) → l.run.at + 1 < l.run.count;
  stored : AreListsStored l.words (place_in l.run);
  inside : place_in l.run ≤ packed_terms l.words;
  took : (c : Collection) → AreListsOf l.words c → g.L.ListSink.took l.fn.lists c 0 → g.L.ListSink.took l.lists c (place_in l.run);
}

abbrev pub decreases-loop-run : goal.decreases-loop-run
decreases-loop-run g l = l.terms - place_in l.run
