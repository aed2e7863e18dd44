use Rattle.std.proofs.Common.{◌≡◌, ◌*◌, ◌≤◌, ◌++◌, [], length, drop}
use Rattle.std.specs.List.{flat_map}
use Rattle.query_text.specs.Texts.{scored}
use Rattle.query_text.proofs.replies.write_scored.Given as goal

abbrev pub invariant-loop-left : goal.invariant-loop-left
invariant-loop-left l = record {
  within : l.left ≤ length l.top;
  space : 32 * l.left ≤ l.at;
  end : l.at ≤ length l.room;
  count : length l.room ≡ length l.initial.room;
  written : drop l.at l.room ≡ flat_map scored (drop l.left l.top) ++ [];
}

abbrev pub decreases-loop-left : goal.decreases-loop-left
decreases-loop-left l = l.left
