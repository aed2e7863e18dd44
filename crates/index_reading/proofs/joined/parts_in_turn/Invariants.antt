use Rattle.std.proofs.Common.{◌≡◌, take, map}
use Rattle.std.specs.List.{All}
use Rattle.index_reading.specs.InTurn.{placed_in, StandsBefore}
use Rattle.index_reading.proofs.InTurn.{segment-place}
use Rattle.index_reading.proofs.joined.parts_in_turn.Given as goal

abbrev pub invariant-loop-segment : goal.invariant-loop-segment
invariant-loop-segment l = record {
  placed : placed_in l.parts.items ≡ map segment-place (take l.segment-index l.segments);
  start : All (StandsBefore 0) l.parts.items;
}
