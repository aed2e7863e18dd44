use Rattle.std.proofs.Common.{◌-◌, ◌≤◌, ◌<◌}
use Rattle.part_cost.specs.Formats.{numbers_of}
use Rattle.part_directory.specs.DirectorySequence.{words_of}
use Rattle.sequence_words.specs.SequenceFault.{stated_end, end_before}
use Rattle.part_directory.proofs.directory.Directory.part_of_place.Given as goal

abbrev pub invariant-loop-low : goal.invariant-loop-low
invariant-loop-low l = record {
  up : l.low ≤ l.high;
  within : l.high < l.self.parts;
  from : end_before (numbers_of l.self.format) (words_of l.self) l.low ≤ l.place;
  to : l.place < stated_end (numbers_of l.self.format) (words_of l.self) l.high;
}

abbrev pub decreases-loop-low : goal.decreases-loop-low
decreases-loop-low l = l.high - l.low
