use Rattle.std.proofs.Common.{◌-◌, ◌<◌, ◌≤◌}
use Rattle.part_cost.specs.Formats.{numbers_of}
use Rattle.part_directory.specs.DirectorySequence.{words_of}
use Rattle.sequence_words.specs.SequenceFault.{stated_end, end_before}
use Rattle.sequence_words.specs.SequenceView.{sequence_stated}
use Rattle.two_level.specs.LongSteps.{IsFirstStep}
use Rattle.two_level.proofs.long_steps.first_step_from.Given as goal

abbrev pub invariant-parts : goal.invariant-parts
invariant-parts l = record {
  after : l.from ≤ l.place;
  within : l.place ≤ l.m;
  part : l.place < l.m → (l.index < l.directory.parts) × (end_before (numbers_of l.directory.format) (words_of l.directory) l.index ≤ l.place) × (l.place < stated_end (numbers_of l.directory.format) (words_of l.directory) l.index);
  none : IsFirstStep (sequence_stated (numbers_of l.directory.format) (words_of l.directory) l.directory.parts).values l.from l.place l.least l.place;
}

abbrev pub decreases-parts : goal.decreases-parts
decreases-parts l = l.m - l.place
