use Rattle.std.proofs.Common.{◌≡◌, ◌-◌, ◌<◌, ◌≤◌, max}
use Rattle.part_cost.specs.Formats.{numbers_of}
use Rattle.part_directory.specs.DirectorySequence.{words_of}
use Rattle.sequence_words.specs.SequenceFault.{stated_end, end_before}
use Rattle.sequence_words.specs.SequenceView.{sequence_stated}
use Rattle.two_level.specs.Steps.{greatest_step}
use Rattle.two_level.proofs.stepping.step_between.Given as goal

abbrev pub invariant-parts : goal.invariant-parts
invariant-parts l = record {
  after : l.from ≤ l.place;
  within : l.place ≤ l.to;
  part : l.place < l.to → (l.index < l.directory.parts) × (end_before (numbers_of l.directory.format) (words_of l.directory) l.index ≤ l.place) × (l.place < stated_end (numbers_of l.directory.format) (words_of l.directory) l.index);
  largest : max l.most (greatest_step (sequence_stated (numbers_of l.directory.format) (words_of l.directory) l.directory.parts).values l.place l.to) ≡ greatest_step (sequence_stated (numbers_of l.directory.format) (words_of l.directory) l.directory.parts).values l.from l.to;
}

abbrev pub decreases-parts : goal.decreases-parts
decreases-parts l = l.to - l.place
