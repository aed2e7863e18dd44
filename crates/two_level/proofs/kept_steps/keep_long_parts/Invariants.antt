use Rattle.std.proofs.Common.{◌≡◌, ℕ, ◌+◌, ◌≤◌, length, take, slice_index}
use Rattle.std.specs.List.{flat_map, range_with_len}
use Rattle.collection_model.specs.Sequences.{steps_from}
use Rattle.part_cost.specs.Formats.{numbers_of}
use Rattle.part_directory.specs.DirectorySequence.{words_of}
use Rattle.sequence_words.specs.SequenceFault.{end_before}
use Rattle.sequence_words.specs.SequenceView.{sequence_stated, start_of_part}
use Rattle.two_level.specs.LongSteps.{count_reaching, KeepsLongest, steps_if_long}
use Rattle.two_level.proofs.kept_steps.keep_long_parts.Given as goal

abbrev pub invariant-parts : goal.invariant-parts
invariant-parts l = record {
  same_kept : length l.kept ≡ length l.fn.kept;
  kept_few : (t : ℕ) → count_reaching t l.kept ≤ count_reaching t l.fn.kept + count_reaching t (take (end_before (numbers_of l.directory.format) (words_of l.directory) l.index) (steps_from 0 (sequence_stated (numbers_of l.directory.format) (words_of l.directory) l.directory.parts).values));
  longest : let v = sequence_stated (numbers_of l.directory.format) (words_of l.directory) l.directory.parts in
      KeepsLongest l.fn.kept (flat_map (λ q. steps_if_long v.values (start_of_part v.ends q) (slice_index v.ends q)) (range_with_len 0 l.index)) l.kept;
}
