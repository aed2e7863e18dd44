use Rattle.std.proofs.Common.{refl, sym, arith}
use Rattle.part_cost.specs.Formats.{numbers_of}
use Rattle.part_cost.proofs.Partitions.{few-parts}
use Rattle.sequence_words.specs.SequenceView.{sequence_stated}
use Rattle.part_directory.specs.Alone.{words_begun}
use Rattle.part_directory.proofs.Probes.{lasts-rise}
use Rattle.part_directory.proofs.directory.Directory.at_front.Goals as goal

pub invariant_of-result : goal.invariant_of-result
unfolding words_begun
invariant_of-result c =
    let format = numbers_of c.args.format in
    let words = c.args.words.now in
    let d = c.directory_states_its_parts.ensures c.args.format words c.args.parts c.args.m c.requires.begun in
    let count = c.requires.begun.3.sequence.count in
    record {
      lent = c.requires.words;
      few_words = c.requires.words;
      stated = d;
      count = sym count;
      few = omega (arith, count);
      few_parts = omega (arith, c.requires.begun.3.sequence.parts_count, few-parts 0 c.args.m _ c.requires.begun.3.sequence.partition);
      rising = lasts-rise format words c.args.parts (sequence_stated format words c.args.parts) d;
      stands = λ a is. cc;
    }

pub returns : goal.returns
unfolding words_begun
returns c = refl
