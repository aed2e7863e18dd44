use Rattle.std.proofs.Common.{arith}
use Rattle.sequence_words.proofs.Writing.{past-less}
use Rattle.sequence_words.proofs.write.universe_of_part.Goals as goal

pub overflow_sub-result : goal.overflow_sub-result
overflow_sub-result c =
    omega (
      arith,
      past-less c.part_is_relative.ensures.room c.args.values.now c.requires.rising c.args.from c.args.end c.requires.some c.requires.within,
      c.past_value.ensures,
      c.past_value-2.ensures,
    )
