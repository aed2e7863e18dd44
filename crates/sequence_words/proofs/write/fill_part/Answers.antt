use Rattle.std.proofs.Common.{◌-◌, ◌<◌, arith}
use Rattle.part_cost.proofs.Parts.{part-length}
use Rattle.sequence_words.proofs.Writing.{above-part}
use Rattle.sequence_words.proofs.write.fill_part.Goals as goal

pub overflow_sub-value : goal.overflow_sub-value
overflow_sub-value c =
    let xs = c.args.values.now in
    let count = part-length xs c.args.from c.args.end c.requires.some c.requires.within in
    let lt : c.loop-value.value-index < c.args.end - c.args.from = omega (arith, count, c.loop-value-test.true) in
    let above = above-part c.part_is_relative.ensures.room xs c.requires.rising c.args.from c.args.end c.loop-value.value-index lt c.requires.within in
    omega (arith, above, c.past_value-past.ensures)
