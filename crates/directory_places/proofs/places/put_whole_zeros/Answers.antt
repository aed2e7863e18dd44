use Rattle.std.proofs.Common.{◌+◌, ◌*◌, ◌++◌, ap, ◌∙◌, arith}
use Rattle.bit_words.specs.Bits.{field_bits}
use Rattle.directory_places.proofs.Marks.{zeros-behind}
use Rattle.directory_places.proofs.places.put_whole_zeros.Goals as goal

pub loop-preserved : goal.loop-preserved
loop-preserved c =
    c.in_ok-put.ensures.ok ∙ ap (λ l. l ++ field_bits 64 0) c.loop.invariant
    ∙ zeros-behind c.args.to.now (64 * c.loop.counter) 64 (64 * (c.loop.counter + 1)) (omega arith)
