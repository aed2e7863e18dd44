use Rattle.std.proofs.Common.{◌*◌, ◌/◌, ◌%◌, ◌^◌, ◌-◌, ◌∙◌, bit_and, ap}
use Rattle.bit_words.proofs.WordOnes.{reading-from}
use Rattle.bit_words.proofs.reader.Bits.ones_from.Goals as goal

pub invariant_of-result : goal.invariant_of-result
invariant_of-result c =
    let a = c.args in
    reading-from a.self.now.words.now a.from a.to c.before-2.result c.requires.ordered c.requires.range
    (c.before-2.ensures ∙ ap (λ w. bit_and w ((2 ^ 64 - 1) * 2 ^ (a.from % 64) % 2 ^ 64) % 2 ^ (a.to - a.from / 64 * 64)) c.word-word.ensures)
