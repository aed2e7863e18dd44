use Rattle.bit_words.proofs.NthOnes.{ones-inside}
use Rattle.bit_words.proofs.reader.Bits.ones_within.Goals as goal

pub returns : goal.returns
returns c =
    let a = c.args in
    ones-inside a.self.now.words.now a.from a.to c.word.result c.lowest.result c.requires.ordered c.requires.range c.requires.within c.word.ensures c.word.type_inv c.lowest.ensures
