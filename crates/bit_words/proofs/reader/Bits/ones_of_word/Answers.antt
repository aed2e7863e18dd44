use Rattle.bit_words.proofs.WordRanges.{ones-of_word}
use Rattle.bit_words.proofs.reader.Bits.ones_of_word.Goals as goal

pub returns : goal.returns
returns c = ones-of_word c.args.self.now.words.now c.args.to c.word.result c.lowest.result c.requires.range c.word.ensures c.word.type_inv c.lowest.ensures
