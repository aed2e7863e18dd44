use Rattle.std.proofs.Common.{◌+◌, ◌/◌, ◌^◌, ◌<◌, get_or, refl, rules}
use Rattle.bit_words.proofs.Words.{field-masked, got_across}
use Rattle.bit_words.proofs.reader.Bits.get.Goals as goal

pub returns-then-at-width-le64 : goal.returns-then-at-width-le64
returns-then-at-width-le64 c =
    field-masked c.args.self.now.words.now c.args.at c.args.width c.word.result c.lowest.result c.word.ensures c.word.type_inv c.if-at-width-le64.true c.lowest.ensures

pub returns : goal.returns
returns c =
    let ws = c.args.self.now.words.now in
    let small : get_or ws (c.args.at / 64 + 1) 0 < 2 ^ 64 = search rules in
    got_across ws c.args.at c.args.width c.word.result (get_or ws (c.args.at / 64 + 1) 0) c.lowest-2.result c.word.ensures refl c.word.type_inv small c.if-at-width-le64.false c.requires.width c.lowest-2.ensures
