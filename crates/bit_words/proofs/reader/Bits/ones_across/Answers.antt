use Rattle.std.proofs.Common.{◌≡◌, ◌+◌, ◌*◌, ◌/◌, ◌^◌, ◌<◌, get_or, count_ones, ap, ◌∙◌, arith, rules}
use Rattle.bit_words.specs.Bits.{bits_of, ones_between}
use Rattle.bit_words.proofs.WordRanges.{ones-whole, ones-counted, ones_between-le}
use Rattle.bit_words.proofs.reader.Bits.ones_across.Goals as goal
use Rattle.bit_words.proofs.reader.Bits.ones_across.Goals.{In-loop-i, After-ones_of_word-2}

-- with the ones of one word more
more : (c : In-loop-i) → get_or c.args.self.now.words.now c.loop-i.i 0 < 2 ^ 64 → c.loop-i.count + count_ones (get_or c.args.self.now.words.now c.loop-i.i 0) ≡ ones_between (bits_of c.args.self.now.words.now) (64 * (c.args.from / 64)) (64 * (c.loop-i.i + 1))
more c small = omega (arith, c.loop-i.invariant, ones-whole c.args.self.now.words.now (c.args.from / 64) c.loop-i.i (omega arith) (omega arith) small)

pub overflow_add-count : goal.overflow_add-count
overflow_add-count c = omega (arith, more (goal.at.overflow_add-count c).In-loop-i (search rules), ones_between-le c.args.self.now.words.now (64 * (c.args.from / 64)) (64 * (c.loop-i.i + 1)))

pub loop-i-preserved : goal.loop-i-preserved
loop-i-preserved c = more (goal.at.loop-i-preserved c).In-loop-i (search rules)

pub overflow_add-result : goal.overflow_add-result
overflow_add-result c =
    omega (
      arith,
      c.loop-i.invariant,
      c.ones_of_word.ensures,
      ones_between-le c.args.self.now.words.now (64 * (c.args.from / 64)) (64 * c.loop-i.i),
      ones_between-le c.args.self.now.words.now (64 * (c.args.to / 64)) c.args.to,
    )

-- the ones from the first word on are those before the range and those of it
counted : (c : After-ones_of_word-2) → c.loop-i.count + c.ones_of_word.result ≡ c.ones_of_word-2.result + ones_between (bits_of c.args.self.now.words.now) c.args.from c.args.to
counted c =
    let last : c.loop-i.i ≡ c.args.to / 64 = omega arith in
    ones-counted c.args.self.now.words.now c.args.from c.args.to c.loop-i.count c.ones_of_word.result c.ones_of_word-2.result c.requires.ordered
    (c.loop-i.invariant ∙ ap (λ i. ones_between (bits_of c.args.self.now.words.now) (64 * (c.args.from / 64)) (64 * i)) last) c.ones_of_word.ensures c.ones_of_word-2.ensures

pub overflow_sub-result : goal.overflow_sub-result
overflow_sub-result c = omega (arith, counted (goal.at.overflow_sub-result c).After-ones_of_word-2)

pub returns : goal.returns
returns c = omega (arith, counted (goal.at.returns c).After-ones_of_word-2)
