use Rattle.std.proofs.Common.{◌≤◌, arith}
use Rattle.std.proofs.lemmas.Option.{IfSome_then}
use Rattle.bit_words.specs.Bits.{bits_of}
use Rattle.bit_words.proofs.Value.{length-bits_of}
use Rattle.bit_words.proofs.WordRanges.{ones-joined, ones_between-le}
use Rattle.bit_words.proofs.NthOnes.{nth-back}
use Rattle.bit_words.proofs.reader.Bits.nth_one_back.Goals as goal

pub overflow_add-behind : goal.overflow_add-behind
overflow_add-behind c =
    let ws = c.args.self.now.words.now in
    omega (arith, c.words.invariant.counted, c.words.invariant.reached, c.ones-behind.ensures, ones_between-le ws c.words.at c.args.to, ones_between-le ws c.max-start.result c.words.at, c.ranges.to.fits)

pub words-preserved : goal.words-preserved
words-preserved c =
    let bits = bits_of c.args.self.now.words.now in
    let start = c.max-start.result in
    let before : start ≤ c.words.at = omega (arith, c.max-start.ensures, c.words.invariant.started, c.if-at-from.false) in
    record {
      started = omega (arith, c.max-start.ensures);
      reached = omega (arith, before, c.words.invariant.reached);
      counted = omega (arith, c.words.invariant.counted, c.ones-behind.ensures, ones-joined bits start c.words.at c.args.to before c.words.invariant.reached);
    }

pub returns-clause-some : goal.returns-clause-some
returns-clause-some c =
    let a = c.args in
    let ws = a.self.now.words.now in
    let w = c.words in
    IfSome_then c.nth_one.result c.nth_one.ensures.some
    (λ p is. nth-back (bits_of ws) a.from w.at a.to a.n w.behind p (omega (arith, c.requires.range, length-bits_of ws)) w.invariant.started w.invariant.counted (omega (arith, c.words-test.false)) is)
