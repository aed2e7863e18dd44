use Rattle.std.proofs.Common.{◌<◌, ◌+◌, ◌*◌, arith, ◌∙◌}
use Rattle.std.specs.Int.{w64, trailing_zeros}
use Rattle.bit_words.proofs.NthOnes.{without-none, without-some, without-next, without-lowest, IsNthOfWord}
use Rattle.bit_words.proofs.reader.nth_of_word.Goals as goal
use Rattle.bit_words.proofs.reader.nth_of_word.Goals.{In-ones, After-ones}

pub ones-init : goal.ones-init
ones-init c = (0, without-none c.args.word c.ranges.word.fits)

-- a bit of the rest is 1 while fewer were cleared than the word has
some : (c : In-ones) → 0 < c.ones.rest
some c = without-some _ _ _ _ c.ranges.word.fits c.ones.invariant.1 (omega (arith, c.requires.some, c.ones-test.true))

pub overflow_sub-rest : goal.overflow_sub-rest
overflow_sub-rest c = omega (arith, some (goal.at.overflow_sub-rest c).In-ones)

pub ones-preserved : goal.ones-preserved
ones-preserved c =
    (64 * 0 + trailing_zeros w64 c.ones.rest + 1, without-next _ _ _ _ c.ones.invariant.1 (some (goal.at.ones-preserved c).In-ones))

-- and then the lowest 1 is the one that is sought
nth : (c : After-ones) → IsNthOfWord c.args.word c.ones.counter (trailing_zeros w64 c.ones.rest)
nth c =
    without-lowest _ _ _ _ c.ranges.word.fits c.ones.invariant.1
    (without-some _ _ _ _ c.ranges.word.fits c.ones.invariant.1 (omega (arith, c.requires.some, c.ones.auto.counter-end)))

pub returns-clause-within : goal.returns-clause-within
returns-clause-within c = (nth (goal.at.returns-clause-within c).After-ones).within

pub returns-clause-one : goal.returns-clause-one
returns-clause-one c = (nth (goal.at.returns-clause-one c).After-ones).one

pub returns-clause-before : goal.returns-clause-before
returns-clause-before c = (nth (goal.at.returns-clause-before c).After-ones).before ∙ omega (arith, c.ones.auto.counter-end, c.ones-test.false)
