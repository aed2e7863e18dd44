use Rattle.std.proofs.Common.{◌≤◌, ◌+◌, arith}
use Rattle.std.proofs.lemmas.Option.{IfSome_then}
use Rattle.bit_words.specs.Bits.{bits_of, ones_between}
use Rattle.bit_words.proofs.Outcomes.{none-then}
use Rattle.bit_words.proofs.Flipped.{opposite, opposite-nth, opposite-ones}
use Rattle.bit_words.proofs.reader.Bits.nth_zero.Goals as goal

pub returns-clause-some : goal.returns-clause-some
returns-clause-some c =
    IfSome_then c.nth_flipped.result c.nth_flipped.ensures.some (λ p is. opposite-nth c.args.self.now.words.now c.args.from c.args.to c.args.n p c.requires.range is)

pub returns-clause-none : goal.returns-clause-none
returns-clause-none c =
    let a = c.args in
    let ws = a.self.now.words.now in
    none-then c.nth_flipped.result (ones_between (bits_of (opposite ws)) a.from a.to ≤ a.n) (a.to ≤ a.from + ones_between (bits_of ws) a.from a.to + a.n) c.nth_flipped.ensures.none
    (λ few. omega (arith, few, opposite-ones ws a.from a.to c.requires.ordered c.requires.range))
