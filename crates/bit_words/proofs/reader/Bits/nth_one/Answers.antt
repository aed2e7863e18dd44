use Rattle.std.proofs.Common.{◌≤◌, subst}
use Rattle.std.specs.Option.{IfSome, IfNone}
use Rattle.bit_words.specs.Bits.{bits_of, ones_between, IsNthOne}
use Rattle.bit_words.proofs.Flipped.{flipped-none}
use Rattle.bit_words.proofs.reader.Bits.nth_one.Goals as goal

pub returns-clause-some : goal.returns-clause-some
returns-clause-some c =
    subst (λ vs. IfSome c.nth_flipped.result (IsNthOne (bits_of vs) c.args.from c.args.to c.args.n)) (flipped-none c.args.self.now.words.now) c.nth_flipped.ensures.some

pub returns-clause-none : goal.returns-clause-none
returns-clause-none c =
    subst (λ vs. IfNone c.nth_flipped.result (ones_between (bits_of vs) c.args.from c.args.to ≤ c.args.n)) (flipped-none c.args.self.now.words.now) c.nth_flipped.ensures.none
