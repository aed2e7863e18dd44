use Rattle.std.proofs.Common.{◌*◌, ◌%◌, ◌^◌, ◌-◌, ◌<◌, bit_and, ap, arith}
use Rattle.std.proofs.lemmas.Nat.{and_le_l}
use Rattle.bit_words.proofs.WordOnes.{first-from, none-from}
use Rattle.bit_words.proofs.reader.Bits.next_one.Goals as goal
use Rattle.bit_words.proofs.reader.Bits.next_one.Goals.{After-word}

-- the bits of the word from the place on
small : (c : After-word) → bit_and c.word.result ((2 ^ 64 - 1) * 2 ^ (c.args.from % 64) % 2 ^ 64) < 2 ^ 64
small c = omega (arith, and_le_l c.word.result ((2 ^ 64 - 1) * 2 ^ (c.args.from % 64) % 2 ^ 64), c.word.type_inv)

pub returns-then-one-to-clause-first : goal.returns-then-one-to-clause-first
returns-then-one-to-clause-first c =
    first-from c.args.self.now.words.now c.args.from c.args.to _ (ap (λ w. bit_and w ((2 ^ 64 - 1) * 2 ^ (c.args.from % 64) % 2 ^ 64)) c.word.ensures) (omega (arith, c.if-rest-eq0.false)) (small (goal.at.returns-then-one-to-clause-first c).After-word) c.if-one-to.true

pub returns-else-one-to-clause-none : goal.returns-else-one-to-clause-none
returns-else-one-to-clause-none c =
    none-from c.args.self.now.words.now c.args.from c.args.to _ (ap (λ w. bit_and w ((2 ^ 64 - 1) * 2 ^ (c.args.from % 64) % 2 ^ 64)) c.word.ensures) (omega (arith, c.if-rest-eq0.false)) (small (goal.at.returns-else-one-to-clause-none c).After-word) c.if-one-to.false
