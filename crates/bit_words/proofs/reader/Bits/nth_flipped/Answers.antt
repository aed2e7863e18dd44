use Rattle.std.proofs.Common.{◌≡◌, ℕ, ◌+◌, ◌/◌, ◌^◌, ◌<◌, List, get_or, arith, rules, sym, subst, count_ones, ◌-◌}
use Rattle.std.specs.Int.Bits.{bit_xor}
use Rattle.std.proofs.lemmas.Nat.{xor_lt}
use Rattle.bit_words.specs.Bits.{flipped}
use Rattle.bit_words.proofs.Flipped.{flipped-length, flipped-word}
use Rattle.bit_words.proofs.NthOnes.{IsSeeking, IsNthOfWord, seeking-start, seeking-next, seeking-none, seeking-found, seeking-behind}
use Rattle.bit_words.proofs.reader.Bits.nth_flipped.Goals as goal
use Rattle.bit_words.proofs.reader.Bits.nth_flipped.Goals.{After-nth_of_word}

pub words-init : goal.words-init
words-init c =
    let a = c.args in
    let small : get_or a.self.now.words.now (a.from / 64) 0 < 2 ^ 64 = search rules in
    seeking-start (flipped a.flip a.self.now.words.now) a.from a.to a.n (bit_xor (get_or a.self.now.words.now (a.from / 64) 0) a.flip)
    (omega (arith, c.requires.ordered, c.if-from-to.false))
    (omega (arith, c.requires.range, flipped-length a.flip a.self.now.words.now))
    (sym (flipped-word a.flip a.self.now.words.now (a.from / 64) (omega (arith, c.requires.ordered, c.requires.range, c.if-from-to.false))))
    (xor_lt 64 (get_or a.self.now.words.now (a.from / 64) 0) a.flip small c.ranges.flip.fits)

pub returns-then-to-start-le64-clause-none : goal.returns-then-to-start-le64-clause-none
returns-then-to-start-le64-clause-none c =
    seeking-none _ _ _ _ _ _ _ c.words.invariant c.words-test.true (omega (arith, c.if-to-start-le64.true, c.words.invariant.ended))

pub words-preserved : goal.words-preserved
words-preserved c =
    let a = c.args in
    let w = c.words in
    let vs : List ℕ = flipped a.flip a.self.now.words.now in
    let i : ℕ = (w.start + 64) / 64 in
    let more : w.start + 64 < a.to = omega (arith, c.if-to-start-le64.false) in
    let small : get_or a.self.now.words.now i 0 < 2 ^ 64 = search rules in
    let is : get_or vs i 0 ≡ bit_xor (get_or a.self.now.words.now i 0) a.flip = flipped-word a.flip a.self.now.words.now i (omega (arith, more, c.requires.range)) in
    let less : bit_xor (get_or a.self.now.words.now i 0) a.flip < 2 ^ 64 = xor_lt 64 (get_or a.self.now.words.now i 0) a.flip small c.ranges.flip.fits in
    let next = seeking-next vs a.from a.to a.n w.start w.rest w.left w.invariant c.words-test.true more (omega (arith, is, less)) in
    subst (λ v. IsSeeking vs a.from a.to a.n (w.start + 64) v (w.left - count_ones w.rest)) is next

nth : (c : After-nth_of_word) → IsNthOfWord c.words.rest c.words.left c.nth_of_word.result
nth c = record { within = c.nth_of_word.ensures.within; one = c.nth_of_word.ensures.one; before = c.nth_of_word.ensures.before }

pub returns-then-one-to-clause-some : goal.returns-then-one-to-clause-some
returns-then-one-to-clause-some c =
    seeking-found _ _ _ _ _ _ _ c.nth_of_word.result c.words.invariant (nth (goal.at.returns-then-one-to-clause-some c).After-nth_of_word) c.if-one-to.true

pub returns-else-one-to-clause-none : goal.returns-else-one-to-clause-none
returns-else-one-to-clause-none c =
    seeking-behind _ _ _ _ _ _ _ c.nth_of_word.result c.words.invariant (nth (goal.at.returns-else-one-to-clause-none c).After-nth_of_word) c.if-one-to.false
