use Rattle.std.proofs.Common.{◌+◌, ◌/◌, ◌^◌, ◌<◌, get_or, arith, rules}
use Rattle.bit_words.proofs.WordOnes.{all-read, first-read, reading-behind, reading-next, same-first, same-none}
use Rattle.bit_words.proofs.ones.Ones.next.Goals as goal

pub returns-then-self-le64-clause-none : goal.returns-then-self-le64-clause-none
returns-then-self-le64-clause-none c =
    same-none c.words.invariant.bits c.words.invariant.at c.words.invariant.end (all-read _ _ _ _ _ c.words.invariant.reading c.words-test.true (omega (arith, c.words.invariant.reading.started)))

pub words-preserved : goal.words-preserved
words-preserved c =
    let o = c.words.self-inside in
    let fits : get_or o.words.now ((o.start + 64) / 64) 0 < 2 ^ 64 = search rules in
    record {
      bits = c.words.invariant.bits;
      at = c.words.invariant.at;
      end = c.words.invariant.end;
      fits = c.before-self-inside.type_inv;
      reading = reading-next o.words.now o.start o.rest o.at o.end c.before-self-inside.result c.words.invariant.reading c.words-test.true (omega arith) fits c.before-self-inside.ensures;
    }

pub overflow_add-self-2 : goal.overflow_add-self-2
overflow_add-self-2 c =
    omega (arith, (first-read _ _ _ _ _ c.words.invariant.reading (omega arith) c.words.invariant.fits).before_end)

pub invariant_of-self-2 : goal.invariant_of-self-2
invariant_of-self-2 c =
    reading-behind _ _ _ _ _ c.words.invariant.reading (omega arith) c.words.invariant.fits

pub returns-clause-first : goal.returns-clause-first
returns-clause-first c =
    same-first c.words.invariant.bits c.words.invariant.at c.words.invariant.end (first-read _ _ _ _ _ c.words.invariant.reading (omega arith) c.words.invariant.fits)
