use Rattle.std.proofs.Common.{length, arith}
use Rattle.part_directory.proofs.Kept.{kept-here}
use Rattle.part_directory.proofs.KeptWords.{words-inside, words-before}
use Rattle.part_directory.proofs.held.HeldPart.keep_in_words.Goals as goal

pub returns-in-Some-clause-kept : goal.returns-in-Some-clause-kept
returns-in-Some-clause-kept c xs h up =
    kept-here c.args.self.now xs h up c.args.first c.in-Some.from c.keep_numbers.result c.args.marks.now c.keep_numbers.new.marks (omega (arith, c.in-Some.ensures)) c.keep_numbers.ensures.inside
    (c.keep_numbers.ensures.kept _ h.numbers)

pub returns-in-Some-clause-words : goal.returns-in-Some-clause-words
returns-in-Some-clause-words c xs h =
    words-inside c.args.self.now xs h c.args.first c.in-Some.from (length c.args.marks.now) c.keep_numbers.result (omega (arith, c.in-Some.ensures)) c.keep_numbers.ensures.words

pub returns-in-None-clause-words : goal.returns-in-None-clause-words
returns-in-None-clause-words c xs h =
    words-before c.args.self.now xs h c.args.first (length c.args.marks.now) (omega (arith, c.in-None.ensures))
