use Rattle.std.proofs.Common.{◌≡◌, suc, ◌+◌, ◌-◌, ap, ◌∙◌, arith}
use Rattle.part_cost.specs.Formats.{numbers_of}
use Rattle.part_directory.specs.DirectorySequence.{words_of}
use Rattle.sequence_words.specs.SequenceFault.{end_before, past_before}
use Rattle.part_directory.proofs.Begun.{lent-many}
use Rattle.part_directory.proofs.directory.Directory.before_part.Goals as goal

pub entry_in_words-entry-requires : goal.entry_in_words-entry-requires
entry_in_words-entry-requires c =
    record {
      within = omega (arith, c.requires.within);
      in_words = lent-many (numbers_of c.args.self.now.format) c.args.self.now.words.now c.args.self.now.m c.args.self.now.parts c.args.self.now.alone c.args.self.now.stands (omega (arith, c.requires.within, c.if-part-eq0.false));
    }

pub returns-else-part-eq0-clause-end : goal.returns-else-part-eq0-clause-end
returns-else-part-eq0-clause-end c =
    c.entry_in_words-entry.ensures.end ∙ ap (end_before (numbers_of c.args.self.now.format) (words_of c.args.self.now)) (let e : suc (c.args.part - 1) ≡ c.args.part = omega (arith, c.if-part-eq0.false) in e)

pub returns-else-part-eq0-clause-past : goal.returns-else-part-eq0-clause-past
returns-else-part-eq0-clause-past c =
    ap (λ n. n + 1) c.entry_in_words-entry.ensures.last ∙ ap (past_before (numbers_of c.args.self.now.format) (words_of c.args.self.now)) (let e : suc (c.args.part - 1) ≡ c.args.part = omega (arith, c.if-part-eq0.false) in e)
