use Rattle.std.proofs.Common.{length, ap, sym, ◌∙◌, arith}
use Rattle.part_cost.specs.Formats.{numbers_of}
use Rattle.sequence_words.specs.SequenceFault.{stated_last, stated_end, stated_offset}
use Rattle.part_directory.proofs.Begun.{begun-lent}
use Rattle.sequence_words.proofs.StatedParts.{entry-within}
use Rattle.part_directory.proofs.directory.Directory.entry_in_words.Goals as goal

pub entry_at-requires : goal.entry_at-requires
entry_at-requires c =
    let d = c.args.self.now in
    let lent = begun-lent (numbers_of d.format) d.words.now d.m d.alone c.requires.in_words in
    record { within = omega (arith, d.stated.room, ap length lent, entry-within (numbers_of d.format) c.args.part d.parts c.requires.within) }

pub returns-clause-last : goal.returns-clause-last
returns-clause-last c =
    c.entry_at.ensures.last ∙ ap (λ ws. stated_last (numbers_of c.args.self.now.format) ws c.args.part) (sym (begun-lent (numbers_of c.args.self.now.format) c.args.self.now.words.now c.args.self.now.m c.args.self.now.alone c.requires.in_words))

pub returns-clause-end : goal.returns-clause-end
returns-clause-end c =
    c.entry_at.ensures.end ∙ ap (λ ws. stated_end (numbers_of c.args.self.now.format) ws c.args.part) (sym (begun-lent (numbers_of c.args.self.now.format) c.args.self.now.words.now c.args.self.now.m c.args.self.now.alone c.requires.in_words))

pub returns-clause-offset : goal.returns-clause-offset
returns-clause-offset c =
    c.entry_at.ensures.offset ∙ ap (λ ws. stated_offset (numbers_of c.args.self.now.format) ws c.args.part) (sym (begun-lent (numbers_of c.args.self.now.format) c.args.self.now.words.now c.args.self.now.m c.args.self.now.alone c.requires.in_words))
