use Rattle.std.proofs.Common.{◌≡◌, ◌<◌, length, ap, sym, ◌∙◌, arith}
use Rattle.part_cost.specs.Formats.{numbers_of}
use Rattle.sequence_words.specs.SequenceFault.{stated_last}
use Rattle.part_directory.proofs.Begun.{begun-lent}
use Rattle.sequence_words.proofs.StatedParts.{entry-within}
use Rattle.part_directory.proofs.Probes.{count-lasts, last-stated}
use Rattle.part_directory.specs.DirectorySequence.{words_of}
use Rattle.part_directory.proofs.directory.EntriesInWordsLasts.last.Goals as goal

pub entry_last-requires : goal.entry_last-requires
entry_last-requires g c =
    let d = c.args.self.now.directory.now in
    let lent = begun-lent (numbers_of d.format) d.words.now d.m d.alone c.args.self.now.in_words in
    let lt : c.args.q < d.parts = omega (arith, c.requires, count-lasts (numbers_of d.format) (words_of d) d.parts) in
    omega (arith, d.stated.room, ap length lent, entry-within (numbers_of d.format) c.args.q d.parts lt)

pub returns-clause-value : goal.returns-clause-value
returns-clause-value g c =
    let d = c.args.self.now.directory.now in
    let lent = begun-lent (numbers_of d.format) d.words.now d.m d.alone c.args.self.now.in_words in
    let lt : c.args.q < d.parts = omega (arith, c.requires, count-lasts (numbers_of d.format) (words_of d) d.parts) in
    let here : c.entry_last.result ≡ stated_last (numbers_of d.format) (words_of d) c.args.q = c.entry_last.ensures ∙ ap (λ ws. stated_last (numbers_of d.format) ws c.args.q) (sym lent) in
    omega (arith, here, last-stated (numbers_of d.format) (words_of d) d.parts c.args.q lt)
