use Rattle.std.proofs.Common.{◌≡◌, ap, ◌∙◌, arith}
use Rattle.part_cost.specs.Formats.{numbers_of}
use Rattle.part_directory.specs.DirectorySequence.{words_of}
use Rattle.sequence_words.specs.SequenceFault.{end_before}
use Rattle.part_directory.proofs.directory.Directory.hold_into.Goals as goal

pub returns-else-part-self : goal.returns-else-part-self
returns-else-part-self c =
    let d = c.args.self.now.stated in
    record {
      lies = ap (end_before (numbers_of c.args.self.now.format) (words_of c.args.self.now)) (let e : c.args.part ≡ c.args.self.now.parts = omega (arith, c.requires.within, c.if-part-self.false) in e) ∙ d.end;
    }
