use Rattle.std.proofs.Common.{◌≡◌, length, sym, subst}
use Rattle.part_cost.specs.Formats.{numbers_of}
use Rattle.sequence_words.proofs.StatedParts.{count-ends}
use Rattle.part_directory.specs.DirectorySequence.{words_of}
use Rattle.two_level.proofs.view.SeqView.parts.Goals as goal

pub returns : goal.returns
returns c =
    let d = c.self.inside.directory in
    subst (λ v. d.parts ≡ length v.ends) c.self.view_is (sym (count-ends (numbers_of d.format) (words_of d) d.parts))
