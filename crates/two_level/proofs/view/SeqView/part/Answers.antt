use Rattle.std.proofs.Common.{◌<◌, length, sym, subst, arith}
use Rattle.part_cost.specs.Formats.{numbers_of}
use Rattle.sequence_words.proofs.StatedParts.{count-ends}
use Rattle.part_directory.specs.DirectorySequence.{words_of}
use Rattle.two_level.proofs.view.SeqView.part.Goals as goal

pub part_at-requires : goal.part_at-requires
part_at-requires c =
    let d = c.self.inside.directory in
    let within = subst (λ v. c.args.i < length v.ends) (sym c.self.view_is) c.requires.within in
    record { within = omega (arith, within, count-ends (numbers_of d.format) (words_of d) d.parts) }
