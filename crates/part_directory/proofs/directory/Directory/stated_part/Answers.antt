use Rattle.std.proofs.Common.{◌≡◌, ℕ, subst, arith}
use Rattle.part_cost.specs.Formats.{numbers_of}
use Rattle.part_directory.specs.HeldParts.{IsStatedPart}
use Rattle.part_directory.specs.DirectorySequence.{words_of, sequence_of}
use Rattle.part_directory.proofs.directory.Directory.stated_part.Goals as goal

pub returns-in-Some : goal.returns-in-Some
returns-in-Some c =
    let d = c.args.self.now in
    let first : 0 ≡ c.args.part = omega (arith, c.requires.within, (d.stands c.in-Some.alone c.in-Some.is).one) in
    subst (λ (q : ℕ). IsStatedPart (numbers_of d.format) (words_of d) (sequence_of d).values q c.part_alone.result.0 c.part_alone.result.1) first c.part_alone.ensures
