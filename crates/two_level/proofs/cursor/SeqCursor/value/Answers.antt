use Rattle.std.proofs.Common.{◌<◌, ◌≡◌, length, sym, subst}
use Rattle.std.specs.Prelude.{slice_index}
use Rattle.part_cost.specs.Formats.{numbers_of}
use Rattle.part_directory.proofs.Standing.{value-there}
use Rattle.part_directory.specs.DirectorySequence.{words_of}
use Rattle.two_level.proofs.cursor.SeqCursor.value.Goals as goal

pub returns : goal.returns
returns c =
    let s = c.self.inside in
    let d = s.directory in
    let within = subst (λ p. p.place < length p.sequence.values) (sym c.self.view_is) c.requires.within in
    subst (λ p. s.value ≡ slice_index p.sequence.values p.place) c.self.view_is
    (value-there (numbers_of d.format) (words_of d) d.parts s.counted s.held s.known s.value c.self.invariant.0 c.self.invariant.1 within)
