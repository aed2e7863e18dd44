use Rattle.std.proofs.Common.{◌≡◌, ◌+◌, List, ℕ, subst, arith}
use Rattle.part_cost.specs.Formats.{numbers_of}
use Rattle.part_directory.specs.DirectorySequence.{words_of}
use Rattle.sequence_words.specs.SequenceFault.{stated_last}
use Rattle.sequence_words.specs.SequenceView.{SequenceView, sequence_stated}
use Rattle.part_directory.proofs.Places.{found-first, below-last}
use Rattle.two_level.proofs.Fields.{values_in, lies-counted, stands-counted}
use Rattle.two_level.proofs.cursor.SeqCursor.place.Goals as goal

pub place_from-requires-clause-reached : goal.place_from-requires-clause-reached
place_from-requires-clause-reached c =
    let s = c.self.inside in
    let d = s.directory in
    let part = c.in-Some.held in
    let v : SequenceView = sequence_stated (numbers_of d.format) (words_of d) d.parts in
    let lies = lies-counted s part c.in-Some.is c.self.invariant.0 in
    let behind = stands-counted s part c.in-Some.is c.self.invariant.1 in
    let most = below-last (numbers_of d.format) (words_of d) d.parts part.index (stated_last (numbers_of d.format) (words_of d) part.index + 1) v d.stated lies.0.within (omega arith)
    behind.place (omega (arith, behind.before, lies.0.to)) in
    omega (arith, most, behind.value_there, lies.0.last)

pub returns-then-self : goal.returns-then-self
returns-then-self c =
    let s = c.self.inside in
    let xs : List ℕ = values_in s in
    let lies = lies-counted s c.in-Some.held c.in-Some.is c.self.invariant.0 in
    subst (λ p. c.place_from.result ≡ p.place) c.self.view_is
    (found-first xs s.counted c.place_from.result s.value (c.place_from.ensures xs lies.0.values lies.3))
