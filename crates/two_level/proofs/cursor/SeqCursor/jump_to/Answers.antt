use Rattle.std.proofs.Common.{ℕ, Some, refl, sym, subst}
use Rattle.part_cost.specs.Formats.{numbers_of}
use Rattle.part_directory.specs.DirectorySequence.{words_of}
use Rattle.part_directory.specs.HeldParts.{LiesIn}
use Rattle.part_directory.proofs.Standing.{stands-here, place-here}
use Rattle.two_level.proofs.Fields.{values_in, lies-counted}
use Rattle.two_level.proofs.cursor.SeqCursor.jump_to.Goals as goal

pub invariant_of-self : goal.invariant_of-self
invariant_of-self c =
    let s = c.self.inside in
    let d = s.directory in
    let value : ℕ = c.value-value.result in
    let lies = lies-counted s c.in-Some.held c.in-Some.is c.self.invariant.0 in
    let has = c.if-has.ensures.0 refl in
    let there : LiesIn (numbers_of d.format) (words_of d) d.parts c.args.k (Some c.in-Some.held) value = (lies.0, has.0, has.1, c.value-value.ensures (values_in s) lies.0.values) in
    let there = subst (λ h. LiesIn (numbers_of d.format) (words_of d) d.parts c.args.k h value) (sym c.in-Some.is) there in
    (there, stands-here (numbers_of d.format) (words_of d) d.parts c.args.k s.held value there)

pub returns-in-Some-clause-place : goal.returns-in-Some-clause-place
returns-in-Some-clause-place c =
    let s = c.self.inside in
    let d = s.directory in
    let held = c.in-Some.held in
    let lies = lies-counted s c.in-Some.held c.in-Some.is c.self.invariant.0 in
    let has = c.if-has.ensures.0 refl in
    sym (place-here (numbers_of d.format) (words_of d) d.parts c.args.k (Some held) c.value-value.result
    (lies.0, has.0, has.1, c.value-value.ensures (values_in s) lies.0.values))

pub returns-in_default-clause-place : goal.returns-in_default-clause-place
returns-in_default-clause-place c =
    let s = c.self.inside in
    let d = s.directory in
    sym (place-here (numbers_of d.format) (words_of d) d.parts c.args.k c.hold_at.result.0 c.hold_at.result.1 c.hold_at.ensures.lies)
