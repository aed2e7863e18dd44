use Rattle.std.proofs.Common.{◌≡◌, ℕ, ◌+◌, ◌<◌, List, Some, sym, ◌∙◌, subst, arith}
use Rattle.part_cost.specs.Formats.{numbers_of}
use Rattle.part_directory.specs.DirectorySequence.{words_of}
use Rattle.sequence_words.specs.SequenceFault.{stated_last, stated_end, end_before}
use Rattle.sequence_words.specs.SequenceView.{SequenceView, sequence_stated, place_at_least}
use Rattle.part_directory.specs.HeldParts.{StandsBehind}
use Rattle.sequence_words.proofs.StatedParts.{end-before-next}
use Rattle.part_directory.proofs.Places.{later-place, below-last}
use Rattle.part_directory.proofs.Standing.{place-stays, sought-behind, sought-place}
use Rattle.two_level.proofs.Fields.{values_in, Lies, lies-counted, stands-counted, lies-own}
use Rattle.two_level.proofs.cursor.SeqCursor.next_geq.Goals as goal

pub overflow_add-behind : goal.overflow_add-behind
overflow_add-behind c =
    let d = c.self.inside.directory in
    let lies = lies-counted c.self.inside c.in-Some.held c.in-Some.is c.self.invariant.0 in
    omega (arith, lies.0.within, lies.0.values.few, d.count, d.few_parts)

pub returns-then-x-value-clause-place : goal.returns-then-x-value-clause-place
returns-then-x-value-clause-place c =
    let s = c.self.inside in
    let xs : List ℕ = values_in s in
    let there = lies-own s c.in-Some.held c.in-Some.is c.self.invariant.0 c.self.invariant.1 in
    let place : ℕ = place_at_least xs s.counted s.value in
    subst (λ p. p.place ≡ place_at_least p.sequence.values p.place c.args.x) c.self.view_is
    (place-stays xs place c.args.x (omega (arith, there.2, there.0.values.within)) (λ lt. omega (arith, there.3, c.if-x-value.true)))

pub invariant_of-self : goal.invariant_of-self
invariant_of-self c =
    let s = c.self.inside in
    let xs : List ℕ = values_in s in
    let held = c.in-Some.held in
    let lies = lies-counted s held c.in-Some.is c.self.invariant.0 in
    let found = c.seek-sought.result in
    let sought = c.seek-sought.ensures xs lies.0.values lies.3 in
    let there : Lies s found.place (Some held) found.there =
    (lies.0, omega (arith, lies.1, sought.0.after), omega (arith, sought.0.before, sought.1), sought.0.there) in
    subst (λ h. Lies s found.place h found.there × StandsBehind h xs found.place found.number) (sym c.in-Some.is)
    (there, sought-behind held xs s.counted c.args.x found sought.0 sought.1)

pub returns-then-x-held-clause-place : goal.returns-then-x-held-clause-place
returns-then-x-held-clause-place c =
    let s = c.self.inside in
    let xs : List ℕ = values_in s in
    let lies = lies-counted s c.in-Some.held c.in-Some.is c.self.invariant.0 in
    let behind = stands-counted s c.in-Some.held c.in-Some.is c.self.invariant.1 in
    let sought = c.seek-sought.ensures xs lies.0.values lies.3 in
    subst (λ p. place_at_least xs c.seek-sought.result.place c.seek-sought.result.number ≡ place_at_least p.sequence.values p.place c.args.x) c.self.view_is
    (sought-place c.in-Some.held xs s.counted c.args.x s.value c.seek-sought.result sought.0 sought.1 (omega (arith, c.if-x-value.false)) behind)

pub returns-else-x-held-clause-place : goal.returns-else-x-held-clause-place
returns-else-x-held-clause-place c =
    let s = c.self.inside in
    let d = s.directory in
    let part = c.in-Some.held in
    let v : SequenceView = sequence_stated (numbers_of d.format) (words_of d) d.parts in
    let lies = lies-counted s part c.in-Some.is c.self.invariant.0 in
    let there = lies-own s part c.in-Some.is c.self.invariant.0 c.self.invariant.1 in
    let place : ℕ = place_at_least v.values s.counted s.value in
    let small : stated_last (numbers_of d.format) (words_of d) part.index < c.args.x = omega (arith, lies.0.last, c.if-x-held.false) in
    let end : end_before (numbers_of d.format) (words_of d) (part.index + 1) ≡ stated_end (numbers_of d.format) (words_of d) part.index = end-before-next (numbers_of d.format) (words_of d) part.index in
    let next : ℕ = end_before (numbers_of d.format) (words_of d) (part.index + 1) in
    subst (λ p. place_at_least v.values c.first_from_part.new.counted c.first_from_part.result.1 ≡ place_at_least p.sequence.values p.place c.args.x) c.self.view_is
    (c.first_from_part.ensures.first
    ∙ later-place v.values place next c.args.x (omega (arith, end, there.2, lies.0.to)) (omega (arith, end, lies.0.to, lies.0.values.within))
    (λ k after lt. below-last (numbers_of d.format) (words_of d) d.parts part.index c.args.x v d.stated lies.0.within small k (omega (arith, lt, end))))
