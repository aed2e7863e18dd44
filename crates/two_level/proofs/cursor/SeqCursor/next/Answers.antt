use Rattle.std.proofs.Common.{◌≡◌, ◌+◌, ◌<◌, ◌≤◌, length, List, ℕ, Option, Some, sym, ap, ◌∙◌, subst, arith}
use Rattle.std.specs.Prelude.{slice_index}
use Rattle.std.specs.List.Sorted.{IsStrictlyIncreasing}
use Rattle.part_cost.specs.Formats.{numbers_of}
use Rattle.part_directory.specs.DirectorySequence.{words_of, sequence_of}
use Rattle.part_directory.specs.declared.held.HeldPart.{HeldPart}
use Rattle.part_directory.specs.HeldParts.{HoldsValues, StandsBehind}
use Rattle.sequence_words.specs.SequenceFault.{end_before}
use Rattle.sequence_words.specs.SequenceView.{SequencePlace, place_at_least}
use Rattle.part_directory.proofs.Standing.{stands-here, place-here, place-next, value-there}
use Rattle.two_level.specs.declared.cursor.SeqCursor.TheInside.{Inside}
use Rattle.two_level.proofs.Fields.{values_in, Lies, lies-counted, place-counted, part-behind}
use Rattle.two_level.proofs.cursor.SeqCursor.next.Goals as goal

pub overflow_add-behind : goal.overflow_add-behind
overflow_add-behind c =
    let d = c.self.inside.directory in
    let lies = lies-counted c.self.inside c.in-Some.held c.in-Some.is c.self.invariant.0 in
    omega (arith, lies.0.within, lies.0.values.few, d.count, d.few_parts)

pub returns-then-self-value-clause-place : goal.returns-then-self-value-clause-place
returns-then-self-value-clause-place c =
    let s = c.self.inside in
    let d = s.directory in
    let v = c.args.self.now in
    let within = subst (λ p. p.place < length p.sequence.values) (sym c.self.view_is) c.requires.within in
    let rises : IsStrictlyIncreasing v.sequence.values = subst (λ p. IsStrictlyIncreasing p.sequence.values) c.self.view_is d.stated.rising in
    let there : s.value ≡ slice_index v.sequence.values v.place =
    subst (λ p. s.value ≡ slice_index p.sequence.values p.place) c.self.view_is
    (value-there (numbers_of d.format) (words_of d) d.parts s.counted s.held s.known s.value c.self.invariant.0 c.self.invariant.1 within) in
    c.next_geq.ensures.place ∙ sym (place-next v.sequence.values rises v.place s.value c.requires.within there)

-- the value behind that of the cursor, in the part that is held
lies-next : (s : Inside) (held : HeldPart) (value : ℕ) → s.held ≡ Some held → Lies s s.counted s.held s.known → s.counted + 1 < held.part.to
    → ((xs : List ℕ) → HoldsValues held xs → value ≡ slice_index xs (s.counted + 1)) → Lies s (s.counted + 1) s.held value
lies-next s held value is counted before at =
    let lies = lies-counted s held is counted in
    let next : Lies s (s.counted + 1) (Some held) value = (lies.0, omega (arith, lies.1), before, at (values_in s) lies.0.values) in
    subst (λ h. Lies s (s.counted + 1) h value) (sym is) next

-- the first value of the part behind it
lies-behind : (s : Inside) (held : HeldPart) (next : Option HeldPart) (value : ℕ) → s.held ≡ Some held → Lies s s.counted s.held s.known → held.part.to ≤ s.counted + 1
    → Lies s (end_before (numbers_of s.directory.format) (words_of s.directory) (held.index + 1)) next value → Lies s (s.counted + 1) next value
lies-behind s held next value is counted last lies = subst (λ n. Lies s n next value) (part-behind s held is counted last) lies

-- the cursor goes one place on
one-on : (s : Inside) (held : HeldPart) (now : SequencePlace) (next : Option HeldPart) (value : ℕ) → s.held ≡ Some held → Lies s s.counted s.held s.known → StandsBehind s.held (values_in s) s.counted s.value
    → s.value ≤ s.known → record { sequence = sequence_of s.directory; place = place_at_least (values_in s) s.counted s.value } ≡ now → Lies s (s.counted + 1) next value
    → place_at_least (values_in s) (s.counted + 1) value ≡ now.place + 1
one-on s held now next value is lies stands most view there =
    subst (λ p. place_at_least (values_in s) (s.counted + 1) value ≡ p.place + 1) view
    (sym (place-here (numbers_of s.directory.format) (words_of s.directory) s.directory.parts (s.counted + 1) next value there) ∙ ap (λ n. n + 1) (place-counted s held is lies stands most))

pub invariant_of-self : goal.invariant_of-self
invariant_of-self c =
    let s = c.self.inside in
    let value : ℕ = c.value_after-self-inside.result in
    let next = lies-next s c.in-Some.held value c.in-Some.is c.self.invariant.0 c.if-place-held.true c.value_after-self-inside.ensures in
    (next, stands-here (numbers_of s.directory.format) (words_of s.directory) s.directory.parts (s.counted + 1) s.held value next)

pub returns-then-place-held-clause-place : goal.returns-then-place-held-clause-place
returns-then-place-held-clause-place c =
    let value : ℕ = c.value_after-self-inside.result in
    one-on c.self.inside c.in-Some.held c.args.self.now c.self.inside.held value c.in-Some.is c.self.invariant.0 c.self.invariant.1 (omega (arith, c.if-self-value.false)) c.self.view_is
    (lies-next c.self.inside c.in-Some.held value c.in-Some.is c.self.invariant.0 c.if-place-held.true c.value_after-self-inside.ensures)

pub invariant_of-self-else-place-held : goal.invariant_of-self-else-place-held
invariant_of-self-else-place-held c =
    let s = c.self.inside in
    let held = c.hold_into-self-inside.new.into in
    let value : ℕ = c.hold_into-self-inside.result in
    let behind = lies-behind s c.in-Some.held held value c.in-Some.is c.self.invariant.0 (omega (arith, c.if-place-held.false)) c.hold_into-self-inside.ensures.lies in
    (behind, stands-here (numbers_of s.directory.format) (words_of s.directory) s.directory.parts (s.counted + 1) held value behind)

pub returns-else-place-held-clause-place : goal.returns-else-place-held-clause-place
returns-else-place-held-clause-place c =
    let held = c.hold_into-self-inside.new.into in
    let value : ℕ = c.hold_into-self-inside.result in
    one-on c.self.inside c.in-Some.held c.args.self.now held value c.in-Some.is c.self.invariant.0 c.self.invariant.1 (omega (arith, c.if-self-value.false)) c.self.view_is
    (lies-behind c.self.inside c.in-Some.held held value c.in-Some.is c.self.invariant.0 (omega (arith, c.if-place-held.false)) c.hold_into-self-inside.ensures.lies)
