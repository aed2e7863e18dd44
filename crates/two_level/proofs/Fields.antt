-- Lemmas on the fields of a cursor.
use Rattle.std.proofs.Common.{◌≡◌, ℕ, ◌+◌, ◌≤◌, List, Option, Some, subst, arith}
use Rattle.part_cost.specs.Formats.{numbers_of}
use Rattle.part_directory.specs.DirectorySequence.{words_of, sequence_of}
use Rattle.part_directory.specs.HeldParts.{LiesIn, StandsBehind}
use Rattle.sequence_words.specs.SequenceFault.{end_before}
use Rattle.sequence_words.specs.SequenceView.{place_at_least}
use Rattle.sequence_words.proofs.StatedParts.{end-before-next}
use Rattle.part_directory.proofs.Standing.{known-place, lies-there}
use Rattle.part_directory.specs.declared.held.HeldPart.{HeldPart}
use Rattle.two_level.specs.declared.cursor.SeqCursor.TheInside.{Inside}

-- the values of its sequence
abbrev pub values_in : Inside → List ℕ
values_in s = (sequence_of s.directory).values

-- a value lies at a place of the sequence, in a part that is held
abbrev pub Lies : Inside → ℕ → Option HeldPart → ℕ → Type 0
Lies s place held value = LiesIn (numbers_of s.directory.format) (words_of s.directory) s.directory.parts place held value

-- where a part is held, it has the place that was counted
pub lies-counted : (s : Inside) (held : HeldPart) → s.held ≡ Some held → Lies s s.counted s.held s.known → Lies s s.counted (Some held) s.known
lies-counted s held is lies = subst (λ h. Lies s s.counted h s.known) is lies

-- and the value of the cursor at or behind it
pub stands-counted : (s : Inside) (held : HeldPart) → s.held ≡ Some held → StandsBehind s.held (values_in s) s.counted s.value → StandsBehind (Some held) (values_in s) s.counted s.value
stands-counted s held is stands = subst (λ h. StandsBehind h (values_in s) s.counted s.value) is stands

-- and the value of the cursor lies there at its own place
pub lies-own : (s : Inside) (held : HeldPart) → s.held ≡ Some held → Lies s s.counted s.held s.known → StandsBehind s.held (values_in s) s.counted s.value
    → Lies s (place_at_least (values_in s) s.counted s.value) (Some held) s.value
lies-own s held is lies stands =
    lies-there (numbers_of s.directory.format) (words_of s.directory) s.directory.parts s.counted (Some held) s.known s.value (lies-counted s held is lies) (stands-counted s held is stands)

-- where the value is that which is known, its place was counted
pub place-counted : (s : Inside) (held : HeldPart) → s.held ≡ Some held → Lies s s.counted s.held s.known → StandsBehind s.held (values_in s) s.counted s.value → s.value ≤ s.known
    → s.counted ≡ place_at_least (values_in s) s.counted s.value
place-counted s held is lies stands most =
    known-place held (values_in s) s.counted s.known s.value (lies-counted s held is lies).3 most (stands-counted s held is stands)

-- behind the last place of the part that is held begins the part behind it
pub part-behind : (s : Inside) (held : HeldPart) → s.held ≡ Some held → Lies s s.counted s.held s.known → held.part.to ≤ s.counted + 1
    → end_before (numbers_of s.directory.format) (words_of s.directory) (held.index + 1) ≡ s.counted + 1
part-behind s held is counted last =
    let lies = lies-counted s held is counted in
    omega (arith, end-before-next (numbers_of s.directory.format) (words_of s.directory) held.index, lies.0.to, lies.2, last)
