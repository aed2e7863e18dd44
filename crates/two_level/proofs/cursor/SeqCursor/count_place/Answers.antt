use Rattle.std.proofs.Common.{◌≡◌, ℕ, ◌∙◌, sym, ap, subst}
use Rattle.part_cost.specs.Formats.{numbers_of}
use Rattle.part_directory.specs.DirectorySequence.{words_of, sequence_of}
use Rattle.part_directory.specs.HeldParts.{StandsBehind}
use Rattle.part_directory.proofs.Standing.{lies-there, stands-here, place-here}
use Rattle.sequence_words.specs.SequenceView.{SequencePlace, place_at_least}
use Rattle.two_level.specs.declared.cursor.SeqCursor.TheInside.{Inside}
use Rattle.two_level.proofs.Fields.{values_in, Lies}
use Rattle.two_level.proofs.cursor.SeqCursor.count_place.Goals as goal

-- a cursor stands at a place that is told
record StandsAt (s : Inside) (now : SequencePlace) (place : ℕ) : Type 0 where
  here : place_at_least (values_in s) s.counted s.value ≡ place
  lies : Lies s place s.held s.value

stands-at : (s : Inside) (now : SequencePlace) (place : ℕ) → Lies s s.counted s.held s.known → StandsBehind s.held (values_in s) s.counted s.value
    → record { sequence = sequence_of s.directory; place = place_at_least (values_in s) s.counted s.value } ≡ now → place ≡ now.place → StandsAt s now place
stands-at s now place lies stands view told =
    let d = s.directory in
    let here : place_at_least (values_in s) s.counted s.value ≡ place = ap (λ p. p.place) view ∙ sym told in
    record {
      here = here;
      lies = subst (λ n. Lies s n s.held s.value) here (lies-there (numbers_of d.format) (words_of d) d.parts s.counted s.held s.known s.value lies stands);
    }

pub invariant_of-self : goal.invariant_of-self
invariant_of-self c =
    let s = c.self.inside in
    let d = s.directory in
    let at = stands-at s c.args.self.now c.place-place.result c.self.invariant.0 c.self.invariant.1 c.self.view_is c.place-place.ensures in
    (at.lies, stands-here (numbers_of d.format) (words_of d) d.parts c.place-place.result s.held s.value at.lies)

pub returns-clause-same : goal.returns-clause-same
returns-clause-same c =
    let s = c.self.inside in
    let d = s.directory in
    let at = stands-at s c.args.self.now c.place-place.result c.self.invariant.0 c.self.invariant.1 c.self.view_is c.place-place.ensures in
    let own = place-here (numbers_of d.format) (words_of d) d.parts c.place-place.result s.held s.value at.lies in
    ap (λ n. record { sequence = sequence_of d; place = n }) (sym own ∙ sym at.here) ∙ c.self.view_is
