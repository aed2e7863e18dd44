use Rattle.std.proofs.Common.{◌≡◌, ℕ, ◌+◌, ◌-◌, ◌<◌, ◌≤◌, List, length, take, slice_index, ◌∙◌, Some, sym, ap, subst, arith}
use Rattle.std.proofs.lemmas.List.{get_or-take, length-take-le}
use Rattle.collection_model.specs.NextBelow.{AreNextBelow}
use Rattle.part_cost.specs.Formats.{numbers_of}
use Rattle.part_directory.specs.DirectorySequence.{words_of, sequence_of}
use Rattle.part_directory.specs.declared.held.HeldPart.{HeldPart}
use Rattle.part_directory.specs.HeldParts.{HoldsValues, StandsBehind}
use Rattle.sequence_words.specs.SequenceView.{SequencePlace, place_at_least}
use Rattle.two_level.specs.declared.cursor.SeqCursor.TheInside.{Inside}
use Rattle.two_level.proofs.Fields.{values_in, Lies, lies-own}
use Rattle.two_level.proofs.ValuesGiven.{some-of-part, up-to}
use Rattle.part_directory.proofs.Standing.{stands-here, place-here}
use Rattle.two_level.proofs.cursor.SeqCursor.go_below.Goals as goal

-- a cursor that holds a part stands at a place that is told
record IsAt (s : Inside) (held : HeldPart) (now : SequencePlace) (place : ℕ) : Type 0 where
  is : s.held ≡ Some held
  lies : Lies s s.counted s.held s.known
  stands : StandsBehind s.held (values_in s) s.counted s.value
  view : record { sequence = sequence_of s.directory; place = place_at_least (values_in s) s.counted s.value } ≡ now
  told : place ≡ now.place

here : (s : Inside) (held : HeldPart) (now : SequencePlace) (place : ℕ) → IsAt s held now place → place_at_least (values_in s) s.counted s.value ≡ place
here s held now place at = ap (λ p. p.place) at.view ∙ sym at.told

-- its value lies there
lies-at : (s : Inside) (held : HeldPart) (now : SequencePlace) (place : ℕ) → IsAt s held now place → Lies s place (Some held) s.value
lies-at s held now place at =
    subst (λ n. Lies s n (Some held) s.value) (here s held now place at) (lies-own s held at.is at.lies at.stands)

-- some values are given from there on, and the last of them is one of its part
record Gives (s : Inside) (now : SequencePlace) (place x : ℕ) (given : List ℕ) (n : ℕ) : Type 0 where
  some : 0 < n
  within : place + n ≤ length (values_in s)
  last : Lies s (place + (n - 1)) s.held (slice_index given (n - 1))
  values : AreNextBelow (take (now.place + n) now.sequence.values) now.place x given n

gives : (s : Inside) (held : HeldPart) (now : SequencePlace) (place x : ℕ) (given : List ℕ) (n : ℕ) → IsAt s held now place → slice_index now.sequence.values now.place < x → 0 < length given
    → ((xs : List ℕ) → HoldsValues held xs → AreNextBelow (take held.part.to xs) place x given n) → Gives s now place x given n
gives s held now place x given n at small room values =
    let xs : List ℕ = values_in s in
    let lies = lies-at s held now place at in
    let h = lies.0.values in
    let below : AreNextBelow (take held.part.to xs) place x given n = values xs h in
    let less : slice_index xs place < x = subst (λ p. slice_index xs p < x) (here s held now place at) (subst (λ p. slice_index p.sequence.values p.place < x) (sym at.view) small) in
    let some : 0 < n = some-of-part xs given held.part.to place x n h.within lies.2 room less below in
    let ends : place + n ≤ held.part.to = omega (arith, below.within, length-take-le held.part.to xs h.within) in
    let last : slice_index given (n - 1) ≡ slice_index xs (place + (n - 1)) = below.same (n - 1) (omega (arith, some)) ∙ get_or-take held.part.to xs (place + (n - 1)) 0 (omega (arith, ends, some)) in
    let there : Lies s (place + (n - 1)) (Some held) (slice_index given (n - 1)) = (lies.0, omega (arith, lies.1), omega (arith, ends, some), last) in
    record {
      some = some;
      within = omega (arith, ends, h.within);
      last = subst (λ h. Lies s (place + (n - 1)) h (slice_index given (n - 1))) (sym at.is) there;
      values = subst (λ p. AreNextBelow (take (p + n) now.sequence.values) p x given n) at.told
          (subst (λ p. AreNextBelow (take (place + n) p.sequence.values) place x given n) at.view (up-to xs given held.part.to place x n h.within below));
    }

-- the last of them is where the cursor goes
last-place : (s : Inside) (now : SequencePlace) (place x : ℕ) (given : List ℕ) (n : ℕ) → Gives s now place x given n → place + (n - 1) ≡ place_at_least (values_in s) (place + (n - 1)) (slice_index given (n - 1))
last-place s now place x given n g =
    place-here (numbers_of s.directory.format) (words_of s.directory) s.directory.parts (place + (n - 1)) s.held (slice_index given (n - 1)) g.last

pub values_below-count-requires-clause-values : goal.values_below-count-requires-clause-values
values_below-count-requires-clause-values c =
    let s = c.self.inside in
    let lies = lies-at s c.in-Some.held c.args.self.now c.place-place.result
    (record { is = c.in-Some.is; lies = c.self.invariant.0; stands = c.self.invariant.1; view = c.self.view_is; told = c.place-place.ensures }) in
    (values_in s, lies.0.values, lies.3)

pub values_below-count-requires-clause-before : goal.values_below-count-requires-clause-before
values_below-count-requires-clause-before c =
    (lies-at c.self.inside c.in-Some.held c.args.self.now c.place-place.result
    (record { is = c.in-Some.is; lies = c.self.invariant.0; stands = c.self.invariant.1; view = c.self.view_is; told = c.place-place.ensures })).2

pub overflow_sub-last : goal.overflow_sub-last
overflow_sub-last c =
    let g = gives c.self.inside c.in-Some.held c.args.self.now c.place-place.result c.args.x c.values_below-count.new.to c.values_below-count.result
    (record { is = c.in-Some.is; lies = c.self.invariant.0; stands = c.self.invariant.1; view = c.self.view_is; told = c.place-place.ensures })
    c.requires.below (omega (arith, c.requires.some, c.values_below-count.ensures.room)) c.values_below-count.ensures.values in
    omega (arith, g.some)

pub invariant_of-self : goal.invariant_of-self
invariant_of-self c =
    let s = c.self.inside in
    let given : List ℕ = c.values_below-count.new.to in
    let g = gives s c.in-Some.held c.args.self.now c.place-place.result c.args.x given c.values_below-count.result
    (record { is = c.in-Some.is; lies = c.self.invariant.0; stands = c.self.invariant.1; view = c.self.view_is; told = c.place-place.ensures })
    c.requires.below (omega (arith, c.requires.some, c.values_below-count.ensures.room)) c.values_below-count.ensures.values in
    (g.last, stands-here (numbers_of s.directory.format) (words_of s.directory) s.directory.parts (c.place-place.result + (c.values_below-count.result - 1)) s.held (slice_index given (c.values_below-count.result - 1)) g.last)

pub returns-clause-place : goal.returns-clause-place
returns-clause-place c =
    let s = c.self.inside in
    let given : List ℕ = c.values_below-count.new.to in
    let g = gives s c.in-Some.held c.args.self.now c.place-place.result c.args.x given c.values_below-count.result
    (record { is = c.in-Some.is; lies = c.self.invariant.0; stands = c.self.invariant.1; view = c.self.view_is; told = c.place-place.ensures })
    c.requires.below (omega (arith, c.requires.some, c.values_below-count.ensures.room)) c.values_below-count.ensures.values in
    omega (arith, last-place s c.args.self.now c.place-place.result c.args.x given c.values_below-count.result g, g.some, c.place-place.ensures)

pub returns-clause-some : goal.returns-clause-some
returns-clause-some c =
    let g = gives c.self.inside c.in-Some.held c.args.self.now c.place-place.result c.args.x c.values_below-count.new.to c.values_below-count.result
    (record { is = c.in-Some.is; lies = c.self.invariant.0; stands = c.self.invariant.1; view = c.self.view_is; told = c.place-place.ensures })
    c.requires.below (omega (arith, c.requires.some, c.values_below-count.ensures.room)) c.values_below-count.ensures.values in
    g.some

pub returns-clause-values : goal.returns-clause-values
returns-clause-values c =
    let g = gives c.self.inside c.in-Some.held c.args.self.now c.place-place.result c.args.x c.values_below-count.new.to c.values_below-count.result
    (record { is = c.in-Some.is; lies = c.self.invariant.0; stands = c.self.invariant.1; view = c.self.view_is; told = c.place-place.ensures })
    c.requires.below (omega (arith, c.requires.some, c.values_below-count.ensures.room)) c.values_below-count.ensures.values in
    g.values
