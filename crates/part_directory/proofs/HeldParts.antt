-- A part of a sequence, and the values of one that is held.
use Rattle.std.proofs.Common.{◌≡◌, ℕ, ◌+◌, ◌-◌, ◌<◌, ◌≤◌, List, length, drop, slice_index, Option, Some, None, sym, ap, ◌∙◌, arith}
use Rattle.std.specs.List.{slice_range}
use Rattle.std.proofs.lemmas.List.{length-take-le, length-drop, length-map}
use Rattle.collection_model.specs.FormatNumbers.{FormatNumbers}
use Rattle.part_cost.specs.Span.{past, universe}
use Rattle.part_cost.specs.Stored.{IsFirstAtLeast}
use Rattle.sequence_words.specs.SequenceFault.{stated_last, stated_end, end_before, stated_universe}
use Rattle.sequence_words.specs.SequenceView.{sequence_stated}
use Rattle.part_directory.specs.PartOf.{IsPartOf}
use Rattle.sequence_words.specs.SequenceParts.{StatesPart, counted_from}
use Rattle.part_directory.specs.HeldParts.{HoldsValues, LiesIn}
use Rattle.part_directory.specs.declared.held.HeldPart.{HeldPart}
use Rattle.part_directory.specs.declared.part.Part.{Part}
use Rattle.sequence_words.proofs.StatedParts.{stated-ends, stated-start}

-- what a part of the sequence is
pub part-of : (format : FormatNumbers) (words : List ℕ) (parts q : ℕ) → q < parts → StatesPart format words (sequence_stated format words parts).values parts q → (part : Part) → part.from ≡ end_before format words q
    → part.to ≡ stated_end format words q → part.last ≡ stated_last format words q → part.u ≡ stated_universe format words q → IsPartOf (sequence_stated format words parts) q part
part-of format words parts q lt p part f t l u =
    let xs : List ℕ = (sequence_stated format words parts).values in
    let universe_is : stated_universe format words q ≡ universe xs (end_before format words q) (stated_end format words q) = omega (arith, p.last, p.before) in
    record {
      start = f ∙ sym (stated-start format words parts q lt);
      end = t ∙ sym (stated-ends format words parts q lt);
      last = ap (λ n. n + 1) l ∙ p.last ∙ ap (past xs) (sym t);
      universe_of_part = u ∙ universe_is ∙ ap (λ n. universe xs n (stated_end format words q)) (sym f) ∙ ap (universe xs part.from) (sym t);
    }

-- how many relative values a part that is held has
pub relative-count : (held : HeldPart) (xs : List ℕ) → HoldsValues held xs → length (counted_from held.past xs held.part.from held.part.to) ≡ held.part.to - held.part.from
relative-count held xs h =
    length-map (slice_range xs held.part.from held.part.to) (λ y. y - held.past) ∙ length-take-le (held.part.to - held.part.from) (drop held.part.from xs) (omega (arith, length-drop held.part.from xs, h.within))

-- a number of a part is the value at its place, less what stands before the part
pub number-here : (held : HeldPart) (xs : List ℕ) → HoldsValues held xs → (place : ℕ) → held.part.from ≤ place → place < held.part.to
    → slice_index (counted_from held.past xs held.part.from held.part.to) (place - held.part.from) + held.past ≡ slice_index xs place
number-here held xs h place after before =
    let here = h.restored (place - held.part.from) (omega (arith, after, before)) in
    let same : slice_index xs (held.part.from + (place - held.part.from)) ≡ slice_index xs place = ap (slice_index xs) (let e : held.part.from + (place - held.part.from) ≡ place = omega (arith, after) in e) in
    omega (arith, here, same)

-- the value at the place of a number that was found
pub value-here : (held : HeldPart) (xs : List ℕ) → HoldsValues held xs → (from x k number : ℕ) → IsFirstAtLeast (counted_from held.past xs held.part.from held.part.to) from x k
    → number ≡ slice_index (counted_from held.past xs held.part.from held.part.to) k → number + held.past ≡ slice_index xs (held.part.from + k)
value-here held xs h from x k number first is =
    let here = h.restored k (omega (arith, first.within, relative-count held xs h)) in
    omega (arith, here, is)

-- the first number of a part that is large enough is the first value there
pub first-here : (held : HeldPart) (xs : List ℕ) → HoldsValues held xs → (place x least number : ℕ) → held.part.from ≤ place → least ≡ x - held.past
    → IsFirstAtLeast (counted_from held.past xs held.part.from held.part.to) (place - held.part.from) least number → IsFirstAtLeast xs place x (held.part.from + number)
first-here held xs h place x least number after l first =
    let from : ℕ = held.part.from in
    let ys : List ℕ = counted_from held.past xs from held.part.to in
    let count : length ys ≡ held.part.to - from = relative-count held xs h in
    let lt : from + number < held.part.to = omega (arith, first.within, count) in
    let value = h.restored number lt in
    record {
      at_or_after = omega (arith, first.at_or_after, after);
      within = omega (arith, lt, h.within);
      at_least = omega (arith, value, first.at_least, l);
      first =
          λ k le less.
          let small = first.first (k - from) (omega (arith, le, after)) (omega (arith, le, after, less)) in
          let here = h.restored (k - from) (omega (arith, le, after, less, lt)) in
          let same : slice_index xs (from + (k - from)) ≡ slice_index xs k = ap (slice_index xs) (let e : from + (k - from) ≡ k = omega (arith, le, after) in e) in
          omega (arith, here, same, small, l);
    }

-- a place lies within the sequence, or is its end
pub lies-within : (format : FormatNumbers) (words : List ℕ) (parts place : ℕ) (held : Option HeldPart) (value : ℕ) → LiesIn format words parts place held value → place ≤ length (sequence_stated format words parts).values
lies-within format words parts place (Some held) value lies = omega (arith, lies.2, lies.0.values.within)
lies-within format words parts place None value lies = omega (arith, lies)
