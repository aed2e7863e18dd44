use Rattle.std.proofs.Common.{◌≡◌, ℕ, ◌+◌, ◌-◌, ◌<◌, ◌^◌, ◌∙◌, List, length, drop, slice_index, sym, ap, arith}
use Rattle.std.proofs.lemmas.List.{length-take-le, length-drop, length-map}
use Rattle.std.specs.List.{slice_range}
use Rattle.part_cost.specs.Formats.{numbers_of}
use Rattle.part_cost.specs.Payload.{widest_low}
use Rattle.part_directory.specs.DirectorySequence.{sequence_of, words_of}
use Rattle.sequence_words.specs.SequenceFault.{end_before}
use Rattle.sequence_words.specs.SequenceParts.{counted_from}
use Rattle.sequence_words.proofs.StatedParts.{below-bound}
use Rattle.two_level.proofs.ValuesGiven.{all-of-part}
use Rattle.two_level.proofs.view.values_of_part.Goals as goal

pub returns : goal.returns
returns c =
    let d = c.args.directory.now in
    let xs : List ℕ = (sequence_of d).values in
    let format = numbers_of d.format in
    let s = c.stated_part.ensures in
    let part = c.stated_part.result.0 in
    let placed = c.stated_part.result.1 in
    let from : part.from ≡ 0 = s.from in
    let to : part.to ≡ length xs = s.to ∙ ap (end_before format (words_of d)) (sym c.requires.one) ∙ d.stated.end in
    let past : part.last + 1 - placed.u ≡ 0 = omega (arith, s.whole (omega (arith, s.count, from, to, c.requires.several, c.requires.room)), s.u, s.last) in
    let ys : List ℕ = counted_from (part.last + 1 - placed.u) xs part.from part.to in
    let taken : length (slice_range xs part.from part.to) ≡ part.to - part.from = length-take-le (part.to - part.from) (drop part.from xs) (omega (arith, length-drop part.from xs, from, to)) in
    let count : length ys ≡ length xs = omega (arith, length-map (slice_range xs part.from part.to) (λ y. y - (part.last + 1 - placed.u)), taken, from, to) in
    all-of-part xs ys c.numbers_into.new.to c.numbers_into.result count (omega (arith, c.numbers_into.ensures.room, c.requires.room))
    (λ j lt.
    let here = s.restored j (omega (arith, from, to, lt)) in
    let same : slice_index xs (part.from + j) ≡ slice_index xs j = ap (slice_index xs) (let e : part.from + j ≡ j = omega (arith, from) in e) in
    omega (arith, here, past, same))
    (λ j lt. let low : slice_index xs j < 2 ^ widest_low = below-bound format.most_sum (2 ^ widest_low) xs (c.formats_have_room.ensures d.format).sums d.stated.below j 0 lt in omega (arith, low))
    (c.numbers_into.ensures.numbers ys ((c.at.ensures.part _).1 s.held))
