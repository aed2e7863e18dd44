use Rattle.std.proofs.Common.{◌≡◌, ℕ, ◌+◌, ◌-◌, List, ap, arith}
use Rattle.std.specs.Prelude.{slice_index}
use Rattle.part_codec.proofs.Relative.{one_list-held}
use Rattle.part_directory.proofs.HeldParts.{number-here}
use Rattle.sequence_words.specs.SequenceParts.{counted_from}
use Rattle.part_directory.proofs.held.HeldPart.value_after.Goals as goal

pub overflow_sub-number : goal.overflow_sub-number
overflow_sub-number c =
    omega (arith, c.requires.values.2, number-here c.args.self.now c.requires.values.0 c.requires.values.1 c.args.place c.requires.after (omega (arith, c.requires.before)))

pub number_after-requires-clause-number : goal.number_after-requires-clause-number
number_after-requires-clause-number c ys numbers =
    let held = c.args.self.now in
    let relative : List ℕ = counted_from held.past c.requires.values.0 held.part.from held.part.to in
    let same : slice_index ys (c.args.place - held.part.from) ≡ slice_index relative (c.args.place - held.part.from) =
    ap (λ zs. slice_index zs (c.args.place - held.part.from)) (one_list-held held.view ys relative numbers c.requires.values.1.numbers) in
    omega (arith, same, c.requires.values.2, number-here held c.requires.values.0 c.requires.values.1 c.args.place c.requires.after (omega (arith, c.requires.before)))

pub returns : goal.returns
returns c xs h =
    let held = c.args.self.now in
    let relative : List ℕ = counted_from held.past xs held.part.from held.part.to in
    let same : slice_index relative (c.args.place - held.part.from + 1) ≡ slice_index relative (c.args.place + 1 - held.part.from) =
    ap (slice_index relative) (let e : c.args.place - held.part.from + 1 ≡ c.args.place + 1 - held.part.from = omega (arith, c.requires.after) in e) in
    omega (arith, c.number_after.ensures relative h.numbers, same, number-here held xs h (c.args.place + 1) (omega (arith, c.requires.after)) c.requires.before)
