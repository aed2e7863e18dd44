use Rattle.std.proofs.Common.{◌≡◌, ℕ, ◌-◌, List, ap, arith, refl}
use Rattle.std.specs.Prelude.{slice_index}
use Rattle.part_codec.proofs.Relative.{one_list-held}
use Rattle.part_directory.proofs.HeldParts.{first-here, number-here}
use Rattle.sequence_words.specs.SequenceParts.{counted_from}
use Rattle.part_directory.proofs.held.HeldPart.place_from.Goals as goal

pub overflow_sub-value : goal.overflow_sub-value
overflow_sub-value c =
    omega (arith, c.requires.values.2, number-here c.args.self.now c.requires.values.0 c.requires.values.1 c.args.place c.requires.after c.requires.before)

pub overflow_sub-x : goal.overflow_sub-x
overflow_sub-x c =
    omega (arith, c.requires.values.2, c.requires.below, number-here c.args.self.now c.requires.values.0 c.requires.values.1 c.args.place c.requires.after c.requires.before)

pub place_from-k-requires-clause-number : goal.place_from-k-requires-clause-number
place_from-k-requires-clause-number c ys numbers =
    let held = c.args.self.now in
    let relative : List ℕ = counted_from held.past c.requires.values.0 held.part.from held.part.to in
    let same : slice_index ys (c.args.place - held.part.from) ≡ slice_index relative (c.args.place - held.part.from) =
    ap (λ zs. slice_index zs (c.args.place - held.part.from)) (one_list-held held.view ys relative numbers c.requires.values.1.numbers) in
    omega (arith, same, c.requires.values.2, number-here held c.requires.values.0 c.requires.values.1 c.args.place c.requires.after c.requires.before)

pub returns : goal.returns
returns c xs h is =
    first-here c.args.self.now xs h c.args.place c.args.x (c.args.x - c.args.self.now.past) c.place_from-k.result c.requires.after refl
    (c.place_from-k.ensures _ h.numbers)
