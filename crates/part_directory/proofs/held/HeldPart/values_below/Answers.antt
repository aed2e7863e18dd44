use Rattle.std.proofs.Common.{◌≡◌, ℕ, ◌-◌, List, ap, arith}
use Rattle.std.specs.Prelude.{slice_index}
use Rattle.part_codec.proofs.Relative.{one_list-held}
use Rattle.part_directory.proofs.Blocks.{restored-below, value-fits}
use Rattle.part_directory.proofs.HeldParts.{number-here}
use Rattle.sequence_words.specs.SequenceParts.{counted_from}
use Rattle.part_directory.proofs.held.HeldPart.values_below.Goals as goal

pub overflow_sub-number : goal.overflow_sub-number
overflow_sub-number c =
    omega (arith, c.requires.values.2, number-here c.args.self.now c.requires.values.0 c.requires.values.1 c.args.place c.requires.after c.requires.before)

pub numbers_below-count-requires-clause-number : goal.numbers_below-count-requires-clause-number
numbers_below-count-requires-clause-number c ys numbers =
    let held = c.args.self.now in
    let relative : List ℕ = counted_from held.past c.requires.values.0 held.part.from held.part.to in
    let same : slice_index ys (c.args.place - held.part.from) ≡ slice_index relative (c.args.place - held.part.from) =
    ap (λ zs. slice_index zs (c.args.place - held.part.from)) (one_list-held held.view ys relative numbers c.requires.values.1.numbers) in
    omega (arith, same, c.requires.values.2, number-here held c.requires.values.0 c.requires.values.1 c.args.place c.requires.after c.requires.before)

pub raise_first-requires-clause-fits : goal.raise_first-requires-clause-fits
raise_first-requires-clause-fits c =
    value-fits c.args.self.now c.requires.values.0 c.requires.values.1 c.args.place c.saturating_sub.result c.numbers_below-count.result c.numbers_below-count.new.to c.requires.after c.requires.before
    (c.numbers_below-count.ensures.numbers _ c.requires.values.1.numbers)

pub returns-clause-values : goal.returns-clause-values
returns-clause-values c xs h =
    restored-below c.args.self.now xs h c.args.place c.args.x c.saturating_sub.result c.numbers_below-count.result c.numbers_below-count.new.to c.raise_first.new.numbers c.requires.after c.requires.before c.saturating_sub.ensures
    (c.numbers_below-count.ensures.numbers _ h.numbers) c.raise_first.ensures.room c.raise_first.ensures.raised
