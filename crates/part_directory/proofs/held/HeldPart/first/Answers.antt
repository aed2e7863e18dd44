use Rattle.std.proofs.Common.{◌≡◌, ◌+◌, ◌∙◌, slice_index, ap, arith}
use Rattle.part_directory.proofs.held.HeldPart.first.Goals as goal

pub returns : goal.returns
returns c xs h =
    let held = c.args.self.now in
    let first = c.first.ensures _ h.numbers in
    let at : held.part.from + 0 ≡ held.part.from = omega arith in
    omega (arith, first, h.restored 0 (omega (arith, c.requires.some))) ∙ ap (slice_index xs) at
