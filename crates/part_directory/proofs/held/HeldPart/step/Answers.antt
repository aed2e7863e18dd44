use Rattle.std.proofs.Common.{◌≡◌, ◌+◌, ◌-◌, slice_index, ap, arith}
use Rattle.part_cost.specs.Span.{past}
use Rattle.part_cost.proofs.Parts.{past-at}
use Rattle.part_directory.proofs.held.HeldPart.step.Goals as goal

pub returns-then-place-self : goal.returns-then-place-self
returns-then-place-self c xs h up =
    let place = c.args.place in
    let from = c.args.self.now.part.from in
    let here : place ≡ from = omega (arith, c.if-place-self.true) in
    let at : slice_index xs (place + 1 - 1) ≡ slice_index xs from = ap (slice_index xs) (let e : place + 1 - 1 ≡ from = omega (arith, here) in e) in
    let before : past xs place ≡ past xs from = ap (past xs) here in
    omega (arith, c.first.ensures xs h, at, before, h.start, past-at xs (place + 1) (omega arith))
