use Rattle.std.proofs.Common.{subst, ℕ, ◌+◌, ◌<◌, arith}
use Rattle.std.proofs.lemmas.List.{length-map, get_or-map}
use Rattle.pefidx_c.specs.Rooms.{pair_of}
use Rattle.pefidx_c.proofs.joining.add_range.Goals as goal

pub overflow_add-first : goal.overflow_add-first
overflow_add-first c =
    let i : ℕ = c.loop-scored.scored-index in
    let less = c.requires i (0, 0)
    (omega (arith, c.loop-scored-test.true, length-map c.args.given.now pair_of)) in
    let at = get_or-map pair_of c.args.given.now i (record { doc = 0; score = 0 }) (0, 0)
    c.loop-scored-test.true in
    let here = subst (λ (e : ℕ × ℕ). c.args.first + e.0 < 4294967295) at less in
    omega (arith, here)
