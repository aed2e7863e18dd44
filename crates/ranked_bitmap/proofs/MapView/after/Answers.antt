use Rattle.std.proofs.Common.{ap, arith, slice_index, ◌∙◌}
use Rattle.ranked_bitmap.proofs.Views.{next-below, number-below, next-number}
use Rattle.ranked_bitmap.proofs.MapView.after.Goals as goal

pub overflow_add-number : goal.overflow_add-number
overflow_add-number g c =
    let v = c.args.self.now in
    omega (arith, c.requires.number c.requires.held.0 c.requires.held.1, number-below g.row.B v c.requires.held.0 c.requires.held.1 c.args.k (omega arith), v.part.in_range)

pub number_from-requires : goal.number_from-requires
number_from-requires g c =
    (omega arith, (c.requires.held, omega (arith, c.requires.number c.requires.held.0 c.requires.held.1, next-below g.row.B c.args.self.now c.requires.held.0 c.requires.held.1 c.args.k c.requires.within)))

pub returns : goal.returns
returns g c = λ ys h.
    c.number_from.ensures ys h
    ∙ ap (λ n. slice_index ys n) (next-number g.row.B c.args.self.now ys h c.args.k c.args.number (omega arith) (c.requires.number ys h))
