use Rattle.std.proofs.Common.{ap, arith, sym, subst, ◌∙◌, slice_index}
use Rattle.part_cost.specs.Stored.{IsFirstAtLeast}
use Rattle.ranked_bitmap.proofs.Views.{first-at-least, first-is-here}
use Rattle.ranked_bitmap.proofs.MapView.next_geq.Goals as goal

pub returns-then-place-from : goal.returns-then-place-from
returns-then-place-from g c = λ ys h. (
  first-is-here g.row.B c.args.self.now ys h c.args.from c.args.x c.requires.reached c.requires.within (omega (arith, c.ones_before-place.ensures, c.if-place-from.true)),
  c.get.ensures ys h,
)

pub returns : goal.returns
returns g c = λ ys h. (
  subst (λ r. IsFirstAtLeast ys c.args.from c.args.x r) (sym c.ones_before-place.ensures)
      (first-at-least g.row.B c.args.self.now ys h c.args.from c.args.x c.requires.reached (omega (arith, c.ones_before-place.ensures, c.if-place-from.false))),
  c.number_from.ensures ys h ∙ ap (λ r. slice_index ys r) (sym c.ones_before-place.ensures),
)
