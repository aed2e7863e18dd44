use Rattle.std.proofs.Common.{◌+◌, arith, sym, subst, refl}
use Rattle.bit_words.specs.Bits.{bits_of, ones_between}
use Rattle.part_cost.specs.Stored.{IsFirstAtLeast}
use Rattle.ranked_bitmap.proofs.Reading.{ones-on}
use Rattle.ranked_bitmap.proofs.Views.{before-number, first-at-least}
use Rattle.ranked_bitmap.proofs.MapView.place_from.Goals as goal

pub ones_before_by-requires : goal.ones_before_by-requires
ones_before_by-requires g c =
    let ys = c.requires.held.0 in
    let h = c.requires.held.1 in
    (omega arith, (c.requires.held, (c.requires.reached, (c.requires.below, sym (before-number g.row.B c.args.self.now ys h c.args.k c.args.number c.requires.within (c.requires.number ys h))))))

pub returns : goal.returns
returns g c = λ ys h.
    let v = c.args.self.now in
    let count = before-number g.row.B v ys h c.args.k c.args.number c.requires.within (c.requires.number ys h) in
    let more = ones-on (bits_of v.part.bits.words.now) v.part.place c.args.number c.args.x c.args.k (ones_between (bits_of v.part.bits.words.now) (v.part.place + c.args.number) (v.part.place + c.args.x)) c.requires.below (sym count) refl in
    subst (λ r. IsFirstAtLeast ys c.args.k c.args.x r) (sym c.ones_before_by.ensures)
    (first-at-least g.row.B v ys h c.args.k c.args.x c.requires.reached (omega (arith, more)))
