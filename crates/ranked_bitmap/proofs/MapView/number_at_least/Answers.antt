use Rattle.std.proofs.Common.{◌+◌, arith, sym, refl, slice_index}
use Rattle.bit_words.specs.Bits.{bits_of, ones_between}
use Rattle.ranked_bitmap.proofs.Reading.{ones-on}
use Rattle.ranked_bitmap.proofs.Views.{before-number, first-at-least}
use Rattle.ranked_bitmap.proofs.MapView.number_at_least.Goals as goal

pub returns-clause-first : goal.returns-clause-first
returns-clause-first g c = λ ys h.
    let v = c.args.self.now in (
      ones_between (bits_of v.part.bits.words.now) v.part.place (v.part.place + c.args.x),
      first-at-least g.row.B v ys h 0 c.args.x c.requires.reached (omega arith),
      c.number_from.ensures ys h,
    )

pub returns-clause-behind : goal.returns-clause-behind
returns-clause-behind g c = λ ys h k within no_more.
    let v = c.args.self.now in
    let number = slice_index ys k in
    let count = before-number g.row.B v ys h k number within refl in
    let more = ones-on (bits_of v.part.bits.words.now) v.part.place number c.args.x k (ones_between (bits_of v.part.bits.words.now) (v.part.place + number) (v.part.place + c.args.x)) no_more (sym count) refl in (
      ones_between (bits_of v.part.bits.words.now) v.part.place (v.part.place + c.args.x),
      first-at-least g.row.B v ys h k c.args.x c.requires.reached (omega (arith, more)),
      c.number_from.ensures ys h,
    )
