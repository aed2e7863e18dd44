use Rattle.std.proofs.Common.{◌*◌, ◌/◌, arith}
use Rattle.bit_words.specs.Bits.{bits_of}
use Rattle.bit_words.proofs.Value.{bits-bits_of}
use Rattle.ranked_bitmap.proofs.Reading.{ones-on, ones-few}
use Rattle.ranked_bitmap.proofs.Views.{within-held}
use Rattle.ranked_bitmap.proofs.MapView.ones_before.Goals as goal

pub ones-requires-clause-range : goal.ones-requires-clause-range
ones-requires-clause-range g c = omega (arith, within-held g.row.B c.args.self.now c.requires.held.0 c.requires.held.1)

pub overflow_add-result : goal.overflow_add-result
overflow_add-result g c =
    let v = c.args.self.now in
    omega (
      arith,
      ones-on (bits_of v.part.bits.words.now) v.part.place (g.row.B * (c.args.number / g.row.B)) c.args.number c.ones_before_run.result c.ones.result (omega (arith, v.spacing))
          c.ones_before_run.ensures c.ones.ensures,
      ones-few (bits_of v.part.bits.words.now) v.part.place c.args.number (bits-bits_of v.part.bits.words.now),
      v.part.in_range,
    )

pub returns : goal.returns
returns g c =
    ones-on (bits_of c.args.self.now.part.bits.words.now) c.args.self.now.part.place (g.row.B * (c.args.number / g.row.B)) c.args.number c.ones_before_run.result c.ones.result (omega (arith, c.args.self.now.spacing))
    c.ones_before_run.ensures c.ones.ensures
