use Rattle.std.proofs.Common.{arith}
use Rattle.bit_words.specs.Bits.{bits_of}
use Rattle.bit_words.proofs.Value.{bits-bits_of}
use Rattle.ranked_bitmap.proofs.Reading.{ones-on, ones-few}
use Rattle.ranked_bitmap.proofs.Views.{within-held}
use Rattle.ranked_bitmap.proofs.MapView.ones_before_by.Goals as goal

pub ones-requires-clause-range : goal.ones-requires-clause-range
ones-requires-clause-range g c = omega (arith, within-held g.row.B c.args.self.now c.requires.held.0 c.requires.held.1)

pub overflow_add-result : goal.overflow_add-result
overflow_add-result g c =
    omega (
      arith,
      ones-on (bits_of c.args.self.now.part.bits.words.now) c.args.self.now.part.place c.args.number c.args.x c.args.k c.ones.result (omega arith) c.requires.count c.ones.ensures,
      ones-few (bits_of c.args.self.now.part.bits.words.now) c.args.self.now.part.place c.args.x (bits-bits_of c.args.self.now.part.bits.words.now),
      c.args.self.now.part.in_range,
    )

pub returns : goal.returns
returns g c =
    ones-on (bits_of c.args.self.now.part.bits.words.now) c.args.self.now.part.place c.args.number c.args.x c.args.k c.ones.result (omega arith) c.requires.count c.ones.ensures
