use Rattle.std.proofs.Common.{◌≡◌, ◌+◌, ap, arith, slice_index, ◌∙◌}
use Rattle.bit_words.specs.Bits.{bits_of, ones_between}
use Rattle.bit_words.proofs.Value.{bits-bits_of}
use Rattle.ranked_bitmap.proofs.Reading.{ones-few}
use Rattle.ranked_bitmap.proofs.MapView.first.Goals as goal

pub returns : goal.returns
returns g c = λ ys h.
    let v = c.args.self.now in
    let none : ones_between (bits_of v.part.bits.words.now) v.part.place (v.part.place + 0) ≡ 0 =
    omega (arith, ones-few (bits_of v.part.bits.words.now) v.part.place 0 (bits-bits_of v.part.bits.words.now)) in
    c.number_from.ensures ys h ∙ ap (λ r. slice_index ys r) none
