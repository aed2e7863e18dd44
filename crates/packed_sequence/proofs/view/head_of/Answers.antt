use Rattle.std.proofs.Common.{◌≡◌, ℕ, ◌+◌, ◌*◌, ◌/◌, ◌%◌, ◌^◌, ◌<◌, ◌≤◌, min, List, length, slice_index, ap, ◌∙◌, arith}
use Rattle.std.proofs.Math.Pow.{pow_mono}
use Rattle.bit_words.specs.Bits.{bits_of, field_at}
use Rattle.bit_words.proofs.Value.{bits-bits_of, length-bits_of}
use Rattle.bit_words.proofs.Pieces.{field-below}
use Rattle.collection_model.specs.FormatNumbers.{format_three}
use Rattle.part_cost.specs.Payload.{digits}
use Rattle.part_cost.proofs.DigitCounts.{digits-are-fewest}
use Rattle.packed_sequence.proofs.LonePlaces.{lone-facts}
use Rattle.packed_sequence.proofs.PartedPlaces.{parted-head}
use Rattle.packed_sequence.proofs.FlagAndField.{FlagAndField, flag-and-field, head-fits}
use Rattle.packed_sequence.proofs.WindowFields.{window-first, window-field}
use Rattle.packed_sequence.proofs.view.head_of.Goals as goal
use Rattle.packed_sequence.proofs.view.head_of.Goals.{After-window_from-window, After-digits, After-lowest_bits-parts, After-lowest_bits-head}

-- the bits that are read lie within the words
inside : (c : After-window_from-window) → c.args.at + min (1 + c.args.last.width) 64 ≤ 64 * length c.args.words.now
inside c =
    let h = c.requires.stands in
    head-fits c.args.last c.args.m format_three.most_sum (bits_of c.args.words.now) c.args.at (64 * length c.args.words.now) h.0 h.1 (omega (arith, c.requires.many)) h.2

-- the flag is the first of them
flag : (c : After-window_from-window) → c.window_from-window.result % 2 ≡ slice_index (bits_of c.args.words.now) c.args.at
flag c = window-first (bits_of c.args.words.now) c.args.at c.window_from-window.result c.window_from-window.ensures

-- the digits of m
few : (c : After-digits) → c.digits.result ≤ 32
few c = omega (arith, c.digits.ensures, ap digits c.from.ensures, digits-are-fewest c.args.m 32 (omega (arith, c.ranges.m.fits)) (omega (arith, c.ranges.m.fits)))

pub lowest_bits-parts-requires-clause-narrow : goal.lowest_bits-parts-requires-clause-narrow
lowest_bits-parts-requires-clause-narrow c = omega (arith, few (goal.at.lowest_bits-parts-requires-clause-narrow c).After-digits)

-- the field behind it is the number of parts
parts : (c : After-lowest_bits-parts) → c.window_from-window.result % 2 ≡ 1 → c.lowest_bits-parts.result / 2 ≡ field_at (bits_of c.args.words.now) (c.args.at + 1) (digits c.args.m)
parts c one =
    let bits : List ℕ = bits_of c.args.words.now in
    let h = c.requires.stands in
    let wide : c.digits.result ≡ digits c.args.m = c.digits.ensures ∙ ap digits c.from.ensures in
    let narrow : c.digits.result ≤ 32 = few (goal.at.After-lowest_bits-parts c).After-digits in
    let set : slice_index bits c.args.at ≡ 1 = omega (arith, flag (goal.at.After-lowest_bits-parts c).After-window_from-window, one) in
    let head = parted-head c.args.last c.args.m format_three.most_sum bits c.args.at (64 * length c.args.words.now) h.0 h.1 (omega (arith, c.requires.many)) (omega (arith, c.ranges.m.fits)) set h.2 in
    let fit : c.args.at + (1 + c.digits.result) ≤ length bits = omega (arith, head.word, head.within, wide, length-bits_of c.args.words.now) in
    let got : c.lowest_bits-parts.result ≡ field_at bits c.args.at (1 + c.digits.result) = c.lowest_bits-parts.ensures ∙ window-field bits c.args.at (1 + c.digits.result) c.window_from-window.result c.window_from-window.ensures (omega (arith, narrow)) fit in
    let below : field_at bits (c.args.at + 1) c.digits.result < 2 ^ 32 =
    omega (arith, field-below bits (c.args.at + 1) c.digits.result (bits-bits_of c.args.words.now), pow_mono {i = c.digits.result} {j = 32} narrow) in
    (flag-and-field bits c.args.at c.digits.result (1 + c.digits.result) c.lowest_bits-parts.result (bits-bits_of c.args.words.now) (omega (arith, narrow)) (omega (arith, narrow)) got).field (omega (arith, below))
    ∙ ap (field_at bits (c.args.at + 1)) wide

pub overflow_cast-result : goal.overflow_cast-result
overflow_cast-result c =
    let after = (goal.at.overflow_cast-result c).After-lowest_bits-parts in
    let bits : List ℕ = bits_of c.args.words.now in
    let narrow = digits-are-fewest c.args.m 32 (omega (arith, c.ranges.m.fits)) (omega (arith, c.ranges.m.fits)) in
    omega (arith, parts after c.if-window-eq1.true, field-below bits (c.args.at + 1) (digits c.args.m) (bits-bits_of c.args.words.now), pow_mono {i = digits c.args.m} {j = 32} narrow)

pub returns-then-window-eq1 : goal.returns-then-window-eq1
returns-then-window-eq1 c = (
  omega (arith, flag (goal.at.returns-then-window-eq1 c).After-window_from-window, c.if-window-eq1.true),
  parts (goal.at.returns-then-window-eq1 c).After-lowest_bits-parts c.if-window-eq1.true,
)

-- else the flag and the last value were read
read : (c : After-lowest_bits-head) → FlagAndField (bits_of c.args.words.now) c.args.at c.args.last.width c.lowest_bits-head.result
read c =
    let bits : List ℕ = bits_of c.args.words.now in
    let fit : c.args.at + c.min.result ≤ length bits = omega (arith, c.min.ensures, inside (goal.at.After-lowest_bits-head c).After-window_from-window, length-bits_of c.args.words.now) in
    flag-and-field bits c.args.at c.args.last.width c.min.result c.lowest_bits-head.result (bits-bits_of c.args.words.now) c.requires.narrow c.min.ensures
    (c.lowest_bits-head.ensures ∙ window-field bits c.args.at c.min.result c.window_from-window.result c.window_from-window.ensures (omega (arith, c.min.ensures)) fit)

unset : (c : After-window_from-window) → (c.window_from-window.result % 2 ≡ 1 → ⊥) → slice_index (bits_of c.args.words.now) c.args.at ≡ 0
unset c no_one = omega (arith, flag c, no_one)

pub returns-else-window-eq1 : goal.returns-else-window-eq1
returns-else-window-eq1 c =
    let h = c.requires.stands in
    let after = (goal.at.returns-else-window-eq1 c).After-lowest_bits-head in
    let zero = unset (goal.at.returns-else-window-eq1 c).After-window_from-window c.if-window-eq1.false in
    let f = lone-facts c.part_takes_its_payload.ensures.payload c.args.last c.args.m format_three.most_sum (bits_of c.args.words.now) c.args.at (64 * length c.args.words.now) h.0 h.1 (omega (arith, c.requires.many)) (omega arith) zero h.2 in
    (zero, (read after).field (omega (arith, f.end_is, f.below)))
