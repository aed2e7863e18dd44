use Rattle.std.proofs.Common.{◌≡◌, ℕ, ◌+◌, ◌*◌, ◌/◌, ◌%◌, ◌^◌, ◌≤◌, min, List, ap, ◌∙◌, subst, arith}
use Rattle.std.proofs.Math.Pow.{pow_mono}
use Rattle.bit_words.specs.Bits.{bits_of, field_at, IsFirstOne, HasNoOne, padding}
use Rattle.bit_words.proofs.Value.{bits-bits_of, length-bits_of}
use Rattle.bit_words.proofs.Pieces.{field-below}
use Rattle.part_cost.specs.Payload.{digits}
use Rattle.part_cost.proofs.DigitCounts.{digits-are-fewest}
use Rattle.packed_sequence.proofs.PartedPlaces.{head-read, read-head, zero-in-range}
use Rattle.packed_list.proofs.check.parted_head.Goals as goal

-- a number is rounded up to words
rounds : (n r : ℕ) → r ≡ n / 64 + min 1 (n % 64) → r ≡ (n + 63) / 64
rounds n r e = omega arith

word : (at w d n r m : ℕ) → w ≡ digits n → n ≡ m → d ≡ w → r ≡ (at + 1 + d) / 64 + min 1 ((at + 1 + d) % 64) → r ≡ (at + 1 + digits m + 63) / 64
word at w d n r m e f g h = rounds (at + 1 + d) r h ∙ ap (λ k. (at + 1 + k + 63) / 64) (g ∙ e ∙ ap digits f)

number : (bits : List ℕ) (at w n m v : ℕ) → w ≡ digits n → n ≡ m → v ≡ field_at bits at w → v ≡ field_at bits at (digits m)
number bits at w n m v e f g = g ∙ ap (field_at bits at) (e ∙ ap digits f)

pub overflow_cast-parts : goal.overflow_cast-parts
overflow_cast-parts c =
    let m : ℕ = c.args.m in
    let value = number (bits_of c.args.words.now) (c.args.at + 1) c.digits-width.result c.from.result m c.get-parts.result c.digits-width.ensures c.from.ensures c.get-parts.ensures in
    let below = field-below (bits_of c.args.words.now) (c.args.at + 1) (digits m) (bits-bits_of c.args.words.now) in
    let few : digits m ≤ 32 = digits-are-fewest m 32 (omega (arith, c.ranges.m.fits)) (omega (arith, c.ranges.m.fits)) in
    let top : 2 ^ digits m ≤ 2 ^ 32 = pow_mono {i = digits m} {j = 32} few in
    omega (arith, value, below, top)

pub returns-then-parts-lt2-clause-none : goal.returns-then-parts-lt2-clause-none
returns-then-parts-lt2-clause-none c = λ parts start h.
    let value = number (bits_of c.args.words.now) (c.args.at + 1) c.digits-width.result c.from.result c.args.m c.get-parts.result c.digits-width.ensures c.from.ensures c.get-parts.ensures in
    let read = head-read c.args.m (bits_of c.args.words.now) c.args.at c.args.end parts start h in
    omega (arith, h.some, read.parts_are, value, c.if-parts-lt2.true)

pub returns-in-Some-clause-none : goal.returns-in-Some-clause-none
returns-in-Some-clause-none c = λ parts start h.
    let first : IsFirstOne (bits_of c.args.words.now) (c.args.at + 1 + c.from-2.result) (64 * c.div_ceil-start.result) c.in-Some.field-0 = c.in-Some.ensures.first in
    let read = head-read c.args.m (bits_of c.args.words.now) c.args.at c.args.end parts start h in
    let start_is = word c.args.at c.digits-width.result c.from-2.result c.from.result c.div_ceil-start.result c.args.m c.digits-width.ensures c.from.ensures c.from-2.ensures c.div_ceil-start.ensures in
    let width : c.from-2.result ≡ digits c.args.m = c.from-2.ensures ∙ c.digits-width.ensures ∙ ap digits c.from.ensures in
    let zero = zero-in-range (bits_of c.args.words.now) (c.args.at + 1 + digits c.args.m) (64 * start) (padding (c.args.at + 1 + digits c.args.m)) c.in-Some.field-0 h.word h.zeros (omega (arith, first.at_or_after, width))
    (omega (arith, first.before_end, read.start_is, start_is)) in
    omega (arith, zero, first.one)

pub returns-in-None-clause-some : goal.returns-in-None-clause-some
returns-in-None-clause-some c =
    let start : ℕ = c.div_ceil-start.result in
    let start_is = word c.args.at c.digits-width.result c.from-2.result c.from.result start c.args.m c.digits-width.ensures c.from.ensures c.from-2.ensures c.div_ceil-start.ensures in
    let value = number (bits_of c.args.words.now) (c.args.at + 1) c.digits-width.result c.from.result c.args.m c.get-parts.result c.digits-width.ensures c.from.ensures c.get-parts.ensures in
    let width : c.from-2.result ≡ digits c.args.m = c.from-2.ensures ∙ c.digits-width.ensures ∙ ap digits c.from.ensures in
    let none : HasNoOne (bits_of c.args.words.now) (c.args.at + 1 + digits c.args.m) (64 * start) = subst (λ k. HasNoOne (bits_of c.args.words.now) (c.args.at + 1 + k) (64 * start)) width c.in-None.ensures.none in
    read-head c.args.m (bits_of c.args.words.now) c.args.at c.args.end c.get-parts.result start (bits-bits_of c.args.words.now) (omega (arith, c.requires.range, length-bits_of c.args.words.now)) start_is (omega (arith, c.if-end-start.false)) value
    (omega (arith, c.if-parts-lt2.false)) none
