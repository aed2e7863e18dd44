use Rattle.std.proofs.Common.{arith}
use Rattle.std.proofs.lemmas.Result.{err_from_is_err_and}
use Rattle.part_cost.specs.Formats.{numbers_of}
use Rattle.collection_reader.proofs.Frequencies.{length_refused, frequency_refused, frequency_zero, frequency_over}
use Rattle.collection_reader.proofs.sequences.read_frequencies.Goals as goal

pub returns-in_err-length : goal.returns-in_err-length
returns-in_err-length g c =
    let p = err_from_is_err_and c.from_residual.result c.from_residual.ensures.1 in
    rw (p.1, p.2) (length_refused (numbers_of c.args.format) c.args.expected.term c.args.expected.count c.args.held.now c.read_number.new.held c.args.freqs.now.items _ _ c.in_err-length.field-0.0 c.in_err-length.ensures)

pub returns-in_err-freq : goal.returns-in_err-freq
returns-in_err-freq g c =
    let p = err_from_is_err_and c.from_residual-in_err-freq.result c.from_residual-in_err-freq.ensures.1 in
    rw (p.1, p.2, ← c.if-length-count.false) (
    frequency_refused (numbers_of c.args.format) c.in_ok-length.length c.args.expected.term c.loop-place.place c.loop-place.sum c.args.held.now c.loop-place.held c.read_number-in-loop-place.new.held c.loop-place.freqs.items _ _ _ c.in_err-freq.field-0.0
    c.loop-place-test.true c.loop-place.invariant c.in_err-freq.ensures
    )

pub returns-then-freq-eq0 : goal.returns-then-freq-eq0
returns-then-freq-eq0 g c =
    rw (c.breaks-then-freq-eq0.ensures, ← c.if-length-count.false) (
    frequency_zero (numbers_of c.args.format) c.in_ok-length.length c.args.expected.term c.loop-place.place c.loop-place.sum c.in_ok-freq.freq c.args.held.now c.loop-place.held c.read_number-in-loop-place.new.held c.loop-place.freqs.items _ _ _
    c.loop-place-test.true c.loop-place.invariant c.in_ok-freq.ensures c.if-freq-eq0.true
    )

pub returns-then-sum-most_sum : goal.returns-then-sum-most_sum
returns-then-sum-most_sum g c =
    rw (c.breaks-then-sum-most_sum.ensures, ← c.if-length-count.false) (
    frequency_over (numbers_of c.args.format) c.in_ok-length.length c.args.expected.term c.loop-place.place c.loop-place.sum c.in_ok-freq.freq c.args.held.now c.loop-place.held c.read_number-in-loop-place.new.held c.loop-place.freqs.items _ _ _
    c.loop-place-test.true c.loop-place.invariant c.in_ok-freq.ensures (omega (arith, c.if-freq-eq0.false)) (omega (arith, c.if-sum-most_sum.true, c.most_sum.ensures, c.from-sum.ensures))
    )
